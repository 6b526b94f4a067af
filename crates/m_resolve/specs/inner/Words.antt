-- The part of a label that an error item determines.
use Rattle.std.specs.Prelude.{ℕ, List, Option, Some, None, Result, Ok, Err}
use Rattle.m_places.specs.declared.verification.Label.{Label}
use Rattle.m_ast.specs.declared.item.ErrorItem.{ErrorItem}
use Rattle.m_ast.specs.declared.plain_rules.Condition.{Condition}
use Rattle.m_resolve.specs.declared.checks.ErrorWords.{ErrorWords}
use Rattle.m_resolve.specs.declared.fault.ResolveFault.{ResolveFault}
use Rattle.m_resolve.specs.declared.fault.ResolveFault.TheVariants.{UnknownError}
use Rattle.m_resolve.specs.Bases.{error_text}

-- the words of an error: for `A20:anomalie :"A":"20":"00":"revenu nul":"N"` they are A20, anomalie
-- and `A:20:00:revenu nul:N`
abbrev pub words_of : ErrorItem → ErrorWords
words_of e = record { name = e.name; kind = e.kind; text = error_text e.texts }

-- the label of a check of this verification whose error has these words
abbrev pub label_with : List ℕ → ErrorWords → Label
label_with verif words = record { verif = verif; error = words.name; kind = words.kind; text = words.text }

-- the label of a check whose error has these words, if it exists
abbrev pub resolved_with : Condition → Option ErrorWords → Result Label ResolveFault
resolved_with condition None = Err (UnknownError condition.error condition.place)
resolved_with condition (Some words) = Ok (label_with condition.verif words)
