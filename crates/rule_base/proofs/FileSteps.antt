-- The error of a step, as the error of a file.
use Rattle.std.proofs.Common.{◌≡◌, ◌≢◌, ◌∙◌, ℕ, List, Result, Ok, Err, refl, sym, subst}
use Rattle.std.specs.Prelude.{IsErrAnd}
use Rattle.m_places.specs.Refusals.{Outcome}
use Rattle.m_places.specs.declared.source.Text.{Text}
use Rattle.m_lexer.specs.declared.token.Token.{Token}
use Rattle.m_lexer.specs.declared.fault.LexFault.{LexFault}
use Rattle.m_lexer.specs.declared.fault.LexFault.TheVariants as lex
use Rattle.m_lexer.specs.Tokens.{start_of, Lexes, FirstFault}
use Rattle.m_items.specs.declared.fault.ParseFault.{ParseFault}
use Rattle.m_items.specs.declared.fault.ParseFault.TheVariants as parse
use Rattle.m_items.specs.Faults.{IsParseFault}
use Rattle.rule_base.specs.declared.read_fault.ReadFault.TheVariants.{Memory}
use Rattle.rule_base.specs.Files.{IsFileFault, of_tokens, of_items}
use Rattle.rule_base.specs.inner.FileSteps.{lex_step, parse_step}

-- the error is this one
pub reported : {T E : Type 0} (memory : E) (good : T → Type 0) (bad : E → Type 0) (result : Result T E) (fault : E) → IsErrAnd result (λ x. x ≡ fault)
    → (fault ≢ memory → bad fault)
    → Outcome memory result good bad
reported memory good bad (Ok value) fault h k = absurd h
reported memory good bad (Err other) fault h k = λ n. subst bad (sym h) (k (λ e. n (h ∙ e)))

pub lex_reported : (number : ℕ) (text : Text) (fault : LexFault) → (fault ≢ lex.Memory → FirstFault (start_of number) text.bytes fault)
    → lex_step fault ≢ Memory → IsFileFault number text (lex_step fault)
lex_reported number text lex.Memory h k = absurd (k refl)
lex_reported number text (lex.BadByte p) h k = of_tokens (h (λ e. cc))
lex_reported number text (lex.OpenString p) h k = of_tokens (h (λ e. cc))
lex_reported number text (lex.NumberTooGreat p) h k = of_tokens (h (λ e. cc))

pub parse_reported : (number : ℕ) (text : Text) (tokens : List Token) (fault : ParseFault) → Lexes (start_of number) text.bytes tokens
    → (fault ≢ parse.Memory → IsParseFault tokens fault)
    → parse_step fault ≢ Memory → IsFileFault number text (parse_step fault)
parse_reported number text tokens parse.Memory l h k = absurd (k refl)
parse_reported number text tokens (parse.TooDeep p) l h k = of_items tokens l (h (λ e. cc))
parse_reported number text tokens (parse.Syntax p) l h k = of_items tokens l (h (λ e. cc))
