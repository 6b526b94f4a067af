-- When the lines of `facts` are true of a source: they hold for the observations of all households within the ranges.
use Rattle.std.specs.Prelude.{◌≡◌, ℕ, ◌+◌, List, Option, Ok, length}
use Rattle.std.specs.List.{AllByRecursion, AllZip}
use Rattle.m_places.specs.declared.source.Source.{Source}
use Rattle.definedness.specs.Facts.{Possible}
use Rattle.observables.specs.declared.face.Face.{Face}
use Rattle.observables.specs.Outputs.{names_of, notes_of}
use Rattle.m_symbols.specs.Declarations.{Declared}
use Rattle.micro_m.specs.declared.base.Base.{Base}
use Rattle.m_facts.specs.Lines.{found_text, named_facts}
use Rattle.m_facts.specs.Truths.{ArePossible, DependsOn, IsSilent}
use Rattle.m_facts.specs.declared.found.FactsFound.{FactsFound}
use Rattle.m_compile.specs.Sources.{HasRules}
use Rattle.code_answers.specs.Schemes.{Scheme}
use Rattle.survey_commands.specs.Facts.{given_by}

-- The text has lines that are true of a source's observations. The ranges have no fault, and for all households within
-- them: each observed value is possible by the line of its cell; a verification whose line says that it never stops a
-- run stops none; and two households that agree on the inputs in a cell's line, and stop at nothing, have the same
-- value of that cell. The place of a value is the number of its output without the notes, which come first.
pub record AreTrueFacts (source : Source) (ranges : Option (List ℕ)) (scheme : Scheme) (text : List ℕ) : Type 0 where
  pub declared : Declared
  pub base : Base
  pub rules : HasRules source declared base
  pub given : List Possible
  pub stated : given_by scheme.inputs ranges ≡ Ok given
  pub face : Face
  pub found : FactsFound
  pub inputs : face.inputs ≡ scheme.inputs
  pub names : names_of face.outputs ≡ scheme.names
  pub lines : text ≡ found_text base face found
  pub possible : ArePossible scheme.inputs given scheme.observe (named_facts face.outputs found.possible)
  pub silent : AllByRecursion (IsSilent base scheme.inputs given scheme.observe) found.silent
  pub reads : AllZip (λ k ns. (place : ℕ) → k ≡ length (notes_of face.outputs) + place → DependsOn scheme.inputs given scheme.observe place ns) found.firsts
      found.reads
