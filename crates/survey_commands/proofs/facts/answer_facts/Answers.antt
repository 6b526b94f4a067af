use Rattle.std.proofs.Common.{List, length, sym, ap, ◌∙◌, subst}
use Rattle.m_names.specs.Names.{AreDistinct}
use Rattle.observables.specs.Inputs.{codes_of}
use Rattle.observables.specs.declared.inputs.Coded.{Coded}
use Rattle.flat_code.specs.declared.program.Flat.{Flat}
use Rattle.survey_commands.proofs.FactsLemmas.{found_answered, ranges_refused}
use Rattle.survey_commands.proofs.facts.answer_facts.Goals as goal

pub given_facts-requires-clause-distinct : goal.given_facts-requires-clause-distinct
given_facts-requires-clause-distinct g c = subst (λ (inputs : List Coded). AreDistinct (codes_of inputs)) (sym c.as_slice-inputs.ensures)
    c.requires.runnable.distinct

pub given_facts-requires-clause-count : goal.given_facts-requires-clause-count
given_facts-requires-clause-count g c =
    ap (λ (f : Flat). f.inputs) c.flat.ensures.program ∙ sym c.requires.runnable.shown.inputs ∙ ap length (sym c.as_slice-inputs.ensures)

pub returns-in-Ok : goal.returns-in-Ok
returns-in-Ok g c =
    found_answered c.args.base.now c.args.program.now c.args.ranges.now c.in-Ok.given _ _ _ (rw c.as_slice-inputs.ensures at c.in-Ok.ensures)
    (rw c.as_slice.ensures at c.print_found-status.ensures)

pub returns-in-Err : goal.returns-in-Err
returns-in-Err g c =
    ranges_refused c.args.base.now c.args.program.now c.args.ranges.now c.in-Err.fault _ _ _ (rw c.as_slice-inputs.ensures at c.in-Err.ensures)
    (rw c.records_entry.ensures at c.report_refusal.ensures)
