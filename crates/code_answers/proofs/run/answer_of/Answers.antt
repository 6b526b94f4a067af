use Rattle.std.proofs.Common.{◌<◌, subst}
use Rattle.std.specs.List.{AllByRecursion}
use Rattle.household.specs.Household.{inputs_of}
use Rattle.code_answers.proofs.Shown.{many_inputs}
use Rattle.code_answers.proofs.run.answer_of.Goals as goal

pub run_household-requires : goal.run_household-requires
run_household-requires c =
    subst (λ n. AllByRecursion (λ input. input < n) (inputs_of c.in_ok-given.given.pairs)) (many_inputs c.args.loaded.now) c.in_ok-given.ensures.inputs.known

pub returns : goal.returns
returns c = record {
  pairs = c.in_ok-given.given.pairs;
  given = c.in_ok-given.ensures.outcome;
  ran = c.in_ok-run_household.ensures;
}
