use Rattle.std.specs.List.{range_with_len}
use Rattle.input_reads.specs.Reads.{may_depend}
use Rattle.input_reads.proofs.DependLemmas.{by-steps, by-test, depends-within}
use Rattle.input_reads.proofs.ListLemmas.{number-has, number-passes}
use Rattle.input_reads.proofs.laws.dependences_are_steps.Goals as goal

pub returns-clause-steps : goal.returns-clause-steps
returns-clause-steps c known nodes inputs p n valid h =
    by-steps known nodes inputs p n valid (number-passes (may_depend known nodes p) (range_with_len 0 inputs) n h)

pub returns-clause-all : goal.returns-clause-all
returns-clause-all c known nodes inputs p n valid d =
    number-has (may_depend known nodes p) inputs n (depends-within known nodes inputs n p valid d) (by-test known nodes inputs n p valid d)
