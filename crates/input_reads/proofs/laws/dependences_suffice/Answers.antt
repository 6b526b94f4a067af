use Rattle.input_reads.specs.Reads.{may_depend}
use Rattle.input_reads.proofs.DependLemmas.{by-test, depends-within}
use Rattle.input_reads.proofs.ListLemmas.{number-has}
use Rattle.input_reads.proofs.ValueLemmas.{agree}
use Rattle.input_reads.proofs.laws.dependences_suffice.Goals as goal

pub returns : goal.returns
returns c known nodes inputs p before now valid held kept lt same =
    agree known nodes inputs p before now valid held kept lt
    (λ n d. same n (number-has (may_depend known nodes p) inputs n (depends-within known nodes inputs n p valid d) (by-test known nodes inputs n p valid d)))
