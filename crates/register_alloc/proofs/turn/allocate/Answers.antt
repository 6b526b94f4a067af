use Rattle.register_alloc.proofs.AllocationLemmas.{valid-from}
use Rattle.register_alloc.proofs.turn.allocate.Goals as goal

pub allocated-requires-clause-valid : goal.allocated-requires-clause-valid
allocated-requires-clause-valid c =
    rw c.flat.ensures.program (valid-from c.args.tidy.now c.args.labels c.flat.ensures.valid c.flat.ensures.tidy c.requires)
