use Rattle.std.proofs.Common.{◌≡◌, length, ap, ◌∙◌}
use Rattle.flat_code.proofs.RunLemmas.{length-node_values}
use Rattle.value_sheet.proofs.sheet.Sheet.stop.Goals as goal

pub stop_among-requires : goal.stop_among-requires
stop_among-requires c =
    let s = c.self.inside in
    let so_many : length c.deref.result.now ≡ length s.tidy.nodes = ap length (c.deref.ensures.value ∙ c.self.invariant.right)
    ∙ length-node_values s.last.value.items s.tidy.nodes in
    rw (so_many, c.checks_of.ensures) c.self.invariant.valid.checks
