use Rattle.std.proofs.Common.{◌≡◌, length, subst, sym, arith}
use Rattle.std.proofs.lemmas.List.{get_or_read}
use Rattle.m_fixed.specs.declared.amount.Value.TheVariants.{Undef}
use Rattle.flat_code.specs.declared.program.Node.TheVariants.{Lit}
use Rattle.flat_code.specs.Runs.{IsNode}
use Rattle.flat_code.specs.Entries.{node_at}
use Rattle.flat_code.proofs.ReadLemmas.{are-valid}
use Rattle.input_reads.proofs.DependLemmas.{node-within}
use Rattle.input_reads.proofs.spread.add_from.Goals as goal

pub add_node-requires-clause-node : goal.add_node-requires-clause-node
add_node-requires-clause-node c =
    let nodes = c.args.nodes.now in
    let p = c.args.p in
    let inputs = length c.args.found.now in
    let node : c.index-nodes-p.result ≡ node_at nodes p = get_or_read nodes p c.index-nodes-p.result c.requires.within c.index-nodes-p.is (Lit Undef) in
    subst (IsNode inputs (length c.args.masks.now)) (sym node)
    (node-within inputs p (length c.args.masks.now) (node_at nodes p) (omega (arith, c.requires.within, c.requires.masks))
    (are-valid inputs nodes c.requires.nodes p c.requires.within))
