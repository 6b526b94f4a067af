use Rattle.std.proofs.Common.{◌≡◌, ◌<◌, length, map, ap, sym, ◌∙◌, subst}
use Rattle.std.specs.List.{AllByRecursion}
use Rattle.m_facts.specs.Found.{node_of}
use Rattle.m_facts.proofs.FindLemmas.{nodes-low}
use Rattle.m_facts.proofs.find.reads_of.Goals as goal

pub dependences-requires-clause-wanted : goal.dependences-requires-clause-wanted
dependences-requires-clause-wanted c =
    let flat = c.args.flat.now in
    let is : c.deref.result.now ≡ map (node_of flat.outputs) c.args.outputs.now =
    c.deref.ensures.value ∙ c.in_ok-wanted.ensures ∙ ap (λ ps. map (node_of ps) c.args.outputs.now) c.as_slice.ensures in
    rw c.as_slice-2.ensures (subst (AllByRecursion (λ p. p < length flat.nodes)) (sym is)
    (nodes-low (length flat.nodes) flat.outputs c.args.outputs.now c.requires.flat.outputs c.requires.within))
