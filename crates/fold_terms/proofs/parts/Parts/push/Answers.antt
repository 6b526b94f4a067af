use Rattle.std.proofs.Common.{◌≡◌, ◌<◌, length, Some, sym, ◌∙◌, ap, subst}
use Rattle.definedness.specs.Facts.{one_value}
use Rattle.flat_code.specs.declared.program.Node.TheVariants.{Lit}
use Rattle.flat_code.specs.Runs.{entry_of, entries_of, IsNode}
use Rattle.flat_code.specs.Entries.{node_at}
use Rattle.flat_code.specs.Facts.{facts}
use Rattle.flat_code.specs.Tidy.{IsNormal}
use Rattle.fold_terms.specs.Drafts.{Denotes}
use Rattle.fold_terms.specs.inner.Built.{normalised}
use Rattle.fold_terms.proofs.StandLemmas.{ok-both, denoted-literal, denoted-normal, denoted-node, normal-node, normal-is}
use Rattle.fold_terms.proofs.parts.Parts.push.Goals as goal

pub simple-requires-clause-node : goal.simple-requires-clause-node
simple-requires-clause-node c =
    let p = length c.args.self.now.nodes in
    subst (IsNode c.args.self.now.inputs p) (sym c.normalised-node.ensures) (normal-node c.args.self.now.inputs p c.args.node c.requires.node)

pub enter-requires-2-clause-node : goal.enter-requires-2-clause-node
enter-requires-2-clause-node c =
    let p = length c.args.self.now.nodes in
    subst (IsNode c.args.self.now.inputs p) (sym c.normalised-node.ensures) (normal-node c.args.self.now.inputs p c.args.node c.requires.node)

pub enter-requires-2-clause-normal : goal.enter-requires-2-clause-normal
enter-requires-2-clause-normal c = subst IsNormal (sym c.normalised-node.ensures) (normal-is c.args.node)

pub returns-in-Some-clause-denoted : goal.returns-in-Some-clause-denoted
returns-in-Some-clause-denoted c =
    let count = c.args.self.now.inputs in
    let nodes = c.args.self.now.nodes in
    let node = c.normalised-node.result in
    let new = c.enter.new.self.nodes in
    let early : IsNode count (length nodes) node = subst (IsNode count (length nodes)) (sym c.normalised-node.ensures)
    (normal-node count (length nodes) c.args.node c.requires.node) in
    let one : one_value (entry_of facts (entries_of facts nodes) node) ≡ Some c.in-Some.value = ap one_value (sym c.fact_of_node-fact.ensures.is)
    ∙ sym c.value_alone.ensures ∙ c.in-Some.is in
    ok-both c.enter.result (λ k. k < length new) (λ k. node_at new k ≡ Lit c.in-Some.value) (Denotes new c.args.node)
    (λ k lt is. denoted-normal new c.args.node k (subst (λ node. Denotes new node k) c.normalised-node.ensures
    (denoted-literal count nodes new node c.in-Some.value k c.requires.built.valid c.enter.ensures.built.valid c.enter.ensures.grows early one lt is)))
    c.enter.ensures.within c.enter.ensures.node

pub returns-clause-denoted : goal.returns-clause-denoted
returns-clause-denoted c =
    let new = c.enter-2.new.self.nodes in
    let node = c.normalised-node.result in
    ok-both c.enter-2.result (λ k. k < length new) (λ k. node_at new k ≡ node) (Denotes new c.args.node)
    (λ k lt is. denoted-normal new c.args.node k (denoted-node c.args.self.now.inputs new (normalised c.args.node) k c.enter-2.ensures.built.valid lt (is
    ∙ c.normalised-node.ensures)))
    c.enter-2.ensures.within c.enter-2.ensures.node

pub returns-in-Some-simple-clause-denoted : goal.returns-in-Some-simple-clause-denoted
returns-in-Some-simple-clause-denoted c =
    denoted-normal c.args.self.now.nodes c.args.node c.in-Some-simple.number (subst (λ node. Denotes c.args.self.now.nodes node c.in-Some-simple.number)
    c.normalised-node.ensures c.in-Some-simple.ensures.some)
