use Rattle.std.proofs.Common.{◌≡◌, ◌+◌, ◌<◌, [], ◌∷◌, ◌++◌, length, refl, rules, sym, ◌∙◌, ap, subst}
use Rattle.flat_code.specs.Runs.{IsNode}
use Rattle.flat_code.specs.Entries.{node_at}
use Rattle.flat_code.specs.inner.Renumber.{renamed}
use Rattle.flat_code.proofs.ReadLemmas.{are-valid}
use Rattle.fold_terms.specs.Drafts.{Denotes}
use Rattle.dead_rules.specs.inner.Steps.{ReadsBelow, look, IsCarried}
use Rattle.dead_rules.proofs.MarkLemmas.{reads-below, node-read}
use Rattle.dead_rules.proofs.MoveLemmas.{renamed-node, carried-step, grows-inputs}
use Rattle.dead_rules.proofs.fold.push_all.Goals as goal

pub renamed-node-requires : goal.renamed-node-requires
renamed-node-requires c =
    let nodes = c.args.nodes.now in
    let i = c.loop-i.i in
    let lt : i < length nodes = search rules in
    let size : length c.deref.result.now ≡ i = ap length c.deref.ensures.value ∙ c.loop-i.invariant.carried.size in
    let node = node-read nodes nodes i c.index-nodes-i.result refl lt c.index-nodes-i.is in
    subst (λ k. ReadsBelow k c.index-nodes-i.result) (sym size)
    (subst (ReadsBelow i) (sym node) (reads-below c.args.inputs i (node_at nodes i) (are-valid c.args.inputs nodes c.requires.valid i lt)))

pub push-requires-clause-node : goal.push-requires-clause-node
push-requires-clause-node c =
    let nodes = c.args.nodes.now in
    let i = c.loop-i.i in
    let numbers = c.loop-i.numbers.items in
    let count = length c.loop-i.builder.nodes in
    let lt : i < length nodes = search rules in
    let read = node-read nodes nodes i c.index-nodes-i.result refl lt c.index-nodes-i.is in
    let node : c.renamed-node.result ≡ renamed (look numbers) (node_at nodes i) = c.renamed-node.ensures
    ∙ ap (λ xs. renamed (look xs) c.index-nodes-i.result) c.deref.ensures.value ∙ ap (renamed (look numbers)) read in
    subst (λ n. IsNode n count c.renamed-node.result) (sym c.loop-i.invariant.inputs)
    (subst (IsNode c.args.inputs count) (sym node)
    (renamed-node (look numbers) c.args.inputs i count (node_at nodes i) (are-valid c.args.inputs nodes c.requires.valid i lt)
    c.loop-i.invariant.carried.within))

pub loop-i-preserved : goal.loop-i-preserved
loop-i-preserved c =
    let nodes = c.args.nodes.now in
    let i = c.loop-i.i in
    let numbers = c.loop-i.numbers.items in
    let old = c.loop-i.builder in
    let new = c.push.new.self in
    let number = c.in_ok-number.number in
    let lt : i < length nodes = search rules in
    let read = node-read nodes nodes i c.index-nodes-i.result refl lt c.index-nodes-i.is in
    let node : c.renamed-node.result ≡ renamed (look numbers) (node_at nodes i) = c.renamed-node.ensures
    ∙ ap (λ xs. renamed (look xs) c.index-nodes-i.result) c.deref.ensures.value ∙ ap (renamed (look numbers)) read in
    let pushed : c.push-in-loop-i.new.self.items ≡ numbers ++ number ∷ [] = c.in_ok-push.ensures.items in
    record {
      carried = subst (IsCarried nodes (i + 1) new.nodes) (sym pushed)
          (carried-step c.args.inputs nodes i old new numbers number (are-valid c.args.inputs nodes c.requires.valid) lt c.loop-i.invariant.carried
          c.in_ok-number.ensures.grows
          (subst (λ n. Denotes new.nodes n number) node c.in_ok-number.ensures.denoted));
      inputs = grows-inputs old new c.in_ok-number.ensures.grows ∙ c.loop-i.invariant.inputs;
    }
