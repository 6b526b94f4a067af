use Rattle.std.proofs.Common.{◌≡◌, ◌+◌, ◌<◌, ◌≤◌, [], length, refl, rules, arith, sym, ◌∙◌, ap, subst}
use Rattle.flat_code.specs.Entries.{node_at}
use Rattle.flat_code.specs.inner.Renumber.{renamed}
use Rattle.flat_code.proofs.ReadLemmas.{are-valid}
use Rattle.dead_rules.specs.inner.Steps.{ReadsBelow, look, is_live}
use Rattle.dead_rules.proofs.MarkLemmas.{reads-below, node-read}
use Rattle.dead_rules.proofs.KeptLemmas.{IsGathered, gathered-start, gathered-step}
use Rattle.dead_rules.proofs.compact.gathered.Goals as goal

pub loop-i-init : goal.loop-i-init
loop-i-init c =
    let none : c.new-numbers.result.items ≡ [] = search rules in
    subst (IsGathered c.args.nodes.now c.args.nodes.now (is_live c.args.live.now) 0 0) (sym none) (gathered-start c.args.nodes.now (is_live c.args.live.now))

pub renamed-node-requires : goal.renamed-node-requires
renamed-node-requires c =
    let old = c.args.nodes.now in
    let now = c.loop-i.nodes in
    let i = c.loop-i.i in
    let below : i < length c.args.live.now = search rules in
    let many : length c.args.live.now ≡ length old = c.requires.size in
    let same : length now ≡ length old = c.loop-i.invariant.size in
    let lt : i < length old = omega arith in
    let here : i < length now = omega arith in
    let le : i ≤ i = omega arith in
    let size : length c.deref.result.now ≡ i = ap length c.deref.ensures.value ∙ c.loop-i.invariant.done.size in
    let node = node-read now now i c.index-nodes-i.result refl here c.index-nodes-i.is ∙ c.loop-i.invariant.rest i le in
    subst (λ k. ReadsBelow k c.index-nodes-i.result) (sym size)
    (subst (ReadsBelow i) (sym node) (reads-below c.args.inputs i (node_at old i) (are-valid c.args.inputs old c.requires.valid i lt)))

pub loop-i-preserved : goal.loop-i-preserved
loop-i-preserved c =
    let old = c.args.nodes.now in
    let now = c.loop-i.nodes in
    let i = c.loop-i.i in
    let numbers = c.loop-i.numbers.items in
    let below : i < length c.args.live.now = search rules in
    let many : length c.args.live.now ≡ length old = c.requires.size in
    let same : length now ≡ length old = c.loop-i.invariant.size in
    let lt : i < length old = omega arith in
    let here : i < length now = omega arith in
    let le : i ≤ i = omega arith in
    let read = node-read now now i c.index-nodes-i.result refl here c.index-nodes-i.is ∙ c.loop-i.invariant.rest i le in
    let node : c.renamed-node.result ≡ renamed (look numbers) (node_at old i) = c.renamed-node.ensures
    ∙ ap (λ xs. renamed (look xs) c.index-nodes-i.result) c.deref.ensures.value ∙ ap (renamed (look numbers)) read in
    subst (IsGathered old c.put-more.new.nodes (is_live c.args.live.now) (i + 1) c.put-more.result) (sym c.in_ok-push.ensures.items)
    (gathered-step old now c.put-more.new.nodes (is_live c.args.live.now) i c.loop-i.kept c.put-more.result numbers c.renamed-node.result
    (is_live c.args.live.now i)
    (reads-below c.args.inputs i (node_at old i) (are-valid c.args.inputs old c.requires.valid i lt)) lt c.loop-i.invariant refl node c.put-more.ensures.nodes
    c.put-more.ensures.kept)
