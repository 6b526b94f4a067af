use Rattle.std.proofs.Common.{◌≡◌, ◌<◌, length, map, refl, sym, ◌∙◌, ap, subst}
use Rattle.std.specs.List.{AllByRecursion}
use Rattle.flat_code.specs.Runs.{AreNodes, IsCheck}
use Rattle.flat_code.specs.Passes.{Becomes}
use Rattle.flat_code.specs.inner.Renumber.{moved}
use Rattle.dead_rules.specs.inner.Firsts.{IsPruned}
use Rattle.dead_rules.specs.inner.Steps.{look, is_live, Kept, with_nodes}
use Rattle.dead_rules.proofs.MoveLemmas.{same-flat, flat-of}
use Rattle.dead_rules.proofs.KeptLemmas.{becomes-kept, pruned-kept}
use Rattle.dead_rules.proofs.whole.removed.Goals as goal

pub compacted-requires-clause-valid : goal.compacted-requires-clause-valid
compacted-requires-clause-valid c = subst (AreNodes c.args.flat.inputs 0) (sym c.into_vec.ensures) c.requires.valid.nodes

pub compacted-requires-clause-size : goal.compacted-requires-clause-size
compacted-requires-clause-size c = ap length c.deref.ensures.value ∙ c.in_ok-live.ensures.size ∙ ap length (sym c.into_vec.ensures)

pub moved_checks-requires : goal.moved_checks-requires
moved_checks-requires c =
    let size : length c.deref-2.result.now ≡ length c.args.flat.nodes = ap length c.deref-2.ensures.value ∙ c.in_ok-kept.ensures.size
    ∙ ap length c.into_vec.ensures in
    subst (AllByRecursion (IsCheck (length c.deref-2.result.now))) (sym c.as_slice.ensures)
    (subst (λ n. AllByRecursion (IsCheck n) c.args.flat.checks) (sym size) c.requires.valid.checks)

pub moved_outputs-requires : goal.moved_outputs-requires
moved_outputs-requires c =
    let size : length c.deref-3.result.now ≡ length c.args.flat.nodes = ap length c.deref-3.ensures.value ∙ c.in_ok-kept.ensures.size
    ∙ ap length c.into_vec.ensures in
    subst (AllByRecursion (λ output. output < length c.deref-3.result.now)) (sym c.as_slice-2.ensures)
    (subst (λ n. AllByRecursion (λ output. output < n) c.args.flat.outputs) (sym size) c.requires.valid.outputs)

pub returns-clause-becomes : goal.returns-clause-becomes
returns-clause-becomes c =
    let flat = c.args.flat in
    let live = c.in_ok-live.live.items in
    let new = c.in_ok-kept.kept.nodes.items in
    let numbers = c.in_ok-kept.kept.numbers.items in
    let m = look numbers in
    let kept : Kept flat.nodes (is_live live) (length flat.nodes) new numbers =
    subst (λ ns. Kept ns (is_live live) (length ns) new numbers) c.into_vec.ensures
    (subst (λ xs. Kept c.into_vec.result.items (is_live xs) (length c.into_vec.result.items) new numbers) c.deref.ensures.value c.in_ok-kept.ensures) in
    let is : flat-of flat.inputs c.from_vec.result c.from_vec-2.result c.from_vec-3.result ≡ with_nodes flat new m =
    same-flat flat.inputs flat.inputs c.from_vec.result new c.from_vec-2.result (map (moved m) flat.checks) c.from_vec-3.result (map m flat.outputs) refl
    (c.from_vec.ensures ∙ c.shrink_to_fit.ensures.items)
    (c.from_vec-2.ensures ∙ c.in_ok-checks.ensures ∙ ap (map (moved (look c.deref-2.result.now))) c.as_slice.ensures
    ∙ ap (λ xs. map (moved (look xs)) flat.checks) c.deref-2.ensures.value)
    (c.from_vec-3.ensures ∙ c.in_ok-outputs.ensures ∙ ap (map (look c.deref-3.result.now)) c.as_slice-2.ensures
    ∙ ap (λ xs. map (look xs) flat.outputs) c.deref-3.ensures.value) in
    subst (Becomes flat) (sym is) (becomes-kept flat (is_live live) new numbers c.requires.valid c.in_ok-live.ensures.live kept)

pub returns-clause-pruned : goal.returns-clause-pruned
returns-clause-pruned c =
    let flat = c.args.flat in
    let live = c.in_ok-live.live.items in
    let new = c.in_ok-kept.kept.nodes.items in
    let numbers = c.in_ok-kept.kept.numbers.items in
    let m = look numbers in
    let kept : Kept flat.nodes (is_live live) (length flat.nodes) new numbers =
    subst (λ ns. Kept ns (is_live live) (length ns) new numbers) c.into_vec.ensures
    (subst (λ xs. Kept c.into_vec.result.items (is_live xs) (length c.into_vec.result.items) new numbers) c.deref.ensures.value c.in_ok-kept.ensures) in
    let is : flat-of flat.inputs c.from_vec.result c.from_vec-2.result c.from_vec-3.result ≡ with_nodes flat new m =
    same-flat flat.inputs flat.inputs c.from_vec.result new c.from_vec-2.result (map (moved m) flat.checks) c.from_vec-3.result (map m flat.outputs) refl
    (c.from_vec.ensures ∙ c.shrink_to_fit.ensures.items)
    (c.from_vec-2.ensures ∙ c.in_ok-checks.ensures ∙ ap (map (moved (look c.deref-2.result.now))) c.as_slice.ensures
    ∙ ap (λ xs. map (moved (look xs)) flat.checks) c.deref-2.ensures.value)
    (c.from_vec-3.ensures ∙ c.in_ok-outputs.ensures ∙ ap (map (look c.deref-3.result.now)) c.as_slice-2.ensures
    ∙ ap (λ xs. map (look xs) flat.outputs) c.deref-3.ensures.value) in
    subst IsPruned (sym is) (pruned-kept flat (is_live live) new numbers c.requires.valid c.requires.folded c.in_ok-live.ensures.live kept)
