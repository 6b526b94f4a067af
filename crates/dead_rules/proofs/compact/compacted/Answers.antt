use Rattle.std.proofs.Common.{◌≡◌, ◌++◌, length, take, drop, take_at, sym, ◌∙◌, ap, subst}
use Rattle.dead_rules.specs.inner.Steps.{is_live, Kept}
use Rattle.dead_rules.proofs.compact.compacted.Goals as goal

pub returns : goal.returns
returns c =
    let old = c.args.nodes in
    let new = c.gathered.new.nodes in
    let kept = is_live c.args.live.now in
    let k = c.in_ok-done.done.kept in
    let numbers = c.in_ok-done.done.numbers.items in
    let all = take old.len (new ++ drop (length new) old.items) in
    let whole : all ≡ new = take_at new _ old.len (c.in_ok-done.ensures.size ∙ c.deref_mut.ensures.len) in
    subst (λ xs. Kept old.items kept (length old.items) xs numbers) (sym (c.truncate.ensures.items ∙ ap (take k) whole))
    (subst (λ n. Kept old.items kept n (take k new) numbers) c.requires.size
    (subst (λ xs. Kept xs kept (length c.args.live.now) (take k new) numbers) c.deref_mut.ensures.value c.in_ok-done.ensures.kept))
