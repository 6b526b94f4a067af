use Rattle.std.proofs.Common.{◌++◌, [], ap, ◌∙◌}
use Rattle.std.proofs.lemmas.List.{append-nil}
use Rattle.loop_values.specs.Headers.{instances}
use Rattle.loop_values.proofs.KeptLemmas.{kept_none}
use Rattle.loop_values.proofs.header.joined_indexes.Goals as goal

pub returns : goal.returns
returns c =
    let inner = c.args.inner.now in
    let outer = c.args.outer.now in
    let kept = c.in_ok-keep_all-2.ensures (inner ++ []) (c.in_ok-keep_all.ensures [] (kept_none c.new-kept.result.items c.new-kept.ensures.items)) in
    λ letters. kept.same letters ∙ ap (λ xs. instances (outer ++ xs) letters) (append-nil inner)
