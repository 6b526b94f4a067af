use Rattle.std.proofs.Common.{length, length-append, drop, take, ap, ◌∙◌, ◌+◌, ◌++◌, ◌∷◌, []}
use Rattle.std.proofs.Math.ListN.{set, length-set}
use Rattle.loop_values.specs.Headers.{instances}
use Rattle.loop_values.specs.inner.Singles.{unbound}
use Rattle.loop_values.proofs.SingleLemmas.{bound_next, unbound_next}
use Rattle.loop_values.proofs.single.bind_singles.Goals as goal

pub loop-index-preserved : goal.loop-index-preserved
loop-index-preserved c =
    let i = c.loop-index.index-index in
    let x = c.index-item.result in
    let letters = c.loop-index.letters in
    let indexes = c.args.indexes.now in
    record {
      wide = length-set letters x.letter c.replace.new.dest ∙ c.loop-index.invariant.wide;
      front = λ rest.
          ap (λ v. instances (drop (i + 1) indexes ++ rest) (set letters x.letter v)) c.replace.ensures.after
          ∙ bound_next indexes rest i x c.in_ok-value.value letters _ c.loop-index-test.true c.index-item.is c.in_ok-value.ensures
          (c.loop-index.invariant.front rest);
      as_many = ap length c.in_ok-push.ensures.items ∙ length-append c.loop-index.outer.items (c.replace.result ∷ [])
          ∙ ap (λ n. n + 1) c.loop-index.invariant.as_many;
      inner =
          ap (λ outer. unbound (take (i + 1) indexes) outer (set letters x.letter c.replace.new.dest)) c.in_ok-push.ensures.items
          ∙ unbound_next indexes i x c.loop-index.outer.items c.replace.new.dest c.replace.result c.index-letters-index.result letters _ c.loop-index-test.true
          c.index-item.is c.loop-index.invariant.as_many
          c.replace.ensures.value c.loop-index.invariant.inner;
    }
