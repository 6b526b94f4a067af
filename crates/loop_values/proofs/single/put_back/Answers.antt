use Rattle.std.proofs.Common.{◌≡◌, length, length-append, take, ap, arith, sym, ◌<◌, ◌∙◌, ◌+◌, ◌-◌, ◌∷◌, []}
use Rattle.std.proofs.Math.ListN.{set, length-set}
use Rattle.m_ast.specs.declared.header.Index.{Index}
use Rattle.loop_values.specs.inner.Singles.{unbound}
use Rattle.loop_values.proofs.SingleLemmas.{unbound_less}
use Rattle.loop_values.proofs.single.put_back.Goals as goal

pub loop-left-preserved : goal.loop-left-preserved
loop-left-preserved c =
    let i = c.loop-left.left - 1 in
    let x = c.index-indexes-left.result in
    let v = c.in-Some.value in
    let letters = c.loop-left.letters in
    let indexes = c.args.indexes.now in
    let outer = c.pop.new.self.items in
    let within : i < length indexes = omega arith in
    let one : i + 1 ≡ c.loop-left.left = omega arith in
    let many : length outer ≡ i = omega (arith, ap length c.in-Some.ensures.items, length-append outer (v ∷ []), c.loop-left.invariant.as_many) in
    let put = c.put.ensures ∙ ap (λ (z : Index). set letters z.letter v) (sym c.index-indexes-left.is) in
    record {
      within = omega arith;
      wide = ap length put ∙ length-set letters x.letter v ∙ c.loop-left.invariant.wide;
      as_many = many;
      same =
          ap (unbound (take i indexes) outer) put
          ∙ sym (unbound_less indexes i x outer v letters within c.index-indexes-left.is many)
          ∙ (λ k. unbound (take (one k) indexes) (sym c.in-Some.ensures.items k) letters)
          ∙ c.loop-left.invariant.same;
    }
