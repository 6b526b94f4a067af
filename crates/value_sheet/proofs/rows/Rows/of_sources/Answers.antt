use Rattle.std.proofs.Common.{◌≡◌, ◌+◌, ◌∷◌, [], ◌++◌, length, refl, ap, subst, ◌∙◌, arith}
use Rattle.value_sheet.specs.Edges.{sourced}
use Rattle.value_sheet.specs.inner.Table.{IsFilled}
use Rattle.value_sheet.proofs.TableLemmas.{so_far_few, filled_more, filled_all}
use Rattle.value_sheet.proofs.rows.Rows.of_sources.Goals as goal

pub overflow_cast-len : goal.overflow_cast-len
overflow_cast-len c =
    let p = c.loop-source.source in
    let new = sourced c.args.per p 0 c.args.sources.now in
    let more : IsFilled c.args.per c.args.sources.now (p + 1) (c.loop-source.offsets.items ++ length c.append_row.new.targets.items ∷ [])
    c.append_row.new.targets.items =
    filled_more c.args.per c.args.sources.now p c.loop-source.offsets.items c.loop-source.targets.items c.append_row.new.targets.items _ c.loop-source.invariant
    c.in_ok-append_row.ensures refl in
    omega (arith, more.total, so_far_few c.args.per 0 c.args.sources.now (p + 1), c.len-in-loop-source.ensures, c.append_row.new.targets.ok.0, c.requires.few)

pub loop-source-preserved : goal.loop-source-preserved
loop-source-preserved c =
    let size : c.len-in-loop-source.result ≡ length c.append_row.new.targets.items = omega
    (arith, c.len-in-loop-source.ensures, c.append_row.new.targets.ok.0) in
    filled_more c.args.per c.args.sources.now c.loop-source.source c.loop-source.offsets.items c.loop-source.targets.items c.append_row.new.targets.items
    c.push-in-loop-source.new.self.items
    c.loop-source.invariant c.in_ok-append_row.ensures (c.in_ok-push-2.ensures.items ∙ ap (λ n. c.loop-source.offsets.items ++ n ∷ []) size)

pub returns : goal.returns
returns c =
    let all : c.loop-source.source ≡ c.args.count = omega (arith, c.loop-source-test.false, c.loop-source.auto.source-end) in
    rw c.shrink_to_fit.ensures.items
    (filled_all c.args.per c.args.sources.now c.args.count c.loop-source.offsets.items c.loop-source.targets.items
    (subst (λ n. IsFilled c.args.per c.args.sources.now n c.loop-source.offsets.items c.loop-source.targets.items) all c.loop-source.invariant))
