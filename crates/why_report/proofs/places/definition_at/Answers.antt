use Rattle.std.proofs.Common.{Some, get_or, ap, sym, ◌∙◌}
use Rattle.micro_m.specs.Bases.{Definition}
use Rattle.why_report.proofs.PlaceLemmas.{place-term}
use Rattle.why_report.proofs.places.definition_at.Goals as goal

pub returns : goal.returns
returns c =
    let n = get_or c.args.places.now c.args.cell 0 in
    ap (λ (x : Definition). Some x.1) (sym c.index-as_slice-place.is)
    ∙ (place-term c.args.base.now c.as_slice.result.now c.args.cell n c.index-as_slice-place.result (c.requires.places.each c.args.cell c.requires.cell)
    c.if-place-eq0.false c.as_slice.ensures c.index-as_slice-place.is).1
