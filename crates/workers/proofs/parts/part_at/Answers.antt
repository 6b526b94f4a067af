use Rattle.std.proofs.Common.{sym, subst, ap, ◌∙◌, ◌*◌, take}
use Rattle.std.proofs.lemmas.List.{take_min}
use Rattle.workers.specs.Parts.{IsPart}
use Rattle.workers.proofs.PartLemmas.{is_part}
use Rattle.workers.proofs.parts.part_at.Goals as goal

pub returns : goal.returns
returns g c =
    let items = c.args.items.now in
    let size = c.args.size in
    let rest = c.split_at.result.1.now in
    let is = c.split_at-2.ensures.front ∙ (ap (λ k. take k rest) c.min.ensures ∙ (take_min size rest ∙ ap (take size) c.split_at.ensures.back)) in
    subst (IsPart items size (c.args.n * size)) (sym is) (is_part items size (c.args.n * size) c.requires.size c.requires.inside)
