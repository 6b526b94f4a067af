use Rattle.std.proofs.Common.{◌++◌, ◌∷◌, [], cond, not, inr, sym, ap, ◌∙◌}
use Rattle.m_names.proofs.NameLemmas.{index_of-none}
use Rattle.driver_core.proofs.kind_index.number_of.Goals as goal

pub returns : goal.returns
returns c =
    let x = c.args.attribute.now in
    let old = c.args.attributes.now in
    let new = index_of-none x old (sym c.in_default.ensures.number) in
    inr (new, c.len-number.ensures, c.in_ok-add.ensures.added ∙ ap (λ b. cond b (old ++ x ∷ []) old) (c.in_ok-add.ensures.fresh ∙ ap not new))
