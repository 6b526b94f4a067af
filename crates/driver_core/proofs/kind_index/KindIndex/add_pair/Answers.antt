use Rattle.std.proofs.Common.{◌++◌, ◌∷◌, [], cond, ap, ◌∙◌}
use mathlib.Core.Bool.{◌||◌}
use Rattle.std.specs.Str.{bytes_eq}
use Rattle.m_names.specs.Names.{has}
use Rattle.m_names.proofs.NameLemmas.{has-append}
use Rattle.driver_core.proofs.Adding.{or-nothing}
use Rattle.driver_core.proofs.kind_index.KindIndex.add_pair.Goals as goal

pub returns-clause-seen : goal.returns-clause-seen
returns-clause-seen c =
    let x = c.args.attribute.now in
    let seen = c.args.seen.now in
    λ a. ap (has a) (c.in_ok-add.ensures.added ∙ ap (λ b. cond b (seen ++ x ∷ []) seen) c.if-not-branch.false)
    ∙ has-append a seen (x ∷ [])
    ∙ ap (λ b. has a seen || b) (or-nothing (bytes_eq a x))
