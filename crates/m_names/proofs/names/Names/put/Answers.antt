use Rattle.std.proofs.Common.{◌∙◌, ap, sym, not, Some}
use Rattle.m_names.specs.Names.{has, index_of}
use Rattle.m_names.proofs.KeyLemmas.{has-keys, index_of-known}
use Rattle.m_names.proofs.names.Names.put.Goals as goal

pub returns-clause-number : goal.returns-clause-number
returns-clause-number c h =
    let name = c.in_ok-key.ensures.items in
    let known = c.self.view_is in
    let there = index_of-known (λ k. k.items) c.in_ok-key.key.items c.self.inside.known.keys ((λ i. has (name i) (known i)) ∙ h) in
    (λ i. index_of (sym name i) (sym known i)) ∙ there ∙ ap Some (sym c.in_ok-entry.ensures.index)

pub returns-clause-fresh : goal.returns-clause-fresh
returns-clause-fresh c =
    c.in_ok-entry.ensures.added
    ∙ ap not (has-keys (λ k. k.items) c.in_ok-key.key.items c.self.inside.known.keys)
    ∙ ap not (λ i. has (c.in_ok-key.ensures.items i) (c.self.view_is i))
