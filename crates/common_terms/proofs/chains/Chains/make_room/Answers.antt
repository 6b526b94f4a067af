use Rattle.std.proofs.Common.{◌≡◌, ◌≤◌, ◌++◌, length, take, drop, take_at, arith, ap, sym, ◌∙◌, subst}
use Rattle.common_terms.specs.inner.Chains.{link_at, AreChained, IsTable}
use Rattle.common_terms.proofs.ChainLemmas.{table-again}
use Rattle.common_terms.proofs.chains.Chains.make_room.Goals as goal

pub returns-clause-table : goal.returns-clause-table
returns-clause-table c =
    let self = c.args.self.now in
    let made = c.in_ok-heads.heads in
    let new = c.chain_all.new.links in
    let new' = c.chain_all.new.heads in
    let e : c.len-count.result ≡ length self.nodes.items = c.len-count.ensures ∙ self.nodes.ok.0 in
    let links = take self.links.len (new ++ drop (length new) self.links.items) in
    let heads = take made.len (new' ++ drop (length new') made.items) in
    let long : length new' ≡ made.len = c.chain_all.ensures.heads ∙ c.deref_mut-2.ensures.len in
    let whole : links ≡ new = take_at new _ self.links.len (c.chain_all.ensures.links ∙ c.deref_mut.ensures.len) in
    let whole' : heads ≡ new' = take_at new' _ made.len long in
    let room : length self.nodes.items ≤ length new' = omega (arith, c.in_ok-heads.ensures.len) in
    let t = table-again self.key self.nodes.items self.links.items new self.heads.items new'
    (c.chain_all.ensures.links ∙ ap length c.deref_mut.ensures.value) room
    (λ j. c.chain_all.ensures.hashes j ∙ ap (λ xs. (link_at xs j).hash) c.deref_mut.ensures.value)
    (subst (AreChained new new') e c.chain_all.ensures.chained) c.requires.table in
    subst (IsTable self.key self.nodes.items links) (sym whole')
    (subst (λ ls. IsTable self.key self.nodes.items ls new') (sym whole) t)
