use Rattle.std.proofs.Common.{◌≡◌, [], ◌∷◌, ◌++◌, length, take, drop, take_at, ap, sym, ◌∙◌, subst}
use Rattle.common_terms.specs.inner.Chains.{link_at, AreChained, IsTable}
use Rattle.common_terms.proofs.ChainLemmas.{cut-table, longer-table, table-added}
use Rattle.common_terms.proofs.chains.Chains.add.Goals as goal

pub returns-in_err-append-clause-table : goal.returns-in_err-append-clause-table
returns-in_err-append-clause-table c =
    let self = c.args.self.now in
    cut-table self.key self.nodes.items self.links.items c.append.new.list.items self.heads.items c.len-count.result
    (c.len-count.ensures ∙ self.nodes.ok.0) (c.in_err-append.ensures.err ∙ c.truncate.ensures.items) c.requires.table

pub returns-in_err-append-2-clause-table : goal.returns-in_err-append-2-clause-table
returns-in_err-append-2-clause-table c =
    let self = c.args.self.now in
    subst (λ nodes. IsTable self.key nodes c.append.new.list.items self.heads.items) (sym c.in_err-append-2.ensures.err)
    (longer-table self.key self.nodes.items self.links.items c.truncate.new.self.items c.append.new.list.items self.heads.items c.len-count.result c.args.hash
    (c.len-count.ensures ∙ self.nodes.ok.0) c.truncate.ensures.items c.in_ok-append.ensures.ok c.requires.table)

pub chain-requires-clause-chained : goal.chain-requires-clause-chained
chain-requires-clause-chained c =
    let self = c.args.self.now in
    let e : c.len-count.result ≡ length self.nodes.items = c.len-count.ensures ∙ self.nodes.ok.0 in
    let t = longer-table self.key self.nodes.items self.links.items c.truncate.new.self.items c.append.new.list.items self.heads.items c.len-count.result
    c.args.hash
    e c.truncate.ensures.items c.in_ok-append.ensures.ok c.requires.table in
    subst (AreChained c.deref_mut.result.now c.deref_mut-2.result.now) (sym e)
    (subst (λ links. AreChained links c.deref_mut-2.result.now (length self.nodes.items)) (sym c.deref_mut.ensures.value)
    (subst (λ heads. AreChained c.append.new.list.items heads (length self.nodes.items)) (sym c.deref_mut-2.ensures.value) t.chained))

pub returns-clause-table : goal.returns-clause-table
returns-clause-table c =
    let self = c.args.self.now in
    let new = c.chain.new.links in
    let new' = c.chain.new.heads in
    let e : c.len-count.result ≡ length self.nodes.items = c.len-count.ensures ∙ self.nodes.ok.0 in
    let links = take c.append.new.list.len (new ++ drop (length new) c.append.new.list.items) in
    let heads = take self.heads.len (new' ++ drop (length new') self.heads.items) in
    let whole : links ≡ new = take_at new _ c.append.new.list.len (c.chain.ensures.links ∙ c.deref_mut.ensures.len) in
    let whole' : heads ≡ new' = take_at new' _ self.heads.len (c.chain.ensures.heads ∙ c.deref_mut-2.ensures.len) in
    let t = table-added self.key self.nodes.items c.args.node.now self.links.items c.truncate.new.self.items c.append.new.list.items new self.heads.items new'
    c.len-count.result c.args.hash
    e c.truncate.ensures.items c.in_ok-append.ensures.ok c.requires.hash c.requires.room
    (c.chain.ensures.links ∙ ap length c.deref_mut.ensures.value) (c.chain.ensures.heads ∙ ap length c.deref_mut-2.ensures.value)
    (λ j. c.chain.ensures.hashes j ∙ ap (λ xs. (link_at xs j).hash) c.deref_mut.ensures.value) c.chain.ensures.chained c.requires.table in
    subst (λ nodes. IsTable self.key nodes links heads) (sym c.in_ok-append-2.ensures.ok)
    (subst (λ hs. IsTable self.key (self.nodes.items ++ c.args.node.now ∷ []) links hs) (sym whole')
    (subst (λ ls. IsTable self.key (self.nodes.items ++ c.args.node.now ∷ []) ls new') (sym whole) t))
