use Rattle.std.proofs.Common.{◌≡◌, suc, ◌-◌, ◌%◌, ◌<◌, ◌≤◌, length, get_or, rules, arith, ap, ◌∙◌, subst}
use Rattle.std.proofs.lemmas.List.{get_or_read}
use Rattle.common_terms.specs.declared.chains.Link.{Link}
use Rattle.common_terms.proofs.ChainLemmas.{no-link, search-start, search-next}
use Rattle.common_terms.proofs.chains.Chains.find.Goals as goal

pub loop-left-init : goal.loop-left-init
loop-left-init c =
    let self = c.args.self.now in
    let m = length self.heads.items in
    let size : c.len.result ≡ m = c.len.ensures ∙ self.heads.ok.0 in
    let b : c.bucket.result ≡ c.args.hash % m = c.bucket.ensures.is ∙ ap (λ m. c.args.hash % m) size in
    let lt : c.bucket.result < m = subst (λ m. c.bucket.result < m) size c.bucket.ensures.within in
    search-start self.key self.nodes.items self.links.items self.heads.items c.args.node.now (c.args.hash % m) c.index-left.result.now c.requires.table
    (ap (λ x. x % m) c.requires.hash)
    (subst (λ b. b < m) b lt)
    (get_or_read self.heads.items c.bucket.result c.index-left.result.now lt c.index-left.ensures 0 ∙ ap (λ b. get_or self.heads.items b 0) b)

pub loop-left-smaller : goal.loop-left-smaller
loop-left-smaller c =
    let self = c.args.self.now in
    let m = length self.heads.items in
    let left = c.loop-left.left in
    let some : 0 < left = search rules in
    let within : left ≤ length self.nodes.items = c.loop-left.invariant.within in
    let linked : length self.nodes.items ≤ length self.links.items = c.requires.table.linked in
    let e : left ≡ suc (left - 1) = omega arith in
    let lt : left - 1 < length self.links.items = omega arith in
    (search-next self.key self.nodes.items self.links.items self.heads.items c.args.node.now (c.args.hash % m) left (left - 1) c.index.result.now.next
    c.requires.table
    (ap (λ x. x % m) c.requires.hash) e (c.is_here.ensures.no c.if-is_here.false)
    (ap (λ (l : Link). l.next) (get_or_read self.links.items (left - 1) c.index.result.now lt c.index.ensures no-link)) c.loop-left.invariant).1

pub loop-left-preserved : goal.loop-left-preserved
loop-left-preserved c =
    let self = c.args.self.now in
    let m = length self.heads.items in
    let left = c.loop-left.left in
    let some : 0 < left = search rules in
    let within : left ≤ length self.nodes.items = c.loop-left.invariant.within in
    let linked : length self.nodes.items ≤ length self.links.items = c.requires.table.linked in
    let e : left ≡ suc (left - 1) = omega arith in
    let lt : left - 1 < length self.links.items = omega arith in
    (search-next self.key self.nodes.items self.links.items self.heads.items c.args.node.now (c.args.hash % m) left (left - 1) c.index.result.now.next
    c.requires.table
    (ap (λ x. x % m) c.requires.hash) e (c.is_here.ensures.no c.if-is_here.false)
    (ap (λ (l : Link). l.next) (get_or_read self.links.items (left - 1) c.index.result.now lt c.index.ensures no-link)) c.loop-left.invariant).0
