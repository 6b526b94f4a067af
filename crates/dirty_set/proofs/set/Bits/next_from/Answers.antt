use Rattle.std.proofs.Common.{◌≡◌, ◌<◌, length, ap, sym, ◌∙◌, arith, Bool, List}
use Rattle.dirty_set.specs.Members.{IsNext, is_member}
use Rattle.dirty_set.specs.inner.Words.{has}
use Rattle.dirty_set.proofs.SetLemmas.{length-members, member_is, next_member, has_within}
use Rattle.dirty_set.proofs.set.Bits.next_from.Goals as goal

pub returns-in-None-clause-next : goal.returns-in-None-clause-next
returns-in-None-clause-next c k from =
    let s = c.self.inside in
    ap (λ (set : List Bool). is_member set k) (sym c.self.view_is)
    ∙ member_is s.words.items s.summary.items s.count k c.self.invariant.lower
    ∙ ap (λ ws. has ws k) (sym c.deref.ensures.value) ∙ c.in-None.ensures k from

pub returns-in-Some-clause-next : goal.returns-in-Some-clause-next
returns-in-Some-clause-next c =
    let s = c.self.inside in
    let next : IsNext (has s.words.items) c.args.p c.in-Some.r = rw c.deref.ensures.value at c.in-Some.ensures in
    rw (← c.self.view_is) (next_member s.words.items s.summary.items s.count c.args.p c.in-Some.r c.self.invariant.lower next)

pub returns-in-Some-clause-within : goal.returns-in-Some-clause-within
returns-in-Some-clause-within c =
    let s = c.self.inside in
    let next : IsNext (has s.words.items) c.args.p c.in-Some.r = rw c.deref.ensures.value at c.in-Some.ensures in
    let below : c.in-Some.r < s.count = has_within s.words.items s.summary.items s.count c.in-Some.r c.self.invariant.lower next.is in
    let many : length c.args.self.now ≡ s.count = ap length (sym c.self.view_is) ∙ length-members s.words.items s.count in
    (omega (arith, below, many), omega (arith, below, c.self.invariant.lower.within))
