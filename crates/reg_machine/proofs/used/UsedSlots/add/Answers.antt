use Rattle.std.proofs.Common.{◌≡◌, ℕ, List, length, sym, subst, arith}
use Rattle.reg_machine.specs.inner.Packed.{IsAmong}
use Rattle.reg_machine.proofs.NumberingLemmas.{numbered-same, numbered-push}
use Rattle.reg_machine.proofs.used.UsedSlots.add.Goals as goal

pub invariant_of-self-in_err-insert : goal.invariant_of-self-in_err-insert
invariant_of-self-in_err-insert c = numbered-same _ _ _ _ c.in_err-insert.ensures.err c.reserve.ensures.items c.self.invariant

pub invariant_of-self-2 : goal.invariant_of-self-2
invariant_of-self-2 c =
    let s = c.self.inside in
    let away : IsAmong c.args.slot s.used.items → ⊥ = subst (λ (u : List ℕ). IsAmong c.args.slot u → ⊥) (sym c.self.view_is) c.requires.away in
    let at : c.len-number.result ≡ length s.used.items = omega (arith, c.len-number.ensures, s.used.ok.0) in
    rw (c.push_reserved.ensures.items, c.reserve.ensures.items) (numbered-push s.numbers c.insert.new.self s.used.items c.args.slot c.len-number.result
    c.self.invariant c.in_ok-insert.ensures.updates at away)
