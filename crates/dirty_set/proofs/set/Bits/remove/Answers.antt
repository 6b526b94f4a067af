use Rattle.std.proofs.Common.{◌<◌, length, ap, sym, arith}
use Rattle.dirty_set.proofs.SetLemmas.{length-members, members_without, layered_places, layered_without, layered_cleared, layered_emptied}
use Rattle.dirty_set.proofs.set.Bits.remove.Goals as goal

pub clear_bit-requires : goal.clear_bit-requires
clear_bit-requires c =
    let s = c.self.inside in
    let below : c.args.k < s.count = omega (arith, ap length c.self.view_is, length-members s.words.items s.count, c.requires) in
    (layered_places s.words.items s.summary.items s.top.items s.count c.args.k c.self.invariant below).0

pub clear_bit-requires-then-clear_bit : goal.clear_bit-requires-then-clear_bit
clear_bit-requires-then-clear_bit c =
    let s = c.self.inside in
    let below : c.args.k < s.count = omega (arith, ap length c.self.view_is, length-members s.words.items s.count, c.requires) in
    (layered_places s.words.items s.summary.items s.top.items s.count c.args.k c.self.invariant below).1

pub clear_bit-requires-then-clear_bit-2 : goal.clear_bit-requires-then-clear_bit-2
clear_bit-requires-then-clear_bit-2 c =
    let s = c.self.inside in
    let below : c.args.k < s.count = omega (arith, ap length c.self.view_is, length-members s.words.items s.count, c.requires) in
    (layered_places s.words.items s.summary.items s.top.items s.count c.args.k c.self.invariant below).2

pub invariant_of-self : goal.invariant_of-self
invariant_of-self c =
    let s = c.self.inside in
    let below : c.args.k < s.count = omega (arith, ap length c.self.view_is, length-members s.words.items s.count, c.requires) in
    rw (c.clear_bit.ensures.words, c.clear_bit-then-clear_bit.ensures.words, c.clear_bit-then-clear_bit-2.ensures.words)
    (layered_emptied s.words.items s.summary.items s.top.items s.count c.args.k c.self.invariant below (sym c.if-clear_bit.ensures.zero)
    (sym c.if-clear_bit-2.ensures.zero))

pub invariant_of-self-else-clear_bit-2 : goal.invariant_of-self-else-clear_bit-2
invariant_of-self-else-clear_bit-2 c =
    let s = c.self.inside in
    let below : c.args.k < s.count = omega (arith, ap length c.self.view_is, length-members s.words.items s.count, c.requires) in
    rw (c.clear_bit.ensures.words, c.clear_bit-then-clear_bit.ensures.words)
    (layered_cleared s.words.items s.summary.items s.top.items s.count c.args.k c.self.invariant below (sym c.if-clear_bit.ensures.zero)
    (sym c.if-clear_bit-2.ensures.zero))

pub invariant_of-self-else-clear_bit : goal.invariant_of-self-else-clear_bit
invariant_of-self-else-clear_bit c =
    let s = c.self.inside in
    let below : c.args.k < s.count = omega (arith, ap length c.self.view_is, length-members s.words.items s.count, c.requires) in
    rw c.clear_bit.ensures.words (layered_without s.words.items s.summary.items s.top.items s.count c.args.k c.self.invariant below
    (sym c.if-clear_bit.ensures.zero))

pub returns-then-clear_bit-2 : goal.returns-then-clear_bit-2
returns-then-clear_bit-2 c =
    let s = c.self.inside in
    let below : c.args.k < s.count = omega (arith, ap length c.self.view_is, length-members s.words.items s.count, c.requires) in
    let places = layered_places s.words.items s.summary.items s.top.items s.count c.args.k c.self.invariant below in
    rw (c.clear_bit.ensures.words, ← c.self.view_is) (members_without s.words.items s.count c.args.k below places.0)

pub returns-else-clear_bit-2 : goal.returns-else-clear_bit-2
returns-else-clear_bit-2 c =
    let s = c.self.inside in
    let below : c.args.k < s.count = omega (arith, ap length c.self.view_is, length-members s.words.items s.count, c.requires) in
    let places = layered_places s.words.items s.summary.items s.top.items s.count c.args.k c.self.invariant below in
    rw (c.clear_bit.ensures.words, ← c.self.view_is) (members_without s.words.items s.count c.args.k below places.0)

pub returns-else-clear_bit : goal.returns-else-clear_bit
returns-else-clear_bit c =
    let s = c.self.inside in
    let below : c.args.k < s.count = omega (arith, ap length c.self.view_is, length-members s.words.items s.count, c.requires) in
    let places = layered_places s.words.items s.summary.items s.top.items s.count c.args.k c.self.invariant below in
    rw (c.clear_bit.ensures.words, ← c.self.view_is) (members_without s.words.items s.count c.args.k below places.0)
