use Rattle.std.proofs.Common.{◌<◌, length, ap, arith}
use Rattle.dirty_set.proofs.SetLemmas.{length-members, members_with, layered_places, layered_with}
use Rattle.dirty_set.proofs.set.Bits.insert.Goals as goal

pub set_bit-requires : goal.set_bit-requires
set_bit-requires c =
    let s = c.self.inside in
    let below : c.args.k < s.count = omega (arith, ap length c.self.view_is, length-members s.words.items s.count, c.requires) in
    (layered_places s.words.items s.summary.items s.top.items s.count c.args.k c.self.invariant below).0

pub set_bit-requires-2 : goal.set_bit-requires-2
set_bit-requires-2 c =
    let s = c.self.inside in
    let below : c.args.k < s.count = omega (arith, ap length c.self.view_is, length-members s.words.items s.count, c.requires) in
    (layered_places s.words.items s.summary.items s.top.items s.count c.args.k c.self.invariant below).1

pub set_bit-requires-3 : goal.set_bit-requires-3
set_bit-requires-3 c =
    let s = c.self.inside in
    let below : c.args.k < s.count = omega (arith, ap length c.self.view_is, length-members s.words.items s.count, c.requires) in
    (layered_places s.words.items s.summary.items s.top.items s.count c.args.k c.self.invariant below).2

pub invariant_of-self : goal.invariant_of-self
invariant_of-self c =
    let s = c.self.inside in
    let below : c.args.k < s.count = omega (arith, ap length c.self.view_is, length-members s.words.items s.count, c.requires) in
    rw (c.set_bit.ensures, c.set_bit-2.ensures, c.set_bit-3.ensures) (layered_with s.words.items s.summary.items s.top.items s.count c.args.k c.self.invariant
    below)

pub returns : goal.returns
returns c =
    let s = c.self.inside in
    let below : c.args.k < s.count = omega (arith, ap length c.self.view_is, length-members s.words.items s.count, c.requires) in
    let places = layered_places s.words.items s.summary.items s.top.items s.count c.args.k c.self.invariant below in
    rw (c.set_bit.ensures, ← c.self.view_is) (members_with s.words.items s.count c.args.k below places.0)
