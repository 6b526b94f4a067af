use Rattle.std.proofs.Common.{ap, ◌∙◌, arith}
use Rattle.register_alloc.specs.Width.{reads}
use Rattle.register_alloc.proofs.LastLemmas.{reads-first, reads-second, reads-third}
use Rattle.register_alloc.proofs.task.note_node.Goals as goal

pub index_mut-requires : goal.index_mut-requires
index_mut-requires c =
    let w = c.in-Do in
    omega (arith, c.requires w.a (ap (reads w.a) w.is ∙ reads-first w.field-0 w.a w.b w.c), c.args.last.now.ok.0)

pub index_mut-requires-in-Do : goal.index_mut-requires-in-Do
index_mut-requires-in-Do c =
    let w = c.in-Do in
    omega (arith, c.requires w.b (ap (reads w.b) w.is ∙ reads-second w.field-0 w.a w.b w.c), c.args.last.now.ok.0)

pub index_mut-requires-in-Do-2 : goal.index_mut-requires-in-Do-2
index_mut-requires-in-Do-2 c =
    let w = c.in-Do in
    omega (arith, c.requires w.c (ap (reads w.c) w.is ∙ reads-third w.field-0 w.a w.b w.c), c.args.last.now.ok.0)
