use Rattle.std.proofs.Common.{ap, arith, ◌∙◌}
use Rattle.mpp_inline.specs.inner.Observation.{numbers_of}
use Rattle.mpp_inline.proofs.pass.whole_program.Goals as goal

pub emit_driver-requires : goal.emit_driver-requires
emit_driver-requires c = record {
  base = c.requires.base;
  order = c.requires.order;
  cells = c.requires.cells;
  placed = c.requires.placed;
  inputs = c.in_ok-b.ensures.inputs ∙ c.in_ok-inputs.ensures;
  room = omega (arith, c.requires.few_cells, c.requires.few_labels, c.requires.light, c.in_ok-b.ensures.size);
}

pub returns : goal.returns
returns c =
    c.finished.ensures c.args.core.now c.args.ordered.now.base c.args.symbols.now c.args.requests.now
    (c.in_ok-outputs.ensures.answers c.in_ok-b.ensures.literals)
    (c.in_ok-notes.ensures ∙ ap numbers_of c.deref.ensures.value)
    c.inputs.ensures
    c.requires.few_cells c.requires.light (omega (arith, c.in_ok-b.ensures.size, c.in_ok-outputs.ensures.size))
