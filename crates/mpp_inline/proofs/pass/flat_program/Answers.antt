use Rattle.std.proofs.Common.{ap, arith}
use Rattle.driver_core.specs.declared.program.Core.{Core}
use Rattle.driver_core.specs.Weights.{weight_of}
use Rattle.std.proofs.lemmas.Result.{IfOk-weaker}
use Rattle.mpp_inline.proofs.RulelessLemmas.{inlined-left, left-lighter}
use Rattle.mpp_inline.proofs.pass.flat_program.Goals as goal

pub returns-then-is_ruleless : goal.returns-then-is_ruleless
returns-then-is_ruleless c =
    IfOk-weaker c.whole_program.result _ _
    (λ made whole. inlined-left c.args.core.now c.in_ok-left.left c.args.ordered.now.base c.args.symbols.now c.args.requests.now made.0 made.1 made.2
    (c.is_ruleless.ensures.0 c.if-is_ruleless.true) c.in_ok-left.ensures whole)
    c.whole_program.ensures

pub whole_program-requires : goal.whole_program-requires
whole_program-requires c = record {
  base = c.requires.base;
  order = c.requires.order;
  cells = c.requires.cells;
  placed = c.requires.placed;
  few_cells = c.requires.few_cells;
  few_labels = c.requires.few_labels;
  light = omega (
    arith,
    c.requires.light,
    ap (λ (k : Core). weight_of k c.args.ordered.now.base) c.in_ok-left.ensures,
    left-lighter c.args.core.now
        c.args.ordered.now.base,
  );
}
