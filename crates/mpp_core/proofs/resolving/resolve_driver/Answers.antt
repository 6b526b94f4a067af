use Rattle.std.proofs.Common.{◌∙◌, arith}
use Rattle.mpp_core.proofs.ValidCore.{core_in_range, few_names, functions_count}
use Rattle.mpp_core.proofs.resolving.resolve_driver.Goals as goal

pub resolve_names-requires-clause-few : goal.resolve_names-requires-clause-few
resolve_names-requires-clause-few c = few_names c.args.driver.now.functions c.in_ok-names.names (rw c.as_slice.ensures at c.in_ok-names.ensures) c.requires.few

pub overflow_cast-len : goal.overflow_cast-len
overflow_cast-len c = omega (
  arith,
  c.len.ensures,
  few_names c.args.driver.now.functions c.in_ok-names.names (rw c.as_slice.ensures at c.in_ok-names.ensures)
      c.requires.few,
)

pub no_ring-requires-clause-count : goal.no_ring-requires-clause-count
no_ring-requires-clause-count c =
    c.len.ensures ∙ functions_count c.args.driver.now c.args.symbols.now c.in_ok-core.core _ c.in_ok-core.ensures.outcome
    (rw c.as_slice.ensures at c.in_ok-names.ensures)

pub no_ring-requires-clause-range : goal.no_ring-requires-clause-range
no_ring-requires-clause-range c = core_in_range c.args.driver.now c.args.symbols.now _ c.requires.placed c.in_ok-core.ensures.outcome

pub returns-clause-valid : goal.returns-clause-valid
returns-clause-valid c = record {
  in_range = core_in_range c.args.driver.now c.args.symbols.now _ c.requires.placed c.in_ok-core.ensures.outcome;
  no_ring = c.in_ok-no_ring.ensures;
}
