use Rattle.std.proofs.Common.{replicate, ap, ◌∙◌, arith}
use Rattle.m_fixed.specs.declared.amount.Value.TheVariants.{Undef}
use Rattle.reg_machine.proofs.CellLemmas.{all-undefined}
use Rattle.reg_machine.proofs.cells.clear.Goals as goal

pub returns : goal.returns
returns c =
    let size = c.loop-value.auto.values in
    all-undefined c.loop-value.values (λ k lt. c.loop-value.invariant k (omega (arith, c.loop-value-test.false, size))) ∙ ap (λ n. replicate n Undef) size
