use Rattle.std.proofs.Common.{◌≡◌, take}
use Rattle.m_names.specs.Names.{AreDistinct}
use Rattle.observables.specs.Inputs.{codes_of}
use Rattle.code_file.proofs.runs.first_again.Given as goal

abbrev pub invariant-loop-k : goal.invariant-loop-k
invariant-loop-k l = record {
  known : l.names ≡ take l.k (codes_of l.inputs);
  distinct : AreDistinct l.names;
}
