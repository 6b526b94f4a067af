-- When an interface (a Face) describes a flat program.
use Rattle.std.specs.Prelude.{◌≡◌, ◌<◌, ◌^◌, length}
use Rattle.std.specs.List.{AllByRecursion}
use Rattle.observables.specs.declared.face.Face.{Face}
use Rattle.flat_code.specs.declared.program.Flat.{Flat}

-- The interface describes the program: it has an input and an output for each of the program's, and
-- a label for every label number of the checks; outputs are numbered in 32 bits.
pub record IsFaceOf (face : Face) (flat : Flat) : Type 0 where
  pub inputs : length face.inputs ≡ flat.inputs
  pub labels : AllByRecursion (λ check. check.label < length face.labels) flat.checks
  pub outputs : length face.outputs ≡ length flat.outputs
  pub few : length face.outputs < 2 ^ 32
