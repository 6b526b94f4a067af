-- No leaf of a driver's term is a constant.
use Rattle.std.specs.Prelude.{◌≡◌, None, [], ◌∷◌, refl}
use Rattle.micro_m.specs.Leaves.{literal_in}
use Rattle.driver_core.specs.declared.term.CLeaf.{CLeaf}
use Rattle.driver_core.specs.declared.term.CLeaf.TheVariants.{Cell, Exists}
use Rattle.driver_core.specs.Leaves.{leaf_tree}

pub leaf_reads : (leaf : CLeaf) → literal_in (leaf_tree leaf) ≡ None
leaf_reads (Cell c) = refl
leaf_reads (Exists []) = refl
leaf_reads (Exists (c ∷ cs)) = refl
