-- Terms of the program as plain data.
use Rattle.std.specs.Prelude.{List, [], ◌∷◌}
use Rattle.micro_m.specs.declared.term.MNode.{MNode}
use Rattle.micro_m.specs.declared.term.MNode.TheVariants.{Lit, Cell, Pick, Apply, Chain}
use Rattle.micro_m.specs.declared.term.Step.{Step}
use Rattle.micro_m.specs.Trees.{TreeOf, lit, cell, pick, apply, chain, TreesOf, none, more, StepsOf, end, step}

abbrev pub trees_of : {L : Type 0} → List (TreeOf L) → TreesOf L
trees_of [] = none
trees_of (argument ∷ rest) = more argument (trees_of rest)

abbrev pub steps_of : {L : Type 0} → List (Step L) → StepsOf L
steps_of [] = end
steps_of (s ∷ rest) = step s.op s.term (steps_of rest)

abbrev pub tree_of : {L : Type 0} → MNode L → TreeOf L
tree_of (Lit value) = lit value
tree_of (Cell number) = cell number
tree_of (Pick first size index) = pick first size index.value
tree_of (Apply op arguments) = apply op (trees_of arguments.items)
tree_of (Chain first steps) = chain first.value (steps_of steps.items)
