-- Each part of a term has fewer nodes.
use Rattle.std.specs.Prelude.{◌+◌, ◌*◌, ◌≤◌, max, List, [], ◌∷◌}
use Rattle.std.proofs.Common.{arith}
use Rattle.micro_m.specs.declared.term.MNode.{MNode}
use Rattle.micro_m.specs.declared.term.MNode.TheVariants.{Lit, Cell, Pick, Apply, Chain}
use Rattle.micro_m.specs.declared.term.Step.{Step}
use Rattle.micro_m.specs.declared.term.MTerm.TheDeep.{deep-MNode, deep-Step, size-Step, size-MTerm}
use denote.Param.Weighed.{most}
use Rattle.micro_m.specs.Trees.{TreeOf, nodes, nodes_all, nodes_along}
use Rattle.micro_m.specs.Views.{tree_of, trees_of, steps_of}

pub most_falls : {L : Type 0} (all : List (TreeOf L)) → most (λ t. nodes t + 1) all ≤ nodes_all (trees_of all) + 1
most_falls [] = omega arith
most_falls (a ∷ rest) = omega (arith, most_falls rest)

pub steps_fall : {L : Type 0} (all : List (Step L)) → most (deep-Step L) all ≤ nodes_along (steps_of all)
steps_fall [] = omega arith
steps_fall (a ∷ rest) = omega (arith, steps_fall rest)

pub falls : {L : Type 0} (n : MNode L) → max (deep-MNode L n) 0 ≤ nodes (tree_of n)
falls (Lit v) = omega arith
falls (Cell c) = omega arith
falls (Pick f s a) = omega arith
falls (Apply o all) = omega (arith, most_falls all.items)
falls (Chain a all) = omega (arith, steps_fall all.items)

pub sizes_fall : {L : Type 0} (all : List (Step L)) → most (size-Step L) all ≤ 3 * nodes_along (steps_of all) + 1
sizes_fall [] = omega arith
sizes_fall (a ∷ rest) = omega (arith, sizes_fall rest)

pub terms_fall : {L : Type 0} (all : List (TreeOf L)) → most (size-MTerm L) all ≤ 3 * nodes_all (trees_of all) + 1
terms_fall [] = omega arith
terms_fall (a ∷ rest) = omega (arith, terms_fall rest)
