-- The terms of drivers, as terms of rules.
use Rattle.std.specs.Prelude.{ℕ, List, [], ◌∷◌}
use Rattle.m_fixed.specs.declared.amount.Value.TheVariants.{Undef}
use Rattle.m_fixed.specs.declared.operator.Op.TheVariants.{Or, Present}
use Rattle.micro_m.specs.Trees.{TreeOf, Tree, lit, cell, apply, chain, none, Steps, end, step}
use Rattle.micro_m.specs.Leaves.{written}
use Rattle.driver_core.specs.declared.term.CLeaf.{CLeaf}
use Rattle.driver_core.specs.declared.term.CLeaf.TheVariants.{Cell, Exists}

-- `ou` with each of these cells, and then `present`, which uses only what is before it
abbrev pub then_present : List ℕ → Steps
then_present [] = step Present (lit Undef) end
then_present (c ∷ cs) = step Or (cell c) (then_present cs)

-- Whether one of these cells is defined: `present` of nothing, which is 0, or of `A ou B ou C`, as a
-- left fold. Its weight is 1, and 2 for each cell.
abbrev pub any_present : List ℕ → Tree
any_present [] = apply Present none
any_present (c ∷ cs) = chain (cell c) (then_present cs)

abbrev pub leaf_tree : CLeaf → Tree
leaf_tree (Cell c) = cell c
leaf_tree (Exists cells) = any_present cells

abbrev pub CTree : Type 0
CTree = TreeOf CLeaf

-- a term of a driver as a term of rules
abbrev pub rule_term : CTree → Tree
rule_term = written leaf_tree
