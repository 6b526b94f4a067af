-- Terms with any leaves, written as terms of rules.
use Rattle.std.specs.Prelude.{ℕ, Option, Some, None}
use Rattle.m_fixed.specs.declared.amount.Value.{Value}
use Rattle.micro_m.specs.Trees.{TreeOf, TreesOf, StepsOf, Tree, Trees, Steps, lit, cell, pick, apply, chain, none, more, end, step}

-- the value of a term that is a constant
abbrev pub literal_in : {L : Type 0} → TreeOf L → Option Value
literal_in (lit value) = Some value
literal_in _ = None

-- given the term of each leaf
module _ {L : Type 0} (leaf : L → Tree) where
  abbrev mutual
    pub written : TreeOf L → Tree
    written (lit value) = lit value
    written (cell l) = leaf l
    written (pick first size index) = pick first size (written index)
    written (apply op arguments) = apply op (all_written arguments)
    written (chain first steps) = chain (written first) (along_written steps)

    pub all_written : TreesOf L → Trees
    all_written none = none
    all_written (more argument rest) = more (written argument) (all_written rest)

    pub along_written : StepsOf L → Steps
    along_written end = end
    along_written (step op operand rest) = step op (written operand) (along_written rest)
