-- Terms after name resolution and expansion, as plain data. `REV - SEUIL` over the cells 0 and 1 is
-- `chain (cell 0) (step Sub (cell 1) end)`, and `T[2]` of a table with the cells 5 to 8 is
-- `pick 5 4 (lit (Num (pos 2000000)))`.
use Rattle.std.specs.Prelude.{ℕ, ◌+◌}
use Rattle.m_fixed.specs.declared.amount.Value.{Value}
use Rattle.m_fixed.specs.declared.operator.Op.{Op}

mutual
  -- a constant, a leaf, a table read (its first cell, its size, the index), an operator on
  -- arguments, a left fold
  pub data TreeOf (L : Type 0) : Type 0 where
    lit : Value → TreeOf L
    cell : L → TreeOf L
    pick : ℕ → ℕ → TreeOf L → TreeOf L
    apply : Op → TreesOf L → TreeOf L
    chain : TreeOf L → StepsOf L → TreeOf L

  -- the arguments of an operator
  pub data TreesOf (L : Type 0) : Type 0 where
    none : TreesOf L
    more : TreeOf L → TreesOf L → TreesOf L

  -- the steps of a left fold, each an operator and its right operand
  pub data StepsOf (L : Type 0) : Type 0 where
    end : StepsOf L
    step : Op → TreeOf L → StepsOf L → StepsOf L

-- in the terms of rules each leaf is a cell
abbrev pub Tree : Type 0
Tree = TreeOf ℕ

abbrev pub Trees : Type 0
Trees = TreesOf ℕ

abbrev pub Steps : Type 0
Steps = StepsOf ℕ

abbrev mutual
  -- the number of nodes of a term
  pub nodes : {L : Type 0} → TreeOf L → ℕ
  nodes (lit value) = 1
  nodes (cell number) = 1
  nodes (pick first size index) = nodes index + 1
  nodes (apply op arguments) = nodes_all arguments + 1
  nodes (chain first steps) = nodes first + nodes_along steps + 1

  pub nodes_all : {L : Type 0} → TreesOf L → ℕ
  nodes_all none = 0
  nodes_all (more argument rest) = nodes argument + nodes_all rest + 1

  pub nodes_along : {L : Type 0} → StepsOf L → ℕ
  nodes_along end = 0
  nodes_along (step op operand rest) = nodes operand + nodes_along rest + 1
