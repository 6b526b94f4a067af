-- The weight of a driver: its size once each call is replaced by the function's body, and each call
-- of the rules by the base. `A = B + 1` has weight 3.
use Rattle.std.specs.Prelude.{ℕ, zero, suc, ◌+◌, ◌*◌, List, length}
use Rattle.std.specs.List.{sum_by}
use Rattle.micro_m.specs.declared.base.Base.{Base}
use Rattle.micro_m.specs.Trees.{Tree, lit, cell, pick, apply, chain, Trees, none, more, Steps, end, step}
use Rattle.micro_m.specs.Bases.{Definition}
use Rattle.micro_m.specs.Failures.{Check}
use Rattle.driver_core.specs.declared.program.Core.{Core}
use Rattle.driver_core.specs.Actions.{Action, assign, clear, branch, partition, call, solve, Block, no_actions, an_action}
use Rattle.driver_core.specs.Valid.{body_among, body_of}

-- ---- terms and the base

-- a table read adds 1 to a literal index, and to any other 2 and 2 for each cell
abbrev pub read_weight : ℕ → Tree → ℕ → ℕ
read_weight size (lit value) index = index + 1
read_weight size _ index = index + 2 * size + 2

abbrev mutual
  -- a term has 1 for each literal, cell and operator; a list of n operands has n - 1 operators
  pub tree_weight : Tree → ℕ
  tree_weight (lit value) = 1
  tree_weight (cell c) = 1
  tree_weight (pick first size index) = read_weight size index (tree_weight index)
  tree_weight (apply op arguments) = trees_weight arguments + 1
  tree_weight (chain first steps) = tree_weight first + steps_weight steps

  pub trees_weight : Trees → ℕ
  trees_weight none = 0
  trees_weight (more argument rest) = tree_weight argument + trees_weight rest

  pub steps_weight : Steps → ℕ
  steps_weight end = 0
  steps_weight (step op operand rest) = tree_weight operand + 1 + steps_weight rest

abbrev pub definition_weight : Definition → ℕ
definition_weight definition = tree_weight definition.1 + 1

abbrev pub check_weight : Check → ℕ
check_weight check = tree_weight check.0 + 1

-- a base has the weight of all its terms, and 1 for each definition and check
abbrev pub base_weight : Base → ℕ
base_weight base = sum_by definition_weight base.definitions + sum_by check_weight base.checks

-- ---- commands

abbrev mutual
  -- the count of names that a command sets, deletes or receives, including the commands in it, with
  -- repetitions
  pub names_changed : Action → ℕ
  names_changed (assign line c term) = 1
  names_changed (clear line c) = 1
  names_changed (branch line condition first second) = names_changed_in first + names_changed_in second
  names_changed (partition line cells block) = names_changed_in block
  names_changed (call line names received function) = names
  names_changed (solve line names received) = names

  pub names_changed_in : Block → ℕ
  names_changed_in no_actions = 0
  names_changed_in (an_action action rest) = names_changed action + names_changed_in rest

-- given the weight and the cells of the base, and the weights of the functions' bodies
module _ (rules cells : ℕ) (body : ℕ → ℕ) where
  abbrev mutual
    pub action_weight : Action → ℕ
    action_weight (assign line c term) = tree_weight term
    action_weight (clear line c) = 1
    action_weight (branch line condition first second) =
        tree_weight condition + block_weight first + block_weight second + names_changed_in first + names_changed_in second
    action_weight (partition line named block) = block_weight block + cells
    action_weight (call line names received function) = body function + cells
    action_weight (solve line names received) = rules

    pub block_weight : Block → ℕ
    block_weight no_actions = 0
    block_weight (an_action action rest) = action_weight action + block_weight rest

-- the weight of a function's body, with calls nested at most `turns` deep
abbrev pub body_weight : ℕ → ℕ → List (List Action) → ℕ → ℕ → ℕ
body_weight rules cells bodies zero f = 0
body_weight rules cells bodies (suc turns) f = block_weight rules cells (body_weight rules cells bodies turns) (body_among bodies f)

-- the weight of a driver over a base: that of `main`'s body
abbrev pub weight_of : Core → Base → ℕ
weight_of core base =
    block_weight (base_weight base) base.cells (body_weight (base_weight base) base.cells core.bodies (length core.bodies)) (body_of core core.main)
