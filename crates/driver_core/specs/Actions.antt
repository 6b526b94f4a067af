-- Commands of drivers as plain data.
use Rattle.std.specs.Prelude.{ℕ, ◌+◌, List}
use Rattle.micro_m.specs.Trees.{Tree}

-- A command, with the number of its line. `if A:` on line 2 over `B = 1` on line 3, where A and B are the cells 0 and 1, is
--   branch 2 (cell 0) (an_action (assign 3 1 (lit (Num (pos 1000000)))) no_actions) no_actions
mutual
  -- Assigning a term's value to a cell; making a cell undefined; a condition with two blocks; a
  -- block with some cells undefined; a call of a function, and one of the rules. Calls have the
  -- count of the names left of `<-`, with repetitions, and then the received cells.
  pub data Action : Type 0 where
    assign : ℕ → ℕ → Tree → Action
    clear : ℕ → ℕ → Action
    branch : ℕ → Tree → Block → Block → Action
    partition : ℕ → List ℕ → Block → Action
    call : ℕ → ℕ → List ℕ → ℕ → Action
    solve : ℕ → ℕ → List ℕ → Action

  -- commands in sequence
  pub data Block : Type 0 where
    no_actions : Block
    an_action : Action → Block → Block

-- the number of commands in a command, including itself: a measure for recursion
abbrev mutual
  pub action_nodes : Action → ℕ
  action_nodes (assign line c term) = 1
  action_nodes (clear line c) = 1
  action_nodes (branch line condition first second) = nodes_of_block first + nodes_of_block second + 1
  action_nodes (partition line cells block) = nodes_of_block block + 1
  action_nodes (call line names received function) = 1
  action_nodes (solve line names received) = 1

  pub nodes_of_block : Block → ℕ
  nodes_of_block no_actions = 0
  nodes_of_block (an_action action rest) = action_nodes action + nodes_of_block rest + 1
