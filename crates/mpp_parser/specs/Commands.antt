-- The commands of a driver as contracts see them; equality of commands is equality of these.
use Rattle.std.specs.Prelude.{ℕ, ◌+◌, List}
use Rattle.mpp_parser.specs.declared.term.CellName.{CellName}
use Rattle.mpp_parser.specs.declared.term.Kind.{Kind}
use Rattle.mpp_parser.specs.Trees.{Term}

-- A command, with the number of its line. `if A:` on line 2 over `B = 1` on line 3 is
--   when 2 (named A) (an_act (set 3 B (lit (Num 1000000))) no_acts) no_acts
mutual
  pub data Act : Type 0 where
    set : ℕ → CellName → Term → Act
    del : ℕ → CellName → Act
    when : ℕ → Term → Acts → Acts → Act
    partition : ℕ → Kind → Acts → Act
    call : ℕ → List CellName → List ℕ → Act

  -- a block
  pub data Acts : Type 0 where
    no_acts : Acts
    an_act : Act → Acts → Acts

-- the number of commands in a command, including itself: a measure for recursion
abbrev mutual
  pub act_nodes : Act → ℕ
  act_nodes (set n c t) = 1
  act_nodes (del n c) = 1
  act_nodes (when n t a b) = nodes_of_acts a + nodes_of_acts b + 1
  act_nodes (partition n k a) = nodes_of_acts a + 1
  act_nodes (call n cs f) = 1

  pub nodes_of_acts : Acts → ℕ
  nodes_of_acts no_acts = 0
  nodes_of_acts (an_act a rest) = act_nodes a + nodes_of_acts rest + 1
