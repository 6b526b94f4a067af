-- Resolves the terms and commands of a driver to terms and commands over cells and functions; the
-- result is the first error, in reading order, if there is one.
use Rattle.std.specs.Prelude.{ℕ, List, [], ◌∷◌, ◌++◌, length, Result, Ok, if◌then◌else◌}
use Rattle.std.specs.Str.{bytes_eq}
use Rattle.m_symbols.specs.Declarations.{Declared}
use Rattle.mpp_parser.specs.Trees.{Term, lit, named, apply, chain, exists, Terms, no_terms, a_term, Links, no_links, a_link}
use Rattle.mpp_parser.specs.Commands.{Act, set, del, when, partition, call, Acts, no_acts, an_act}
use Rattle.micro_m.specs.Trees.{Tree, lit as lit_tree, cell as cell_tree, apply as apply_tree, chain as chain_tree}
use Rattle.micro_m.specs.Views.{trees_of, steps_of}
use Rattle.micro_m.specs.declared.term.Step.{Step}
use Rattle.driver_core.specs.Leaves.{any_present}
use Rattle.driver_core.specs.Actions.{Action, assign, clear, branch, partition as partition_action, call as call_action, solve}
use Rattle.driver_core.specs.ActionView.{block_of}
use Rattle.mpp_core.specs.Names.{if_resolved, resolved_cell, resolved_target, resolved_each, each_once, kind_cells, rules_name, resolved_function}
use Rattle.mpp_core.specs.declared.fault.CoreFault.{CoreFault}

-- ---- terms

-- The term over cells that a term on this line resolves to. If `A` is the cell 0 and `T` a table
-- from the cell 1 on, `A + T[1]` is the cell 0, then `+` and the cell 2.
abbrev mutual
  pub resolved_term : Declared → ℕ → Term → Result Tree CoreFault
  resolved_term declared line (lit value) = Ok (lit_tree value)
  resolved_term declared line (named c) = if_resolved (λ cell. Ok (cell_tree cell)) (resolved_cell declared line c)
  resolved_term declared line (apply op all) = if_resolved (λ arguments. Ok (apply_tree op (trees_of arguments))) (resolved_terms declared line [] all)
  resolved_term declared line (chain first links) =
      if_resolved (λ f. if_resolved (λ steps. Ok (chain_tree f (steps_of steps))) (resolved_links declared line [] links))
      (resolved_term declared line first)
  resolved_term declared line (exists kind) = Ok (any_present (kind_cells declared kind))

  -- terms in sequence, appended to those already resolved
  pub resolved_terms : Declared → ℕ → List Tree → Terms → Result (List Tree) CoreFault
  resolved_terms declared line before no_terms = Ok before
  resolved_terms declared line before (a_term a rest) = if_resolved (λ t. resolved_terms declared line (before ++ t ∷ []) rest) (resolved_term declared line a)

  pub resolved_links : Declared → ℕ → List (Step ℕ) → Links → Result (List (Step ℕ)) CoreFault
  resolved_links declared line before no_links = Ok before
  resolved_links declared line before (a_link op a rest) = if_resolved (λ t. resolved_links declared line (before ++ record { op = op; term = t } ∷ []) rest)
      (resolved_term declared line a)

-- ---- commands

-- A call, of the rules or of one of the functions with these names, that receives these cells. A
-- cell that is named more than once is received once, and counts as often as it is named.
abbrev pub resolved_call : List (List ℕ) → ℕ → List ℕ → List ℕ → Result Action CoreFault
resolved_call names line name received =
    if bytes_eq name rules_name then Ok (solve line (length received) (each_once received))
    else if_resolved (λ f. Ok (call_action line (length received) (each_once received) f)) (resolved_function names line name)

-- Resolves a command, where functions have these names. In `A = B` the target `A` is resolved
-- before `B`, and in `A, B <- f()` the targets before the function.
abbrev mutual
  pub resolved_act : Declared → List (List ℕ) → Act → Result Action CoreFault
  resolved_act declared names (set line c term) = if_resolved (λ cell. if_resolved (λ t. Ok (assign line cell t)) (resolved_term declared line term))
      (resolved_target declared line c)
  resolved_act declared names (del line c) = if_resolved (λ cell. Ok (clear line cell)) (resolved_target declared line c)
  resolved_act declared names (when line condition first second) =
      if_resolved (λ t. if_resolved (λ a. if_resolved (λ b. Ok (branch line t (block_of a) (block_of b))) (resolved_acts declared names [] second))
      (resolved_acts declared names [] first)) (resolved_term declared line condition)
  resolved_act declared names (partition line kind block) = if_resolved (λ a. Ok (partition_action line (kind_cells declared kind) (block_of a)))
      (resolved_acts declared names [] block)
  resolved_act declared names (call line cs name) = if_resolved (resolved_call names line name) (resolved_each (resolved_target declared line) [] cs)

  -- commands in sequence, appended to those already resolved
  pub resolved_acts : Declared → List (List ℕ) → List Action → Acts → Result (List Action) CoreFault
  resolved_acts declared names before no_acts = Ok before
  resolved_acts declared names before (an_act a rest) = if_resolved (λ action. resolved_acts declared names (before ++ action ∷ []) rest)
      (resolved_act declared names a)
