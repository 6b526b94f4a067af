-- Terms over cells: each name is a cell, each table read a pick, each membership expanded into
-- comparisons.
use Rattle.std.specs.Prelude.{ℕ, Bool, true, false, List, [], ◌∷◌, ◌++◌, Result, Ok, Err, codes}
use Rattle.std.specs.Option.{ok_or, option_map_or}
use Rattle.m_fixed.specs.declared.operator.Op.TheVariants.{Eq, Ge, Le, And, Or, Not}
use Rattle.m_fixed.specs.declared.amount.Value.TheVariants.{Undef}
use Rattle.m_places.specs.declared.place.Place.{Place}
use Rattle.m_ast.specs.Items.{variable_size}
use Rattle.m_ast.specs.Syntax.{Syntax, lit, named, the_x, cell, apply, chain, among, loop, Terms, no_terms, a_term, Links, no_links, a_link, Members}
use Rattle.m_ast.specs.Syntax.{no_members, a_member}
use Rattle.m_symbols.specs.declared.variable.Variable.{Variable}
use Rattle.m_symbols.specs.Declarations.{Declared}
use Rattle.micro_m.specs.Trees.{Tree, lit as lit_tree, cell as cell_tree, pick, apply as apply_tree, chain as chain_tree, none, more, end, step}
use Rattle.micro_m.specs.Views.{trees_of, steps_of}
use Rattle.micro_m.specs.declared.term.Step.{Step}
use Rattle.m_symbols.specs.Cells.{variable_named}
use Rattle.m_ast.specs.Members.{is_single}
use Rattle.m_resolve.specs.declared.fault.ResolveFault.{ResolveFault}
use Rattle.m_resolve.specs.declared.fault.ResolveFault.TheVariants.{UnknownName, NotATable, IsATable}

-- applies `next` to a resolved part; an error stays the same
abbrev pub if_resolved : {A B : Type 0} → (A → Result B ResolveFault) → Result A ResolveFault → Result B ResolveFault
if_resolved next (Ok thing) = next thing
if_resolved next (Err fault) = Err fault

-- ---- names

-- the variable with a name
abbrev pub resolved_variable : Declared → List ℕ → Place → Result Variable ResolveFault
resolved_variable declared name place = ok_or (variable_named declared name) (UnknownName name place)

-- the cell of a name without an index, whose variable isn't a table
abbrev pub resolved_cell : Declared → List ℕ → Place → Result ℕ ResolveFault
resolved_cell declared name place = if_resolved (λ v. option_map_or (λ size. Err (IsATable name place)) (variable_size v.item) (Ok v.first_cell))
    (resolved_variable declared name place)

-- the first cell of a table with an index, and its size
abbrev pub resolved_table : Declared → List ℕ → Place → Result (ℕ × ℕ) ResolveFault
resolved_table declared name place = if_resolved (λ v. option_map_or (λ size. Ok (v.first_cell, size)) (variable_size v.item) (Err (NotATable name place)))
    (resolved_variable declared name place)

-- ---- memberships

abbrev pub member_by : Bool → Tree → Tree → Tree → Tree
member_by true x low high = apply_tree Eq (more x (more low none))
member_by false x low high = chain_tree (apply_tree Ge (more x (more low none)))
    (step And (apply_tree Le (more x (more high none))) end)

-- members joined by `ou`, which is the operator of each step; one member is itself
abbrev pub any_of : List (Step ℕ) → Tree
any_of [] = lit_tree Undef
any_of (member ∷ []) = member.term
any_of (member ∷ second ∷ members) = chain_tree member.term (steps_of (second ∷ members))

abbrev pub membership : Bool → List (Step ℕ) → Tree
membership false members = any_of members
membership true members = apply_tree Not (more (any_of members) none)

-- ---- terms

-- A term over the declared cells, or the first of its errors from left to right. `A + T[1]` with
-- `A` at cell 0 and the table `T` at the cells 1 to 3 is a chain of cell 0 and `+` the pick at
-- index 1 of the 3 cells from 1 on. `A dans (1, 3..5)` is `A = 1 ou (A >= 3 et A <= 5)`. An
-- expanded term has no loop; one would be undefined.
abbrev mutual
  pub resolved_term : Declared → Syntax → Result Tree ResolveFault
  resolved_term declared (lit value) = Ok (lit_tree value)
  resolved_term declared (named name place) = if_resolved (λ c. Ok (cell_tree c)) (resolved_cell declared name place)
  resolved_term declared (the_x place) = Err (UnknownName (codes "X") place)
  resolved_term declared (cell name index place) = if_resolved (λ table. if_resolved (λ i. Ok (pick table.0 table.1 i)) (resolved_term declared index))
      (resolved_table declared name place)
  resolved_term declared (apply op all) = if_resolved (λ arguments. Ok (apply_tree op (trees_of arguments))) (resolved_terms declared [] all)
  resolved_term declared (chain first links) = if_resolved (λ f. if_resolved (λ steps. Ok (chain_tree f (steps_of steps))) (resolved_links declared [] links))
      (resolved_term declared first)
  resolved_term declared (among negated x all) = if_resolved
      (λ t. if_resolved (λ members. Ok (membership negated members)) (resolved_members declared t [] all)) (resolved_term declared x)
  resolved_term declared (loop header body) = Ok (lit_tree Undef)

  -- terms in order, appended to those before
  pub resolved_terms : Declared → List Tree → Terms → Result (List Tree) ResolveFault
  resolved_terms declared before no_terms = Ok before
  resolved_terms declared before (a_term a rest) = if_resolved (λ t. resolved_terms declared (before ++ t ∷ []) rest) (resolved_term declared a)

  pub resolved_links : Declared → List (Step ℕ) → Links → Result (List (Step ℕ)) ResolveFault
  resolved_links declared before no_links = Ok before
  resolved_links declared before (a_link op a rest) = if_resolved (λ t. resolved_links declared (before ++ record { op = op; term = t } ∷ []) rest)
      (resolved_term declared a)

  -- members of a membership of x, each as a step with `ou`
  pub resolved_members : Declared → Tree → List (Step ℕ) → Members → Result (List (Step ℕ)) ResolveFault
  resolved_members declared x before no_members = Ok before
  resolved_members declared x before (a_member low high rest) =
      if_resolved (λ m. resolved_members declared x (before ++ record { op = Or; term = m } ∷ []) rest)
      (if_resolved (λ l. if_resolved (λ h. Ok (member_by (is_single low high) x l h)) (resolved_term declared high)) (resolved_term declared low))

-- a member of a membership of x
abbrev pub resolved_member : Declared → Tree → Syntax → Syntax → Result Tree ResolveFault
resolved_member declared x low high = if_resolved (λ l. if_resolved (λ h. Ok (member_by (is_single low high) x l h)) (resolved_term declared high))
    (resolved_term declared low)
