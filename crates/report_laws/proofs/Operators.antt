-- The values of operators, terms and cells: if literals and given values are within the bounds of amounts, so are all
-- values.
use Rattle.std.proofs.Common.{◌≡◌, ℕ, zero, suc, ◌+◌, ◌==◌, Bool, true, false, not, cond, nat_lt, nat_le, List, [], ◌∷◌, length, get_or, Option, None, Some, Ok}
use Rattle.std.proofs.Common.{Err, ℤ, pos, negsuc, neg_ℤ, unsigned_abs, refl, ap, arith}
use Rattle.std.specs.Prelude.{IfSome}
use Rattle.std.specs.List.{AllByRecursion}
use Rattle.std.specs.Option.{option_map_or}
use Rattle.std.proofs.lemmas.Int.{ints}
use Rattle.m_fixed.specs.declared.amount.Value.{Value}
use Rattle.m_fixed.specs.declared.amount.Value.TheVariants.{Undef, Num, Over}
use Rattle.m_fixed.specs.declared.operator.Op.{Op}
use Rattle.m_fixed.specs.declared.operator.Op.TheVariants.{Present, Truth, Choose}
use Rattle.m_fixed.specs.declared.read.AmountFault.TheVariants.{TooGreat}
use Rattle.m_fixed.specs.Amounts.{IsAmount, most}
use Rattle.m_fixed.specs.Laws.{IsValue}
use Rattle.m_fixed.specs.Operators.{op_value, of_one, of_two, arity_of, counts_undefined_as_zero, result_of, bounded, chosen, truth, truth_of, is_zero, cut}
use Rattle.observables.proofs.InputLemmas.{read_amount}
use Rattle.micro_m.specs.Trees.{Tree, lit, cell, pick, apply, chain, Trees, none, more, Steps, end, step}
use Rattle.micro_m.specs.declared.table.Picked.TheVariants.{Cell, Fixed}
use Rattle.micro_m.specs.declared.base.Base.{Base}
use Rattle.micro_m.specs.Bases.{Definition, definition_among, definition_of}
use Rattle.micro_m.specs.Values.{Environment, picked_at, picked, picked_value, applied, term_value, argument_values, folded, value_in, value_of}

-- ---- numbers

pub zero_amount : IsAmount (pos 0)
zero_amount = read_amount (Some (pos 0)) (pos 0) refl

unit_amount : IsAmount (pos 1_000_000)
unit_amount = read_amount (Some (pos 1_000_000)) (pos 1_000_000) refl

pub opposite_amount : (z : ℤ) → IsAmount z → IsAmount (neg_ℤ z)
opposite_amount z h = let l = h.low in let u = h.high in record { low = omega (arith, ints, l, u); high = omega (arith, ints, l, u) }

bounded_value : (z : ℤ) → IsValue (bounded z)
bounded_value z = by (nat_le (unsigned_abs z) most) refl
  where
    by : (b : Bool) → nat_le (unsigned_abs z) most ≡ b → IsValue (cond b (Num z) Over)
    by true e = read_amount (Some z) z (ap (λ b. cond b (Ok z) (Err TooGreat)) e)
    by false e = tt

truth_amount : (b : Bool) → IsAmount (truth b)
truth_amount true = unit_amount
truth_amount false = zero_amount

-- ---- operators

one_value : (op : Op) (a : Value) → IsValue (of_one op a)
one_value op Over = tt
one_value Present Undef = zero_amount
one_value _ Undef = tt
one_value op (Num x) = bounded_value (result_of op x (pos 0))

unless_undefined : (b : Bool) (z : ℤ) → IsValue (cond b (bounded z) Undef)
unless_undefined true z = bounded_value z
unless_undefined false z = tt

two_value : (op : Op) (a b : Value) → IsValue (of_two op a b)
two_value op Over b = tt
two_value op Undef Over = tt
two_value op (Num x) Over = tt
two_value op Undef Undef = tt
two_value op Undef (Num y) = unless_undefined (counts_undefined_as_zero op) (result_of op (pos 0) y)
two_value op (Num x) Undef = unless_undefined (counts_undefined_as_zero op) (result_of op x (pos 0))
two_value op (Num x) (Num y) = bounded_value (result_of op x y)

by_arity : (one : Bool) (op : Op) (a b : Value) → IsValue (cond one (of_one op a) (of_two op a b))
by_arity true op a b = one_value op a
by_arity false op a b = two_value op a b

either_value : (b : Bool) (v w : Value) → IsValue v → IsValue w → IsValue (cond b v w)
either_value true v w h k = h
either_value false v w h k = k

chosen_value : (a b c : Value) → IsValue b → IsValue c → IsValue (chosen a b c)
chosen_value Undef b c h k = tt
chosen_value Over b c h k = tt
chosen_value (Num x) b c h k = either_value (is_zero x) c b k h

truth_value : (a : Value) → IsValue (truth_of a)
truth_value (Num x) = truth_amount (not (is_zero x))
truth_value Undef = zero_amount
truth_value Over = zero_amount

pub operator_value : (op : Op) (a b c : Value) → IsValue b → IsValue c → IsValue (op_value op a b c)
unfolding op_value
operator_value Choose a b c h k = chosen_value a b c h k
operator_value Truth a b c h k = truth_value a
operator_value op a b c h k = by_arity (arity_of op == 1) op a b

-- ---- terms

abbrev mutual
  -- each literal of a term is a value of amounts
  pub HasAmounts : Tree → Type 0
  HasAmounts (lit value) = IsValue value
  HasAmounts (cell c) = Unit {0}
  HasAmounts (pick first size index) = HasAmounts index
  HasAmounts (apply op arguments) = HaveAmounts arguments
  HasAmounts (chain first steps) = HasAmounts first × StepsHaveAmounts steps

  pub HaveAmounts : Trees → Type 0
  HaveAmounts none = Unit {0}
  HaveAmounts (more argument rest) = HasAmounts argument × HaveAmounts rest

  pub StepsHaveAmounts : Steps → Type 0
  StepsHaveAmounts end = Unit {0}
  StepsHaveAmounts (step op operand rest) = HasAmounts operand × StepsHaveAmounts rest

-- each cell has a value within the bounds of amounts
abbrev pub AreValues : Environment → Type 0
AreValues values = (c : ℕ) → IsValue (values c)

pub listed_value : (vs : List Value) (k : ℕ) → AllByRecursion IsValue vs → IsValue (get_or vs k Undef)
listed_value [] k h = tt
listed_value (v ∷ vs) zero h = h.0
listed_value (v ∷ vs) (suc k) h = listed_value vs k h.1

picked_cell : (values : Environment) → AreValues values → (first size k : ℕ) (b : Bool)
    → IsValue (picked_value values (cond b (Cell (first + k)) (Fixed Undef)))
picked_cell values e first size k true = e (first + k)
picked_cell values e first size k false = tt

at_index : (values : Environment) → AreValues values → (first size : ℕ) (z : ℤ) → IsValue (picked_value values (picked_at first size z))
at_index values e first size (pos k) = picked_cell values e first size k (nat_lt k size)
at_index values e first size (negsuc k) = zero_amount

pick_value : (values : Environment) → AreValues values → (first size : ℕ) (v : Value) → IsValue (picked_value values (picked first size v))
pick_value values e first size Undef = tt
pick_value values e first size Over = tt
pick_value values e first size (Num z) = at_index values e first size (cut z)

apply_value : (op : Op) (vs : List Value) → AllByRecursion IsValue vs → IsValue (applied op vs)
apply_value op vs h = operator_value op (get_or vs 0 Undef) (get_or vs 1 Undef) (get_or vs 2 Undef) (listed_value vs 1 h) (listed_value vs 2 h)

mutual
  pub value_of_term : (values : Environment) → AreValues values → (t : Tree) → HasAmounts t → IsValue (term_value values t)
  value_of_term values e (lit value) h = h
  value_of_term values e (cell c) h = e c
  value_of_term values e (pick first size index) h = pick_value values e first size (term_value values index)
  value_of_term values e (apply op arguments) h = apply_value op (argument_values values arguments) (values_of_arguments values e arguments h)
  value_of_term values e (chain first steps) h = value_of_steps values e (term_value values first) steps (value_of_term values e first h.0) h.1

  values_of_arguments : (values : Environment) → AreValues values → (ts : Trees) → HaveAmounts ts → AllByRecursion IsValue (argument_values values ts)
  values_of_arguments values e none h = tt
  values_of_arguments values e (more argument rest) h = (value_of_term values e argument h.0, values_of_arguments values e rest h.1)

  value_of_steps : (values : Environment) → AreValues values → (so_far : Value) (steps : Steps) → IsValue so_far → StepsHaveAmounts steps
      → IsValue (folded values so_far steps)
  value_of_steps values e so_far end s h = s
  value_of_steps values e so_far (step op operand rest) s h =
      value_of_steps values e (op_value op so_far (term_value values operand) Undef) rest
      (operator_value op so_far (term_value values operand) Undef (value_of_term values e operand h.0) tt) h.1

-- ---- cells

-- each definition's term has amounts
abbrev pub AreOfAmounts : List Definition → Type 0
AreOfAmounts ds = AllByRecursion (λ d. HasAmounts d.1) ds

among_amounts : (ds : List Definition) (c : ℕ) → AreOfAmounts ds → IfSome (definition_among ds c) HasAmounts
among_amounts [] c h = tt
among_amounts (d ∷ ds) c h = by (c == d.0) (among_amounts ds c h.1)
  where
    by : (b : Bool) → IfSome (definition_among ds c) HasAmounts → IfSome (cond b (Some d.1) (definition_among ds c)) HasAmounts
    by true k = h.0
    by false k = k

by_definition : (values : Environment) → AreValues values → (o : Option Tree) (given : Value) → IfSome o HasAmounts → IsValue given
    → IsValue (option_map_or (term_value values) o given)
by_definition values e None given h g = g
by_definition values e (Some t) given h g = value_of_term values e t h

cell_value_in : (base : Base) (given : Environment) → AreOfAmounts base.definitions → AreValues given → (turns c : ℕ) → IsValue (value_in base given turns c)
cell_value_in base given d g zero c = tt
cell_value_in base given d g (suc turns) c =
    by_definition (value_in base given turns) (λ x. cell_value_in base given d g turns x) (definition_of base c) (given c) (among_amounts base.definitions c d)
    (g c)

-- The value of each cell is within the bounds of amounts, if literals and given values are.
pub cell_value : (base : Base) (given : Environment) → AreOfAmounts base.definitions → AreValues given → (c : ℕ) → IsValue (value_of base given c)
cell_value base given d g c = cell_value_in base given d g (length base.definitions + 1) c
