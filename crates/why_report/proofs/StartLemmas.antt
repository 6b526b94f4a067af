-- The initial environment: its length, the inputs' cells in it, and its change when an input is
-- set.
use Rattle.std.proofs.Common.{◌≡◌, ℕ, zero, suc, ◌+◌, ◌-◌, ◌<◌, ◌≤◌, true, false, cond, List, [], ◌∷◌, ◌++◌, length, get_or, set, drop, slice_get, replicate}
use Rattle.std.proofs.Common.{Some, refl, ap, sym, ◌∙◌, subst, arith}
use Rattle.std.specs.List.{All}
use Rattle.std.proofs.lemmas.List.{length-set, get_or-set_same, get_or-set_other, get_or_default, drop_all}
use Rattle.m_fixed.specs.declared.amount.Value.{Value}
use Rattle.m_fixed.specs.declared.amount.Value.TheVariants.{Undef, Num}
use Rattle.m_ast.specs.declared.variable.Role.{Role}
use Rattle.m_ast.specs.declared.variable.Role.TheVariants.{Input, Computed, Constant}
use Rattle.m_ast.specs.declared.variable.VariableItem.{VariableItem}
use Rattle.m_ast.specs.Items.{is_input, size_in, cells_in}
use Rattle.m_symbols.specs.declared.variable.Variable.{Variable}
use Rattle.m_symbols.specs.Declarations.{Declared, inputs_from, placed_from}
use Rattle.m_symbols.specs.Placed.{items_of, IsPlaced}
use Rattle.rule_order.specs.declared.ordered.Ordered.{Ordered}
use Rattle.why_report.specs.declared.line.ReportLine.{ReportLine}
use Rattle.why_report.specs.Starts.{start_value, input_behind, start_among, start_env, input_cells_among, input_cells, Reporting, with_input, with_lines}
use Rattle.why_report.specs.Starts.{IsStart, begun}

-- ---- lists

append-assoc : (xs ys zs : List Value) → (xs ++ ys) ++ zs ≡ xs ++ (ys ++ zs)
append-assoc [] ys zs = refl
append-assoc (x ∷ xs) ys zs = ap (λ (l : List Value). x ∷ l) (append-assoc xs ys zs)

append-none : {A : Type 0} (xs : List A) → xs ++ [] ≡ xs
append-none [] = refl
append-none (x ∷ xs) = ap (λ l. x ∷ l) (append-none xs)

cells-assoc : (xs ys zs : List ℕ) → (xs ++ ys) ++ zs ≡ xs ++ (ys ++ zs)
cells-assoc [] ys zs = refl
cells-assoc (x ∷ xs) ys zs = ap (λ (l : List ℕ). x ∷ l) (cells-assoc xs ys zs)

set-behind : (k m : ℕ) (x v : Value) (rest : List Value) → set (replicate k x ++ rest) (k + m) v ≡ replicate k x ++ set rest m v
set-behind zero m x v rest = let is : 0 + m ≡ m = omega arith in ap (λ n. set rest n v) is
set-behind (suc k) m x v rest =
    let is : suc k + m ≡ suc (k + m) = omega arith in
    ap (λ n. set (x ∷ (replicate k x ++ rest)) n v) is ∙ ap (λ (l : List Value). x ∷ l) (set-behind k m x v rest)

length-behind : (k : ℕ) (x : Value) (rest : List Value) → length (replicate k x ++ rest) ≡ k + length rest
length-behind zero x rest = omega arith
length-behind (suc k) x rest = ap suc (length-behind k x rest) ∙ (omega arith)

-- ---- no inputs

value-none : (n m : ℕ) (role : Role) → start_value [] n role ≡ start_value [] m role
value-none n m (Input code) = refl
value-none n m (Computed size) = refl
value-none n m (Constant amount) = refl

pub start-none : (n m : ℕ) (vs : List Variable) → start_among [] n vs ≡ start_among [] m vs
start-none n m [] = refl
start-none n m (v ∷ vs) = λ i. replicate v.cells (value-none n m v.item.role i) ++ start-none (input_behind n v.item.role) (input_behind m v.item.role) vs i

undef-all : (k n : ℕ) → get_or (replicate k Undef) n Undef ≡ Undef
undef-all zero n = refl
undef-all (suc k) zero = refl
undef-all (suc k) (suc n) = undef-all k n

value-undef : (k n m : ℕ) (role : Role) → start_value (replicate k Undef) n role ≡ start_value [] m role
value-undef k n m (Input code) = undef-all k n
value-undef k n m (Computed size) = refl
value-undef k n m (Constant amount) = refl

start-undef : (k n m : ℕ) (vs : List Variable) → start_among (replicate k Undef) n vs ≡ start_among [] m vs
start-undef k n m [] = refl
start-undef k n m (v ∷ vs) = λ i. replicate v.cells (value-undef k n m v.item.role i) ++ start-undef k (input_behind n v.item.role) (input_behind m v.item.role)
    vs i

pub env-undef : (declared : Declared) (k : ℕ) → start_env declared (replicate k Undef) ≡ start_env declared []
env-undef declared k = start-undef k 0 0 declared.variables

-- ---- a turn of the loops

variable-at : (vs : List Variable) (n : ℕ) (v : Variable) → n < length vs → slice_get vs n ≡ Some v → drop n vs ≡ v ∷ drop (n + 1) vs
variable-at [] n v low at = absurd (omega arith)
variable-at (w ∷ vs) zero v low at = let e : w ≡ v = cc in ap (λ (x : Variable). x ∷ vs) e
variable-at (w ∷ vs) (suc n) v low at =
    let is : suc n + 1 ≡ suc (n + 1) = omega arith in
    variable-at vs n v (omega arith) at ∙ ap (λ m. v ∷ drop m (w ∷ vs)) (sym is)

pub start-turn : (vs : List Variable) (n : ℕ) (v : Variable) (env added whole : List Value) → n < length vs → slice_get vs n ≡ Some v
    → added ≡ env ++ replicate v.cells (start_value [] 0 v.item.role) → env ++ start_among [] 0 (drop n vs) ≡ whole
    → added ++ start_among [] 0 (drop (n + 1) vs) ≡ whole
start-turn vs n v env added whole low at is so_far =
    let rest : List Variable = drop (n + 1) vs in
    ap (λ (l : List Value). l ++ start_among [] 0 rest) is
    ∙ append-assoc env (replicate v.cells (start_value [] 0 v.item.role)) (start_among [] 0 rest)
    ∙ ap (λ (l : List Value). env ++ (replicate v.cells (start_value [] 0 v.item.role) ++ l)) (start-none 0 (input_behind 0 v.item.role) rest)
    ∙ sym (ap (λ (l : List Variable). env ++ start_among [] 0 l) (variable-at vs n v low at))
    ∙ so_far

pub start-end : (vs : List Variable) (n : ℕ) (env whole : List Value) → length vs ≤ n → env ++ start_among [] 0 (drop n vs) ≡ whole → env ≡ whole
start-end vs n env whole low so_far = sym (append-none env) ∙ sym (ap (λ (l : List Variable). env ++ start_among [] 0 l) (drop_all n vs low)) ∙ so_far

pub cells-taken : (vs : List Variable) (n : ℕ) (v : Variable) (cells whole : List ℕ) → n < length vs → slice_get vs n ≡ Some v → is_input v.item.role ≡ true
    → cells ++ input_cells_among (drop n vs) ≡ whole → (cells ++ v.first_cell ∷ []) ++ input_cells_among (drop (n + 1) vs) ≡ whole
cells-taken vs n v cells whole low at t so_far =
    let rest : List ℕ = input_cells_among (drop (n + 1) vs) in
    cells-assoc cells (v.first_cell ∷ []) rest
    ∙ sym (ap (λ b. cells ++ cond b (v.first_cell ∷ rest) rest) t)
    ∙ sym (ap (λ (l : List Variable). cells ++ input_cells_among l) (variable-at vs n v low at))
    ∙ so_far

pub cells-passed : (vs : List Variable) (n : ℕ) (v : Variable) (cells whole : List ℕ) → n < length vs → slice_get vs n ≡ Some v → is_input v.item.role ≡ false
    → cells ++ input_cells_among (drop n vs) ≡ whole → cells ++ input_cells_among (drop (n + 1) vs) ≡ whole
cells-passed vs n v cells whole low at f so_far =
    let rest : List ℕ = input_cells_among (drop (n + 1) vs) in
    sym (ap (λ b. cells ++ cond b (v.first_cell ∷ rest) rest) f)
    ∙ sym (ap (λ (l : List Variable). cells ++ input_cells_among l) (variable-at vs n v low at))
    ∙ so_far

pub cells-end : (vs : List Variable) (n : ℕ) (cells whole : List ℕ) → length vs ≤ n → cells ++ input_cells_among (drop n vs) ≡ whole → cells ≡ whole
cells-end vs n cells whole low so_far = sym (append-none cells) ∙ sym (ap (λ (l : List Variable). cells ++ input_cells_among l) (drop_all n vs low)) ∙ so_far

-- ---- the cells of the inputs

-- the cells of the inputs among a variable with this role and those after it, and their initial
-- values
abbrev role-cells : Role → ℕ → List VariableItem → List ℕ
role-cells role first items = cond (is_input role) (first ∷ input_cells_among (placed_from (first + cells_in (size_in role)) items))
    (input_cells_among (placed_from (first + cells_in (size_in role)) items))

abbrev role-env : Role → List Value → ℕ → ℕ → List VariableItem → List Value
role-env role inputs n first items = replicate (cells_in (size_in role)) (start_value inputs n role) ++ start_among inputs (input_behind n role)
    (placed_from (first + cells_in (size_in role)) items)

abbrev role-inputs : Role → ℕ → ℕ → List VariableItem → List ℕ
role-inputs role m first items = cond (is_input role) (m ∷ inputs_from (m + 1) (placed_from (first + cells_in (size_in role)) items))
    (inputs_from (m + 1) (placed_from (first + cells_in (size_in role)) items))

abbrev cell-of : ℕ → List VariableItem → ℕ → ℕ
cell-of first items j = get_or (input_cells_among (placed_from first items)) j 0

abbrev count-of : ℕ → List VariableItem → ℕ
count-of first items = length (input_cells_among (placed_from first items))

-- they are as many as the inputs
long-role : (role : Role) (items : List VariableItem) → ((m first : ℕ) → count-of first items ≡ length (inputs_from m (placed_from first items)))
    → (m first : ℕ) → length (role-cells role first items) ≡ length (role-inputs role m first items)
long-role (Input code) items h m first = ap suc (h (m + 1) (first + 1))
long-role (Computed size) items h m first = h (m + 1) (first + cells_in size)
long-role (Constant amount) items h m first = h (m + 1) (first + 1)

long-of : (items : List VariableItem) (m first : ℕ) → count-of first items ≡ length (inputs_from m (placed_from first items))
long-of [] m first = refl
long-of (item ∷ items) m first = long-role item.role items (λ n f. long-of items n f) m first

pub inputs-long : (declared : Declared) → IsPlaced declared → length (input_cells declared) ≡ length (inputs_from 0 declared.variables)
inputs-long declared placed =
    ap (λ (vs : List Variable). length (input_cells_among vs)) placed
    ∙ long-of (items_of declared.variables) 0 0
    ∙ sym (ap (λ (vs : List Variable). length (inputs_from 0 vs)) placed)

-- each is one of the cells
abbrev Bounds : List VariableItem → Type 0
Bounds items = (inputs : List Value) (n first j : ℕ) → j < count-of first items → (first ≤ cell-of first items j)
    × (cell-of first items j < first + length (start_among inputs n (placed_from first items)))

bounds-role : (role : Role) (items : List VariableItem) → Bounds items → (inputs : List Value) (n first j : ℕ) → j < length (role-cells role first items)
    → (first ≤ get_or (role-cells role first items) j 0) × (get_or (role-cells role first items) j 0 < first + length (role-env role inputs n first items))
bounds-role (Input code) items h inputs n first zero low = (omega arith, omega arith)
bounds-role (Input code) items h inputs n first (suc j) low =
    let k = h inputs (n + 1) (first + 1) j (omega arith) in (omega (arith, k.0), omega (arith, k.1))
bounds-role (Computed size) items h inputs n first j low =
    let k = h inputs n (first + cells_in size) j low in
    let long = length-behind (cells_in size) Undef (start_among inputs n (placed_from (first + cells_in size) items)) in
    (omega (arith, k.0), omega (arith, k.1))
bounds-role (Constant amount) items h inputs n first j low =
    let k = h inputs n (first + 1) j low in (omega (arith, k.0), omega (arith, k.1))

bounds-of : (items : List VariableItem) → Bounds items
bounds-of [] inputs n first j low = absurd (omega arith)
bounds-of (item ∷ items) inputs n first j low = bounds-role item.role items (λ is m f i h. bounds-of items is m f i h) inputs n first j low

pub inputs-within : (declared : Declared) (inputs : List Value) → IsPlaced declared → All (λ c. c < length (start_env declared inputs)) (input_cells declared)
inputs-within declared inputs placed =
    subst (λ (vs : List Variable). All (λ c. c < length (start_among inputs 0 vs)) (input_cells_among vs)) (sym placed)
    (λ k d low. let b = bounds-of (items_of declared.variables) inputs 0 0 k low in
    subst (λ c. c < length (start_among inputs 0 (placed_from 0 (items_of declared.variables))))
    (get_or_default (input_cells_among (placed_from 0 (items_of declared.variables))) k 0 d low) (omega (arith, b.1)))

-- ---- an input is set

value-later : (inputs : List Value) (m n : ℕ) (v : Value) (role : Role) → m < n → start_value (set inputs m v) n role ≡ start_value inputs n role
value-later inputs m n v (Input code) low = get_or-set_other inputs m n v Undef (λ e. absurd (omega (arith, e)))
value-later inputs m n v (Computed size) low = refl
value-later inputs m n v (Constant amount) low = refl

behind-least : (m n : ℕ) (role : Role) → m < n → m < input_behind n role
behind-least m n (Input code) low = omega arith
behind-least m n (Computed size) low = low
behind-least m n (Constant amount) low = low

start-later : (inputs : List Value) (m n : ℕ) (v : Value) (vs : List Variable) → m < n → start_among (set inputs m v) n vs ≡ start_among inputs n vs
start-later inputs m n v [] low = refl
start-later inputs m n v (w ∷ vs) low = λ i. replicate w.cells (value-later inputs m n v w.item.role low i) ++ start-later inputs m (input_behind n w.item.role)
    v vs (behind-least m n w.item.role low) i

abbrev Sets : List VariableItem → Type 0
Sets items = (inputs : List Value) (n first j : ℕ) (v : Value) → j < count-of first items → n + j < length inputs
    → set (start_among inputs n (placed_from first items)) (cell-of first items j - first) v ≡ start_among (set inputs (n + j) v) n (placed_from first items)

sets-role : (role : Role) (items : List VariableItem) → Bounds items → Sets items → (inputs : List Value) (n first j : ℕ) (v : Value)
    → j < length (role-cells role first items) → n + j < length inputs
    → set (role-env role inputs n first items) (get_or (role-cells role first items) j 0 - first) v ≡ role-env role (set inputs (n + j) v) n first items
sets-role (Input code) items b h inputs n first zero v low few =
    let none : first - first ≡ 0 = omega arith in
    let same : n + 0 ≡ n = omega arith in
    let rest : List Value = start_among inputs (n + 1) (placed_from (first + 1) items) in
    ap (λ m. set (get_or inputs n Undef ∷ rest) m v) none
    ∙ sym ((λ i. get_or (set inputs (same i) v) n Undef ∷ start_among (set inputs (same i) v) (n + 1) (placed_from (first + 1) items))
    ∙ (λ i. get_or-set_same inputs n v Undef (omega arith) i ∷ start-later inputs n (n + 1) v (placed_from (first + 1) items) (omega arith) i))
sets-role (Input code) items b h inputs n first (suc j) v low few =
    let k = b inputs (n + 1) (first + 1) j (omega arith) in
    let below = k.0 in
    let is : cell-of (first + 1) items j - first ≡ suc (cell-of (first + 1) items j - (first + 1)) = omega arith in
    let next : (n + 1) + j ≡ n + suc j = omega arith in
    let rest : List Value = start_among inputs (n + 1) (placed_from (first + 1) items) in
    ap (λ m. set (get_or inputs n Undef ∷ rest) m v) is
    ∙ (λ i. get_or inputs n Undef ∷ h inputs (n + 1) (first + 1) j v (omega arith) (omega arith) i)
    ∙ (λ i. sym (get_or-set_other inputs (n + suc j) n v Undef (λ e. absurd (omega (arith, e)))) i ∷ start_among (set inputs (next i) v) (n + 1)
    (placed_from (first + 1) items))
sets-role (Computed size) items b h inputs n first j v low few =
    let at : ℕ = first + cells_in size in
    let k = b inputs n at j low in
    let below = k.0 in
    let is : cell-of at items j - first ≡ cells_in size + (cell-of at items j - at) = omega arith in
    let rest : List Value = start_among inputs n (placed_from at items) in
    ap (λ m. set (replicate (cells_in size) Undef ++ rest) m v) is
    ∙ set-behind (cells_in size) (cell-of at items j - at) Undef v rest
    ∙ ap (λ (l : List Value). replicate (cells_in size) Undef ++ l) (h inputs n at j v low few)
sets-role (Constant amount) items b h inputs n first j v low few =
    let at : ℕ = first + 1 in
    let k = b inputs n at j low in
    let below = k.0 in
    let is : cell-of at items j - first ≡ suc (cell-of at items j - at) = omega arith in
    let rest : List Value = start_among inputs n (placed_from at items) in
    ap (λ m. set (Num amount ∷ rest) m v) is
    ∙ ap (λ (l : List Value). Num amount ∷ l) (h inputs n at j v low few)

sets-of : (items : List VariableItem) → Sets items
sets-of [] inputs n first j v low few = absurd (omega arith)
sets-of (item ∷ items) inputs n first j v low few = sets-role item.role items (bounds-of items) (λ is m f i w a c. sets-of items is m f i w a c) inputs n first
    j v low few

start-set : (declared : Declared) (inputs : List Value) (input : ℕ) (v : Value) → IsPlaced declared → length inputs ≡ length (inputs_from 0 declared.variables)
    → input < length inputs → set (start_env declared inputs) (get_or (input_cells declared) input 0) v ≡ start_env declared (set inputs input v)
start-set declared inputs input v placed size low =
    let items : List VariableItem = items_of declared.variables in
    let long : count-of 0 items ≡ length inputs = sym (size ∙ sym (inputs-long declared placed)
    ∙ ap (λ (vs : List Variable). length (input_cells_among vs)) placed) in
    let none : cell-of 0 items input - 0 ≡ cell-of 0 items input = omega arith in
    let same : 0 + input ≡ input = omega arith in
    ap (λ (vs : List Variable). set (start_among inputs 0 vs) (get_or (input_cells_among vs) input 0) v) placed
    ∙ sym (ap (λ m. set (start_among inputs 0 (placed_from 0 items)) m v) none)
    ∙ sets-of items inputs 0 0 input v (omega arith) (omega arith)
    ∙ ap (λ m. start_among (set inputs m v) 0 (placed_from 0 items)) same
    ∙ sym (ap (start_among (set inputs input v) 0) placed)

pub put-start : (declared : Declared) (held : Reporting) (input : ℕ) (v : Value) → input < length held.inputs → IsStart declared held
    → IsStart declared (with_input held input v)
put-start declared held input v low is = record {
  placed = is.placed;
  cells = is.cells;
  size = length-set held.inputs input v ∙ is.size;
  env = ap (λ (env : List Value). set env (get_or held.input_cells input 0) v) is.env
      ∙ ap (λ (cells : List ℕ). set (start_env declared held.inputs) (get_or cells input 0) v) is.cells
      ∙ start-set declared held.inputs input v is.placed is.size low;
}

pub lines-start : (declared : Declared) (held : Reporting) (lines : List ReportLine) → IsStart declared held → IsStart declared (with_lines held lines)
lines-start declared held lines is = record { placed = is.placed; cells = is.cells; size = is.size; env = is.env }

-- ---- a new reporter

abbrev pub held : Ordered → List ℕ → List Value → List Value → Reporting
held ordered cells inputs env = record { ordered = ordered; input_cells = cells; inputs = inputs; env = env; lines = [] }

pub begun-is : (ordered : Ordered) (declared : Declared) (cells : List ℕ) (inputs env : List Value) → IsPlaced declared → cells ≡ input_cells declared
    → inputs ≡ replicate (length cells) Undef → env ≡ start_env declared [] → held ordered cells inputs env ≡ begun ordered declared
begun-is ordered declared cells inputs env placed cells_are inputs_are env_is =
    let k : ℕ = length (inputs_from 0 declared.variables) in
    let long : length cells ≡ k = ap length cells_are ∙ inputs-long declared placed in
    λ i. held ordered (cells_are i) ((inputs_are ∙ ap (λ n. replicate n Undef) long) i) ((env_is ∙ sym (env-undef declared k)) i)

replicate-long : (n : ℕ) → length (replicate n Undef) ≡ n
replicate-long zero = refl
replicate-long (suc n) = ap suc (replicate-long n)

pub begun-start : (ordered : Ordered) (declared : Declared) → IsPlaced declared → IsStart declared (begun ordered declared)
begun-start ordered declared placed = record { placed = placed; cells = refl; size = replicate-long (length (inputs_from 0 declared.variables)); env = refl }

pub begun-within : (declared : Declared) (cells : List ℕ) (env : List Value) → IsPlaced declared → cells ≡ input_cells declared → env ≡ start_env declared []
    → All (λ c. c < length env) cells
begun-within declared cells env placed cells_are env_is =
    subst (λ (xs : List ℕ). All (λ c. c < length env) xs) (sym cells_are)
    (subst (λ (vs : List Value). All (λ c. c < length vs) (input_cells declared)) (sym env_is) (inputs-within declared [] placed))
