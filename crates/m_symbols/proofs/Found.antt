-- Look-up of a place by name, and by the name's number.
use Rattle.std.proofs.Common.{◌≡◌, ℕ, ◌+◌, ◌<◌, Bool, true, false, cond, suc, List, [], ◌∷◌, map, length, get_or, Option, Some, None, refl, sym, ap, ◌∙◌}
use Rattle.std.proofs.Common.{add-one, arith}
use Rattle.std.specs.List.{filter_map, cons_option}
use Rattle.std.specs.Option.{option_map}
use Rattle.std.specs.Str.{bytes_eq}
use mathlib.Core.Bool.{◌||◌}
use Rattle.std.proofs.lemmas.Bool.{false≢true}
use Rattle.m_places.specs.declared.place.Place.{Place}
use Rattle.m_ast.specs.declared.variable.Role.{Role}
use Rattle.m_ast.specs.declared.variable.Role.TheVariants.{Input, Computed, Constant}
use Rattle.m_ast.specs.Items.{code_in, is_input}
use Rattle.m_names.specs.Names.{index_of, has}
use Rattle.m_symbols.specs.declared.variable.Variable.{Variable}
use Rattle.m_symbols.specs.Declarations.{codes_of, inputs_from}
use Rattle.m_symbols.specs.Faults.{paired_place, placed_code}

step_none : (b : Bool) (o : Option ℕ) (here : Place) (rest : Option Place) → cond b (Some 0) (option_map (λ i. i + 1) o) ≡ None → (o ≡ None → rest ≡ None)
    → cond b (Some here) rest ≡ None
step_none true o here rest e f = cc
step_none false None here rest e f = f refl
step_none false (Some i) here rest e f = cc

step_some : (b : Bool) (o : Option ℕ) (here : Place) (rest : Option Place) (found : ℕ → Place) (i : ℕ) → cond b (Some 0) (option_map (λ j. j + 1) o) ≡ Some i
    → ((j : ℕ) → o ≡ Some j → rest ≡ Some (found (j + 1))) → found 0 ≡ here → cond b (Some here) rest ≡ Some (found i)
step_some true o here rest found i e f h = cc
step_some false None here rest found i e f h = cc
step_some false (Some j) here rest found i e f h = let k : rest ≡ Some (found (j + 1)) = f j refl in cc

next : {X : Type 0} (x : X) (xs : List X) (j : ℕ) (d : X) → get_or (x ∷ xs) (j + 1) d ≡ get_or xs j d
next x xs j d = rw add-one refl

-- a name without a number has no place
pub beside-none : {X : Type 0} (name : X → List ℕ) (place : X → Place) (n : List ℕ) (xs : List X) → index_of n (map name xs) ≡ None
    → paired_place n (map (λ x. (name x, place x)) xs) ≡ None
beside-none name place n [] e = refl
beside-none name place n (x ∷ xs) e = step_none (bytes_eq n (name x)) (index_of n (map name xs)) (place x) (paired_place n (map (λ y. (name y, place y)) xs)) e
    (beside-none name place n xs)

-- the place of a name with a number is that of the element with the number
pub beside-some : {X : Type 0} (name : X → List ℕ) (place : X → Place) (n : List ℕ) (xs : List X) (i : ℕ) (d : X) → index_of n (map name xs) ≡ Some i
    → paired_place n (map (λ x. (name x, place x)) xs) ≡ Some (place (get_or xs i d))
beside-some name place n [] i d e = cc
beside-some name place n (x ∷ xs) i d e =
    step_some (bytes_eq n (name x)) (index_of n (map name xs)) (place x) (paired_place n (map (λ y. (name y, place y)) xs)) (λ k. place (get_or (x ∷ xs) k d)) i
    e
    (λ j h. beside-some name place n xs j d h ∙ ap (λ y. Some (place y)) (sym (next x xs j d)))
    refl

-- a name without a place isn't in the list
unplaced : (b : Bool) (here : Place) (rest : Option Place) (others : Bool) → cond b (Some here) rest ≡ None → (rest ≡ None → others ≡ false)
    → (b || others) ≡ false
unplaced true here rest others e f = cc
unplaced false here rest others e f = f e

pub has-none : {X : Type 0} (name : X → List ℕ) (place : X → Place) (n : List ℕ) (xs : List X) → paired_place n (map (λ x. (name x, place x)) xs) ≡ None
    → has n (map name xs) ≡ false
has-none name place n [] e = refl
has-none name place n (x ∷ xs) e =
    unplaced (bytes_eq n (name x)) (place x) (paired_place n (map (λ y. (name y, place y)) xs)) (has n (map name xs)) e (has-none name place n xs)

-- the same for codes: a variable that isn't an input has none
code_step_none : (r : Role) (here : Place) (codes : List (List ℕ)) (placed : List (List ℕ × Place)) (n : List ℕ)
    → index_of n (cons_option (code_in r) codes) ≡ None → (index_of n codes ≡ None → paired_place n placed ≡ None)
    → paired_place n (cons_option (option_map (λ c. (c, here)) (code_in r)) placed) ≡ None
code_step_none (Input code) here codes placed n e f = step_none (bytes_eq n code) (index_of n codes) here (paired_place n placed) e f
code_step_none (Computed size) here codes placed n e f = f e
code_step_none (Constant amount) here codes placed n e f = f e

pub code-none : (n : List ℕ) (vs : List Variable) → index_of n (codes_of vs) ≡ None → paired_place n (filter_map placed_code vs) ≡ None
code-none n [] e = refl
code-none n (v ∷ vs) e = code_step_none v.item.role v.item.place (codes_of vs) (filter_map placed_code vs) n e (code-none n vs)

code_step_some : (r : Role) (here : Place) (number : ℕ) (codes : List (List ℕ)) (inputs : List ℕ) (placed : List (List ℕ × Place)) (n : List ℕ) (i : ℕ)
    (found : ℕ → Place) → index_of n (cons_option (code_in r) codes) ≡ Some i
    → ((j : ℕ) → index_of n codes ≡ Some j → paired_place n placed ≡ Some (found (get_or inputs j 0))) → found number ≡ here
    → paired_place n (cons_option (option_map (λ c. (c, here)) (code_in r)) placed) ≡ Some (found (get_or (cond (is_input r) (number ∷ inputs) inputs) i 0))
code_step_some (Input code) here number codes inputs placed n i found e f h =
    step_some (bytes_eq n code) (index_of n codes) here (paired_place n placed) (λ k. found (get_or (number ∷ inputs) k 0)) i e
    (λ j g. f j g ∙ ap (λ y. Some (found y)) (sym (next number inputs j 0)))
    h
code_step_some (Computed size) here number codes inputs placed n i found e f h = f i e
code_step_some (Constant amount) here number codes inputs placed n i found e f h = f i e

code_found : (all : List Variable) (d : Variable) (start : ℕ) (n : List ℕ) (vs : List Variable) (i : ℕ) → ((j : ℕ) → get_or all (start + j) d ≡ get_or vs j d)
    → index_of n (codes_of vs) ≡ Some i
    → paired_place n (filter_map placed_code vs) ≡ Some ((get_or all (get_or (inputs_from start vs) i 0) d).item.place)
code_found all d start n [] i at e = cc
code_found all d start n (v ∷ vs) i at e =
    code_step_some v.item.role v.item.place start (codes_of vs) (inputs_from (start + 1) vs) (filter_map placed_code vs) n i (λ k. (get_or all k d).item.place)
    e
    (λ j g. code_found all d (start + 1) n vs j (λ k. let shift : start + 1 + k ≡ start + (k + 1) = omega arith in ap (λ m. get_or all m d) shift ∙ at (k + 1)
    ∙ next v vs k d) g)
    (let here : start ≡ start + 0 = omega arith in ap (λ m. (get_or all m d).item.place) here ∙ ap (λ (w : Variable). w.item.place) (at 0))

-- the place of a code with a number is that of the variable of the input with the number
pub code-some : (n : List ℕ) (vs : List Variable) (i : ℕ) (d : Variable) → index_of n (codes_of vs) ≡ Some i
    → paired_place n (filter_map placed_code vs) ≡ Some ((get_or vs (get_or (inputs_from 0 vs) i 0) d).item.place)
code-some n vs i d e = code_found vs d 0 n vs i (λ j. let same : 0 + j ≡ j = omega arith in ap (λ m. get_or vs m d) same) e

unplaced_code : (r : Role) (here : Place) (codes : List (List ℕ)) (placed : List (List ℕ × Place)) (n : List ℕ)
    → paired_place n (cons_option (option_map (λ c. (c, here)) (code_in r)) placed) ≡ None → (paired_place n placed ≡ None → has n codes ≡ false)
    → has n (cons_option (code_in r) codes) ≡ false
unplaced_code (Input code) here codes placed n e f = unplaced (bytes_eq n code) here (paired_place n placed) (has n codes) e f
unplaced_code (Computed size) here codes placed n e f = f e
unplaced_code (Constant amount) here codes placed n e f = f e

pub has_code-none : (n : List ℕ) (vs : List Variable) → paired_place n (filter_map placed_code vs) ≡ None → has n (codes_of vs) ≡ false
has_code-none n [] e = refl
has_code-none n (v ∷ vs) e = unplaced_code v.item.role v.item.place (codes_of vs) (filter_map placed_code vs) n e (has_code-none n vs)
