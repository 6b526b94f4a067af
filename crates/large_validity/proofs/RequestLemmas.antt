-- The requested cells of the base of `large N`, and its cost.
use Rattle.std.proofs.Common.{◌≡◌, ◌≢◌, ℕ, zero, suc, ◌+◌, ◌-◌, ◌*◌, ◌<◌, ◌≤◌, ◌==◌, false, cond, ◌&&◌, List, [], ◌∷◌, ◌++◌, codes, decimal, length, Some, None}
use Rattle.std.proofs.Common.{Ok, refl, ap, ◌∙◌, arith}
use Rattle.std.specs.List.{AllByRecursion, sum_by}
use Rattle.std.proofs.lemmas.Bool.{ne_eqb}
use Rattle.std.proofs.lemmas.List.Sums.{sum_by-cons, sum_by-append}
use Rattle.m_text.specs.Pieces.{joined, new_line}
use Rattle.m_places.specs.declared.place.Place.{Place}
use Rattle.m_places.specs.declared.limits.TheConstants.{DRIVER_WEIGHT}
use Rattle.m_text.specs.Bytes.{IsDigit}
use Rattle.m_text.proofs.Fronts.{all_weaker}
use Rattle.std.specs.Option.{option_and_then}
use Rattle.m_ast.specs.Items.{variable_size}
use Rattle.m_text.specs.Lines.{lines_of, onto_first, begins_with_feed}
use Rattle.m_symbols.specs.Declarations.{Declared}
use Rattle.m_text.specs.Parts.{with_first}
use Rattle.m_symbols.specs.Cells.{split_at_bracket, request_cell, named_cell, cell_by}
use Rattle.m_symbols.specs.Requests.{parsed_lines, few, parsed_requests}
use Rattle.driver_core.specs.Weights.{definition_weight, check_weight, base_weight, weight_of}
use Rattle.m_compile.specs.Sources.{running}
use Rattle.large_validity.proofs.Numerals.{whole_decimal}
use Rattle.large_validity.proofs.Names.{sum_name}
use Rattle.large_validity.proofs.Pieces.{after}
use Rattle.large_validity.proofs.Lines.{declared_after, rules_after, numbered_line}
use Rattle.large_validity.proofs.Variables.{declared}
use Rattle.large_validity.proofs.Found.{sum_found}
use Rattle.large_validity.proofs.Base.{numbered_cell, first_cell, cell_definitions, base_of}

-- ---- the requested cells

-- bytes other than the ends of lines
abbrev IsInside : ℕ → Type 0
IsInside b = (b ≢ 10) × (b ≢ 13)

one_line : (t : List ℕ) → AllByRecursion IsInside t → lines_of (t ++ 10 ∷ []) ≡ t ∷ []
one_line [] h = refl
one_line (b ∷ t) h =
    ap (λ c. cond c ([] ∷ lines_of (t ++ 10 ∷ [])) (lines_after b t)) (ne_eqb b 10 h.0.0)
    ∙ ap (λ c. cond (c && begins_with_feed (t ++ 10 ∷ [])) (lines_of (t ++ 10 ∷ [])) (onto_first b (lines_of (t ++ 10 ∷ [])))) (ne_eqb b 13 h.0.1)
    ∙ ap (onto_first b) (one_line t h.1)
  where
    lines_after : ℕ → List ℕ → List (List ℕ)
    lines_after b t = cond ((b == 13) && begins_with_feed (t ++ 10 ∷ [])) (lines_of (t ++ 10 ∷ [])) (onto_first b (lines_of (t ++ 10 ∷ [])))

digits_inside : (d : List ℕ) → AllByRecursion IsDigit d → AllByRecursion IsInside d
digits_inside = all_weaker IsDigit IsInside (λ b h. ((λ e. omega arith), (λ e. omega arith)))

no_bracket : (d : List ℕ) → AllByRecursion IsDigit d → split_at_bracket d ≡ (d, None)
no_bracket [] h = refl
no_bracket (b ∷ d) h =
    let e : (b == 91) ≡ false = ne_eqb b 91 (λ e. let m = h.0.1 in omega arith) in
    ap (λ c. cond c ([], Some d) (with_first b (split_at_bracket d))) e ∙ ap (with_first b) (no_bracket d h.1)

sum_split : (d : List ℕ) → AllByRecursion IsDigit d → split_at_bracket (84 ∷ d) ≡ (84 ∷ d, None)
sum_split d h = ap (with_first 84) (no_bracket d h)

requested_cell : (p : Place) (n k : ℕ) → k < n → n ≤ 100000 → request_cell (declared p n) (sum_name k) ≡ Some (k + k + 1)
requested_cell p n k l h =
    ap (named_cell (declared p n)) (sum_split (decimal k) (whole_decimal k (omega arith)).are.1)
    ∙ ap (option_and_then (λ v. cell_by None (variable_size v.item) v.first_cell)) (sum_found p n k l h)

one_stated : (d : Declared) (b : ℕ) (t : List ℕ) (c : ℕ) → request_cell d (b ∷ t) ≡ Some c → parsed_lines d 1 [] ((b ∷ t) ∷ []) ≡ Ok (c ∷ [])
one_stated d b t c e =
    let some : (length (b ∷ t) == 0) ≡ false = ne_eqb (length (b ∷ t)) 0 (λ e. omega arith) in
    rw (some, e) refl

-- The last of the sums is requested.
pub base_requested : (p : Place) (n : ℕ) → 1 ≤ n → n ≤ 100000
    → parsed_requests (Some (joined (codes "T" ∷ decimal (n - 1) ∷ new_line ∷ []))) (declared p n) ≡ Ok ((n - 1 + (n - 1) + 1) ∷ [])
base_requested p n some less =
    let d = decimal (n - 1) in
    let digits = (whole_decimal (n - 1) (omega arith)).are.1 in
    ap (λ lines. few (parsed_lines (declared p n) 1 [] lines)) (one_line (84 ∷ d) (((λ e. omega arith), (λ e. omega arith)), digits_inside d digits))
    ∙ ap few (one_stated (declared p n) 84 d (n - 1 + (n - 1) + 1) (requested_cell p n (n - 1) (omega arith) less))

-- ---- the cost

ruled_weight : (q : Place) (n : ℕ) → sum_by definition_weight (cell_definitions q n) ≡ 8 * n
ruled_weight q zero = refl
ruled_weight q (suc j) =
    let r = after q (numbered_line j) in
    let a = sum_by-cons definition_weight (numbered_cell q j) (cell_definitions r j) in
    let b : definition_weight (numbered_cell q j) ≡ 8 = refl in
    let c = ruled_weight r j in
    omega arith

-- The cost is within the limit.
pub base_light : (p : Place) (n : ℕ) → n ≤ 100000 → (requests : List ℕ) → weight_of (running None requests (declared p n)) (base_of p n) ≤ DRIVER_WEIGHT
base_light p n h requests =
    let q = declared_after p n in
    let r = rules_after q (n - 1) in
    let a = sum_by-append definition_weight (cell_definitions q (n - 1)) (first_cell r ∷ []) in
    let b = ruled_weight q (n - 1) in
    let c : sum_by definition_weight (first_cell r ∷ []) ≡ 6 = refl in
    let d : sum_by check_weight (base_of p n).checks ≡ 4 = refl in
    let e : base_weight (base_of p n) ≤ 2000000 = omega arith in
    let f : weight_of (running None requests (declared p n)) (base_of p n) ≡ base_weight (base_of p n) + 0 = refl in
    omega arith
