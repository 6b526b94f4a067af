-- The facts of inputs with ranges.
use Rattle.std.proofs.Common.{◌≡◌, ℕ, ◌+◌, ◌-◌, ◌<◌, ◌≤◌, zero, suc, List, [], ◌∷◌, length, set, drop, get_or, eqb, true, false, refl, sym, ap, subst, ◌∙◌}
use Rattle.std.proofs.Common.{zero-add, arith}
use Rattle.std.specs.List.{AllByRecursion}
use Rattle.std.proofs.lemmas.Bool.{eq-eqb, ne_eqb, cond-true, cond-false}
use Rattle.std.proofs.lemmas.List.{drop_more}
use Rattle.observables.specs.declared.inputs.Coded.{Coded}
use Rattle.definedness.specs.Facts.{Possible}
use Rattle.input_ranges.specs.Ranges.{fact_within, facts_from, facts_within, type_fact, type_facts}
use Rattle.input_ranges.specs.declared.ranges.InputRange.{InputRange}

-- without ranges the facts are those of the types
none_named : (n : ℕ) (inputs : List Coded) → facts_from [] n inputs ≡ type_facts inputs
none_named n [] = refl
none_named n (input ∷ inputs) = ap (λ (fs : List Possible). type_fact input.kind ∷ fs) (none_named (n + 1) inputs)

pub no_ranges : (inputs : List Coded) → facts_within [] inputs ≡ type_facts inputs
no_ranges inputs = none_named 0 inputs

-- a range of an input before all of these doesn't affect them
skipped : (ranges : List InputRange) (range : InputRange) (n : ℕ) (inputs : List Coded) → range.input < n
    → facts_from (range ∷ ranges) n inputs ≡ facts_from ranges n inputs
skipped ranges range n [] l = refl
skipped ranges range n (input ∷ inputs) l =
    let other : eqb range.input n ≡ false = ne_eqb range.input n (λ same. omega arith) in
    let rest = skipped ranges range (n + 1) inputs (omega arith) in
    λ i. cond-false (eqb range.input n) range.fact (fact_within ranges n input.kind) other i ∷ rest i

-- the fact of a range replaces that of its input
put : (ranges : List InputRange) (range : InputRange) (n k : ℕ) (inputs : List Coded) → range.input ≡ n + k → k < length inputs
    → set (facts_from ranges n inputs) k range.fact ≡ facts_from (range ∷ ranges) n inputs
put ranges range n k [] e l = absurd (omega arith)
put ranges range n zero (input ∷ inputs) e l =
    let same : eqb range.input n ≡ true = eq-eqb range.input n (omega arith) in
    let rest = skipped ranges range (n + 1) inputs (omega arith) in
    λ i. sym (cond-true (eqb range.input n) range.fact (fact_within ranges n input.kind) same) i ∷ sym rest i
put ranges range n (suc k) (input ∷ inputs) e l =
    let other : eqb range.input n ≡ false = ne_eqb range.input n (λ same. omega arith) in
    let rest = put ranges range (n + 1) k inputs (omega arith) (omega arith) in
    λ i. sym (cond-false (eqb range.input n) range.fact (fact_within ranges n input.kind) other) i ∷ rest i

pub one_more : (ranges : List InputRange) (range : InputRange) (inputs : List Coded) → range.input < length inputs
    → set (facts_within ranges inputs) range.input range.fact ≡ facts_within (range ∷ ranges) inputs
one_more ranges range inputs l = put ranges range 0 range.input inputs (sym (zero-add range.input)) l

known_at : (n : ℕ) (ranges : List InputRange) (k : ℕ) (d : InputRange) → AllByRecursion (λ range. range.input < n) ranges → k < length ranges
    → (get_or ranges k d).input < n
known_at n [] k d h l = absurd (omega arith)
known_at n (range ∷ ranges) zero d h l = h.0
known_at n (range ∷ ranges) (suc k) d h l = known_at n ranges k d h.1 (omega arith)

-- the next range, from the last to the first, replaces the fact of its input
pub next_put : (inputs : List Coded) (ranges : List InputRange) (facts : List Possible) (left : ℕ) (range d : InputRange)
    → AllByRecursion (λ r. r.input < length inputs) ranges → 0 < left → left ≤ length ranges
    → range ≡ get_or ranges (left - 1) d → facts ≡ facts_within (drop left ranges) inputs
    → (range.input < length inputs) × (set facts range.input range.fact ≡ facts_within (drop (left - 1) ranges) inputs)
next_put inputs ranges facts left range d known some within read filled =
    let at = left - 1 in
    let next : at + 1 ≡ left = omega arith in
    let at_within : at < length ranges = omega arith in
    let in_range : range.input < length inputs = subst (λ (r : InputRange). r.input < length inputs) (sym read)
    (known_at (length inputs) ranges at d known at_within) in
    let cut : drop at ranges ≡ range ∷ drop left ranges = drop_more ranges at d at_within ∙ (λ i. sym read i ∷ drop (next i) ranges) in (
      in_range,
      ap (λ fs. set fs range.input range.fact) filled ∙ one_more (drop left ranges) range inputs in_range
          ∙ ap (λ rs. facts_within rs inputs) (sym cut),
    )

-- an element that is there is read with any default
pub same_read : (ranges : List InputRange) (k : ℕ) (one other : InputRange) → k < length ranges → get_or ranges k one ≡ get_or ranges k other
same_read [] k one other l = absurd (omega arith)
same_read (range ∷ ranges) zero one other l = refl
same_read (range ∷ ranges) (suc k) one other l = same_read ranges k one other (omega arith)

length_from : (ranges : List InputRange) (n : ℕ) (inputs : List Coded) → length (facts_from ranges n inputs) ≡ length inputs
length_from ranges n [] = refl
length_from ranges n (input ∷ inputs) = ap suc (length_from ranges (n + 1) inputs)

-- there is a fact for each input
pub length_within : (ranges : List InputRange) (inputs : List Coded) → length (facts_within ranges inputs) ≡ length inputs
length_within ranges inputs = length_from ranges 0 inputs
