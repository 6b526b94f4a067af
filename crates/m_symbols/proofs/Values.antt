-- The last pair with an attribute, one pair at a time.
use Rattle.std.proofs.Common.{◌≡◌, ℕ, ◌+◌, ◌<◌, zero, suc, Bool, true, false, cond, List, [], ◌∷◌, length, drop, get_or, Option, Some, None, refl, sym, ap, ◌∙◌}
use Rattle.std.proofs.Common.{subst, add-one, arith}
use Rattle.std.specs.Prelude.{ℤ}
use Rattle.std.specs.Option.{option_or}
use Rattle.std.specs.Str.{bytes_eq}
use Rattle.std.proofs.Math.Seq.{drop-cons}
use Rattle.m_symbols.specs.Kinds.{last_value}

later : (x last : Option ℤ) (b : Bool) (value : ℤ) → option_or (option_or x (cond b (Some value) None)) last ≡ option_or x (cond b (Some value) last)
later (Some v) last b value = refl
later None last true value = refl
later None last false value = refl

-- with one more pair
pub kept : (a : List ℕ) (ps : List (List ℕ × ℤ)) (i : ℕ) (pair : List ℕ × ℤ) (b : Bool) (last next all : Option ℤ) → i < length ps → pair ≡ get_or ps i pair
    → bytes_eq a pair.0 ≡ b → next ≡ cond b (Some pair.1) last
    → option_or (last_value a (drop i ps)) last ≡ all → option_or (last_value a (drop (i + 1) ps)) next ≡ all
kept a ps i pair b last next all l at e n h =
    let front : drop i ps ≡ pair ∷ drop (i + 1) ps = (let one : suc i ≡ i + 1 = omega arith in drop-cons ps i pair l ∙ (λ k. sym at k ∷ drop (one k) ps)) in
    ap (option_or (last_value a (drop (i + 1) ps))) n
    ∙ sym (later (last_value a (drop (i + 1) ps)) last b pair.1)
    ∙ ap (λ t. option_or (option_or (last_value a (drop (i + 1) ps)) (cond t (Some pair.1) None)) last) (sym e)
    ∙ ap (λ l. option_or (last_value a l) last) (sym front)
    ∙ h
