-- The cells of a cycle are cells of the base.
use Rattle.std.proofs.Common.{◌≡◌, ℕ, ◌<◌, List, [], ◌∷◌, length, Some, None, All, subst, arith}
use Rattle.std.proofs.lemmas.List.Elements.{All-nil, All-cons}
use Rattle.std.proofs.Math.ListN.{length-map}
use Rattle.std.specs.Option.{IsSomeAnd}
use Rattle.micro_m.specs.Trees.{Tree}
use Rattle.micro_m.specs.declared.base.Base.{Base}
use Rattle.micro_m.specs.Bases.{Definition, targets_of, definition_of, IsValidBase}
use Rattle.micro_m.specs.Reads.{TermReads, Reads, LeadsTo, IsCycle}
use Rattle.micro_m.proofs.PositionLemmas.{definition_of-position}
use Rattle.micro_m.proofs.TurnLemmas.{option_cases}

-- a cell with a definition is one of the base
defined_within : (base : Base) (c : ℕ) (term : Tree) → IsValidBase base → definition_of base c ≡ Some term → c < base.cells
defined_within base c term valid e =
    let k = definition_of-position base c term e in
    let long : length (targets_of base) ≡ length base.definitions = length-map base.definitions (λ (d : Definition). d.0) in
    subst (λ n. n < base.cells) k.2 (valid.targets k.0 0 (omega (arith, long, k.1)))

-- a cell that reads is one of the base
reader_within : (base : Base) (x y : ℕ) → IsValidBase base → Reads base x y → x < base.cells
reader_within base x y valid r = option_cases (definition_of base x)
    (λ (none : definition_of base x ≡ None). absurd (subst (λ o. IsSomeAnd o (λ term. TermReads term y)) none r))
    (λ (term : Tree) (some : definition_of base x ≡ Some term). defined_within base x term valid some)

leads_within : (base : Base) (x : ℕ) (xs : List ℕ) (last : ℕ) → IsValidBase base → LeadsTo (Reads base) x xs last → All (λ c. c < base.cells) (x ∷ xs)
leads_within base x [] last valid l = All-cons (λ c. c < base.cells) x [] (reader_within base x last valid l) (All-nil (λ c. c < base.cells))
leads_within base x (y ∷ ys) last valid l = All-cons (λ c. c < base.cells) x (y ∷ ys) (reader_within base x y valid l.0) (leads_within base y ys last valid l.1)

pub cycle_within : (base : Base) (cells : List ℕ) → IsValidBase base → IsCycle (Reads base) cells → All (λ c. c < base.cells) cells
cycle_within base [] valid c = absurd c
cycle_within base (x ∷ xs) valid c = leads_within base x xs x valid c.1
