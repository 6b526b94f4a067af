-- Facts of nodes.
use Rattle.std.proofs.Common.{◌≡◌, ℕ, zero, suc, ◌<◌, ◌≤◌, List, [], ◌∷◌, length, sym, subst, ⊎_elim, arith}
use Rattle.std.specs.Prelude.{slice_index_or}
use Rattle.std.proofs.lemmas.Bool.{cases_lt}
use Rattle.std.proofs.lemmas.List.{get_or_past}
use Rattle.m_fixed.specs.declared.amount.Value.{Value}
use Rattle.m_fixed.specs.declared.amount.Value.TheVariants.{Undef}
use Rattle.definedness.specs.Facts.{Possible, Holds, fact_of_input}
use Rattle.definedness.proofs.FactLaws.{operator_fact_holds, value_fact_holds}
use Rattle.definedness.proofs.ExactFacts.{input_fact_holds}
use Rattle.flat_code.specs.declared.program.Node.{Node}
use Rattle.flat_code.specs.declared.program.Flat.{Flat}
use Rattle.flat_code.specs.declared.program.Node.TheVariants.{Input, Lit, Do}
use Rattle.flat_code.specs.Runs.{values_for, node_values, value_at, IsNode, IsFlat}
use Rattle.flat_code.specs.Entries.{node_at, entry_at}
use Rattle.flat_code.specs.Facts.{facts, facts_with, ArePlain, AreWithin}
use Rattle.flat_code.specs.inner.Renumber.{entry_by, AreValid}
use Rattle.flat_code.proofs.ReadLemmas.{strong, entry-at, are-valid}

-- a plain input has the fact of inputs, and so has an input that is missing
pub plain-holds : (inputs : List Value) (n : ℕ) → ArePlain inputs → Holds fact_of_input (slice_index_or inputs n Undef)
plain-holds [] n plain = input_fact_holds Undef tt (λ e. cc)
plain-holds (v ∷ inputs) zero plain = input_fact_holds v plain.0.amount plain.0.bounded
plain-holds (v ∷ inputs) (suc n) plain = plain-holds inputs n plain.1

-- all plain inputs are within an empty list of facts
pub plain-within : (inputs : List Value) → ArePlain inputs → AreWithin [] inputs
plain-within inputs plain = record { plain = plain; possible = λ n low. absurd (omega (arith, low)) }

-- past the end of the facts an input has the fact of inputs
pub within-holds : (given : List Possible) (inputs : List Value) (n : ℕ) → AreWithin given inputs
    → Holds (slice_index_or given n fact_of_input) (slice_index_or inputs n Undef)
within-holds given inputs n within =
    ⊎_elim
    (λ (low : n < length given). within.possible n low)
    (λ (high : length given ≤ n). subst (λ f. Holds f (slice_index_or inputs n Undef)) (sym (get_or_past given n fact_of_input high))
    (plain-holds inputs n within.plain))
    (cases_lt n (length given))

-- ---- nodes, where the inputs have facts

step-within : (given : List Possible) (inputs : List Value) (fact : ℕ → Possible) (value : ℕ → Value) (count p : ℕ) (node : Node) → AreWithin given inputs
    → IsNode count p node
    → ((q : ℕ) → q < p → Holds (fact q) (value q)) → Holds (entry_by (facts_with given) fact node) (entry_by (values_for inputs) value node)
step-within given inputs fact value count p (Input n) within h all = within-holds given inputs n within
step-within given inputs fact value count p (Lit v) within h all = value_fact_holds v
step-within given inputs fact value count p (Do op a b c) within h all = operator_fact_holds op (fact a) (fact b) (fact c) (value a) (value b) (value c)
    (all a h.0) (all b h.1) (all c h.2)

holds-both : (f g : Possible) (v w : Value) → f ≡ g → v ≡ w → Holds g w → Holds f v
holds-both f g v w e d h = subst (λ f. Holds f v) (sym e) (subst (Holds g) (sym d) h)

pub holds-within : (given : List Possible) (inputs : List Value) (count : ℕ) (nodes : List Node) (p : ℕ) → AreWithin given inputs → AreValid count nodes
    → p < length nodes
    → Holds (entry_at (facts_with given) nodes p) (entry_at (values_for inputs) nodes p)
holds-within given inputs count nodes p within valid = strong (λ p. p < length nodes → Holds (fact p) (value p)) each p
  where
    fact : ℕ → Possible
    fact p = entry_at (facts_with given) nodes p

    value : ℕ → Value
    value p = entry_at (values_for inputs) nodes p

    each : (p : ℕ) → ((q : ℕ) → q < p → q < length nodes → Holds (fact q) (value q)) → p < length nodes → Holds (fact p) (value p)
    each p all lt = holds-both (fact p) (entry_by (facts_with given) fact (node_at nodes p)) (value p) (entry_by (values_for inputs) value (node_at nodes p))
        (entry-at (facts_with given) count nodes p valid lt) (entry-at (values_for inputs) count nodes p valid lt)
        (step-within given inputs fact value count p (node_at nodes p) within (valid p lt) (λ q l. all q l (omega arith)))

pub flat-within : (given : List Possible) (flat : Flat) (inputs : List Value) (p : ℕ) → IsFlat flat → AreWithin given inputs → p < length flat.nodes
    → Holds (entry_at (facts_with given) flat.nodes p) (value_at (node_values inputs flat.nodes) p)
flat-within given flat inputs p h within lt = holds-within given inputs flat.inputs flat.nodes p within (are-valid flat.inputs flat.nodes h.nodes) lt

-- ---- the same where nothing is known of them

pub step-holds : (inputs : List Value) (fact : ℕ → Possible) (value : ℕ → Value) (count p : ℕ) (node : Node) → ArePlain inputs → IsNode count p node
    → ((q : ℕ) → q < p → Holds (fact q) (value q)) → Holds (entry_by facts fact node) (entry_by (values_for inputs) value node)
step-holds inputs fact value count p node plain = step-within [] inputs fact value count p node (plain-within inputs plain)

pub holds-at : (inputs : List Value) (count : ℕ) (nodes : List Node) (p : ℕ) → ArePlain inputs → AreValid count nodes → p < length nodes
    → Holds (entry_at facts nodes p) (entry_at (values_for inputs) nodes p)
holds-at inputs count nodes p plain = holds-within [] inputs count nodes p (plain-within inputs plain)

pub flat-holds : (flat : Flat) (inputs : List Value) (p : ℕ) → IsFlat flat → ArePlain inputs → p < length flat.nodes
    → Holds (entry_at facts flat.nodes p) (value_at (node_values inputs flat.nodes) p)
flat-holds flat inputs p h plain lt = flat-within [] flat inputs p h (plain-within inputs plain) lt
