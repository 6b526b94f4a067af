-- Properties of a source's declarations, and of the base of its rules.
use Rattle.std.proofs.Common.{◌≡◌, ◌≢◌, ℕ, ◌<◌, List, [], ◌∷◌, ◌++◌, length, codes, decimal, Some, ◌≤◌, ap, sym, subst, inl, inr, arith}
use Rattle.std.specs.Prelude.{IfSome}
use Rattle.std.specs.List.{AllByRecursion}
use Rattle.std.proofs.lemmas.Fmt.{decimal_is_IsNumeral}
use Rattle.std.proofs.lemmas.Str.Parse.{digit_from_value}
use Rattle.std.specs.Str.Parse.{AllDigits}
use Rattle.m_text.specs.Bytes.{IsLetter, IsWordByte}
use Rattle.m_text.proofs.Fronts.{all_weaker, all_both}
use Rattle.m_places.specs.declared.limits.TheConstants.{TABLE_CELLS}
use Rattle.m_names.specs.Names.{AreDistinct}
use Rattle.m_places.specs.declared.source.Source.{Source}
use Rattle.m_ast.specs.Items.{variables_of, variable_size}
use Rattle.m_symbols.specs.declared.variable.Variable.{Variable}
use Rattle.m_symbols.specs.Declarations.{Declared, names_of, owners_from}
use Rattle.m_symbols.specs.Cells.{cell_name, request_cell}
use Rattle.index_expand.specs.Expansion.{expansion}
use Rattle.micro_m.specs.declared.base.Base.{Base}
use Rattle.rule_base.proofs.Steps.{declared_placed, resolved_cells}
use Rattle.code_file.specs.Printable.{IsPlainName, IsCellName}
use Rattle.m_compile.specs.Sources.{HasRules}
use Rattle.m_compile.proofs.Distinct.{distinct_names}
use Rattle.m_compile.proofs.words.Items.{files_worded}
use Rattle.m_compile.proofs.words.Declared.{IsGood, items_good, variables_good}
use Rattle.m_compile.proofs.words.Names.{cell_named}
use Rattle.report_laws.specs.Readable.{IsInside}
use Rattle.report_laws.proofs.Named.{IsNoBracket, IsNameable, cell_back, requested_below}
use Rattle.report_laws.proofs.Items.{files_meaning}
use Rattle.report_laws.proofs.Expanded.{definitions_mean}
use Rattle.report_laws.proofs.Resolved.{IsMade, base_made}
use Rattle.report_laws.proofs.Starts.{AreOfAmount, declared_amounts}

-- ---- bytes of names

letter_within : (b : ℕ) → IsLetter b → (48 ≤ b) × (b ≤ 122) × (b ≢ 91)
letter_within b (inl h) = let l = h.0 in let u = h.1 in (omega (arith, l), omega (arith, u), λ e. absurd (omega (arith, e, u)))
letter_within b (inr h) = let l = h.0 in let u = h.1 in (omega (arith, l), omega (arith, u), λ e. absurd (omega (arith, e, l)))

byte_within : (b : ℕ) → IsWordByte b → (48 ≤ b) × (b ≤ 122) × (b ≢ 91)
byte_within b (inl h) = letter_within b h
byte_within b (inr (inl h)) = let l = h.0 in let u = h.1 in (omega (arith, l), omega (arith, u), λ e. absurd (omega (arith, e, u)))
byte_within b (inr (inr e)) = (omega (arith, e), omega (arith, e), λ f. absurd (omega (arith, e, f)))

above_inside : (b : ℕ) → 48 ≤ b → IsInside b
above_inside b l = (λ e. absurd (omega (arith, e, l)), λ e. absurd (omega (arith, e, l)))

word_inside : (name : List ℕ) → IsPlainName name → AllByRecursion IsInside name
word_inside name h = all_weaker IsWordByte IsInside (λ b k. above_inside b (byte_within b k).0) name h.0.0.0

word_without : (name : List ℕ) → IsPlainName name → AllByRecursion IsNoBracket name
word_without name h = all_weaker IsWordByte IsNoBracket (λ b k. (byte_within b k).2) name h.0.0.0

digits_inside : (ds : List ℕ) → AllDigits 10 ds → AllByRecursion IsInside ds
digits_inside [] h = tt
digits_inside (d ∷ ds) h = (above_inside d (digit_from_value d h.0).0, digits_inside ds h.1)

-- ---- names of cells

name_inside : (name : List ℕ) → IsCellName name → AllByRecursion IsInside name
name_inside name (inl h) = word_inside name h
name_inside name (inr (word, k, h, low, e)) =
    let opening : AllByRecursion IsInside (codes "[") = (above_inside 91 (omega arith), tt) in
    let closing : AllByRecursion IsInside (codes "]") = (above_inside 93 (omega arith), tt) in
    let digits = digits_inside (decimal k) (decimal_is_IsNumeral k (omega (arith, low))).0.1 in
    subst (AllByRecursion IsInside) (sym e)
    (all_both IsInside word (codes "[" ++ (decimal k ++ (codes "]" ++ []))) (word_inside word h)
    (all_both IsInside (codes "[") (decimal k ++ (codes "]" ++ [])) opening (all_both IsInside (decimal k) (codes "]" ++ []) digits closing)))

nameable : (vs : List Variable) → AllByRecursion (λ (v : Variable). IsGood v.item) vs → AllByRecursion (λ (v : Variable). IsNameable v.item) vs
nameable [] h = tt
nameable (v ∷ vs) h = ((word_without v.item.name h.0.0.0, h.0.1), nameable vs h.1)

few_cells : (vs : List Variable) → AllByRecursion (λ (v : Variable). IsGood v.item) vs
    → AllByRecursion (λ (v : Variable). IfSome (variable_size v.item) (λ size. size ≤ TABLE_CELLS)) vs
few_cells [] h = tt
few_cells (v ∷ vs) h = (h.0.1, few_cells vs h.1)

-- ---- the whole

-- A source's declarations and base: printed names of cells resolve to them and have plain bytes, and the literals and
-- constants are amounts.
pub record IsOfRules (declared : Declared) (base : Base) : Type 0 where
  pub named : (c : ℕ) → c < base.cells → request_cell declared (cell_name declared c) ≡ Some c
  pub inside : (c : ℕ) → c < base.cells → AllByRecursion IsInside (cell_name declared c)
  pub known : (name : List ℕ) (c : ℕ) → request_cell declared name ≡ Some c → c < base.cells
  pub constants : AreOfAmount declared.variables
  pub made : IsMade base

pub of_rules : (source : Source) (declared : Declared) (base : Base) → HasRules source declared base → IsOfRules declared base
of_rules source declared base rules =
    let b = rules.made in
    let items = b.items in
    let worded = files_worded b.declares.stated in
    let says = files_meaning b.declares.stated in
    let faultless = b.declares.faultless in
    let good = subst (λ (d : Declared). AllByRecursion (λ (v : Variable). IsGood v.item) d.variables) (sym b.symbols) (variables_good items worded faultless) in
    let distinct = subst (λ (d : Declared). AreDistinct (names_of d.variables)) (sym b.symbols) (distinct_names items faultless) in
    let placed = declared_placed items declared b.symbols in
    let cells = resolved_cells declared (expansion items source.application declared) base b.resolves in
    let low : (c : ℕ) → c < base.cells → c < length (owners_from 0 declared.variables) = λ c h. subst (λ n. c < n) cells h in
    record {
      named = λ c h. cell_back declared c placed distinct (nameable declared.variables good) (low c h);
      inside = λ c h. name_inside (cell_name declared c)
          (cell_named (variables_of items) declared c (ap (λ (x : Declared). x.variables) b.symbols) (items_good items worded faultless) (low c h));
      known = λ name c wanted. subst (λ n. c < n) (sym cells) (requested_below declared name c placed wanted);
      constants = subst (λ (d : Declared). AreOfAmount d.variables) (sym b.symbols) (declared_amounts items says);
      made = base_made declared (expansion items source.application declared) base placed
          (definitions_mean items source.application declared (few_cells declared.variables good) says) b.resolves;
    }
