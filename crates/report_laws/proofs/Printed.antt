-- Printed lines parse to these lines.
use Rattle.std.proofs.Common.{◌≡◌, ℕ, ◌+◌, ◌==◌, Bool, true, false, not, cond, ◌&&◌, true≢false, List, [], ◌∷◌, ◌++◌, Option, Some, ℤ, Result, Ok, Err, codes}
use Rattle.std.proofs.Common.{refl, sym, ap, ◌∙◌, subst, append_assoc, append-nil, ne_eqb, arith}
use Rattle.std.specs.Prelude.{IsTrue}
use Rattle.std.specs.List.{list_all, AllByRecursion}
use Rattle.std.specs.Option.{option_map, option_map_or, option_and_then}
use Rattle.std.specs.Char.{is_ascii_digit}
use Rattle.std.specs.Str.{bytes_eq}
use Rattle.m_fixed.specs.declared.amount.Value.{Value}
use Rattle.m_fixed.specs.declared.amount.Value.TheVariants.{Undef, Num, Over}
use Rattle.m_fixed.specs.Text.{printed, only_digits, is_digits, point, minus}
use Rattle.m_fixed.specs.Laws.{IsValue, SpellsNumber, whole, decimal, SpellsAmount, plain, below_zero}
use Rattle.m_fixed.proofs.Decimals.{digit_from_test, both}
use Rattle.m_fixed.proofs.Grammar.{amount_spelled}
use Rattle.m_fixed.proofs.ReadsBack.{reads_back, is_read}
use Rattle.m_text.specs.Lines.{onto_first, exact_lines_of}
use Rattle.m_text.proofs.Fronts.{all_weaker, all_both}
use Rattle.m_symbols.specs.Declarations.{Declared}
use Rattle.m_text.specs.Parts.{with_first}
use Rattle.m_symbols.specs.Cells.{cell_name}
use Rattle.tax_print.specs.Lines.{value_line}
use Rattle.why_report.specs.declared.fault.ReportFault.{ReportFault}
use Rattle.why_report.specs.declared.fault.ReportFault.TheVariants.{BadLine}
use Rattle.why_report.specs.declared.line.ReportLine.{ReportLine}
use Rattle.why_report.specs.Reports.{report_text, split_at_space, amount_value, parsed_value, cell_with, parsed_parts, parsed_line, ends_report, parsed_lines}
use Rattle.why_report.specs.Reports.{parsed_report}
use Rattle.why_session.specs.Explains.{report_lines_of}
use Rattle.report_laws.specs.Readable.{IsInside, CanBeRead}

-- ---- bytes other than a line feed

abbrev GoesOn : ℕ → Type 0
GoesOn b = b ≡ 10 → ⊥

abbrev goes_on : ℕ → Bool
goes_on b = not (b == 10)

-- the bytes of a literal text
word_goes_on : (text : List ℕ) → list_all goes_on text ≡ true → AllByRecursion GoesOn text
word_goes_on [] h = tt
word_goes_on (b ∷ text) h =
    let p = both (goes_on b) (list_all goes_on text) h in
    (λ (e : b ≡ 10). true≢false (sym (subst (λ n. not (n == 10) ≡ true) e p.0)), word_goes_on text p.1)

inside_goes_on : (text : List ℕ) → AllByRecursion IsInside text → AllByRecursion GoesOn text
inside_goes_on = all_weaker IsInside GoesOn (λ b h. h.1)

digits_go_on : (ds : List ℕ) → IsTrue (only_digits ds) → AllByRecursion GoesOn ds
digits_go_on [] h = tt
digits_go_on (d ∷ ds) h =
    let p = both (is_ascii_digit d) (only_digits ds) h in
    let r = digit_from_test d p.0 in
    (λ e. absurd (omega (arith, e, r.0, r.1)), digits_go_on ds p.1)

spelled_digits : (ds : List ℕ) → IsTrue (is_digits ds) → AllByRecursion GoesOn ds
spelled_digits ds h = digits_go_on ds (both (only_digits ds) _ h).0

number_goes_on : (text : List ℕ) (n : ℕ) → SpellsNumber text n → AllByRecursion GoesOn text
number_goes_on text n (whole ds h et en) = subst (AllByRecursion GoesOn) (sym et) (spelled_digits ds h)
number_goes_on text n (decimal ds fs h k et en) =
    subst (AllByRecursion GoesOn) (sym et) (all_both GoesOn ds (point ∷ fs) (spelled_digits ds h) ((word_goes_on (point ∷ []) refl).0, spelled_digits fs k))

amount_goes_on : (text : List ℕ) (z : ℤ) → SpellsAmount text z → AllByRecursion GoesOn text
amount_goes_on text z (plain n s e) = number_goes_on text n s
amount_goes_on text z (below_zero number n et s e) = subst (AllByRecursion GoesOn) (sym et) ((word_goes_on (minus ∷ []) refl).0, number_goes_on number n s)

-- ---- the value after a name and a space

abbrev stated_text : Value → List ℕ
stated_text Undef = codes "undefined"
stated_text (Num z) = 61 ∷ 32 ∷ printed z
stated_text Over = codes "over"

stated_goes_on : (v : Value) → IsValue v → AllByRecursion GoesOn (stated_text v)
stated_goes_on Undef h = word_goes_on (codes "undefined") refl
stated_goes_on (Num z) h = all_both GoesOn (61 ∷ 32 ∷ []) (printed z) (word_goes_on (61 ∷ 32 ∷ []) refl)
    (amount_goes_on (printed z) z (amount_spelled (printed z) z (reads_back z h)))
stated_goes_on Over h = word_goes_on (codes "over") refl

stated_back : (v : Value) → IsValue v → parsed_value (stated_text v) ≡ Some v
stated_back Undef h = refl
stated_back (Num z) h = ap amount_value (is_read z h)
stated_back Over h = refl

-- a line before its line feed
abbrev body : List ℕ → Value → List ℕ
body name v = name ++ 32 ∷ stated_text v

line_parts : (name : List ℕ) (v : Value) → value_line name v ≡ body name v ++ 10 ∷ []
line_parts name Undef = sym (append_assoc name (32 ∷ stated_text Undef) (10 ∷ []))
line_parts name (Num z) = sym (append_assoc name (32 ∷ stated_text (Num z)) (10 ∷ []))
line_parts name Over = sym (append_assoc name (32 ∷ stated_text Over) (10 ∷ []))

body_goes_on : (name : List ℕ) (v : Value) → AllByRecursion IsInside name → IsValue v → AllByRecursion GoesOn (body name v)
body_goes_on name v h k = all_both GoesOn name (32 ∷ stated_text v) (inside_goes_on name h)
    (all_both GoesOn (32 ∷ []) (stated_text v) (word_goes_on (32 ∷ []) refl) (stated_goes_on v k))

-- ---- one line

first_line : (text rest : List ℕ) → AllByRecursion GoesOn text → exact_lines_of (text ++ 10 ∷ rest) ≡ text ∷ exact_lines_of rest
first_line [] rest h = refl
first_line (b ∷ text) rest h =
    ap (λ lines. cond (b == 10) ([] ∷ lines) (onto_first b lines)) (first_line text rest h.1)
    ∙ ap (λ t. cond t ([] ∷ text ∷ exact_lines_of rest) (onto_first b (text ∷ exact_lines_of rest))) (ne_eqb b 10 h.0)

split_name : (name text : List ℕ) → AllByRecursion IsInside name → split_at_space (name ++ 32 ∷ text) ≡ (name, Some text)
split_name [] text h = refl
split_name (b ∷ name) text h =
    ap (λ t. cond t ([], Some (name ++ 32 ∷ text)) (with_first b (split_at_space (name ++ 32 ∷ text)))) (ne_eqb b 32 h.0.0)
    ∙ ap (with_first b) (split_name name text h.1)

stated_line : (declared : Declared) (line : ReportLine) → CanBeRead declared line → parsed_line declared (body (cell_name declared line.cell) line.value) ≡ Some
    line
stated_line declared line can =
    let name : List ℕ = cell_name declared line.cell in
    ap (parsed_parts declared) (split_name name (stated_text line.value) can.inside)
    ∙ ap (option_and_then (cell_with declared name)) (stated_back line.value can.value)
    ∙ ap (option_map (λ c. record { cell = c; value = line.value })) can.named

-- a line with a space isn't the point at the end
and_false : (a : Bool) → (a && false) ≡ false
and_false true = refl
and_false false = refl

no_point : (name text : List ℕ) → bytes_eq (name ++ 32 ∷ text) (46 ∷ []) ≡ false
no_point [] text = refl
no_point (a ∷ []) text = and_false (a == 46)
no_point (a ∷ b ∷ name) text = and_false (a == 46)

no_end : (name text : List ℕ) (lines : List (List ℕ)) → ends_report (name ++ 32 ∷ text) lines ≡ false
no_end name text [] = no_point name text
no_end name text (next ∷ lines) = refl

-- ---- all lines

-- a text after the lines that adds none
abbrev SaysNoMore : Declared → List ℕ → Type 0
SaysNoMore declared after = (number : ℕ) (before : List ReportLine) → parsed_lines declared number before (exact_lines_of after) ≡ Ok before

lines_back : (declared : Declared) (after : List ℕ) → SaysNoMore declared after → (number : ℕ) (before lines : List ReportLine)
    → AllByRecursion (CanBeRead declared) lines
    → parsed_lines declared number before (exact_lines_of (report_text declared lines ++ after)) ≡ Ok (before ++ lines)
lines_back declared after none number before [] h = none number before ∙ ap Ok (sym (append-nil before))
lines_back declared after none number before (line ∷ lines) h =
    let name : List ℕ = cell_name declared line.cell in
    let this : List ℕ = body name line.value in
    let rest : List ℕ = report_text declared lines ++ after in
    let bad : Result (List ReportLine) ReportFault = Err (BadLine number) in
    let next : Option ReportLine → Result (List ReportLine) ReportFault = λ stated. option_map_or
    (λ l. parsed_lines declared (number + 1) (before ++ l ∷ []) (exact_lines_of rest)) stated bad in
    let text : (value_line name line.value ++ report_text declared lines) ++ after ≡ this ++ 10 ∷ rest
    = append_assoc (value_line name line.value) (report_text declared lines) after ∙ ap (λ l. l ++ rest) (line_parts name line.value)
    ∙ append_assoc this (10 ∷ []) rest in
    ap (λ l. parsed_lines declared number before (exact_lines_of l)) text
    ∙ ap (parsed_lines declared number before) (first_line this rest (body_goes_on name line.value h.0.inside h.0.value))
    ∙ ap (λ t. cond t (Ok before) (next (parsed_line declared this))) (no_end name (stated_text line.value) (exact_lines_of rest))
    ∙ ap next (stated_line declared line h.0)
    ∙ lines_back declared after none (number + 1) (before ++ line ∷ []) lines h.1
    ∙ ap Ok (append_assoc before (line ∷ []) lines)

pub printed_back : (declared : Declared) (lines : List ReportLine) → AllByRecursion (CanBeRead declared) lines
    → parsed_report declared (report_text declared lines) ≡ Ok lines
printed_back declared lines h =
    ap (parsed_report declared) (sym (append-nil (report_text declared lines))) ∙ lines_back declared [] (λ number before. refl) 1 [] lines h

pub reported_back : (declared : Declared) (lines : List ReportLine) → AllByRecursion (CanBeRead declared) lines
    → parsed_report declared (report_lines_of declared lines) ≡ Ok lines
reported_back declared lines h = lines_back declared (46 ∷ 10 ∷ []) (λ number before. refl) 1 [] lines h
