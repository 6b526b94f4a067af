-- The text of findings in parts.
use Rattle.std.proofs.Common.{◌≡◌, ℕ, zero, suc, ◌+◌, ◌-◌, ◌<◌, List, [], ◌∷◌, ◌++◌, length, get_or, drop, Option, None, Some, Result, slice_get, ap, sym}
use Rattle.std.proofs.Common.{subst, ◌∙◌, append_assoc, arith}
use Rattle.std.specs.Prelude.{codes}
use Rattle.std.specs.Option.{option_map_or}
use Rattle.std.proofs.lemmas.List.{drop_more}
use Rattle.m_ports.specs.Giving.{Gives}
use Rattle.m_ast.specs.Items.{variable_size}
use Rattle.m_symbols.specs.declared.variable.Variable.{Variable}
use Rattle.m_symbols.specs.Declarations.{Declared, owners_from, inputs_from}
use Rattle.m_symbols.specs.Cells.{cell_text, printed_cell, cell_name}
use Rattle.micro_m.specs.declared.base.Base.{Base}
use Rattle.m_lint.specs.declared.finding.Finding.{Finding}
use Rattle.m_lint.specs.Findings.{IsWithinCounts, AreWithinCounts}
use Rattle.m_lint.specs.Lines.{cell_line, input_line, own_code, input_code, finding_line, findings_text}

-- from a position on the text begins with the line there
pub text-at : (declared : Declared) (base : Base) (findings : List Finding) (i : ℕ) (finding d : Finding) → i < length findings → finding ≡ get_or findings i d
    → findings_text declared base (drop i findings) ≡ finding_line declared base finding ++ findings_text declared base (drop (i + 1) findings)
text-at declared base findings i finding d low is =
    ap (findings_text declared base) (drop_more findings i d low)
    ∙ ap (λ (f : Finding). finding_line declared base f ++ findings_text declared base (drop (i + 1) findings)) (sym is)

-- each finding is within the counts if all are
pub within-at : (cells checks inputs : ℕ) (findings : List Finding) (i : ℕ) (d : Finding) → i < length findings → AreWithinCounts cells checks inputs findings
    → IsWithinCounts cells checks inputs (get_or findings i d)
within-at cells checks inputs [] i d low h = absurd (omega (arith, low))
within-at cells checks inputs (x ∷ xs) zero d low h = h.0
within-at cells checks inputs (x ∷ xs) (suc i) d low h = within-at cells checks inputs xs i d (omega (arith, low)) h.1

-- the line of a cell by its variable
pub cell-at : (declared : Declared) (cell owner : ℕ) (v : Variable) → owner ≡ get_or (owners_from 0 declared.variables) cell 0
    → slice_get declared.variables owner ≡ Some v → cell_line (printed_cell cell v) ≡ cell_line (cell_name declared cell)
cell-at declared cell owner v is found = ap cell_line
    (sym (ap (λ o. option_map_or (printed_cell cell) o []) (ap (slice_get declared.variables) (sym is) ∙ found)))

-- and of an input
pub input-at : (declared : Declared) (n owner : ℕ) (v : Variable) → owner ≡ get_or (inputs_from 0 declared.variables) n 0
    → slice_get declared.variables owner ≡ Some v → input_line (own_code v) ≡ input_line (input_code declared n)
input-at declared n owner v is found = ap input_line (sym (ap (λ o. option_map_or own_code o []) (ap (slice_get declared.variables) (sym is) ∙ found)))

-- a variable that is no table has one cell
pub plain-cell : (cell : ℕ) (v : Variable) → variable_size v.item ≡ None → v.item.name ≡ printed_cell cell v
plain-cell cell v e = ap (λ s. cell_text s v.item.name (cell - v.first_cell)) (sym e)

-- the line of a table's cell, in pieces
pub index-line : (name digits text : List ℕ) → digits ≡ text → codes "never defined " ++ (name ++ (91 ∷ (digits ++ (93 ∷ 10 ∷ [])))) ≡ cell_line
    (name ++ (91 ∷ (text ++ (93 ∷ []))))
index-line name digits text e =
    ap (λ ds. codes "never defined " ++ (name ++ (91 ∷ (ds ++ (93 ∷ 10 ∷ []))))) e
    ∙ ap (λ rest. codes "never defined " ++ rest) (ap (λ rest. name ++ (91 ∷ rest)) (sym (append_assoc text (93 ∷ []) (10 ∷ [])))
    ∙ sym (append_assoc name (91 ∷ (text ++ (93 ∷ []))) (10 ∷ [])))

-- a contract on the printed text holds of an equal text
pub gives-text : {S T E : Type 0} (written : S → Option (List ℕ)) (faults : S → ℕ) (old new : S) (result : Result T E) (text other : List ℕ) → text ≡ other
    → Gives written faults old new result text → Gives written faults old new result other
gives-text written faults old new result text other e given = subst (λ t. Gives written faults old new result t) e given
