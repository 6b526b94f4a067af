-- The lines of a derivation in parts.
use Rattle.std.proofs.Common.{◌≡◌, ℕ, ◌+◌, ◌-◌, ◌<◌, List, [], ◌++◌, length, get_or, drop, Some, slice_get, refl, ap, sym, ◌∙◌}
use Rattle.std.specs.Option.{option_map}
use Rattle.std.proofs.lemmas.List.{drop_more}
use Rattle.m_fixed.specs.declared.amount.Value.{Value}
use Rattle.m_fixed.specs.declared.amount.Value.TheVariants.{Undef, Num, Over}
use Rattle.m_symbols.specs.Declarations.{Declared, name_of, owners_from}
use Rattle.m_symbols.specs.Cells.{cell_name, cell_text}
use Rattle.tax_print.specs.Lines.{value_line}
use Rattle.why_report.specs.declared.line.ReportLine.{ReportLine}
use Rattle.why_report.specs.Reports.{report_text}
use Rattle.m_symbols.specs.declared.spans.Span.{Span}
use Rattle.m_symbols.specs.Spans.{span_of}
use Rattle.why_report.proofs.NameLemmas.{span-name}

-- a line is a name and the rest
line-parts : (name : List ℕ) (value : Value) → value_line name value ≡ name ++ value_line [] value
line-parts name Undef = refl
line-parts name (Num amount) = refl
line-parts name Over = refl

pub named-line : (declared : Declared) (cell owner : ℕ) (name : List ℕ) (s : Span) (value : Value) → owner ≡ get_or (owners_from 0 declared.variables) cell 0
    → option_map name_of (slice_get declared.variables owner) ≡ Some name → option_map span_of (slice_get declared.variables owner) ≡ Some s
    → value_line (cell_name declared cell) value ≡ cell_text s.size name (cell - s.first_cell) ++ value_line [] value
named-line declared cell owner name s value is n e =
    ap (λ printed. value_line printed value) (span-name declared cell owner name s is n e) ∙ line-parts (cell_text s.size name (cell - s.first_cell)) value

-- from a position on the text begins with the line there
pub report-at : (declared : Declared) (lines : List ReportLine) (i : ℕ) (line d : ReportLine) → i < length lines → line ≡ get_or lines i d
    → report_text declared (drop i lines) ≡ value_line (cell_name declared line.cell) line.value ++ report_text declared (drop (i + 1) lines)
report-at declared lines i line d low is =
    ap (report_text declared) (drop_more lines i d low)
    ∙ ap (λ (l : ReportLine). value_line (cell_name declared l.cell) l.value ++ report_text declared (drop (i + 1) lines)) (sym is)
