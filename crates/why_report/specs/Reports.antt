-- The text form of a derivation: one line of text for each line.
use Rattle.std.specs.Prelude.{ℕ, ◌+◌, ◌==◌, ◌&&◌, Bool, false, List, [], ◌∷◌, ◌++◌, codes, Option, Some, None, Result, Ok, Err, ℤ, if◌then◌else◌}
use Rattle.std.specs.Option.{option_map, option_map_or, option_and_then}
use Rattle.std.specs.Str.{bytes_eq}
use Rattle.m_fixed.specs.declared.amount.Value.{Value}
use Rattle.m_fixed.specs.declared.amount.Value.TheVariants.{Undef, Num, Over}
use Rattle.m_fixed.specs.declared.read.AmountFault.{AmountFault}
use Rattle.m_fixed.specs.Text.{text_value, amount_read}
use Rattle.m_text.specs.Lines.{exact_lines_of}
use Rattle.m_text.specs.Parts.{split_at}
use Rattle.m_symbols.specs.Declarations.{Declared}
use Rattle.m_symbols.specs.Cells.{request_cell, cell_name}
use Rattle.tax_print.specs.Lines.{value_line}
use Rattle.why_report.specs.declared.fault.ReportFault.{ReportFault}
use Rattle.why_report.specs.declared.fault.ReportFault.TheVariants.{BadLine}
use Rattle.why_report.specs.declared.line.ReportLine.{ReportLine}

-- ---- as it is printed

-- The text of a derivation; each line is the cell's printed name and its value: `IRN = 2500.5`,
-- `IRN undefined` or `IRN over`.
abbrev pub report_text : Declared → List ReportLine → List ℕ
report_text declared [] = []
report_text declared (line ∷ lines) = value_line (cell_name declared line.cell) line.value ++ report_text declared lines

-- ---- as it is read

-- the text before the first space, and the text after it, if there is a space
abbrev pub split_at_space : List ℕ → List ℕ × Option (List ℕ)
split_at_space text = split_at 32 text

-- the text after a leading `= `
abbrev pub behind_equals : List ℕ → Option (List ℕ)
behind_equals [] = None
behind_equals (a ∷ []) = None
behind_equals (a ∷ b ∷ text) = if a == 61 && b == 32 then Some text else None

abbrev pub amount_value : Result ℤ AmountFault → Option Value
amount_value (Ok amount) = Some (Num amount)
amount_value (Err fault) = None

-- The value after a cell's name and a space: `= 2500.50`, with any spelling of an amount,
-- `undefined` or `over`.
abbrev pub parsed_value : List ℕ → Option Value
parsed_value text =
    if bytes_eq text (codes "undefined") then Some Undef
    else if bytes_eq text (codes "over") then Some Over
    else option_and_then (λ amount. amount_value (amount_read (text_value amount))) (behind_equals text)

-- the line of a cell, by its name, and a value
abbrev pub cell_with : Declared → List ℕ → Value → Option ReportLine
cell_with declared name v = option_map (λ c. record { cell = c; value = v }) (request_cell declared name)

-- the line of a derivation that two parts of text parse to
abbrev pub parsed_parts : Declared → List ℕ × Option (List ℕ) → Option ReportLine
parsed_parts declared parts = option_and_then (cell_with declared parts.0) (option_and_then parsed_value parts.1)

-- The line of a derivation that a line of text parses to, if it is well-formed: a cell's printed
-- name, one space, and a value.
abbrev pub parsed_line : Declared → List ℕ → Option ReportLine
parsed_line declared line = parsed_parts declared (split_at_space line)

-- whether a line before these is the last, and is `.`
abbrev pub ends_report : List ℕ → List (List ℕ) → Bool
ends_report line [] = bytes_eq line (codes ".")
ends_report line (next ∷ lines) = false

-- Parses lines, of which the first has this number, and appends them to those parsed before: the
-- lines of a derivation, or the number of the first malformed line. A last line `.` is skipped.
abbrev pub parsed_lines : Declared → ℕ → List ReportLine → List (List ℕ) → Result (List ReportLine) ReportFault
parsed_lines declared number before [] = Ok before
parsed_lines declared number before (line ∷ lines) =
    if ends_report line lines then Ok before
    else option_map_or (λ stated. parsed_lines declared (number + 1) (before ++ stated ∷ []) lines) (parsed_line declared line) (Err (BadLine number))

-- A report parses to the lines of a derivation, or its error is the number, from 1, of the first
-- malformed line.
abbrev pub parsed_report : Declared → List ℕ → Result (List ReportLine) ReportFault
parsed_report declared bytes = parsed_lines declared 1 [] (exact_lines_of bytes)
