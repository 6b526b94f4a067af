-- Requests, from the bytes of a file.
use Rattle.std.specs.Prelude.{ℕ, ◌+◌, ◌==◌, nat_lt, List, [], ◌∷◌, ◌++◌, length, Option, Some, None, Result, Ok, Err, if◌then◌else◌}
use Rattle.std.specs.Option.{option_map_or}
use Rattle.m_places.specs.declared.limits.TheConstants.{REQUESTS}
use Rattle.m_text.specs.Lines.{lines_of}
use Rattle.m_symbols.specs.Declarations.{Declared}
use Rattle.m_symbols.specs.Cells.{request_cell, returned_cells}
use Rattle.m_symbols.specs.declared.request_fault.RequestFault.{RequestFault}
use Rattle.m_symbols.specs.declared.request_fault.RequestFault.TheVariants.{BadRequest, TooManyRequests}

-- The cells of lines, of which the first has this number, after the cells of the lines before them:
-- that of each line that isn't empty, or the number of the first line that names none.
abbrev pub parsed_lines : Declared → ℕ → List ℕ → List (List ℕ) → Result (List ℕ) RequestFault
parsed_lines declared number before [] = Ok before
parsed_lines declared number before (line ∷ lines) =
    if length line == 0 then parsed_lines declared (number + 1) before lines
    else option_map_or (λ cell. parsed_lines declared (number + 1) (before ++ cell ∷ []) lines) (request_cell declared line) (Err (BadRequest number))

-- the cells, if they aren't too many
abbrev pub few : Result (List ℕ) RequestFault → Result (List ℕ) RequestFault
few (Ok cells) = if nat_lt REQUESTS (length cells) then Err TooManyRequests else Ok cells
few (Err fault) = Err fault

-- The requested cells: those that the lines of a file name, or without a file all returned cells. A
-- bad line is reported before too many requests.
abbrev pub parsed_requests : Option (List ℕ) → Declared → Result (List ℕ) RequestFault
parsed_requests None declared = few (Ok (returned_cells declared))
parsed_requests (Some bytes) declared = few (parsed_lines declared 1 [] (lines_of bytes))
