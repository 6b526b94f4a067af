-- The findings about a rule base, for all households.
use Rattle.std.specs.Prelude.{ℕ, ◌<◌, ◌==◌, Bool, true, false, not, ◌&&◌, ◌||◌, List, ◌∷◌, ◌++◌, length, map, filter, slice_get, Option}
use Rattle.std.specs.List.{AllByRecursion, list_all, list_any, range_with_len}
use Rattle.std.specs.Option.{option_map_or, option_and_then}
use Rattle.std.specs.Str.{bytes_eq}
use Rattle.m_places.specs.declared.verification.Label.{Label}
use Rattle.m_places.specs.declared.verification.ErrorKind.{ErrorKind}
use Rattle.m_places.specs.declared.verification.ErrorKind.TheVariants.{Anomalie, Discordance, Informative}
use Rattle.definedness.specs.Facts.{Possible}
use Rattle.definedness.specs.Ranges.{may_be_other}
use Rattle.observables.specs.declared.face.Face.{Face}
use Rattle.observables.specs.declared.face.FaceLabel.{FaceLabel}
use Rattle.observables.specs.declared.face.FaceOutput.{FaceOutput}
use Rattle.observables.specs.declared.face.FaceOutput.TheVariants.{Named, Noted}
use Rattle.observables.specs.Outputs.{verif_at}
use Rattle.flat_code.specs.declared.program.Node.{Node}
use Rattle.flat_code.specs.declared.program.Node.TheVariants.{Input, Lit, Do}
use Rattle.flat_code.specs.declared.program.Check.{Check}
use Rattle.flat_code.specs.declared.program.Flat.{Flat}
use Rattle.flat_code.specs.Runs.{entries_of}
use Rattle.flat_code.specs.Facts.{facts, fact_at}
use Rattle.m_ast.specs.Items.{is_input, is_constant}
use Rattle.m_symbols.specs.declared.variable.Variable.{Variable}
use Rattle.m_symbols.specs.Declarations.{Declared}
use Rattle.m_symbols.specs.Cells.{owner_of}
use Rattle.micro_m.specs.declared.base.Base.{Base}
use Rattle.micro_m.specs.Bases.{is_among, targets_of}
use Rattle.m_lint.specs.declared.finding.Finding.{Finding}
use Rattle.m_lint.specs.declared.finding.Finding.TheVariants.{NeverDefined, NeverStops, Unused}
use Rattle.m_lint.specs.Readings.{is_read}

-- the numbers below a count that pass a test, in order
abbrev pub numbers_with : (ℕ → Bool) → ℕ → List ℕ
numbers_with test count = filter test (range_with_len 0 count)

-- ---- cells that are never defined

-- whether a variable is an input or a constant
abbrev pub is_set : Variable → Bool
is_set v = is_input v.item.role || is_constant v.item.role

-- whether a cell belongs to an input or a constant
abbrev pub is_given : Declared → ℕ → Bool
is_given declared c = option_map_or is_set (owner_of declared c) false

-- a cell that is read, belongs to no input or constant, and has no definition
abbrev pub is_never_defined : Declared → Base → ℕ → Bool
is_never_defined declared base c = is_read base c && not (is_given declared c) && not (is_among c (targets_of base))

-- ---- checks that never stop

abbrev pub is_same_kind : ErrorKind → ErrorKind → Bool
is_same_kind Anomalie Anomalie = true
is_same_kind Discordance Discordance = true
is_same_kind Informative Informative = true
is_same_kind _ _ = false

-- equality of labels: all that they print is equal
abbrev pub is_same_label : Label → Label → Bool
is_same_label a b = bytes_eq a.verif b.verif && bytes_eq a.error b.error && is_same_kind a.kind b.kind && bytes_eq a.text b.text

-- whether the face's label with this number is a verification's and equal to this one
abbrev pub has_label : List FaceLabel → Label → ℕ → Bool
has_label labels label number = option_map_or (is_same_label label) (verif_at labels number) false

-- no number other than 0 is possible
abbrev pub is_quiet : Possible → Bool
is_quiet fact = not (may_be_other fact.range)

-- A silent check, by the facts of its guard and its condition: the guard is quiet; or the condition
-- is never over and quiet; or the check stops at over only, and the condition is never over.
abbrev pub is_silent_by : Possible → Possible → Bool → Bool
is_silent_by guard condition over_only = is_quiet guard || (not condition.over && is_quiet condition) || (over_only && not condition.over)

abbrev pub is_silent : List Possible → Check → Bool
is_silent known check = is_silent_by (fact_at known check.guard) (fact_at known check.condition) check.over_only

-- whether all checks of a program with a label equal to this are silent
abbrev pub checks_are_silent : List FaceLabel → Label → List Possible → List Check → Bool
checks_are_silent labels label known checks = list_all (λ check. not (has_label labels label check.label) || is_silent known check) checks

-- whether an output, whose node has this fact, is no note with a label equal to this, or a note
-- that is never reported
abbrev pub output_is_silent : List FaceLabel → Label → Possible → FaceOutput → Bool
output_is_silent labels label fact (Named name) = true
output_is_silent labels label fact (Noted number) = not (has_label labels label number) || is_quiet fact

-- whether all notes of a program with a label equal to this are never reported, where these are the
-- nodes of the outputs
abbrev pub notes_are_silent : List FaceLabel → Label → List Possible → List FaceOutput → List ℕ → Bool
notes_are_silent labels label known (output ∷ outputs) (p ∷ ps) =
    output_is_silent labels label (fact_at known p) output && notes_are_silent labels label known outputs ps
notes_are_silent labels label known _ _ = true

-- whether a label is never reported, where the nodes have these facts: all checks and notes with an
-- equal label are silent
abbrev pub is_never_reported : List Possible → Flat → Face → Label → Bool
is_never_reported known flat face label =
    checks_are_silent face.labels label known flat.checks && notes_are_silent face.labels label known face.outputs flat.outputs

-- the label of the check with this number
abbrev pub label_of_check : Base → ℕ → Option Label
label_of_check base k = option_and_then (λ check. slice_get base.labels check.1) (slice_get base.checks k)

-- a check of the base whose label is never reported, where the nodes have these facts
abbrev pub is_never_stopping : List Possible → Base → Flat → Face → ℕ → Bool
is_never_stopping known base flat face k = option_map_or (is_never_reported known flat face) (label_of_check base k) false

-- the checks of the base that never stop, in order, where the nodes have these facts
abbrev pub never_stopping : List Possible → Base → Flat → Face → List ℕ
never_stopping known base flat face = numbers_with (is_never_stopping known base flat face) (length base.checks)

-- ---- inputs that aren't used

abbrev pub is_input_node : ℕ → Node → Bool
is_input_node n (Input m) = n == m
is_input_node n (Lit v) = false
is_input_node n (Do op a b c) = false

-- an input that no node of the program reads
abbrev pub is_unused : Flat → ℕ → Bool
is_unused flat n = not (list_any (is_input_node n) flat.nodes)

-- ---- findings

-- The findings, in this order, each kind by number: the cells that are read and never defined, the
-- checks that never stop and are never noted, and the inputs that aren't used.
abbrev pub findings_of : Declared → Base → Flat → Face → List Finding
findings_of declared base flat face =
    map NeverDefined (numbers_with (is_never_defined declared base) base.cells)
    ++ map NeverStops (never_stopping (entries_of facts flat.nodes) base flat face)
    ++ map Unused (numbers_with (is_unused flat) flat.inputs)

-- the number of a finding is below the count of cells, of checks, or of inputs
abbrev pub IsWithinCounts : ℕ → ℕ → ℕ → Finding → Type 0
IsWithinCounts cells checks inputs (NeverDefined c) = c < cells
IsWithinCounts cells checks inputs (NeverStops k) = k < checks
IsWithinCounts cells checks inputs (Unused n) = n < inputs

abbrev pub AreWithinCounts : ℕ → ℕ → ℕ → List Finding → Type 0
AreWithinCounts cells checks inputs findings = AllByRecursion (IsWithinCounts cells checks inputs) findings
