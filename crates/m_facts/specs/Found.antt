-- The findings about the requested cells of a program, given facts of its inputs.
use Rattle.std.specs.Prelude.{ℕ, Bool, false, not, List, length, map, take, slice_get, slice_index_or, Option, Some, None}
use Rattle.std.specs.Option.{option_map_or, option_and_then}
use Rattle.m_names.specs.Names.{has}
use Rattle.definedness.specs.Facts.{Possible}
use Rattle.observables.specs.declared.face.Face.{Face}
use Rattle.observables.specs.declared.face.FaceOutput.{FaceOutput}
use Rattle.observables.specs.declared.face.FaceOutput.TheVariants.{Named, Noted}
use Rattle.observables.specs.Outputs.{names_of}
use Rattle.flat_code.specs.declared.program.Flat.{Flat}
use Rattle.flat_code.specs.Facts.{facts_with, fact_at}
use Rattle.flat_code.specs.Runs.{entries_of}
use Rattle.input_reads.specs.Reads.{depends_on}
use Rattle.micro_m.specs.declared.base.Base.{Base}
use Rattle.m_lint.specs.Findings.{never_stopping, numbers_with}
use Rattle.m_facts.specs.declared.found.FactsFound.{FactsFound}

-- the facts of all nodes of a program, given those of its inputs
abbrev pub known_of : Flat → List Possible → List Possible
known_of flat given = entries_of (facts_with given) flat.nodes

-- the name of an output, if it has one
abbrev pub name_of : FaceOutput → Option (List ℕ)
name_of (Named name) = Some name
name_of (Noted number) = None

abbrev pub name_at : List FaceOutput → ℕ → Option (List ℕ)
name_at outputs k = option_and_then name_of (slice_get outputs k)

-- whether the output with this number has a name that no earlier output has
abbrev pub is_first : List FaceOutput → ℕ → Bool
is_first outputs k = option_map_or (λ name. not (has name (names_of (take k outputs)))) (name_at outputs k) false

-- the outputs that are the first with their names, as ascending numbers
abbrev pub firsts_of : List FaceOutput → List ℕ
firsts_of outputs = numbers_with (is_first outputs) (length outputs)

-- the node of the output with this number
abbrev pub node_of : List ℕ → ℕ → ℕ
node_of ps k = slice_index_or ps k 0

-- The findings, given the facts of all nodes: the fact of each output, the checks of the base that
-- never stop, the first output with each name, and the inputs on which each of these may depend.
abbrev pub found_by : List Possible → Base → Flat → Face → FactsFound
found_by known base flat face = record {
  possible = map (fact_at known) flat.outputs;
  silent = never_stopping known base flat face;
  firsts = firsts_of face.outputs;
  reads = map (depends_on known flat.nodes flat.inputs) (map (node_of flat.outputs) (firsts_of face.outputs));
}

-- The findings, given the facts of the inputs.
abbrev pub found_of : Base → Flat → Face → List Possible → FactsFound
found_of base flat face given = found_by (known_of flat given) base flat face
