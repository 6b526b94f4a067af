-- The answer of `facts` is true of the source's observations.
use Rattle.std.proofs.Common.{◌≡◌, ℕ, ◌+◌, List, [], ◌∷◌, length, map, Option, Some, Ok, refl, sym, ap, ◌∙◌, subst}
use Rattle.std.specs.List.{AllByRecursion, AllZip}
use Rattle.m_fixed.specs.declared.amount.Value.{Value}
use Rattle.m_places.specs.declared.source.Source.{Source}
use Rattle.definedness.specs.Facts.{Possible}
use Rattle.observables.specs.Answers.{Observation, observation}
use Rattle.observables.specs.Inputs.{AreValuesOf}
use Rattle.observables.specs.Outputs.{notes_of}
use Rattle.observables.specs.declared.face.Face.{Face}
use Rattle.observables.specs.declared.inputs.Coded.{Coded}
use Rattle.m_symbols.specs.Cells.{cell_name}
use Rattle.flat_code.specs.Runs.{flat_run}
use Rattle.flat_code.specs.declared.program.Flat.{Flat}
use Rattle.flat_code.specs.Faces.{IsFaceOf}
use Rattle.flat_code.specs.Runs.{IsFlat}
use Rattle.input_reads.specs.Reads.{depends_on}
use Rattle.m_facts.specs.Found.{found_of, known_of, node_of}
use Rattle.m_facts.specs.Lines.{named_facts}
use Rattle.m_facts.specs.Truths.{ArePossible, DependsOn, IsSilent}
use Rattle.m_facts.proofs.TruthLemmas.{depends-true, possible-true, silent-true}
use Rattle.m_compile.specs.Answers.{answer_to}
use Rattle.m_compile.specs.Compiled.{IsProgramOf}
use Rattle.m_compile.specs.declared.compiling.Program.{Program}
use Rattle.m_compile.proofs.OneLaws.{one_validity}
use Rattle.command_plans.specs.declared.status.Status.{Status}
use Rattle.command_plans.specs.declared.status.Status.TheVariants.{Done}
use Rattle.code_answers.specs.Schemes.{Scheme}
use Rattle.command_answers.specs.Sources.{IsScheme}
use Rattle.survey_commands.specs.Facts.{FactsReplies, facts_are_found, given_by, ranges_are_refused, source_is_refused}
use Rattle.survey_commands.specs.FactsTruths.{AreTrueFacts}
use Rattle.survey_commands.proofs.FactsLemmas.{scheme_inputs}

-- the program's observations are those of the scheme
reported_same : (source : Source) (scheme : Scheme) (program : Program) → IsScheme source scheme → IsProgramOf source program → (vs : List Value)
    → AreValuesOf program.face.inputs vs
    → observation program.face.labels (notes_of program.face.outputs) (flat_run program.tidy vs) ≡ Some (scheme.observe vs)
reported_same source scheme program v is vs given =
    let same = one_validity source is.declared v.declared is.base v.base is.written v.written is.requests v.requests is.valid v.valid in
    is.answers vs given
    ∙ (λ i. Some (answer_to (same.0 i) (same.1 i) (same.2 i) (same.3 i) vs))
    ∙ sym (ap (λ (s : Scheme). Some (s.observe vs)) v.stated)

names_same : (source : Source) (scheme : Scheme) (program : Program) → IsScheme source scheme → (is : IsProgramOf source program)
    → map (cell_name is.declared) is.requests ≡ scheme.names
names_same source scheme program v is =
    let same = one_validity source is.declared v.declared is.base v.base is.written v.written is.requests v.requests is.valid v.valid in
    (λ i. map (cell_name (same.0 i)) (same.3 i)) ∙ sym (ap (λ (s : Scheme). s.names) v.stated)

-- the inputs on which each of these outputs may depend
reads_true : (flat : Flat) (face : Face) (given : List Possible) (observe : List Value → Observation) → IsFlat flat → IsFaceOf face flat
    → ((vs : List Value) → AreValuesOf face.inputs vs → observation face.labels (notes_of face.outputs) (flat_run flat vs) ≡ Some (observe vs)) → (ks : List ℕ)
    → AllZip (λ k ns. (place : ℕ) → k ≡ length (notes_of face.outputs) + place → DependsOn face.inputs given observe place ns) ks
    (map (depends_on (known_of flat given) flat.nodes flat.inputs) (map (node_of flat.outputs) ks))
reads_true flat face given observe valid shown all [] = tt
reads_true flat face given observe valid shown all (k ∷ ks) =
    ((λ place e. depends-true flat face given observe place k valid shown all e), reads_true flat face given observe valid shown all ks)

pub facts_true : (source : Source) (ranges : Option (List ℕ)) (scheme : Scheme) (text : List ℕ) (status : Status) → IsScheme source scheme
    → FactsReplies source ranges text status → status ≡ Done
    → AreTrueFacts source ranges scheme text
facts_true source ranges scheme text status v (source_is_refused fault f k) e = cc e
facts_true source ranges scheme text status v (ranges_are_refused program fault is f k) e = cc e
facts_true source ranges scheme text status v (facts_are_found declared base program given rules is g) e =
    let inputs = scheme_inputs source scheme program v is in
    let all = reported_same source scheme program v is in
    let flat = program.tidy in
    let face = program.face in
    let found = found_of base flat face given in
    record {
      declared = declared;
      base = base;
      rules = rules;
      given = given;
      stated = subst (λ (ins : List Coded). given_by ins ranges ≡ Ok given) inputs g;
      face = face;
      found = found;
      inputs = inputs;
      names = is.names ∙ names_same source scheme program v is;
      lines = refl;
      possible = subst (λ (ins : List Coded). ArePossible ins given scheme.observe (named_facts face.outputs found.possible)) inputs
          (possible-true base flat face given scheme.observe is.runnable.valid is.runnable.shown all);
      silent = subst (λ (ins : List Coded). AllByRecursion (IsSilent base ins given scheme.observe) found.silent) inputs
          (silent-true base flat face given scheme.observe is.runnable.valid is.runnable.shown all);
      reads = subst (λ (ins : List Coded). AllZip (λ k ns. (place : ℕ) → k ≡ length (notes_of face.outputs) + place
          → DependsOn ins given scheme.observe place ns) found.firsts found.reads) inputs
          (reads_true flat face given scheme.observe is.runnable.valid is.runnable.shown all found.firsts);
    }
