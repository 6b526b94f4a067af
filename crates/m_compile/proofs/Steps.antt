-- Each step's fault is one of the source; and the program of valid rules.
use Rattle.std.proofs.Common.{◌≡◌, ◌≢◌, ◌≤◌, ◌<◌, ◌^◌, ◌+◌, ◌++◌, ℕ, Bool, true, false, List, [], All, map, length, Option, None, Some, Result, Ok, Err, nat_lt}
use Rattle.std.proofs.Common.{cond, refl, sym, ap, ◌∙◌, subst, arith}
use Rattle.std.proofs.lemmas.Bool.{ltb-false}
use Rattle.std.proofs.lemmas.List.{length-append, length-map}
use Rattle.std.specs.Prelude.{take, drop}
use Rattle.std.specs.List.{AllByRecursion}
use Rattle.m_places.specs.Refusals.{Outcome}
use Rattle.m_places.specs.declared.limits.TheConstants.{DRIVER_WEIGHT, PARTS, REQUESTS}
use Rattle.m_places.specs.declared.source.Source.{Source}
use Rattle.m_places.specs.declared.source.Text.{Text}
use Rattle.m_symbols.specs.Declarations.{Declared, inputs_from}
use Rattle.m_symbols.specs.Cells.{cell_name, returned_cells}
use Rattle.observables.specs.declared.face.Face.{Face}
use Rattle.observables.specs.declared.face.FaceLabel.{FaceLabel}
use Rattle.observables.specs.declared.face.FaceLabel.TheVariants.{Verif}
use Rattle.observables.specs.declared.face.FaceOutput.{FaceOutput}
use Rattle.observables.specs.declared.face.FaceOutput.TheVariants.{Named, Noted}
use Rattle.observables.specs.declared.inputs.Coded.{Coded}
use Rattle.observables.specs.Inputs.{AreValuesOf, codes_of}
use Rattle.observables.specs.Outputs.{names_of, notes_of}
use Rattle.flat_code.specs.Passes.{Becomes}
use Rattle.flat_code.specs.Tidy.{IsTidy}
use Rattle.flat_code.specs.declared.program.Flat.{Flat}
use Rattle.flat_code.specs.declared.program.Check.{Check}
use Rattle.micro_m.specs.declared.base.Base.{Base}
use Rattle.micro_m.specs.Bases.{is_among}
use Rattle.micro_m.specs.Reads.{HasNoCycle}
use Rattle.driver_core.specs.declared.program.Core.{Core}
use Rattle.driver_core.specs.Inputs.{inputs_declared}
use Rattle.driver_core.specs.Weights.{weight_of}
use Rattle.m_symbols.specs.Requests.{parsed_requests, parsed_lines, few}
use Rattle.m_text.specs.Lines.{lines_of}
use Rattle.m_symbols.specs.declared.request_fault.RequestFault.{RequestFault}
use Rattle.m_symbols.specs.declared.request_fault.RequestFault.TheVariants as requests
use Rattle.m_symbols.specs.declared.request_fault.RequestFault.TheVariants.{TooManyRequests}
use Rattle.mpp_lexer.specs.declared.fault.DriverFault.{DriverFault}
use Rattle.mpp_lexer.specs.declared.fault.DriverFault.TheVariants as lines
use Rattle.mpp_parser.specs.declared.command.Driver.{Driver}
use Rattle.mpp_parser.specs.Faults.{IsDriver, IsFault}
use Rattle.mpp_core.specs.declared.fault.CoreFault.{CoreFault}
use Rattle.mpp_core.specs.declared.fault.CoreFault.TheVariants as core
use Rattle.mpp_core.specs.Cores.{IsCoreFault}
use Rattle.mpp_inline.specs.declared.fault.InlineFault.{InlineFault}
use Rattle.mpp_inline.specs.declared.fault.InlineFault.TheVariants as inline
use Rattle.mpp_inline.specs.Inlined.{HasWeight, IsInlined, IsTooLarge, IsDriverLine, most_nodes}
use Rattle.mpp_inline.specs.Labelling.{labelling_of}
use Rattle.rule_base.specs.Base.{IsBaseOf}
use Rattle.rule_base.specs.Faults.{IsRuleFault}
use Rattle.rule_base.specs.declared.fault.RuleFault.{RuleFault}
use Rattle.rule_base.specs.declared.fault.RuleFault.TheVariants as rules
use Rattle.m_compile.specs.declared.compiling.Program.{Program}
use Rattle.m_compile.specs.declared.fault.SourceFault.{SourceFault}
use Rattle.m_compile.specs.declared.fault.SourceFault.TheVariants.{Memory}
use Rattle.m_compile.specs.Sources.{HasRules, IsWritten, running}
use Rattle.m_compile.specs.Faults.{IsBaseFault, of_files, IsSourceFault, of_rules, of_driver, of_core, of_requests, of_weight}
use Rattle.m_compile.specs.Compiled.{IsProgramOf}
use Rattle.m_compile.specs.inner.Parts.{AreRequests, IsRequestsFault, in_driver, in_requests, IsProgramBy, IsHeavy, heavy, of_lines, of_names, IsDriverFault}
use Rattle.m_compile.specs.inner.Parts.{IsReady}
use Rattle.m_compile.proofs.Distinct.{parsed_codes, distinct_codes, many_inputs}
use Rattle.m_compile.proofs.Noted.{names_noted, notes_noted}
use Rattle.m_compile.proofs.words.Faces.{printable_face}
use Rattle.m_compile.proofs.Tidied.{plain_values, labels_kept, labels_all, labels_among}
use Rattle.m_compile.specs.inner.Steps.{rule_step, driver_step, core_step, request_step, inline_step}

-- the fault of the rule files
pub rules_reported : (texts : List Text) (application : List ℕ) (fault : RuleFault) → (fault ≢ rules.Memory → IsRuleFault texts application fault)
    → rule_step fault ≢ Memory → IsBaseFault texts application (rule_step fault)
rules_reported texts application rules.Memory h k = absurd (k refl)
rules_reported texts application (rules.Lex f) h k = of_files (h (λ e. cc))
rules_reported texts application (rules.Parse f) h k = of_files (h (λ e. cc))
rules_reported texts application (rules.Declare f) h k = of_files (h (λ e. cc))
rules_reported texts application (rules.Expand f) h k = of_files (h (λ e. cc))
rules_reported texts application (rules.Resolve f) h k = of_files (h (λ e. cc))
rules_reported texts application (rules.Cycle names) h k = of_files (h (λ e. cc))

-- it is one of the source, for borrowed texts and application
pub base_reported : (source : Source) (texts : List Text) (application : List ℕ) (fault : SourceFault) → texts ≡ source.texts → application ≡ source.application
    → IsBaseFault texts application fault → IsSourceFault source fault
base_reported source texts application _ t a (of_files {fault = f} k) =
    of_rules (subst (λ (x : List Text). IsRuleFault x source.application f) t (subst (λ (x : List ℕ). IsRuleFault texts x f) a k))

-- the rules, for borrowed texts and application
pub rules_made : (source : Source) (texts : List Text) (application : List ℕ) (declared : Declared) (base : Base) → texts ≡ source.texts
    → application ≡ source.application
    → IsBaseOf texts application declared base → HasNoCycle base → HasRules source declared base
rules_made source texts application declared base t a b n =
    record {
      made = subst (λ (x : List Text). IsBaseOf x source.application declared base) t (subst (λ (x : List ℕ). IsBaseOf texts x declared base) a b);
      no_cycle = n;
    }

-- the driver's syntax
pub lines_reported : (declared : Declared) (bytes : List ℕ) (fault : DriverFault) → (fault ≢ lines.Memory → IsFault bytes fault) → driver_step fault ≢ Memory
    → IsDriverFault declared (Some bytes) (driver_step fault)
lines_reported declared bytes lines.Memory h k = absurd (k refl)
lines_reported declared bytes (lines.DriverToken n) h k = of_lines (h (λ e. cc))
lines_reported declared bytes (lines.DriverTooDeep n) h k = of_lines (h (λ e. cc))
lines_reported declared bytes (lines.DriverSyntax n) h k = of_lines (h (λ e. cc))

-- the driver's names
pub names_reported : (declared : Declared) (bytes : List ℕ) (driver : Driver) (fault : CoreFault) → IsDriver bytes driver
    → (fault ≢ core.Memory → IsCoreFault driver declared fault) → core_step fault ≢ Memory
    → IsDriverFault declared (Some bytes) (core_step fault)
names_reported declared bytes driver core.Memory d h k = absurd (k refl)
names_reported declared bytes driver (core.FunctionTwice name line) d h k = of_names driver d (h (λ e. cc))
names_reported declared bytes driver core.NoMain d h k = of_names driver d (h (λ e. cc))
names_reported declared bytes driver (core.UnknownInDriver name line) d h k = of_names driver d (h (λ e. cc))
names_reported declared bytes driver (core.BadTargetInDriver name line) d h k = of_names driver d (h (λ e. cc))
names_reported declared bytes driver (core.DriverRecursion names) d h k = of_names driver d (h (λ e. cc))

-- the fault of a driver is one of the source
driver_reported : (source : Source) (declared : Declared) (base : Base) (given : Option (List ℕ)) (fault : SourceFault) → HasRules source declared base
    → source.driver ≡ given → IsDriverFault declared given fault → IsSourceFault source fault
driver_reported source declared base _ fault r e (of_lines f) = of_driver r e f
driver_reported source declared base _ fault r e (of_names driver d f) = of_core driver r e d f

-- the fault of the requests
pub requests_reported : (source : Source) (declared : Declared) (written : Option Core) (fault : RequestFault) → IsWritten declared source.driver written
    → (fault ≢ requests.Memory → parsed_requests source.requests declared ≡ Err fault) → request_step fault ≢ Memory
    → IsRequestsFault declared source (request_step fault)
requests_reported source declared written requests.Memory d h k = absurd (k refl)
requests_reported source declared written (requests.BadRequest line) d h k = in_requests d (h (λ e. cc))
requests_reported source declared written requests.TooManyRequests d h k = in_requests d (h (λ e. cc))

-- both are faults of the source
pub requested_reported : (source : Source) (declared : Declared) (base : Base) (fault : SourceFault) → HasRules source declared base
    → IsRequestsFault declared source fault → IsSourceFault source fault
requested_reported source declared base fault r (in_driver f) = driver_reported source declared base source.driver fault r refl f
requested_reported source declared base _ r (in_requests d e) = of_requests r d e

-- the number of requests is within the limit
few_when : (all cells : List ℕ) (many : Bool) → nat_lt REQUESTS (length all) ≡ many → cond many (Err TooManyRequests) (Ok all) ≡ Ok cells
    → length cells ≤ REQUESTS
few_when all cells true m e = cc
few_when all cells false m e = let s : all ≡ cells = cc in subst (λ (l : List ℕ). length l ≤ REQUESTS) s (ltb-false REQUESTS (length all) m)

few_parsed : (stated : Result (List ℕ) RequestFault) (cells : List ℕ) → few stated ≡ Ok cells → length cells ≤ REQUESTS
few_parsed (Ok all) cells e = few_when all cells (nat_lt REQUESTS (length all)) refl e
few_parsed (Err fault) cells e = cc

pub few_requested : (given : Option (List ℕ)) (declared : Declared) (cells : List ℕ) → parsed_requests given declared ≡ Ok cells → length cells ≤ REQUESTS
few_requested None declared cells e = few_parsed (Ok (returned_cells declared)) cells e
few_requested (Some bytes) declared cells e = few_parsed (parsed_lines declared 1 [] (lines_of bytes)) cells e

-- the weight
pub weight_reported : (core : Core) (base : Base) (fault : InlineFault) → (fault ≢ inline.Memory → IsTooLarge core base fault) → inline_step fault ≢ Memory
    → IsHeavy core base (inline_step fault)
weight_reported core base inline.Memory h k = absurd (k refl)
weight_reported core base (inline.DriverTooLarge weight) h k =
    let w = h (λ e. cc) in
    subst (λ n. IsHeavy core base (inline_step (inline.DriverTooLarge n))) (sym w.1) (heavy w.0)

heavy_reported : (source : Source) (declared : Declared) (base : Base) (written : Option Core) (wanted : List ℕ) (fault : SourceFault)
    → HasRules source declared base → IsWritten declared source.driver written
    → parsed_requests source.requests declared ≡ Ok wanted → IsHeavy (running written wanted declared) base fault → IsSourceFault source fault
heavy_reported source declared base written wanted fault r d q (heavy w) = of_weight r d q w

-- all steps together
program_when : (source : Source) (declared : Declared) (base : Base) (wanted : List ℕ) (core : Core) (program : Program) → HasRules source declared base
    → AreRequests declared source core wanted → IsProgramBy declared base core wanted program → IsProgramOf source program
program_when source declared base wanted core program r a p =
    record {
      declared = declared;
      base = base;
      written = a.written;
      requests = wanted;
      valid = record { rules = r; driven = a.driven; requested = a.requested; light = subst (λ c. weight_of c base ≤ DRIVER_WEIGHT) a.runs p.light };
      runnable = record {
        valid = p.valid;
        shown = p.shown;
        distinct = rw (ap codes_of p.inputs ∙ parsed_codes declared)
            (distinct_codes source.texts source.application declared base r.made);
        nodes_fit = p.nodes_fit;
      };
      tidy = p.tidy;
      inputs = p.inputs;
      names = p.names;
      notes = p.notes;
      first_labels = p.first_labels;
      further_labels = p.further_labels;
      labels_are = subst (λ c. program.face.labels ≡ (labelling_of c base).labels) a.runs p.labels_are;
      notes_are = subst (λ c. notes_of program.face.outputs ≡ (labelling_of c base).notes) a.runs p.notes_are;
      checks_among = subst (λ c. AllByRecursion (λ check. is_among check.label (labelling_of c base).checks ≡ true) program.tidy.checks) a.runs
          p.checks_among;
      few_checks = subst (λ c. length program.tidy.checks ≤ length (labelling_of c base).checks) a.runs p.few_checks;
      printable = printable_face source.texts source.application source.requests declared base wanted program.face r.made a.requested
          (distinct_codes source.texts source.application declared base r.made)
          (ap codes_of p.inputs ∙ parsed_codes declared) p.names p.first_labels p.further_labels;
      answers = λ inputs given. rw (sym a.runs) (p.answers inputs given);
    }

-- the number of labels fits 32 bits, since the program is small
few_when_fit : (labels base : ℕ) → base ≤ PARTS → labels ≤ base + most_nodes → labels < 2 ^ 32
few_when_fit labels base b l = omega (arith, b, l)

ready_when : (source : Source) (declared : Declared) (base : Base) (wanted : List ℕ) (core : Core) (program : Program) → length base.labels ≤ PARTS
    → HasRules source declared base → AreRequests declared source core wanted
    → IsProgramBy declared base core wanted program → IsReady source program
ready_when source declared base wanted core program few r a p =
    record {
      few_labels = few_when_fit (length program.face.labels) (length base.labels) few p.labels_fit;
      small = record {
        nodes = omega (arith, p.nodes_fit);
        checks = omega (arith, p.checks_fit);
        outputs = omega (arith, p.few_outputs, p.shown.outputs);
        labelled = labels_all (length program.face.labels) program.tidy.checks p.shown.labels;
      };
      compiled = program_when source declared base wanted core program r a p;
    }

pub finished : (source : Source) (declared : Declared) (base : Base) (wanted : List ℕ) (core : Core) (result : Result Program SourceFault)
    → length base.labels ≤ PARTS → HasRules source declared base
    → AreRequests declared source core wanted → Outcome Memory result (IsProgramBy declared base core wanted) (IsHeavy core base)
    → Outcome Memory result (IsReady source) (IsSourceFault source)
finished source declared base wanted core (Ok program) few r a p = ready_when source declared base wanted core program few r a p
finished source declared base wanted core (Err fault) few r a p = λ m. heavy_reported source declared base a.written wanted fault r a.driven a.requested
    (subst (λ c. IsHeavy c base fault) a.runs (p m))

-- ---- the program of a driver

as_many_inputs : (declared : Declared) (stated : List Coded) (inputs : ℕ) → stated ≡ inputs_declared declared
    → inputs ≡ length (inputs_from 0 declared.variables) → length stated ≡ inputs
as_many_inputs declared stated inputs c i = ap length c ∙ many_inputs declared ∙ sym i

-- the outputs: the notes, then the names of the requested cells
abbrev outputs_made : Declared → List ℕ → List ℕ → List FaceOutput
outputs_made declared notes wanted = map Noted notes ++ map Named (map (cell_name declared) wanted)

as_many_outputs : (declared : Declared) (outputs : List FaceOutput) (notes wanted : List ℕ) → outputs ≡ outputs_made declared notes wanted
    → length outputs ≡ length notes + length wanted
as_many_outputs declared outputs notes wanted e =
    ap length e
    ∙ length-append (map Noted notes) (map Named (map (cell_name declared) wanted))
    ∙ (λ i. length-map notes Noted i + (length-map (map (cell_name declared) wanted) Named ∙ length-map wanted (cell_name declared)) i)

few_outputs : (outputs notes wanted : ℕ) → outputs ≡ notes + wanted → notes ≤ most_nodes → wanted ≤ REQUESTS → outputs < 2 ^ 32
few_outputs outputs notes wanted e n h = omega (arith, e, n, h)

-- the tidy program with its face
pub program_made : (declared : Declared) (base : Base) (core : Core) (wanted : List ℕ) (flat tidy : Flat) (face : Face) (labels : List FaceLabel)
    (notes : List ℕ) → HasWeight core base
    → IsInlined core base declared wanted flat labels notes → Becomes flat tidy → IsTidy tidy → face.labels ≡ labels → face.inputs ≡ inputs_declared declared
    → face.outputs ≡ outputs_made declared notes wanted
    → length wanted ≤ REQUESTS → IsProgramBy declared base core wanted (record { face = face; tidy = tidy })
program_made declared base core wanted flat tidy face labels notes w i b t l f o h =
    let many = as_many_outputs declared face.outputs notes wanted o in
    let noted : notes_of face.outputs ≡ notes = ap notes_of o ∙ notes_noted notes (map (cell_name declared) wanted) in
    record {
      light = w;
      valid = b.valid;
      tidy = t;
      shown = record {
        inputs = as_many_inputs declared face.inputs tidy.inputs f (b.inputs ∙ i.inputs);
        labels = labels_kept (length face.labels) flat.checks tidy.checks (subst (λ (ls : List FaceLabel). All (λ check. check.label < length ls) flat.checks)
            (sym l) i.labelled) b.labels;
        outputs = many ∙ sym (b.outputs ∙ i.outputs);
        few = few_outputs (length face.outputs) (length notes) (length wanted) many i.notes_fit h;
      };
      inputs = f;
      names = ap names_of o ∙ names_noted notes (map (cell_name declared) wanted);
      notes = subst (AllByRecursion (λ number. number < length base.labels)) (sym noted) i.noted;
      first_labels = subst (λ (ls : List FaceLabel). take (length base.labels) ls ≡ map Verif base.labels) (sym l) i.first_labels;
      further_labels = subst (λ (ls : List FaceLabel). AllByRecursion IsDriverLine (drop (length base.labels) ls)) (sym l) i.further_labels;
      labels_are = l ∙ i.labels_are;
      notes_are = noted ∙ i.notes_are;
      checks_among = subst (λ ns. AllByRecursion (λ check. is_among check.label ns ≡ true) tidy.checks) i.checks_are
          (labels_among flat.checks tidy.checks b.labels);
      few_checks = omega (arith, b.checks, length-map flat.checks (λ (c : Check). c.label), ap length i.checks_are);
      nodes_fit = omega (arith, b.nodes, i.nodes_fit);
      checks_fit = omega (arith, b.checks, i.checks_fit);
      labels_fit = subst (λ (ls : List FaceLabel). length ls ≤ length base.labels + most_nodes) (sym l) i.labels_fit;
      few_outputs = omega (arith, many, i.notes_fit, h);
      answers = λ inputs given. rw (l, noted, b.answer inputs (plain_values face.inputs inputs given))
          (i.answer inputs (subst (λ stated. AreValuesOf stated inputs) f given));
    }
