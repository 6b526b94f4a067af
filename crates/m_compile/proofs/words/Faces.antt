-- The face of a valid source is printable.
use Rattle.std.proofs.Common.{◌≡◌, ◌<◌, ℕ, List, [], ◌∷◌, length, map, take, drop, Option, Ok, sym, ap, subst}
use Rattle.std.specs.List.{AllByRecursion}
use Rattle.std.proofs.lemmas.List.{take-append-drop}
use Rattle.m_places.specs.declared.verification.Label.{Label}
use Rattle.m_names.specs.Names.{AreDistinct}
use Rattle.m_places.specs.declared.source.Text.{Text}
use Rattle.m_ast.specs.Items.{variables_of}
use Rattle.m_symbols.specs.declared.variable.Variable.{Variable}
use Rattle.m_symbols.specs.Declarations.{Declared, owners_from, codes_of}
use Rattle.index_expand.specs.Expansion.{expansion}
use Rattle.micro_m.specs.declared.base.Base.{Base}
use Rattle.m_symbols.specs.Cells.{cell_name}
use Rattle.m_symbols.specs.Requests.{parsed_requests}
use Rattle.mpp_inline.specs.Inlined.{IsDriverLine}
use Rattle.rule_base.specs.Base.{IsBaseOf}
use Rattle.rule_base.proofs.Steps.{declared_placed}
use Rattle.observables.specs.declared.face.Face.{Face}
use Rattle.observables.specs.declared.face.FaceLabel.{FaceLabel}
use Rattle.observables.specs.declared.face.FaceLabel.TheVariants.{Verif, DriverLine}
use Rattle.observables.specs.declared.face.FaceOutput.{FaceOutput}
use Rattle.observables.specs.declared.face.FaceOutput.TheVariants.{Named, Noted}
use Rattle.observables.specs.Inputs.{codes_of as codes_shown}
use Rattle.observables.specs.Outputs.{names_of}
use Rattle.code_file.specs.Printable.{IsFreeWord, AreApart, IsCellName, IsPrintable, IsPrintableVerif, IsPrintableLabel, IsPrintableOutput}
use Rattle.m_compile.proofs.words.Items.{IsWordedError, files_worded, all_append}
use Rattle.m_compile.proofs.words.Declared.{IsGood, items_good, variables_good, errors_good}
use Rattle.m_compile.proofs.words.Codes.{codes_free, are_apart}
use Rattle.m_compile.proofs.words.Names.{cell_named}
use Rattle.m_compile.proofs.words.Requested.{requests_known}
use Rattle.m_compile.proofs.words.Labels.{all_numbered, base_printable}

-- ---- labels: those of the base, then those of driver lines

of_base : (labels : List Label) → AllByRecursion IsPrintableVerif labels → AllByRecursion IsPrintableLabel (map Verif labels)
of_base [] a = tt
of_base (l ∷ labels) a = (a.0, of_base labels a.1)

line_printable : (label : FaceLabel) → IsDriverLine label → IsPrintableLabel label
line_printable (Verif label) h = absurd h
line_printable (DriverLine line) h = tt

of_lines : (labels : List FaceLabel) → AllByRecursion IsDriverLine labels → AllByRecursion IsPrintableLabel labels
of_lines [] a = tt
of_lines (l ∷ labels) a = (line_printable l a.0, of_lines labels a.1)

labels_all : (n : ℕ) (labels : List FaceLabel) (first : List Label) → take n labels ≡ map Verif first → AllByRecursion IsPrintableVerif first
    → AllByRecursion IsDriverLine (drop n labels) → AllByRecursion IsPrintableLabel labels
labels_all n labels first e a b =
    subst (AllByRecursion IsPrintableLabel) (take-append-drop n labels)
    (all_append IsPrintableLabel (take n labels) (drop n labels) (subst (AllByRecursion IsPrintableLabel) (sym e) (of_base first a))
    (of_lines (drop n labels) b))

-- ---- outputs

outputs_all : (outputs : List FaceOutput) → AllByRecursion IsCellName (names_of outputs) → AllByRecursion IsPrintableOutput outputs
outputs_all [] a = tt
outputs_all (Named name ∷ outputs) a = (a.0, outputs_all outputs a.1)
outputs_all (Noted number ∷ outputs) a = (tt, outputs_all outputs a)

cells_all : (declared : Declared) (cells : List ℕ) (most : ℕ) → ((c : ℕ) → c < most → IsCellName (cell_name declared c)) → AllByRecursion (λ c. c < most) cells
    → AllByRecursion IsCellName (map (cell_name declared) cells)
cells_all declared [] most h a = tt
cells_all declared (c ∷ cells) most h a = (h c a.0, cells_all declared cells most h a.1)

-- ---- all together

pub printable_face : (texts : List Text) (application : List ℕ) (given : Option (List ℕ)) (declared : Declared) (base : Base) (requests : List ℕ) (face : Face)
    → IsBaseOf texts application declared base → parsed_requests given declared ≡ Ok requests
    → AreDistinct (codes_of declared.variables) → codes_shown face.inputs ≡ codes_of declared.variables
    → names_of face.outputs ≡ map (cell_name declared) requests → take (length base.labels) face.labels ≡ map Verif base.labels
    → AllByRecursion IsDriverLine (drop (length base.labels) face.labels) → IsPrintable face
printable_face texts application given declared base requests face b q d i o f l =
    let worded = files_worded b.declares.stated in
    let faultless = b.declares.faultless in
    let stated = b.symbols in
    let variables = subst (λ (x : Declared). AllByRecursion (λ (v : Variable). IsGood v.item) x.variables) (sym stated)
    (variables_good b.items worded faultless) in
    let errors = subst (λ (x : Declared). AllByRecursion IsWordedError x.errors) (sym stated) (errors_good b.items worded) in
    let verifs = base_printable declared (expansion b.items application declared) base errors (all_numbered application b.items worded) b.resolves in
    let known = requests_known declared given requests (declared_placed b.items declared stated) q in
    let cell : (c : ℕ) → c < length (owners_from 0 declared.variables) → IsCellName (cell_name declared c) = λ c h. cell_named (variables_of b.items) declared c
    (ap (λ (x : Declared). x.variables) stated) (items_good b.items worded faultless) h in
    record {
      inputs = subst (AllByRecursion IsFreeWord) (sym i) (codes_free declared.variables variables);
      apart = subst AreApart (sym i) (are_apart (codes_of declared.variables) d);
      labels = labels_all (length base.labels) face.labels base.labels f verifs l;
      outputs = outputs_all face.outputs (subst (AllByRecursion IsCellName) (sym o) (cells_all declared requests (length (owners_from 0 declared.variables))
          cell known));
    }
