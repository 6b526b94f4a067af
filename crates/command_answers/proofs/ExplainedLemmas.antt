-- The explanations of a session are those of its source.
use Rattle.std.proofs.Common.{◌≡◌, ℕ, List, [], ◌∷◌, ◌++◌, length, replicate, refl, sym, ap, ◌∙◌, subst}
use Rattle.m_fixed.specs.declared.amount.Value.{Value}
use Rattle.m_places.specs.declared.source.Source.{Source}
use Rattle.m_names.specs.Names.{AreDistinct}
use Rattle.m_ast.specs.declared.variable.Role.{Role}
use Rattle.m_ast.specs.declared.variable.Role.TheVariants.{Input, Computed, Constant}
use Rattle.m_symbols.specs.declared.variable.Variable.{Variable}
use Rattle.m_symbols.specs.Declarations.{Declared, inputs_from, names_of}
use Rattle.micro_m.specs.Bases.{IsValidBase}
use Rattle.micro_m.specs.Values.{environment}
use Rattle.micro_m.specs.declared.base.Base.{Base}
use Rattle.rule_order.specs.declared.ordered.Ordered.{Ordered}
use Rattle.rule_order.specs.Orders.{IsOrder}
use Rattle.driver_core.specs.Answers.{first_value, next_input, start_from, start_of}
use Rattle.why_report.specs.Reasons.{why_lines}
use Rattle.why_report.specs.Starts.{start_among, start_env, start_value}
use Rattle.why_report.proofs.ReasonLemmas.{why-reason}
use Rattle.why_session.specs.Explains.{explanation}
use Rattle.why_session.specs.Joined.{explains_by}
use Rattle.m_compile.specs.Sources.{HasRules}
use Rattle.m_compile.proofs.Distinct.{distinct_names, many_inputs}
use Rattle.m_compile.proofs.OneLaws.{one_rules}
use Rattle.command_answers.specs.Explained.{IsExplained}
use Rattle.command_answers.specs.inner.Answers.{IsPrepared}
use Rattle.code_answers.specs.Schemes.{Scheme}
use Rattle.m_compile.specs.declared.compiling.Program.{Program}

-- the start values of cells by a reporter and by a driver
same_first : (inputs : List Value) (n : ℕ) (role : Role) → start_value inputs n role ≡ first_value inputs n role
same_first inputs n (Input code) = refl
same_first inputs n (Computed size) = refl
same_first inputs n (Constant amount) = refl

same_from : (inputs : List Value) (n : ℕ) (vs : List Variable) → start_among inputs n vs ≡ start_from inputs n vs
same_from inputs n [] = refl
same_from inputs n (v ∷ vs) = λ i. replicate v.cells (same_first inputs n v.item.role i) ++ same_from inputs (next_input n v.item.role) vs i

same_start : (declared : Declared) (inputs : List Value) → start_env declared inputs ≡ start_of declared inputs
same_start declared inputs = same_from inputs 0 declared.variables

-- the reasons in an order explain a source
pub is_explained : (source : Source) (declared : Declared) (ordered : Ordered) → HasRules source declared ordered.base → IsValidBase ordered.base
    → IsOrder ordered.base ordered.sequence
    → IsExplained source (explains_by declared ordered)
is_explained source declared ordered rules valid order = record {
  declared = declared;
  base = ordered.base;
  rules = rules;
  lines = λ values c. why_lines ordered (environment (start_of declared values)) c;
  reasons = λ values c low. why-reason ordered (environment (start_of declared values)) c valid order low;
  stated = λ values name. ap (λ (env : List Value). explanation declared (λ c. why_lines ordered (environment env) c) name) (same_start declared values);
}

-- a prepared program has an input for each declared input
pub as_many_inputs : (source : Source) (program : Program) (declared : Declared) (base : Base) → IsPrepared source program → HasRules source declared base
    → length program.face.inputs ≡ length (inputs_from 0 declared.variables)
as_many_inputs source program declared base is rules =
    let same = (one_rules source is.valid.declared declared is.valid.base base is.valid.valid.rules rules).0 in
    ap length is.shows.inputs ∙ ap (λ (s : Scheme). length s.inputs) is.valid.stated ∙ many_inputs is.valid.declared
    ∙ ap (λ (d : Declared). length (inputs_from 0 d.variables)) same

-- the variables of a source have distinct names
pub distinct_variables : (source : Source) (declared : Declared) (base : Base) → HasRules source declared base → AreDistinct (names_of declared.variables)
distinct_variables source declared base rules =
    subst (λ (d : Declared). AreDistinct (names_of d.variables)) (sym rules.made.symbols) (distinct_names rules.made.items rules.made.declares.faultless)
