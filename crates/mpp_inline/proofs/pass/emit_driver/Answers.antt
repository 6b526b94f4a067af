use Rattle.std.proofs.Common.{◌+◌, ◌++◌, map, length, get_or, sym, ap, ◌∙◌, arith, add-one}
use Rattle.std.proofs.lemmas.Result.{IfOk-weaker}
use Rattle.std.proofs.lemmas.List.{length-map}
use Rattle.driver_core.specs.Answers.{start_from, observation_by}
use Rattle.driver_core.specs.Meaning.{called}
use Rattle.mpp_inline.specs.Labelling.{first_labelling, with_body}
use Rattle.mpp_inline.specs.inner.Growth.{Ready, HasLiterals, Begun, begun_from, rules_in_turn}
use Rattle.mpp_inline.specs.inner.Observation.{nodes_of}
use Rattle.mpp_inline.specs.inner.Work.{Step}
use Rattle.mpp_inline.proofs.GrowthLemmas.{faces-on}
use Rattle.mpp_inline.proofs.BeginLemmas.{begun-same, start-long}
use Rattle.mpp_inline.proofs.EndLemmas.{last-answer, last-known, whole-run}
use Rattle.mpp_inline.proofs.OrderLemmas.{run-same}
use Rattle.mpp_inline.proofs.pass.emit_driver.Goals as goal

pub returns-clause-answers : goal.returns-clause-answers
returns-clause-answers c =
    let core = c.args.core.now in
    let base = c.args.ordered.now.base in
    let sequence = c.args.ordered.now.sequence in
    let vars = c.args.symbols.now.variables in
    let requests = c.args.requests.now in
    let b0 = c.args.b.now in
    let b1 = c.first_cells.new.b in
    let b2 = c.emit_all.new.b in
    let e = c.in_ok-env.env.items in
    let f = c.emit_all.new.env.items in
    let next = called (rules_in_turn base sequence) core.bodies (length core.bodies + 1) core.main in
    IfOk-weaker c.outputs_of.result _ _
    (λ outputs given. λ (literal : HasLiterals base.labels b0).
    let begun : Begun b0 b1 (λ inputs. begun_from inputs 0 vars) e = c.in_ok-env.ensures.step literal.sane in
    let ready : Ready base.labels b1 e 2 = record {
      placed = record {
        sane = begun.grows.base.sane;
        known = begun.known;
        guard = begun.grows.base.sane.literal 2
            (omega arith);
      };
      labelled = faces-on begun.grows.base literal.labelled;
    } in
    let more = with_body base core.bodies (length core.bodies + 1) core.main in
    let step : Step b1 b2 2 e f next more = c.in_ok-emit_all.ensures.step ready in
    let wanted = map (λ x. get_or f x 0) requests in
    record {
      sane = step.base.sane;
      labelled = faces-on step.base ready.labelled;
      labelling = step.labelling ∙ ap more (begun.grows.labelling ∙ literal.labelling)
          ∙ ap (λ n. with_body base core.bodies n core.main (first_labelling base.labels)) (add-one (length core.bodies));
      inputs = step.base.inputs ∙ begun.grows.base.inputs ∙ c.requires.inputs;
      wanted = wanted;
      outputs_are = given ∙ (λ i. nodes_of (c.deref.ensures.value i) ++ map (λ x. get_or (c.deref-2.ensures.value i) x 0) requests);
      requested_known = last-known b2 f requests step.base.sane step.known;
      requested_long = length-map requests (λ x. get_or f x 0);
      answer = λ inputs typed.
          last-answer b2 f requests inputs step.base.sane
          ∙ ap (observation_by requests) (whole-run inputs literal begun step
          ∙ ap next (begun-same c.args.symbols.now inputs typed)
          ∙ run-same core base sequence (start_from inputs 0 vars) c.requires.base c.requires.order (start-long inputs 0 0 vars ∙ sym c.requires.cells));
    })
    c.outputs_of.ensures

pub emit_all-requires : goal.emit_all-requires
emit_all-requires c = record {
  valid = c.requires.base;
  order = c.requires.order;
  room = omega (arith, c.requires.room, c.requires.cells, c.in_ok-env.ensures.size);
}
