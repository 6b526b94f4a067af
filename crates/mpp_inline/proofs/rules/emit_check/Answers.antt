use Rattle.std.proofs.Common.{◌≡◌, ◌<◌, true, false, [], length, sym, ap, ◌∙◌, subst}
use Rattle.std.proofs.lemmas.Result.{on_ok_weaker}
use Rattle.m_places.specs.declared.verification.Label.{Label}
use Rattle.m_places.specs.declared.verification.ErrorKind.TheVariants.{Anomalie}
use Rattle.micro_m.specs.Failures.{is_stopping, kind_at}
use Rattle.mpp_inline.specs.inner.Growth.{CheckedRule, NotedAt}
use Rattle.mpp_inline.proofs.LabelLemmas.{rule-labelling, noted-labelling}
use Rattle.mpp_inline.proofs.StageLemmas.{rule-stage, noted-stage}
use Rattle.mpp_inline.proofs.rules.emit_check.Goals as goal

no-label : Label
no-label = record { verif = []; error = []; kind = Anomalie; text = [] }

pub returns-then-is_stopping-clause-step : goal.returns-then-is_stopping-clause-step
returns-then-is_stopping-clause-step c =
    let labels = c.args.labels.now in
    let b = c.args.b.now in
    let d' = c.check_rule.new.self in
    let stops : is_stopping (kind_at labels c.args.label) ≡ true = ap is_stopping (sym c.kind_at.ensures) ∙ sym c.is_stopping.ensures ∙ c.if-is_stopping.true in
    on_ok_weaker c.check_rule.result
    (λ (p : CheckedRule b d' c.args.guard c.args.condition false c.args.label). λ before env d step same low r.
    rule-stage d no-label (subst (λ n. n < length labels) (sym same) low) (ap (λ n. is_stopping (kind_at labels n)) same ∙ stops) step
    (subst (λ n. CheckedRule b d' c.args.guard c.args.condition false n) (sym same) p) r)
    c.check_rule.ensures

pub returns-clause-step : goal.returns-clause-step
returns-clause-step c =
    let labels = c.args.labels.now in
    let b = c.args.b.now in
    let d0 = c.check_rule-2.new.self in
    let d2 = c.push-2.new.self in
    let last = c.note.new.self in
    let stops : is_stopping (kind_at labels c.args.label) ≡ false = ap is_stopping (sym c.kind_at.ensures) ∙ sym c.is_stopping.ensures
    ∙ c.if-is_stopping.false in
    on_ok_weaker c.note.result
    (λ (p : NotedAt d2 last c.in_ok-node.node c.args.label). λ before env d step same low r.
    noted-stage d no-label (subst (λ n. n < length labels) (sym same) low) (ap (λ n. is_stopping (kind_at labels n)) same ∙ stops) step
    (subst (λ n. CheckedRule b d0 c.args.guard c.args.condition true n) (sym same) c.in_ok-check_rule.ensures)
    c.in_ok-truth.ensures c.in_ok-node.ensures
    (subst (λ n. NotedAt d2 last c.in_ok-node.node n) (sym same) p) r)
    c.note.ensures

pub returns-then-is_stopping-clause-labelling : goal.returns-then-is_stopping-clause-labelling
returns-then-is_stopping-clause-labelling c =
    let labels = c.args.labels.now in
    let stops : is_stopping (kind_at labels c.args.label) ≡ true = ap is_stopping (sym c.kind_at.ensures) ∙ sym c.is_stopping.ensures ∙ c.if-is_stopping.true in
    on_ok_weaker c.check_rule.result
    (λ (p : CheckedRule c.args.b.now c.check_rule.new.self c.args.guard c.args.condition false c.args.label). rule-labelling labels c.args.label stops p)
    c.check_rule.ensures

pub returns-clause-labelling : goal.returns-clause-labelling
returns-clause-labelling c =
    let labels = c.args.labels.now in
    let stops : is_stopping (kind_at labels c.args.label) ≡ false = ap is_stopping (sym c.kind_at.ensures) ∙ sym c.is_stopping.ensures
    ∙ c.if-is_stopping.false in
    on_ok_weaker c.note.result
    (λ (p : NotedAt c.push-2.new.self c.note.new.self c.in_ok-node.node c.args.label).
    noted-labelling labels c.args.label stops c.in_ok-check_rule.ensures c.in_ok-truth.ensures c.in_ok-node.ensures p)
    c.note.ensures
