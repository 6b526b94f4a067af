use Rattle.std.proofs.Common.{sym, ◌∙◌, subst}
use Rattle.std.specs.Prelude.{slice_index_or}
use Rattle.std.proofs.lemmas.Result.{IfOk-weaker}
use Rattle.m_fixed.specs.declared.amount.Value.TheVariants.{Undef}
use Rattle.m_fixed.specs.declared.operator.Op.TheVariants.{And}
use Rattle.flat_code.specs.declared.program.Node.TheVariants.{Do}
use Rattle.mpp_inline.specs.inner.Growth.{Pushed, Gives, typed_value}
use Rattle.mpp_inline.proofs.TruthLemmas.{any-truth, whole-truth, input-gives, truth-gives}
use Rattle.mpp_inline.proofs.begin.input_node.Goals as goal

pub returns-in-Any-clause-step : goal.returns-in-Any-clause-step
returns-in-Any-clause-step c = λ s low.
    subst (λ kind. Gives c.args.b.now c.push.new.self (λ inputs. typed_value kind (slice_index_or inputs c.args.next Undef)) c.in_ok-input.input)
    (sym c.in-Any.is)
    (input-gives c.in_ok-input.ensures low (λ e. any-truth (sym c.in-Any.is ∙ e)) s)

pub returns-in-Whole-clause-step : goal.returns-in-Whole-clause-step
returns-in-Whole-clause-step c = λ s low.
    subst (λ kind. Gives c.args.b.now c.push.new.self (λ inputs. typed_value kind (slice_index_or inputs c.args.next Undef)) c.in_ok-input.input)
    (sym c.in-Whole.is)
    (input-gives c.in_ok-input.ensures low (λ e. whole-truth (sym c.in-Whole.is ∙ e)) s)

pub returns-in-Truth-clause-step : goal.returns-in-Truth-clause-step
returns-in-Truth-clause-step c =
    let b = c.args.b.now in
    let d = c.push-in-Truth.new.self in
    let x = c.in_ok-input.input in
    IfOk-weaker _ (λ k. Pushed c.push.new.self d (Do And x x x) k) _
    (λ k p s low. subst (λ kind. Gives b d (λ inputs. typed_value kind (slice_index_or inputs c.args.next Undef)) k) (sym c.in-Truth.is)
    (truth-gives c.in_ok-input.ensures p low.there s))
    c.push-in-Truth.ensures
