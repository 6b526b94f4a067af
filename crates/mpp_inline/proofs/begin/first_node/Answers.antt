use Rattle.std.proofs.Common.{sym, subst, cond}
use Rattle.std.specs.Prelude.{slice_index_or}
use Rattle.std.proofs.lemmas.Result.{IfOk-weaker}
use Rattle.m_fixed.specs.declared.amount.Value.TheVariants.{Undef, Num}
use Rattle.m_ast.specs.Items.{is_input}
use Rattle.flat_code.specs.declared.program.Node.TheVariants.{Lit}
use Rattle.driver_core.specs.Answers.{first_value}
use Rattle.driver_core.specs.Inputs.{type_declared}
use Rattle.mpp_inline.specs.inner.Growth.{Pushed, Gives, Sane, HasInput, InputIsThere, typed_value}
use Rattle.mpp_inline.proofs.CheckGrowth.{gives-lit}
use Rattle.mpp_inline.proofs.begin.first_node.Goals as goal

pub returns-in-Input-clause-step : goal.returns-in-Input-clause-step
returns-in-Input-clause-step c =
    let b = c.args.b.now in
    let d = c.input_node.new.b in
    let next = c.args.next in
    let word = c.args.item.now.value_word in
    let is = c.in-Input.is in
    IfOk-weaker _ (λ k. Sane b → HasInput b.inputs next c.kind_of.result → Gives b d (λ inputs. typed_value c.kind_of.result (slice_index_or inputs next Undef))
    k) _
    (λ k step s. subst (λ r. InputIsThere b.inputs next (type_declared word) r
    → Gives b d (λ inputs. cond (is_input r) (typed_value (type_declared word) (slice_index_or inputs next Undef)) (first_value inputs next r)) k) (sym is)
    (λ low. subst (λ kind. Gives b d (λ inputs. typed_value kind (slice_index_or inputs next Undef)) k) c.kind_of.ensures
    (step s (subst (HasInput b.inputs next) (sym c.kind_of.ensures) low))))
    c.input_node.ensures.step

pub returns-in-Constant-clause-step : goal.returns-in-Constant-clause-step
returns-in-Constant-clause-step c =
    let b = c.args.b.now in
    let d = c.push.new.self in
    let next = c.args.next in
    let word = c.args.item.now.value_word in
    IfOk-weaker _ (λ k. Pushed b d (Lit (Num c.in-Constant.amount)) k) _
    (λ k p s h. subst (λ r. Gives b d (λ inputs. cond (is_input r) (typed_value (type_declared word) (slice_index_or inputs next Undef))
    (first_value inputs next r)) k) (sym c.in-Constant.is) (gives-lit (Num c.in-Constant.amount) p s))
    c.push.ensures
