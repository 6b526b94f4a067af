use Rattle.std.proofs.Common.{◌≡◌, ℕ, ◌+◌, ◌*◌, ◌≤◌, sym, ap, ◌∙◌, subst, arith}
use Rattle.std.proofs.lemmas.Result.{IfOk-weaker, on_ok_weaker}
use Rattle.driver_core.specs.ActionView.{action_of, block_of}
use Rattle.driver_core.specs.Actions.{Action, assign, branch, partition, call, solve}
use Rattle.micro_m.specs.Values.{term_value}
use Rattle.driver_core.specs.Leaves.{rule_term}
use Rattle.driver_core.specs.Weights.{tree_weight}
use Rattle.mpp_inline.specs.inner.Work.{Whole, Standing, Moves, ahead, whole_of}
use Rattle.mpp_inline.specs.inner.Sizes.{load, left_weight, left_turns, action_size, block_size, action_turns, block_turns}
use Rattle.mpp_inline.proofs.SizeLemmas.{tree-pos}
use Rattle.mpp_inline.proofs.WorkLemmas.{step-moves-is, set-step, del-step}
use Rattle.mpp_inline.proofs.blocks.begin_command.Goals as goal

pub returns-in_ok-assign_under-in-Set-clause-step : goal.returns-in_ok-assign_under-in-Set-clause-step
returns-in_ok-assign_under-in-Set-clause-step c =
    λ s. step-moves-is c.args.frame.depth (sym (ap action_of c.in-Set.is) ∙ c.command.view_is) s
    (set-step (λ x. term_value x (rule_term c.in-Set.term)) c.in-Set.cell c.in_ok-number-in-Set.ensures.step c.in_ok-assign_under-in-Set.ensures.step
    s.ready.placed)

pub returns-in_ok-assign_under-in-Del-clause-step : goal.returns-in_ok-assign_under-in-Del-clause-step
returns-in_ok-assign_under-in-Del-clause-step c =
    λ s. step-moves-is c.args.frame.depth (sym (ap action_of c.in-Del.is) ∙ c.command.view_is) s
    (del-step c.in-Del.cell c.in_ok-assign_under-in-Del.ensures.step s.ready.placed)

pub returns-in-If-clause-step : goal.returns-in-If-clause-step
returns-in-If-clause-step c =
    let b = c.args.b.now in
    let e = c.args.env.now in
    let g = c.args.frame.guard in
    let ws = c.args.left.now.items in
    let whole = whole_of c.args.driver.now.core.now c.args.driver.now.ordered.now in
    let first = c.deref.result.now in
    let second = c.deref-in-If.result.now in
    let made : Action = branch c.in-If.line (rule_term c.in-If.condition) (block_of first) (block_of second) in
    let is : made ≡ c.args.command.now =
    (λ i. branch c.in-If.line (rule_term c.in-If.condition) (block_of (c.deref.ensures.value i)) (block_of (c.deref-in-If.ensures.value i)))
    ∙ sym (ap action_of c.in-If.is) ∙ c.command.view_is in
    IfOk-weaker c.begin_if.result
    (λ (k : ℕ). (w : Whole) → Standing w b e g ws
    → Moves w b c.begin_if.new.b e k ws c.begin_if.new.left.items (λ inputs. ahead w b inputs e g c.args.frame.depth made))
    _
    (λ (k : ℕ) (m : (w : Whole) → Standing w b e g ws
    → Moves w b c.begin_if.new.b e k ws c.begin_if.new.left.items (λ inputs. ahead w b inputs e g c.args.frame.depth made)).
    λ s. subst (λ a. Moves whole b c.begin_if.new.b e k ws c.begin_if.new.left.items (λ inputs. ahead whole b inputs e g c.args.frame.depth a)) is (m whole s))
    c.begin_if.ensures.step

pub returns-in_ok-begin_kind-in-Partition-clause-step : goal.returns-in_ok-begin_kind-in-Partition-clause-step
returns-in_ok-begin_kind-in-Partition-clause-step c =
    let whole = whole_of c.args.driver.now.core.now c.args.driver.now.ordered.now in
    let b = c.args.b.now in
    let e = c.args.env.now in
    let is : partition c.in-Partition.line c.in-Partition.cells (block_of c.deref-in-Partition.result.now) ≡ c.args.command.now =
    ap (λ l. partition c.in-Partition.line c.in-Partition.cells (block_of l)) c.deref-in-Partition.ensures.value
    ∙ sym (ap action_of c.in-Partition.is) ∙ c.command.view_is in
    λ s. subst (λ a. Moves whole b b c.begin_kind.new.env c.args.frame.guard c.args.left.now.items c.begin_kind.new.left.items
    (λ inputs. ahead whole b inputs e c.args.frame.guard c.args.frame.depth a)) is
    (c.in_ok-begin_kind-in-Partition.ensures.step whole b c.args.frame.guard s)

pub returns-in_ok-begin_call-in-Call-clause-step : goal.returns-in_ok-begin_call-in-Call-clause-step
returns-in_ok-begin_call-in-Call-clause-step c =
    let whole = whole_of c.args.driver.now.core.now c.args.driver.now.ordered.now in
    let b = c.args.b.now in
    let e = c.args.env.now in
    let is : call c.in-Call.field-0 c.in-Call.field-1 c.as_slice.result.now c.in-Call.function ≡ c.args.command.now =
    ap (λ xs. call c.in-Call.field-0 c.in-Call.field-1 xs c.in-Call.function) c.as_slice.ensures ∙ sym (ap action_of c.in-Call.is) ∙ c.command.view_is in
    λ s. subst (λ a. Moves whole b b e c.args.frame.guard c.args.left.now.items c.begin_call.new.left.items
    (λ inputs. ahead whole b inputs e c.args.frame.guard c.args.frame.depth a)) is
    (c.in_ok-begin_call-in-Call.ensures.step c.in-Call.field-0 c.in-Call.field-1 c.args.driver.now.ordered.now b c.args.frame.guard s)

pub returns-in_ok-emit_rules-in-Rules-clause-step : goal.returns-in_ok-emit_rules-in-Rules-clause-step
returns-in_ok-emit_rules-in-Rules-clause-step c =
    λ s. step-moves-is c.args.frame.depth (ap (solve c.in-Rules.field-0 c.in-Rules.field-1) c.as_slice-in-Rules.ensures ∙ sym (ap action_of c.in-Rules.is)
    ∙ c.command.view_is) s
    (c.in_ok-emit_rules-in-Rules.ensures.step s.ready)

pub assign_under-requires : goal.assign_under-requires
assign_under-requires c =
    let whole = whole_of c.args.driver.now.core.now c.args.driver.now.ordered.now in
    let is : assign c.in-Set.field-0 c.in-Set.cell (rule_term c.in-Set.term) ≡ c.args.command.now = sym (ap action_of c.in-Set.is) ∙ c.command.view_is in
    omega (arith, c.requires.room, c.in_ok-number-in-Set.ensures.size, tree-pos (rule_term c.in-Set.term), ap (action_size whole c.args.frame.depth) is)

pub returns-in_ok-assign_under-in-Set-clause-size : goal.returns-in_ok-assign_under-in-Set-clause-size
returns-in_ok-assign_under-in-Set-clause-size c =
    let whole = whole_of c.args.driver.now.core.now c.args.driver.now.ordered.now in
    let is : assign c.in-Set.field-0 c.in-Set.cell (rule_term c.in-Set.term) ≡ c.args.command.now = sym (ap action_of c.in-Set.is) ∙ c.command.view_is in
    omega (
      arith,
      c.in_ok-number-in-Set.ensures.size,
      c.in_ok-assign_under-in-Set.ensures.size,
      tree-pos (rule_term c.in-Set.term),
      ap
          (action_size whole c.args.frame.depth) is,
    )

pub begin_if-requires : goal.begin_if-requires
begin_if-requires c =
    let whole = whole_of c.args.driver.now.core.now c.args.driver.now.ordered.now in
    let is : branch c.in-If.line (rule_term c.in-If.condition) (block_of c.in-If.first.items) (block_of c.in-If.second.items) ≡ c.args.command.now = sym
    (ap action_of c.in-If.is) ∙ c.command.view_is in
    omega (arith, c.requires.room, tree-pos (rule_term c.in-If.condition), ap (action_size whole c.args.frame.depth) is)

pub returns-in-If-clause-size : goal.returns-in-If-clause-size
returns-in-If-clause-size c =
    let whole = whole_of c.args.driver.now.core.now c.args.driver.now.ordered.now in
    let depth = c.args.frame.depth in
    let ws = c.args.left.now.items in
    let first = c.deref.result.now in
    let second = c.deref-in-If.result.now in
    let is : branch c.in-If.line (rule_term c.in-If.condition) (block_of first) (block_of second) ≡ c.args.command.now =
    (λ i. branch c.in-If.line (rule_term c.in-If.condition) (block_of (c.deref.ensures.value i)) (block_of (c.deref-in-If.ensures.value i)))
    ∙ sym (ap action_of c.in-If.is) ∙ c.command.view_is in
    on_ok_weaker c.begin_if.result
    (λ (m : (w : Whole) → load c.begin_if.new.b + 6 * left_weight w c.begin_if.new.left.items ≤ load c.args.b.now + 2 * tree_weight
    (rule_term c.in-If.condition) + 4 + 6 *
    (left_weight w ws + block_size w depth (block_of first) + block_size w depth (block_of second))).
    let goal' : load c.begin_if.new.b + 6 * left_weight whole c.begin_if.new.left.items ≤ load c.args.b.now + 6 *
    (left_weight whole ws + action_size whole depth c.args.command.now) = omega (
      arith,
      m whole,
      tree-pos (rule_term c.in-If.condition),
      ap (action_size whole depth)
          is,
    ) in goal')
    c.begin_if.ensures.size

pub returns-in-If-clause-turns : goal.returns-in-If-clause-turns
returns-in-If-clause-turns c =
    let whole = whole_of c.args.driver.now.core.now c.args.driver.now.ordered.now in
    let depth = c.args.frame.depth in
    let ws = c.args.left.now.items in
    let first = c.deref.result.now in
    let second = c.deref-in-If.result.now in
    let is : branch c.in-If.line (rule_term c.in-If.condition) (block_of first) (block_of second) ≡ c.args.command.now =
    (λ i. branch c.in-If.line (rule_term c.in-If.condition) (block_of (c.deref.ensures.value i)) (block_of (c.deref-in-If.ensures.value i)))
    ∙ sym (ap action_of c.in-If.is) ∙ c.command.view_is in
    on_ok_weaker c.begin_if.result
    (λ (m : (w : Whole) → left_turns w c.begin_if.new.left.items ≡ left_turns w ws + block_turns w depth (block_of first) + block_turns w depth
    (block_of second) + 2).
    let goal' : left_turns whole c.begin_if.new.left.items ≤ left_turns whole ws + action_turns whole depth c.args.command.now = omega
    (arith, m whole, ap (action_turns whole depth) is) in goal')
    c.begin_if.ensures.turns
