use Rattle.std.proofs.Common.{◌≡◌, ◌+◌, ◌≤◌, ◌∷◌, drop, length, sym, ap, ◌∙◌, subst, arith, add-one}
use Rattle.m_symbols.specs.Declarations.{inputs_from, owners_from}
use Rattle.driver_core.specs.Answers.{next_input}
use Rattle.driver_core.specs.Inputs.{type_declared}
use Rattle.mpp_inline.specs.inner.Growth.{InputIsThere, kinds_from}
use Rattle.mpp_inline.proofs.BeginLemmas.{Starting, starting-next, drop-get, inputs-next, input-there}
use Rattle.mpp_inline.proofs.TruthLemmas.{typed-next}
use Rattle.mpp_inline.proofs.SizeLemmas.{placed-cells, owners-next}
use Rattle.mpp_inline.proofs.begin.first_cells.Goals as goal

pub loop-v-preserved : goal.loop-v-preserved
loop-v-preserved c =
    let b = c.args.b.now in
    let vars = c.args.symbols.now.variables in
    let i = c.loop-v.v in
    let v = c.variable-variable.result.now in
    let role = v.item.role in
    let rest = drop (i + 1) vars in
    let next = c.loop-v.next in
    let total = length (inputs_from 0 vars) in
    let env = c.loop-v.env.items in
    let k = c.in_ok-number.number in
    let here : drop i vars ≡ v ∷ rest = drop-get vars i v c.variable-variable.ensures ∙ ap (λ n. v ∷ drop n vars) (sym (add-one i)) in
    let counted : next + length (inputs_from 0 (v ∷ rest)) ≡ total = subst (λ l. next + length (inputs_from 0 l) ≡ total) here c.loop-v.invariant.counted in
    let few : total ≤ c.inputs-inputs.result = omega (arith, c.inputs-inputs.ensures) in
    let kind = type_declared v.item.value_word in
    let typed = typed-next (kinds_from vars) next v rest (c.loop-v.invariant.typed ∙ ap kinds_from here) in
    let there : InputIsThere b.inputs next kind role = subst (λ ks. InputIsThere ks next kind role) (sym c.requires.inputs) typed.0 in
    let behind : c.input_behind-next.result ≡ next_input next role = c.input_behind-next.ensures
    (input-there next total c.inputs-inputs.result v rest counted few) in
    record {
      step = λ s.
          let st = subst (λ l. Starting b c.loop-v.b vars l next env) here (c.loop-v.invariant.step s) in
          subst (λ n. Starting b c.first_node.new.b vars rest n c.add_cells.new.env.items) (sym behind)
          (subst (λ e. Starting b c.first_node.new.b vars rest (next_input next role) e) (sym c.in_ok-add_cells.ensures)
          (starting-next v st (λ t. c.in_ok-number.ensures.step t (subst (λ ks. InputIsThere ks next kind role) (sym st.grows.base.inputs) there))));
      size = omega (
        arith,
        c.loop-v.invariant.size,
        ap (λ l. length (owners_from 0 l)) here,
        owners-next v rest,
        placed-cells 0 vars c.requires.placed i v
            c.variable-variable.ensures,
        c.in_ok-number.ensures.size,
      );
      typed = subst (λ n. drop n (kinds_from vars) ≡ kinds_from rest) (sym behind) typed.1;
      counted = subst (λ n. n + length (inputs_from 0 rest) ≡ total) (sym behind) (inputs-next next total v rest counted);
    }

pub first_node-requires : goal.first_node-requires
first_node-requires c =
    let vars = c.args.symbols.now.variables in
    let i = c.loop-v.v in
    let v = c.variable-variable.result.now in
    let rest = drop (i + 1) vars in
    let here : drop i vars ≡ v ∷ rest = drop-get vars i v c.variable-variable.ensures ∙ ap (λ n. v ∷ drop n vars) (sym (add-one i)) in
    omega (
      arith,
      c.requires.room,
      c.loop-v.invariant.size,
      ap (λ l. length (owners_from 0 l)) here,
      owners-next v rest,
      placed-cells 0 vars c.requires.placed i
          v c.variable-variable.ensures,
    )
