use Rattle.std.proofs.Common.{◌≡◌, ◌+◌, ◌∷◌, ◌++◌, drop, sym, ap, ◌∙◌, add-one}
use Rattle.mpp_inline.specs.inner.Growth.{kinds_from}
use Rattle.mpp_inline.proofs.BeginLemmas.{drop-get}
use Rattle.mpp_inline.proofs.TruthLemmas.{kinds-next}
use Rattle.mpp_inline.proofs.begin.input_types.Goals as goal

pub loop-v-preserved : goal.loop-v-preserved
loop-v-preserved c =
    let vars = c.args.symbols.now.variables in
    let i = c.loop-v.v in
    let v = c.variable.result.now in
    let rest = drop (i + 1) vars in
    let here : drop i vars ≡ v ∷ rest = drop-get vars i v c.variable.ensures ∙ ap (λ n. v ∷ drop n vars) (sym (add-one i)) in
    ap (λ ks. ks ++ kinds_from rest) c.in_ok-add_type.ensures
    ∙ kinds-next c.loop-v.kinds.items v rest
    ∙ ap (λ l. c.loop-v.kinds.items ++ kinds_from l) (sym here)
    ∙ c.loop-v.invariant
