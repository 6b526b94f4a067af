use Rattle.std.proofs.Common.{◌≡◌, true, false, ap, sym, ◌∙◌, append-nil, length, refl}
use Rattle.std.proofs.lemmas.Option.{slice_get_read}
use Rattle.m_names.specs.Names.{has}
use Rattle.m_lint.proofs.NumberLemmas.{numbers-next}
use Rattle.m_facts.specs.Found.{is_first}
use Rattle.m_facts.proofs.FirstLemmas.{names-next, first-is}
use Rattle.m_facts.proofs.firsts.firsts_of.Goals.{then-branch+in_ok-push, else-branch}
use Rattle.m_facts.proofs.firsts.firsts_of.Goals as goal

pub loop-k-preserved : goal.loop-k-preserved
loop-k-preserved c =
    let outputs = c.args.outputs.now in
    let k = c.loop-k.k in
    let output = c.index-outputs-k.result in
    let test = is_first outputs in
    let fresh : c.in_ok-add_name.field-0 ≡ test k =
    first-is outputs k output c.loop-k.names c.in_ok-add_name.field-0 (slice_get_read outputs (length outputs) k output refl c.loop-k-test.true
    c.index-outputs-k.is) c.loop-k.invariant.1 c.in_ok-add_name.ensures.fresh in
    let numbers = numbers-next test c.loop-k.firsts.items c.if-branch.firsts.items k in (
      elim c.if-branch.branch [
        | then-branch+in_ok-push w ↦ numbers true c.loop-k.invariant.0 (sym w.if-branch.true ∙ fresh) (ap (λ v. v.items) w.firsts-is
            ∙ w.in_ok-push.ensures.items)
        | else-branch w ↦ numbers false c.loop-k.invariant.0 (sym w.if-branch.false ∙ fresh) (ap (λ v. v.items) w.firsts-is
            ∙ sym (append-nil c.loop-k.firsts.items))
      ],
      λ x. ap (has x) c.in_ok-add_name.ensures.added
          ∙ names-next outputs k output c.loop-k.names c.loop-k-test.true c.index-outputs-k.is c.loop-k.invariant.1 x,
    )
