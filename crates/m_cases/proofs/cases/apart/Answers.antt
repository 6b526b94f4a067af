use Rattle.std.proofs.Common.{◌∷◌, [], ◌++◌, ◌∙◌, ap, map, subst, sym}
use Rattle.m_cases.specs.declared.cases.Case.{Case}
use Rattle.m_cases.specs.Cases.{numbered}
use Rattle.m_cases.proofs.Numbered.{AreSmall, map_last}
use Rattle.m_cases.proofs.cases.apart.Goals as goal

pub loop-case-init : goal.loop-case-init
loop-case-init c = record {
  rows = c.new-rows.ensures.items;
  expected = c.new-expected.ensures.items;
  small = subst (AreSmall c.args.notes)
      (sym c.into_iter-case-iterator.ensures.into_iter_gives.0) c.requires;
}

pub numbered-requires : goal.numbered-requires
numbered-requires c = (subst (AreSmall c.args.notes) c.in-Some.ensures.steps.0 c.loop-case.invariant.small).0

pub loop-case-preserved : goal.loop-case-preserved
loop-case-preserved c =
    let case = c.in-Some.case in
    let before = c.loop-case.yielded in
    record {
      rows = c.in_ok-push.ensures.items ∙ ap (λ l. l ++ case.row ∷ []) c.loop-case.invariant.rows ∙ sym (map_last (λ (k : Case). k.row) before case);
      expected = c.in_ok-push-2.ensures.items ∙ ap (λ l. l ++ c.numbered.result ∷ []) c.loop-case.invariant.expected
          ∙ ap (λ x. map (numbered c.args.notes) (map (λ (k : Case). k.expected) before) ++ x ∷ []) c.numbered.ensures
          ∙ sym (map_last (numbered c.args.notes) (map (λ (k : Case). k.expected) before) case.expected)
          ∙ ap (map (numbered c.args.notes)) (sym (map_last (λ (k : Case). k.expected) before case));
      small = (subst (AreSmall c.args.notes) c.in-Some.ensures.steps.0 c.loop-case.invariant.small).1;
    }
