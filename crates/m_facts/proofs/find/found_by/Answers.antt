use Rattle.std.proofs.Common.{◌≡◌, ◌<◌, length, ap, sym, ◌∙◌, subst}
use Rattle.std.specs.List.{AllByRecursion}
use Rattle.m_facts.specs.Found.{is_first, firsts_of}
use Rattle.m_facts.proofs.FindLemmas.{numbers-low}
use Rattle.m_facts.proofs.find.found_by.Goals as goal

pub reads_of-requires-clause-within : goal.reads_of-requires-clause-within
reads_of-requires-clause-within c =
    let face = c.args.face.now in
    let is : c.deref.result.now ≡ firsts_of face.outputs = c.deref.ensures.value ∙ c.in_ok-firsts.ensures ∙ ap firsts_of c.as_slice-2.ensures in
    subst (AllByRecursion (λ k. k < length c.args.flat.now.outputs)) (sym is)
    (subst (λ n. AllByRecursion (λ k. k < n) (firsts_of face.outputs)) c.requires.shown.outputs (numbers-low (is_first face.outputs) (length face.outputs)))
