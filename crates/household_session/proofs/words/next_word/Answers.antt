use Rattle.std.proofs.Common.{◌≡◌, true, length, ap, sym, ◌∙◌, inl, inr}
use Rattle.std.proofs.lemmas.Bool.{eqb-false}
use Rattle.household_session.specs.Commands.{starts_word}
use Rattle.household_session.proofs.WordLemmas.{first_word}
use Rattle.household_session.proofs.words.next_word.Goals as goal

pub returns : goal.returns
returns c =
    let some = eqb-false (length c.without_spaces-line.result.now) 0 (sym c.is_empty.ensures ∙ c.if-is_empty.false) in
    let starts : starts_word c.without_spaces-line.result.now ≡ true = elim c.without_spaces-line.ensures.front
    [ inl none ↦ absurd (some (ap length none)) | inr word ↦ word ] in
    first_word c.args.line.now c.without_spaces-line.result.now c.word_end-end.result c.without_spaces-line.ensures.words starts c.word_end-end.ensures
