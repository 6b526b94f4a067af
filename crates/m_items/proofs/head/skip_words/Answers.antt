use Rattle.std.proofs.Common.{◌∙◌, sym, arith}
use Rattle.m_items.proofs.Words.{words_turn, words_stop}
use Rattle.m_items.proofs.head.skip_words.Goals as goal

pub words-preserved : goal.words-preserved
words-preserved c =
    let taken = rw c.in-Some.is at c.take_word.ensures.word in
    let less = rw c.in-Some.is at c.take_word.ensures.shorter in
    record {
      words = c.words.invariant.words ∙ words_turn _ taken;
      shorter = omega (arith, less, c.words.invariant.shorter);
    }

pub returns-clause-words : goal.returns-clause-words
returns-clause-words c =
    let none = rw c.in_default.is at c.take_word.ensures.word in
    rw none.0 (sym (c.words.invariant.words ∙ words_stop _ none.1))
