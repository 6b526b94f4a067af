use Rattle.mpp_lexer.specs.Tokens.{word, number}
use Rattle.mpp_lexer.proofs.Steps.{word_goes, great_there}
use Rattle.mpp_lexer.proofs.line.token_at.Goals as goal

pub returns-in_ok-word-in-Word-clause-token : goal.returns-in_ok-word-in-Word-clause-token
returns-in_ok-word-in-Word-clause-token c =
    let found = c.in-Word.ensures in
    rw c.in_ok-word-in-Word.ensures (word_goes c.args.line.now c.args.at c.in-Word.end _ c.requires.within
    (c.is_word_byte.ensures.0 c.if-not-is_word_byte.false) found.0 (word found.1) (word found.1))

pub returns-in-Some-clause-token : goal.returns-in-Some-clause-token
returns-in-Some-clause-token c =
    let found = c.in-Number.ensures in
    let spells = rw c.in-Some.is at c.in_ok-number-in-Number.ensures in
    word_goes c.args.line.now c.args.at c.in-Number.end _ c.requires.within (c.is_word_byte.ensures.0 c.if-not-is_word_byte.false) found.0 (number found.1)
    spells

pub returns-in-None-clause-token : goal.returns-in-None-clause-token
returns-in-None-clause-token c =
    let found = c.in-Number.ensures in
    let great = rw c.in-None.is at c.in_ok-number-in-Number.ensures in
    great_there c.args.line.now c.args.at c.in-Number.end c.requires.within (c.is_word_byte.ensures.0 c.if-not-is_word_byte.false) found.0 great
