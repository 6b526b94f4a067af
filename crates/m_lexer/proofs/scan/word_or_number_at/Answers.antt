use Rattle.std.proofs.lemmas.Result.{err_from_is_err_and}
use Rattle.m_lexer.specs.Tokens.{too_great}
use Rattle.m_lexer.proofs.Going.{word_or_number_goes}
use Rattle.m_lexer.proofs.Pieces.{longest_word_or_number}
use Rattle.m_lexer.proofs.scan.word_or_number_at.Goals as goal

pub returns-in_err-kind-in-Number-clause-outcome : goal.returns-in_err-kind-in-Number-clause-outcome
returns-in_err-kind-in-Number-clause-outcome c =
    let p = err_from_is_err_and c.from_residual-in_err-kind-in-Number.result c.from_residual-in_err-kind-in-Number.ensures.1 in
    rw (p.1, p.2) (λ ne. let q = c.in_err-kind-in-Number.ensures.outcome ne in rw q.0
    (too_great (longest_word_or_number c.args.bytes.now c.args.place.byte c.in-Number.end c.in-Number.ensures.0) q.1))

pub returns-in_ok-kind-in-Word-clause-outcome : goal.returns-in_ok-kind-in-Word-clause-outcome
returns-in_ok-kind-in-Word-clause-outcome c =
    rw c.further.ensures (word_or_number_goes c.args.bytes.now c.args.place c.in-Word.end _ c.in-Word.ensures.0 c.in_ok-kind-in-Word.ensures)

pub returns-in_ok-kind-in-Number-clause-outcome : goal.returns-in_ok-kind-in-Number-clause-outcome
returns-in_ok-kind-in-Number-clause-outcome c =
    rw c.further-in-Number.ensures (word_or_number_goes c.args.bytes.now c.args.place c.in-Number.end _ c.in-Number.ensures.0
    c.in_ok-kind-in-Number.ensures.outcome)
