use Rattle.m_fixed.proofs.Grammar.{number_spelled, number_read_off, amount_spelled, amount_read_off}
use Rattle.m_fixed.proofs.laws.texts_are_read_by_their_form.Goals as goal

pub returns-clause-number : goal.returns-clause-number
returns-clause-number c = number_spelled

pub returns-clause-number_back : goal.returns-clause-number_back
returns-clause-number_back c = number_read_off

pub returns-clause-amount : goal.returns-clause-amount
returns-clause-amount c = amount_spelled

pub returns-clause-amount_back : goal.returns-clause-amount_back
returns-clause-amount_back c = amount_read_off
