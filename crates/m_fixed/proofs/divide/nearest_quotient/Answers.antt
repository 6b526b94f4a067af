use Rattle.std.proofs.Common.{◌*◌, ◌^◌, ◌≤◌, arith, sym}
use Rattle.std.proofs.lemmas.Nat.{mul-le}
use Rattle.m_fixed.specs.Amounts.{most}
use Rattle.m_fixed.proofs.Rounds.{quotient_guessed}
use Rattle.m_fixed.proofs.divide.nearest_quotient.Goals as goal

pub returns-then-rest-d-clause-value : goal.returns-then-rest-d-clause-value
returns-then-rest-d-clause-value c =
    let room : (2 * c.guessed-guess.result) * c.args.by ≤ 2 ^ 53 * most = mul-le (2 * c.guessed-guess.result) c.args.by (2 ^ 53) most (omega arith)
    c.requires.by_in in
    sym (quotient_guessed c.args.size c.args.by c.guessed-guess.result (omega arith) (omega arith))
