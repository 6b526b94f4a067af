use Rattle.std.proofs.Common.{◌≡◌, drop}
use Rattle.household_session.specs.Commands.{line_words}
use Rattle.household_session.proofs.words.without_spaces.Given as goal

abbrev pub invariant-loop-from : goal.invariant-loop-from
invariant-loop-from l = line_words (drop l.from l.line) ≡ line_words l.line
