use Rattle.household_session.specs.Commands.{session_command}
use Rattle.household_session.specs.Sessions.{showing_of}
use Rattle.household_session.proofs.TypeLemmas.{command_keeps}
use Rattle.household_session.proofs.laws.values_stay.Goals as goal

pub returns : goal.returns
returns c = λ sitting first all. command_keeps (showing_of sitting) sitting.values (session_command first) all
