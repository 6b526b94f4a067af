-- The invariant of a session, and the view of its parts.
use Rattle.std.specs.Prelude.{◌≡◌, List}
use Rattle.observables.specs.declared.face.Face.{Face}
use Rattle.flat_code.specs.declared.program.Flat.{Flat}
use Rattle.observables.specs.declared.inputs.Coded.{Coded}
use Rattle.flat_code.specs.Faces.{IsFaceOf}
use Rattle.household_session.specs.Commands.{SessionCommand, no_words, sets, clears, shows, too_long, bad}
use Rattle.household_session.specs.declared.command.LineCommand.{LineCommand}
use Rattle.household_session.specs.declared.command.LineCommand.TheVariants.{Nothing, Set, Clear, Show, TooLong, Bad}

-- The parts of a session match: the face is that of the sheet's program, and the index of codes is
-- of the face's inputs.
pub record IsReady (flat : Flat) (face : Face) (inputs : List Coded) : Type 0 where
  pub face_of : IsFaceOf face flat
  pub inputs_are : inputs ≡ face.inputs

-- the command for the code's own type
abbrev pub command_in : LineCommand → SessionCommand
command_in Nothing = no_words
command_in (Set code amount) = sets code.now amount.now
command_in (Clear code) = clears code.now
command_in Show = shows
command_in TooLong = too_long
command_in Bad = bad
