use Rattle.survey_commands.proofs.stops.give_verif.Goals as goal

pub returns : goal.returns
returns g c = rw (c.bytes.ensures, c.bytes-2.ensures) at c.give_words.ensures
