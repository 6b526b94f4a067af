use Rattle.survey_commands.proofs.found.give_found.Given as goal

abbrev pub ghosts-buffer_found : goal.ghosts-buffer_found
ghosts-buffer_found g a = record { name = a.out.ghost_name; start = g.K.Sink.written a.out.now }
