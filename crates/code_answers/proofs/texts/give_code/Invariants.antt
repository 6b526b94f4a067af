use Rattle.code_answers.proofs.texts.give_code.Given as goal

abbrev pub ghosts-buffer_code : goal.ghosts-buffer_code
ghosts-buffer_code g a = record { name = a.out.ghost_name; start = g.K.Sink.written a.out.now }
