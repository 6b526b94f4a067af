use Rattle.household_session.proofs.buffer.reply_whole.Given as goal

abbrev pub ghosts-buffer_reply : goal.ghosts-buffer_reply
ghosts-buffer_reply g a = record { name = a.out.ghost_name; start = g.K.Sink.written a.out.now }
