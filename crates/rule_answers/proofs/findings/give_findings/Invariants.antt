use Rattle.rule_answers.proofs.findings.give_findings.Given as goal

abbrev pub ghosts-buffer_findings : goal.ghosts-buffer_findings
ghosts-buffer_findings g a = record { name = a.out.ghost_name; start = g.K.Sink.written a.out.now }
