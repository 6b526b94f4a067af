use Rattle.std.proofs.Common.{drop, [], ◌∷◌, ◌++◌}
use Rattle.m_text.specs.Pieces.{joined}
use Rattle.m_ports.proofs.GivingLemmas.{Given}
use Rattle.m_text.specs.Pieces.{new_line}
use Rattle.tax_print.specs.FaultLines.{names_text}
use Rattle.tax_print.proofs.fault_line.give_names.Given as goal

abbrev pub invariant-loop-name : goal.invariant-loop-name
invariant-loop-name g l =
    Given g.K.Sink.written g.K.Sink.faults l.fn.out l.out (joined (l.words ∷ names_text l.names ∷ new_line ∷ []))
    (names_text (drop l.name-index l.names) ++ new_line)
