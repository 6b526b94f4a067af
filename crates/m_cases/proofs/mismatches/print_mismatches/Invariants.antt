use Rattle.std.proofs.Common.{◌≡◌, ◌≤◌, ◌+◌, drop}
use Rattle.m_ports.proofs.GivingLemmas.{Given}
use Rattle.m_cases.specs.Mismatches.{answer_values, mismatch_count, mismatch_lines, output_names}
use Rattle.m_cases.proofs.mismatches.print_mismatches.Given as goal

abbrev pub invariant-loop-one : goal.invariant-loop-one
invariant-loop-one g l =
    let vs = answer_values l.answer in
    record {
      given : Given g.K.Sink.written g.K.Sink.faults l.initial.out l.out (mismatch_lines (output_names l.face.outputs) l.label vs l.expected)
          (mismatch_lines (output_names l.face.outputs) l.label vs (drop l.one-index l.expected));
      counted : l.count + mismatch_count vs (drop l.one-index l.expected) ≡ mismatch_count vs l.expected;
      within : l.count ≤ l.one-index;
    }
