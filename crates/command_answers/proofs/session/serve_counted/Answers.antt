use Rattle.std.proofs.Common.{refl, inl, inr}
use Rattle.tax_print.specs.FaultLines.{input_too_long_line, unreadable_input_line}
use Rattle.household_session.specs.Repliers.{ended_of}
use Rattle.command_plans.specs.Views.{output_view}
use Rattle.command_plans.specs.declared.status.Status.TheVariants.{ReadFault, Refused}
use Rattle.command_answers.specs.Serving.{to_its_end, unread, too_long, unwritten, unwritten_at_end}
use Rattle.code_answers.proofs.Printings.{prints_behind}
use Rattle.command_answers.proofs.session.serve_counted.Goals as goal

pub returns-in-Done : goal.returns-in-Done
returns-in-Done g c =
    let end = c.in-Done.ensures.end in
    to_its_end end.0.0 end.0.2.moved end.0.1 end.1 c.in-Done.ensures.counts.0 (end.0.2.appended, c.in-Done.ensures.counts.1) refl

pub returns-in-ReadFault : goal.returns-in-ReadFault
returns-in-ReadFault g c =
    let end = c.in-ReadFault.ensures.end in
    unread end.0 end.2.moved end.1 c.in-ReadFault.ensures.counts.0
    (prints_behind (output_view g.K.Sink.written g.K.Sink.faults c.args.out.now) (output_view g.K.Sink.written g.K.Sink.faults c.serve.new.out)
    (output_view g.K.Sink.written g.K.Sink.faults c.print_fault.new.out) (ended_of (g.R.Replier.replies c.args.replier.now) end.0) unreadable_input_line
    ReadFault c.print_fault.result
    end.2.appended c.in-ReadFault.ensures.counts.1 c.print_fault.ensures)

pub returns-in-WriteFault : goal.returns-in-WriteFault
returns-in-WriteFault g c =
    let end = c.in-WriteFault.ensures.end in
    elim end.3 [
      | inl ended ↦ unwritten end.0 end.2 end.1 c.in-WriteFault.ensures.counts.0 (ended.0, c.in-WriteFault.ensures.counts.1) refl
      | inr last ↦ unwritten_at_end end.0 end.2 last.0 last.1 c.in-WriteFault.ensures.counts.0 (last.2.0, c.in-WriteFault.ensures.counts.1) refl
    ]

pub returns : goal.returns
returns g c =
    let end = c.in-TooLong.ensures.end in
    too_long end.0 end.2.moved end.1 c.in-TooLong.ensures.counts.0
    (prints_behind (output_view g.K.Sink.written g.K.Sink.faults c.args.out.now) (output_view g.K.Sink.written g.K.Sink.faults c.serve.new.out)
    (output_view g.K.Sink.written g.K.Sink.faults c.print_fault-in-TooLong.new.out) (ended_of (g.R.Replier.replies c.args.replier.now) end.0)
    input_too_long_line Refused
    c.print_fault-in-TooLong.result end.2.appended c.in-TooLong.ensures.counts.1 c.print_fault-in-TooLong.ensures)
