use Rattle.std.proofs.Common.{◌≡◌, get_or, refl, ap, ◌∙◌, length, arith}
use Rattle.std.proofs.lemmas.Result.{err_from_is_err_and}
use Rattle.m_ports.proofs.GivingLemmas.{piece_given, piece_failed, all_given}
use Rattle.m_facts.specs.Lines.{printed_name}
use Rattle.m_facts.proofs.PrintLemmas.{reads-at, reads-end, within-both, past-one}
use Rattle.m_facts.proofs.print.print_reads.Goals as goal

pub returns-in_err-print_read : goal.returns-in_err-print_read
returns-in_err-print_read g c =
    let p = err_from_is_err_and c.from_residual.result c.from_residual.ensures.1 in
    let gave = rw (c.as_slice-in-loop-j.ensures, c.as_slice-in-loop-j-2.ensures) at c.in_err-print_read.ensures in
    let low = within-both c.loop-j.j (length c.args.firsts.now) (length c.args.reads.now) (omega (arith, c.loop-j-test.true, c.min-j-end.ensures)) in
    let named : c.printed_name-name.result.now ≡ printed_name c.args.face.now.outputs (get_or c.args.firsts.now c.loop-j.j 0) =
    c.printed_name-name.ensures ∙ ap (λ outputs. printed_name outputs (get_or c.args.firsts.now c.loop-j.j 0)) c.as_slice.ensures in
    piece_failed _ _ _ _ _ _ _ _ _ _ _ p.1
    (reads-at c.args.face.now c.args.firsts.now c.args.reads.now c.loop-j.j (get_or c.args.firsts.now c.loop-j.j 0) 0 c.printed_name-name.result.now
    c.index-reads-j.result c.index-reads-j.result low.0 low.1 refl c.index-reads-j.is named)
    c.loop-j.invariant gave.failed gave.prefix gave.counted

pub loop-j-preserved : goal.loop-j-preserved
loop-j-preserved g c =
    let gave = rw (c.as_slice-in-loop-j.ensures, c.as_slice-in-loop-j-2.ensures) at c.in_ok-print_read.ensures in
    let low = within-both c.loop-j.j (length c.args.firsts.now) (length c.args.reads.now) (omega (arith, c.loop-j-test.true, c.min-j-end.ensures)) in
    let named : c.printed_name-name.result.now ≡ printed_name c.args.face.now.outputs (get_or c.args.firsts.now c.loop-j.j 0) =
    c.printed_name-name.ensures ∙ ap (λ outputs. printed_name outputs (get_or c.args.firsts.now c.loop-j.j 0)) c.as_slice.ensures in
    piece_given _ _ _ _ _ _ _ _ _
    (reads-at c.args.face.now c.args.firsts.now c.args.reads.now c.loop-j.j (get_or c.args.firsts.now c.loop-j.j 0) 0 c.printed_name-name.result.now
    c.index-reads-j.result c.index-reads-j.result low.0 low.1 refl c.index-reads-j.is named)
    c.loop-j.invariant gave.all gave.faultless

pub returns : goal.returns
returns g c =
    let past = past-one c.loop-j.j (length c.args.firsts.now) (length c.args.reads.now) (omega (arith, c.loop-j-test.false, c.min-j-end.ensures)) in
    all_given _ _ _ _ _ _ tt refl (rw (reads-end c.args.face.now c.args.firsts.now c.args.reads.now c.loop-j.j past) at c.loop-j.invariant)
