use Rattle.std.proofs.Common.{get_or, refl, ap, arith}
use Rattle.std.proofs.lemmas.List.{drop_all}
use Rattle.std.proofs.lemmas.Result.{err_from_is_err_and}
use Rattle.m_ports.proofs.GivingLemmas.{piece_given, piece_failed, all_given}
use Rattle.m_lint.specs.declared.finding.Finding.TheVariants.{NeverDefined}
use Rattle.m_lint.specs.Lines.{findings_text}
use Rattle.m_lint.proofs.PrintLemmas.{text-at, within-at}
use Rattle.m_lint.proofs.print.print_findings.Goals as goal

pub print_finding-requires : goal.print_finding-requires
print_finding-requires g c = within-at _ _ _ c.args.findings.now c.loop-finding.finding-index (NeverDefined 0) c.loop-finding-test.true c.requires.within

pub returns-in_err-print_finding : goal.returns-in_err-print_finding
returns-in_err-print_finding g c =
    let p = err_from_is_err_and c.from_residual.result c.from_residual.ensures.1 in
    let gave = c.in_err-print_finding.ensures in
    piece_failed _ _ _ _ _ _ _ _ _ _ _ p.1
    (text-at c.args.symbols.now c.args.base.now c.args.findings.now c.loop-finding.finding-index
    (get_or c.args.findings.now c.loop-finding.finding-index (NeverDefined 0)) (NeverDefined 0) c.loop-finding-test.true refl)
    c.loop-finding.invariant gave.failed gave.prefix gave.counted

pub loop-finding-preserved : goal.loop-finding-preserved
loop-finding-preserved g c =
    let gave = c.in_ok-print_finding.ensures in
    piece_given _ _ _ _ _ _ _ _ _
    (text-at c.args.symbols.now c.args.base.now c.args.findings.now c.loop-finding.finding-index
    (get_or c.args.findings.now c.loop-finding.finding-index (NeverDefined 0)) (NeverDefined 0) c.loop-finding-test.true refl)
    c.loop-finding.invariant gave.all gave.faultless

pub returns : goal.returns
returns g c =
    all_given _ _ _ _ _ _ tt refl (rw (ap (findings_text c.args.symbols.now c.args.base.now)
    (drop_all c.loop-finding.finding-index c.args.findings.now (omega (arith, c.loop-finding-test.false)))) at c.loop-finding.invariant)
