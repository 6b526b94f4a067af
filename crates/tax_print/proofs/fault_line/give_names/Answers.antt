use Rattle.std.proofs.Common.{refl, ◌∙◌}
use Rattle.std.proofs.lemmas.Result.{err_from_is_err_and}
use Rattle.m_ports.proofs.GivingLemmas.{none_given, piece_given, piece_failed, last_given}
use Rattle.tax_print.proofs.NamesLemmas.{names_at, names_end}
use Rattle.tax_print.proofs.fault_line.give_names.Goals as goal

pub returns-in_err-give_all : goal.returns-in_err-give_all
returns-in_err-give_all g c =
    let p = err_from_is_err_and c.from_residual.result c.from_residual.ensures.1 in
    let gave = c.in_err-give_all.ensures in
    piece_failed _ _ _ _ _ _ _ _ _ _ _ p.1 refl (none_given _ _ _ _) gave.failed gave.prefix gave.counted

pub loop-name-init : goal.loop-name-init
loop-name-init g c =
    let gave = c.in_ok-give_all.ensures in
    piece_given _ _ _ _ _ _ _ _ _ refl (none_given _ _ _ _) gave.all gave.faultless

pub returns-in_err-give_pieces : goal.returns-in_err-give_pieces
returns-in_err-give_pieces g c =
    let p = err_from_is_err_and c.from_residual-in_err-give_pieces.result c.from_residual-in_err-give_pieces.ensures.1 in
    let gave = c.in_err-give_pieces.ensures in
    piece_failed _ _ _ _ _ _ _ _ _ _ _ p.1 (names_at c.args.names.now c.loop-name.name-index c.bytes.result.now c.name-item.result _ c.loop-name-test.true
    (c.bytes.ensures ∙ c.name-item.is))
    c.loop-name.invariant gave.failed gave.prefix gave.counted

pub loop-name-preserved : goal.loop-name-preserved
loop-name-preserved g c =
    let gave = c.in_ok-give_pieces.ensures in
    piece_given _ _ _ _ _ _ _ _ _ (names_at c.args.names.now c.loop-name.name-index c.bytes.result.now c.name-item.result _ c.loop-name-test.true
    (c.bytes.ensures ∙ c.name-item.is))
    c.loop-name.invariant gave.all gave.faultless

pub returns : goal.returns
returns g c =
    last_given _ _ _ _ _ _ _ _ (rw (names_end c.args.names.now c.loop-name.name-index _ c.loop-name-test.false) at c.loop-name.invariant)
    c.give_pieces-2.ensures
