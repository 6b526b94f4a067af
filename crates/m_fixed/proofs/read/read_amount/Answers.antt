use Rattle.std.proofs.lemmas.Result.{err_from_is_err_and}
use Rattle.m_fixed.proofs.Reading.{ok_is_read, err_is_read}
use Rattle.m_fixed.proofs.read.read_amount.Goals as goal

pub returns-in_err-size : goal.returns-in_err-size
returns-in_err-size c =
    let p = err_from_is_err_and c.from_residual.result c.from_residual.ensures.1 in
    rw (p.1, p.2) (err_is_read c.args.text.now _ _ _ c.split_sign-negative.ensures.sign c.split_sign-negative.ensures.number c.in_err-size.ensures.value)

pub returns : goal.returns
returns c = ok_is_read c.args.text.now _ _ _ _ c.split_sign-negative.ensures.sign c.split_sign-negative.ensures.number c.in_ok-size.ensures.value
    c.of_size.ensures
