use Rattle.mpp_core.proofs.PlainCore.{valid_plain}
use Rattle.mpp_core.proofs.plain.plain_driver.Goals as goal

pub returns-clause-valid : goal.returns-clause-valid
returns-clause-valid c = valid_plain c.args.requests.now c.args.symbols.now _ c.requires c.main_alone.ensures
