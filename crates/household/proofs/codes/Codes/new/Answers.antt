use Rattle.std.proofs.Common.{◌∙◌}
use Rattle.household.specs.inner.Kept.{inputs_kept}
use Rattle.household.proofs.KeptLemmas.{kept_whole}
use Rattle.household.proofs.codes.Codes.new.Goals as goal

pub returns : goal.returns
returns c = (λ i. inputs_kept (c.in_ok-names.ensures i) (c.in_ok-kinds.ensures i)) ∙ kept_whole c.args.inputs.now
