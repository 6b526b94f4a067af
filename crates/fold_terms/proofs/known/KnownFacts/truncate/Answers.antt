use Rattle.std.proofs.Common.{◌∙◌, ap, sym, take}
use Rattle.std.proofs.lemmas.List.{take-map}
use Rattle.fold_terms.specs.inner.Packed.{facts_kept, unpacked}
use Rattle.fold_terms.proofs.known.KnownFacts.truncate.Goals as goal

pub returns : goal.returns
returns c = ap facts_kept c.truncate.ensures.items ∙ sym (take-map unpacked c.args.count c.self.inside.packed.items) ∙ ap (take c.args.count) c.self.view_is
