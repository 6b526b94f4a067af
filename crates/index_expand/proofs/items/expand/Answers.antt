use Rattle.std.proofs.Common.{refl}
use Rattle.std.specs.Prelude.{filter}
use Rattle.index_expand.specs.Expansion.{counts_in, expansion}
use Rattle.index_expand.proofs.FewLemmas.{few_answered}
use Rattle.index_expand.proofs.PlainLemmas.{expansion_plain, answer_plain}
use Rattle.index_expand.proofs.items.expand.Goals as goal

pub returns-clause-plain : goal.returns-clause-plain
returns-clause-plain c =
    answer_plain c.args.symbols.now c.take_items.result _ _ (expansion c.args.items.now c.args.application.now c.args.symbols.now) c.take_items.ensures
    (expansion_plain c.args.symbols.now c.args.application.now c.args.items.now c.requires.whole)

pub returns-clause-few : goal.returns-clause-few
returns-clause-few c =
    few_answered c.args.symbols.now (filter (counts_in c.args.application.now) c.args.items.now) c.take_items.result
    (expansion c.args.items.now c.args.application.now c.args.symbols.now) refl c.take_items.ensures
