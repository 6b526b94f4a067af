use Rattle.std.proofs.Common.{refl, ◌∙◌}
use Rattle.common_terms.proofs.ChainLemmas.{chained-none}
use Rattle.common_terms.proofs.chains.chain_all.Goals as goal

pub loop-i-init : goal.loop-i-init
loop-i-init c = record { chained = chained-none c.args.links.now c.args.heads.now c.requires.empty; links = refl; heads = refl; hashes = λ j. refl }

pub loop-i-preserved : goal.loop-i-preserved
loop-i-preserved c = record {
  chained = c.chain.ensures.chained;
  links = c.chain.ensures.links ∙ c.loop-i.invariant.links;
  heads = c.chain.ensures.heads ∙ c.loop-i.invariant.heads;
  hashes = λ j. c.chain.ensures.hashes j ∙ c.loop-i.invariant.hashes j;
}
