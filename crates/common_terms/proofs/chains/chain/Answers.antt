use Rattle.std.proofs.Common.{refl, get_or}
use Rattle.common_terms.specs.inner.Chains.{link_at}
use Rattle.common_terms.proofs.ChainLemmas.{chained-set}
use Rattle.common_terms.proofs.chains.chain.Goals as goal

pub returns-clause-chained : goal.returns-clause-chained
returns-clause-chained c =
    chained-set c.args.links.now c.args.heads.now c.args.i c.bucket-place.result
    (record { hash = (link_at c.args.links.now c.args.i).hash; next = get_or c.args.heads.now c.bucket-place.result 0 })
    c.requires.within c.bucket-place.ensures.within c.bucket-place.ensures.is refl refl c.requires.chained
