use Rattle.std.proofs.Common.{◌<◌, length}
use Rattle.input_reads.proofs.ListLemmas.{all-from}
use Rattle.input_reads.proofs.MaskLemmas.{spread-start, spread-end}
use Rattle.input_reads.proofs.spread.fill.Goals as goal

pub returns-clause-found : goal.returns-clause-found
returns-clause-found c =
    let nodes = c.args.nodes.now in
    let wanted = c.args.wanted.now in
    spread-end c.args.known.now nodes (length c.args.found.now) wanted c.spread_back.new.masks c.spread_back.new.found c.requires.nodes
    (c.spread_back.ensures.spread wanted
    (spread-start c.args.known.now nodes wanted c.mark_requested.new.masks c.args.found.now
    (λ k l. all-from (λ p. p < length nodes) wanted c.requires.within k 0 l) c.requires.none_found c.mark_requested.ensures.marked))
