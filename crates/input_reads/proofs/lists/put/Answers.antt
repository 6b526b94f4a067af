use Rattle.input_reads.proofs.BitLemmas.{put-one}
use Rattle.input_reads.proofs.lists.put.Goals as goal

pub returns-in_ok-push : goal.returns-in_ok-push
returns-in_ok-push c =
    put-one c.args.lists.now c.args.k c.args.n c.index-lists-k.result c.push.new.self c.if-k-lists.true c.in_ok-push.ensures.items
