use Rattle.mpp_inline.proofs.EndLemmas.{inlined}
use Rattle.mpp_inline.proofs.pass.finished.Goals as goal

pub returns : goal.returns
returns c = λ core base declared requests a notes many cells light room.
    inlined core base declared requests c.args.b c.args.outputs.items c.args.inputs c.from_vec.result c.from_vec-2.result c.from_vec-3.result
    c.from_vec-4.result c.from_vec-5.result c.args.notes.items
    c.from_vec.ensures c.from_vec-2.ensures c.from_vec-3.ensures c.from_vec-4.ensures c.from_vec-5.ensures notes many cells light room a
