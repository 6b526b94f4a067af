use Rattle.std.proofs.Common.{◌<◌, length, sym}
use Rattle.loop_values.specs.Letters.{replaced}
use Rattle.index_expand.proofs.TableLemmas.{size_long}
use Rattle.index_expand.proofs.definitions.size_with.Goals as goal

pub returns-in-None : goal.returns-in-None
returns-in-None c =
    let name = replaced c.args.letters.now c.args.word.now in
    let long : c.longest.result < length name = rw c.bytes-2.ensures at (rw c.in-None.is at c.in_ok-replaced_within.ensures) in
    sym (size_long name c.args.symbols.now.variables c.longest.result c.longest.ensures long)
