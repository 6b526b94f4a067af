use Rattle.std.proofs.Common.{length, ap, ◌∙◌, arith}
use Rattle.std.proofs.lemmas.Result.{IfOk-weaker}
use Rattle.value_sheet.proofs.ReaderLemmas.{length-argument_sources, readers_are}
use Rattle.value_sheet.proofs.build.readers_of.Goals as goal

pub of_sources-requires-clause-few : goal.of_sources-requires-clause-few
of_sources-requires-clause-few c =
    let nodes = c.args.nodes.now in
    omega (arith, ap length c.deref.ensures.value, ap length c.in_ok-sources.ensures, length-argument_sources (length nodes) nodes, c.requires)

pub returns : goal.returns
returns c =
    IfOk-weaker _ _ _ (λ rows is. readers_are c.args.nodes.now rows c.deref.result.now (c.deref.ensures.value ∙ c.in_ok-sources.ensures) is)
    c.of_sources.ensures
