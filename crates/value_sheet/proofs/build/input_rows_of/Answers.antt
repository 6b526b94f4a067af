use Rattle.std.proofs.Common.{◌∙◌}
use Rattle.std.proofs.lemmas.Result.{IfOk-weaker}
use Rattle.value_sheet.proofs.ReaderLemmas.{input_rows_are}
use Rattle.value_sheet.proofs.build.input_rows_of.Goals as goal

pub returns : goal.returns
returns c =
    IfOk-weaker _ _ _ (λ rows is. input_rows_are c.args.inputs c.args.nodes.now rows c.deref.result.now (c.deref.ensures.value ∙ c.in_ok-sources.ensures) is)
    c.of_sources.ensures
