use Rattle.std.proofs.Common.{◌∙◌}
use Rattle.std.specs.Prelude.{decimal}
use Rattle.m_lint.proofs.PrintLemmas.{index-line, gives-text}
use Rattle.m_lint.proofs.print.print_index.Goals as goal

pub returns : goal.returns
returns g c =
    gives-text _ _ _ _ _ _ _ (index-line c.args.name.now c.as_bytes-digits.result.now (decimal c.args.k) (c.as_bytes-digits.ensures.value
    ∙ c.format.ensures.text)) c.give_pieces.ensures
