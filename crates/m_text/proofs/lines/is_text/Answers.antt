use Rattle.std.proofs.Common.{◌∙◌}
use Rattle.m_text.proofs.LineLemmas.{is_utf8-from_read}
use Rattle.m_text.proofs.lines.is_text.Goals as goal

pub returns : goal.returns
returns c = c.is_ok.ensures.value ∙ is_utf8-from_read c.args.bytes.now c.from_utf8.result _ _ c.from_utf8.ensures.cases
