use Rattle.std.proofs.Common.{◌∙◌}
use Rattle.m_cases.proofs.Numbered.{named_there, noted_there}
use Rattle.m_cases.proofs.mismatches.name_at.Goals as goal

pub returns-in-Named : goal.returns-in-Named
returns-in-Named c = c.bytes.ensures ∙ named_there c.args.outputs.now c.args.output c.index-outputs-output.result c.in-Named.name c.requires
    c.index-outputs-output.is c.in-Named.is

pub returns-in-Noted : goal.returns-in-Noted
returns-in-Noted c = noted_there c.args.outputs.now c.args.output c.index-outputs-output.result c.in-Noted.field-0 c.requires c.index-outputs-output.is
    c.in-Noted.is
