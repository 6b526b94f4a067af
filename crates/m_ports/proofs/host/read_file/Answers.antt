use Rattle.std.proofs.lemmas.Str.{IsUtf8-from_is_utf8, is_utf8-from_IsUtf8}
use Rattle.m_ports.proofs.host.read_file.Goals as goal

pub returns-in_default-clause-failures : goal.returns-in_default-clause-failures
returns-in_default-clause-failures g c = λ yes. absurd (c.in_default.ensures.cases.0 (IsUtf8-from_is_utf8 c.args.name.now yes))

pub returns-in-Ok-open-clause-not_text : goal.returns-in-Ok-open-clause-not_text
returns-in-Ok-open-clause-not_text g c = λ no. let yes = is_utf8-from_IsUtf8 c.args.name.now c.in-Ok.ensures.cases.1 in cc

pub returns-in-Err-clause-not_text : goal.returns-in-Err-clause-not_text
returns-in-Err-clause-not_text g c = λ no. let yes = is_utf8-from_IsUtf8 c.args.name.now c.in-Ok.ensures.cases.1 in cc
