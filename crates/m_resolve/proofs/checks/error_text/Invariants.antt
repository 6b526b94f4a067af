use Rattle.std.proofs.Common.{◌≡◌, take}
use Rattle.std.specs.List.{flat_map}
use Rattle.m_resolve.specs.Bases.{behind_colon}
use Rattle.m_resolve.proofs.checks.error_text.Given as goal

abbrev pub invariant-loop-one : goal.invariant-loop-one
invariant-loop-one l = l.text.items ≡ flat_map behind_colon (take l.one-index l.texts)
