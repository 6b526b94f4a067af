use Rattle.std.proofs.Common.{◌∙◌}
use Rattle.m_large.proofs.LargeLemmas.{four_parts}
use Rattle.m_large.proofs.base.large_base.Goals as goal

pub returns : goal.returns
returns c = (
  c.in_ok-new.ensures,
  c.from_vec.ensures
      ∙ four_parts _ _ _ _ _ _ _ _ _ c.new-text.ensures.items c.in_ok-append_declarations.ensures c.in_ok-append_rules.ensures
      c.in_ok-append_first_rule.ensures c.in_ok-append_check.ensures,
)
