use Rattle.std.proofs.Common.{◌≡◌}
use Rattle.rule_base.specs.Files.{all_items}
use Rattle.rule_base.proofs.files.joined.Given as goal

abbrev pub invariant-loop-file : goal.invariant-loop-file
invariant-loop-file l = l.items.items ≡ all_items l.yielded
