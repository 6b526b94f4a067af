use Rattle.std.proofs.Common.{◌≡◌, ◌+◌, drop}
use Rattle.rule_base.proofs.Rows.{Goes}
use Rattle.rule_base.proofs.each_file.read_files.Given as goal

abbrev pub invariant-loop-text : goal.invariant-loop-text
invariant-loop-text l = record {
  goes : Goes l.start l.texts (drop l.text-index l.texts) l.number l.files.items;
  place : l.number ≡ l.start + l.text-index;
}
