use Rattle.std.proofs.Common.{◌≡◌, length}
use Rattle.std.specs.List.{AllByRecursion}
use Rattle.code_file.specs.Reading.{IsInstr}
use Rattle.code_file.specs.inner.Came.{Came, code_so_far, text_so_far, IsCodeSoFar}
use Rattle.code_file.proofs.read.read_instrs.Given as goal

abbrev pub invariant-loop-made : goal.invariant-loop-made
invariant-loop-made l = record {
  so_far : Came l.bytes (code_so_far l.slots l.face l.made.instrs) l.came l.left;
  text : l.bytes ≡ text_so_far l.slots l.face l.made.instrs l.left;
  instrs : AllByRecursion IsInstr l.made.instrs;
  code : IsCodeSoFar l.slots l.face l.made;
}

abbrev pub decreases-loop-made : goal.decreases-loop-made
decreases-loop-made l = length l.left
