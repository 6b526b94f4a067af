use Rattle.std.proofs.Common.{Some}
use Rattle.base_tests.proofs.buffers.is_given_so.Given as goal

abbrev pub ghosts-through : goal.ghosts-through
ghosts-through a = record { name = a.out.ghost_name; start = Some a.out.now.bytes }
