use Rattle.std.proofs.Common.{refl}
use Rattle.code_file.proofs.StageLemmas.{slots-fault}
use Rattle.code_file.proofs.read.read_slots.Goals as goal

pub returns-in-None : goal.returns-in-None
returns-in-None c = λ _. slots-fault c.args.bytes.now c.args.rest.now 2 c.requires.text c.in-None.ensures refl
