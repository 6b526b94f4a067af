use Rattle.std.proofs.Common.{sym, subst}
use Rattle.flat_code.specs.Passes.{Becomes}
use Rattle.flat_code.proofs.PassLemmas.{becomes-then}
use Rattle.dead_rules.proofs.whole.tidy.Goals as goal

pub returns-clause-becomes : goal.returns-clause-becomes
returns-clause-becomes c =
    subst (Becomes c.args.flat.now) (sym c.new.ensures)
    (becomes-then c.args.flat.now c.in_ok-folded.folded c.in_ok-flat.flat c.in_ok-folded.ensures.becomes
    (becomes-then c.in_ok-folded.folded c.in_ok-pruned.pruned c.in_ok-flat.flat c.in_ok-pruned.ensures.becomes c.in_ok-flat.ensures.becomes))
