use Rattle.std.proofs.Common.{sym, subst}
use Rattle.flat_code.specs.Passes.{Becomes}
use Rattle.flat_code.specs.Tidy.{IsTidy}
use Rattle.dead_rules.specs.inner.Firsts.{AreFirsts, with_checks}
use Rattle.dead_rules.proofs.FirstLemmas.{becomes-firsts, tidy-firsts}
use Rattle.dead_rules.proofs.whole.sifted.Goals as goal

pub returns-clause-becomes : goal.returns-clause-becomes
returns-clause-becomes c =
    let flat = c.args.flat in
    let firsts : AreFirsts flat.checks c.in_ok-checks.checks.items = subst (λ checks. AreFirsts checks c.in_ok-checks.checks.items) c.as_slice.ensures
    c.in_ok-checks.ensures in
    subst (λ checks. Becomes flat (with_checks flat checks)) (sym c.from_vec.ensures) (becomes-firsts flat c.in_ok-checks.checks.items c.requires.valid firsts)

pub returns-clause-tidy : goal.returns-clause-tidy
returns-clause-tidy c =
    let flat = c.args.flat in
    let firsts : AreFirsts flat.checks c.in_ok-checks.checks.items = subst (λ checks. AreFirsts checks c.in_ok-checks.checks.items) c.as_slice.ensures
    c.in_ok-checks.ensures in
    subst (λ checks. IsTidy (with_checks flat checks)) (sym c.from_vec.ensures) (tidy-firsts flat c.in_ok-checks.checks.items c.requires.pruned firsts)
