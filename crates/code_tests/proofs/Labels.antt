-- The labels of a program's checks, after a pass.
use Rattle.std.proofs.Common.{◌≡◌, ℕ, suc, ◌<◌, List, [], ◌∷◌, length, sym, subst, arith}
use Rattle.std.specs.List.{AllByRecursion}
use Rattle.std.proofs.lemmas.Option.{slice_get-get_or}
use Rattle.flat_code.specs.declared.program.Check.{Check}
use Rattle.flat_code.specs.Passes.{HaveLabelsOf}
use Rattle.flat_code.specs.Tidy.{check_at}
use Rattle.flat_code.proofs.RunLemmas.{one_of_all}

all_below : (n : ℕ) (checks : List Check) → ((j : ℕ) → j < length checks → (check_at checks j).label < n) → AllByRecursion (λ check. check.label < n) checks
all_below n [] each = tt
all_below n (check ∷ checks) each = (each 0 (omega arith), all_below n checks (λ j h. each (suc j) (omega arith)))

pub labels_below : (n : ℕ) (old new : List Check) → AllByRecursion (λ check. check.label < n) old → HaveLabelsOf old new
    → AllByRecursion (λ check. check.label < n) new
labels_below n old new all labels =
    all_below n new (λ j h.
    let w = labels j h in
    subst (λ label. label < n) (sym w.2) (one_of_all (λ check. check.label < n) old w.0 (check_at old w.0) all (slice_get-get_or old w.0 _ w.1)))
