use Rattle.std.proofs.Common.{◌∙◌, List, ℕ, length, drop, sym, ap, arith}
use Rattle.household.proofs.CutLemmas.{all_left, at_end}
use Rattle.household.proofs.cuts.first_cut.Goals as goal

pub returns-in-Some-clause-left : goal.returns-in-Some-clause-left
returns-in-Some-clause-left c =
    sym (ap (λ (l : List (List (List ℕ))). drop 1 l) (sym (all_left c.args.bytes.now _ c.start_of.ensures.text) ∙ c.in-Some.ensures.1.1))

pub returns-in-None-clause-left : goal.returns-in-None-clause-left
returns-in-None-clause-left c =
    at_end c.args.bytes.now (length c.args.bytes.now) (omega arith)
    ∙ sym (ap (λ (l : List (List (List ℕ))). drop 1 l) (sym (all_left c.args.bytes.now _ c.start_of.ensures.text) ∙ c.in-None.ensures))
