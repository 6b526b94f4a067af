use Rattle.std.proofs.Common.{◌≡◌, ℕ, List, take}
use Rattle.m_names.specs.Names.{has}
use Rattle.observables.specs.Outputs.{names_of}
use Rattle.m_lint.specs.Findings.{numbers_with}
use Rattle.m_facts.specs.Found.{is_first}
use Rattle.m_facts.proofs.firsts.firsts_of.Given as goal

abbrev pub invariant-loop-k : goal.invariant-loop-k
invariant-loop-k l =
    (l.firsts.items ≡ numbers_with (is_first l.outputs) l.k) × ((x : List ℕ) → has x l.names ≡ has x (names_of (take l.k l.outputs)))
