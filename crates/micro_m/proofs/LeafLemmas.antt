-- The terms of rules are written as they are, and lists one by one.
use Rattle.std.proofs.Common.{◌≡◌, ℕ, List, [], ◌∷◌, map, refl, ap}
use Rattle.micro_m.specs.Trees.{TreeOf, Tree, Trees, Steps, lit, cell, pick, apply, chain, none, more, end, step}
use Rattle.micro_m.specs.Leaves.{written, all_written, along_written}
use Rattle.micro_m.specs.Views.{trees_of, steps_of}
use Rattle.micro_m.specs.declared.term.Step.{Step}

mutual
  pub written-same : (t : Tree) → written cell t ≡ t
  written-same (lit v) = refl
  written-same (cell c) = refl
  written-same (pick f s i) = ap (pick f s) (written-same i)
  written-same (apply o all) = ap (apply o) (all_written-same all)
  written-same (chain a ss) = λ i. chain (written-same a i) (along_written-same ss i)

  all_written-same : (all : Trees) → all_written cell all ≡ all
  all_written-same none = refl
  all_written-same (more a rest) = λ i. more (written-same a i) (all_written-same rest i)

  along_written-same : (steps : Steps) → along_written cell steps ≡ steps
  along_written-same end = refl
  along_written-same (step o a rest) = λ i. step o (written-same a i) (along_written-same rest i)

-- lists of terms and of steps, written one by one
pub trees-written : {L : Type 0} (leaf : L → Tree) (all : List (TreeOf L)) → all_written leaf (trees_of all) ≡ trees_of (map (written leaf) all)
trees-written leaf [] = refl
trees-written leaf (t ∷ rest) = ap (more (written leaf t)) (trees-written leaf rest)

abbrev pub written_step : {L : Type 0} → (L → Tree) → Step L → Step ℕ
written_step leaf s = record { op = s.op; term = written leaf s.term }

pub steps-written : {L : Type 0} (leaf : L → Tree) (all : List (Step L)) → along_written leaf (steps_of all) ≡ steps_of (map (written_step leaf) all)
steps-written leaf [] = refl
steps-written leaf (s ∷ rest) = ap (step s.op (written leaf s.term)) (steps-written leaf rest)
