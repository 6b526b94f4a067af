-- A loop over lines: the result so far, with what the rest adds, is the result.
use Rattle.std.proofs.Common.{◌≡◌, ◌≤◌, ◌<◌, ℕ, zero, suc, ◌-◌, List, [], ◌∷◌, ◌++◌, length, Option, Some, None, refl, sym, ap, ◌∙◌, arith}
use Rattle.std.proofs.lemmas.Bool.{le-ltb, lt-ltb}
use Rattle.mpp_lexer.specs.declared.piece.Line.{Line}
use Rattle.mpp_parser.specs.Commands.{Act}
use Rattle.mpp_parser.specs.inner.Blocks.{many_at, commands_at, some_of, block_at}

module _ {A : Type 0} (p : List Line → Option (A × List Line)) where
  -- from ls on, with these done, the result is the whole
  pub record Going (whole : List A × List Line) (done : List A) (ls : List Line) : Type 0 where
    pub left : ℕ
    pub enough : length ls ≤ left
    pub same : many_at p left done ls ≡ whole

  module _ {whole : List A × List Line} {done : List A} {ls : List Line} where
    pub many_start : whole ≡ many_at p (length ls) done ls → Going whole done ls
    many_start e = record { left = length ls; enough = omega arith; same = sym e }

    pub many_turn : {x : A} {rest : List Line} → Going whole done ls → p ls ≡ Some (x, rest) → length rest < length ls → Going whole (done ++ x ∷ []) rest
    unfolding many_at
    many_turn {x} {rest} g r shorter = go g.left g.enough g.same
      where
        go : (n : ℕ) → length ls ≤ n → many_at p n done ls ≡ whole → Going whole (done ++ x ∷ []) rest
        go zero enough same = absurd (omega arith)
        go (suc n) enough same = record { left = n; enough = omega arith; same = sym (rw r refl) ∙ same }

    pub many_stop : Going whole done ls → p ls ≡ None → whole ≡ (done, ls)
    unfolding many_at
    many_stop g r = sym g.same ∙ go g.left
      where
        go : (n : ℕ) → many_at p n done ls ≡ (done, ls)
        go zero = refl
        go (suc n) = rw r refl

-- blocks, by how deep they may be nested
pub block_none : (d i : ℕ) (ls : List Line) → d ≡ 0 → block_at d i ls ≡ None
unfolding block_at
block_none d i ls e = ap (λ n. block_at n i ls) e

pub block_end : (d i : ℕ) (ls : List Line) → ls ≡ [] → block_at d i ls ≡ None
unfolding block_at
block_end zero i ls e = refl
block_end (suc d) i ls e = ap (block_at (suc d) i) e

pub block_shallow : (d i : ℕ) (l : Line) (ls rest : List Line) → ls ≡ l ∷ rest → l.indent ≤ i → block_at d i ls ≡ None
unfolding block_at
block_shallow zero i l ls rest e h = refl
block_shallow (suc d) i l ls rest e h = ap (block_at (suc d) i) e ∙ rw (le-ltb i l.indent h) refl

given : (acts : List Act) (m : List Line) → length acts ≡ 0 → some_of acts m ≡ None
given [] m e = refl
given (a ∷ acts) m e = absurd (omega arith)

given_some : (acts : List Act) (m : List Line) → (length acts ≡ 0 → ⊥) → some_of acts m ≡ Some (acts, m)
given_some [] m ne = absurd (ne refl)
given_some (a ∷ acts) m ne = refl

-- the block of deeper lines, by the commands at its start
opened : (d i : ℕ) (l : Line) (ls rest : List Line) (acts : List Act) (m : List Line) → (d ≡ 0 → ⊥) → ls ≡ l ∷ rest → i < l.indent
    → commands_at (block_at (d - 1)) l.indent ls ≡ (acts, m) → block_at d i ls ≡ some_of acts m
unfolding block_at
opened zero i l ls rest acts m ne e h c = absurd (ne refl)
opened (suc d) i l ls rest acts m ne e h c =
    let same : suc d - 1 ≡ d = omega arith in
    let at : commands_at (block_at d) l.indent (l ∷ rest) ≡ (acts, m) = sym (ap (λ n. commands_at (block_at n) l.indent ls) same
    ∙ ap (commands_at (block_at d) l.indent) e) ∙ c in
    ap (block_at (suc d) i) e ∙ rw (lt-ltb i l.indent h) (λ j. some_of ((at j).0) ((at j).1))

pub block_empty : (d i : ℕ) (l : Line) (ls rest : List Line) (acts : List Act) (m : List Line) → (d ≡ 0 → ⊥) → ls ≡ l ∷ rest → i < l.indent
    → commands_at (block_at (d - 1)) l.indent ls ≡ (acts, m) → length acts ≡ 0 → block_at d i ls ≡ None
block_empty d i l ls rest acts m ne e h c n = opened d i l ls rest acts m ne e h c ∙ given acts m n

pub block_some : (d i : ℕ) (l : Line) (ls rest : List Line) (acts : List Act) (m : List Line) → (d ≡ 0 → ⊥) → ls ≡ l ∷ rest → i < l.indent
    → commands_at (block_at (d - 1)) l.indent ls ≡ (acts, m) → (length acts ≡ 0 → ⊥) → block_at d i ls ≡ Some (acts, m)
block_some d i l ls rest acts m ne e h c n = opened d i l ls rest acts m ne e h c ∙ given_some acts m n
