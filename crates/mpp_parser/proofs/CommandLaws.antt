-- The law of commands, blocks, functions and drivers.
use Rattle.std.specs.Prelude.{is_some, ◌&&◌}
use Rattle.std.proofs.Common.{◌≡◌, ◌≢◌, ◌⊎◌, ◌==◌, ℕ, ◌<◌, ◌≤◌, Bool, true, false, cond, List, [], ◌∷◌, length, Option, Some, None, refl, sym, ap, ◌∙◌, subst}
use Rattle.std.proofs.Common.{arith, inl, inr, eq-eqb}
use Rattle.std.proofs.lemmas.Bool.{cases_lt, eqb-true}
use denote.Enum.Bare.{sameb, same_true}
use Rattle.mpp_lexer.specs.declared.piece.Line.{Line}
use Rattle.mpp_lexer.specs.declared.piece.DriverPiece.{DriverPiece}
use Rattle.mpp_lexer.specs.declared.piece.DriverPiece.TheVariants.{Word, Sign}
use Rattle.mpp_lexer.specs.declared.piece.DriverSign.TheVariants.{Colon}
use Rattle.mpp_parser.specs.contracts.keyword.Keyword.{the_type}
use Rattle.mpp_parser.specs.declared.keyword.Keyword.{Keyword}
use Rattle.mpp_parser.specs.declared.keyword.Keyword.TheVariants as keys
use Rattle.mpp_parser.specs.declared.sentence.Sentence.{Sentence}
use Rattle.mpp_parser.specs.declared.sentence.Sentence.TheVariants as sentences
use Rattle.mpp_parser.specs.Keywords.{keyword_of}
use Rattle.mpp_parser.specs.Grammar.{found, SpellsSentence, otherwise}
use Rattle.mpp_parser.specs.Trees.{Term}
use Rattle.mpp_parser.specs.Commands.{Act, when, partition, no_acts}
use Rattle.mpp_parser.specs.CommandView.{block_of}
use Rattle.mpp_parser.specs.Drivers.{Says, SpellsCommand, sets, deletes, calls, partitions, only, either}
use Rattle.m_lexer.specs.inner.Chains.{choose}
use Rattle.mpp_parser.specs.inner.Reading.{line_at}
use Rattle.mpp_parser.specs.inner.Blocks.{is_else, else_at, otherwise_at, stated_at, command_at}
use Rattle.m_lexer.proofs.ChainSound.{Each, absent, here, bind_each}
use Rattle.mpp_parser.proofs.Sentences.{line_found, line_complete, one_line}
use Rattle.mpp_parser.proofs.BlockLaws.{Front, stop, go_on, front_then, front_weaker, Begins, front_begins, Sound, Reaches, Greedy, Shrinks, Apart, read_is}

pub eqb_same : (x y : ℕ) → x ≡ y → (x == y) ≡ true
eqb_same x y e = eq-eqb x y e

and_both : (a b : Bool) → (a && b) ≡ true → (a ≡ true) × (b ≡ true)
and_both true b e = (refl, e)
and_both false b e = absurd (cc)

-- a test that holds, as a case of `Each`
pub tested : {A : Type 0} {P : A → Type 0} (b : Bool) (o : Option A) → (b ≡ true → Each P o) → Each P (cond b o None)
tested true o h = h refl
tested false o h = absent

pub line_each : (l : Line) → Each (λ s. SpellsSentence s l.tokens []) (line_at l.tokens)
line_each l = go (line_at l.tokens) refl
  where
    go : (o : Option Sentence) → line_at l.tokens ≡ o → Each (λ s. SpellsSentence s l.tokens []) o
    go None e = absent
    go (Some s) e = here (line_found l.tokens e)

-- `else:`
found_is : (k : Option Keyword) → is_some (found keys.Else k) ≡ true → k ≡ Some keys.Else
found_is None e = absurd (cc)
found_is (Some j) e = go (sameb the_type j keys.Else) refl e
  where
    go : (b : Bool) → sameb the_type j keys.Else ≡ b → is_some (cond {A = Option (Unit {0})} b (Some tt) None) ≡ true → Some j ≡ Some keys.Else
    go true f g = ap Some (same_true the_type tt j keys.Else f)
    go false f g = absurd (cc)

else_sound : (ts : List DriverPiece) → is_else ts ≡ true → SpellsSentence sentences.Else ts []
unfolding is_else
else_sound (Word w ∷ Sign Colon ∷ []) e = otherwise (found_is (keyword_of w) e)
else_sound _ e = absurd (cc)

else_complete : (ts : List DriverPiece) → SpellsSentence sentences.Else ts [] → is_else ts ≡ true
unfolding is_else
else_complete _ (otherwise g) = rw g refl

pub record Otherwise (i : ℕ) (ls rest : List Line) : Type 0 where
  pub line : Line
  pub parts : ls ≡ line ∷ rest
  pub says : Says i sentences.Else line

else_each : (i : ℕ) (ls : List Line) → Each (λ rest. Otherwise i ls rest) (else_at i ls)
unfolding else_at
else_each i [] = absent
else_each i (l ∷ ls) = tested ((l.indent == i) && is_else l.tokens) (Some ls)
    (λ e. let both = and_both (l.indent == i) (is_else l.tokens) e in here
    (record { line = l; parts = refl; says = record { at = eqb-true l.indent i both.0; says = else_sound l.tokens both.1 } }))

else_given : (i : ℕ) (l : Line) (ls : List Line) → Says i sentences.Else l → else_at i (l ∷ ls) ≡ Some ls
unfolding else_at
else_given i l ls h = rw (eqb_same l.indent i h.at, else_complete l.tokens h.says) refl

-- a line of a command, after its first
abbrev pub Deep : ℕ → Line → Type 0
Deep i l = (i < l.indent) ⊎ ((l.indent ≡ i) × SpellsSentence sentences.Else l.tokens [])

-- the first line of a command
pub record Starts (i : ℕ) (ls : List Line) : Type 0 where
  pub line : Line
  pub others : List Line
  pub parts : ls ≡ line ∷ others
  pub sentence : Sentence
  pub says : Says i sentence line
  pub command : sentence ≢ sentences.Else

starts_apart : {i : ℕ} {ls : List Line} → Starts i ls → Begins (Deep i) ls → ⊥
starts_apart {i} {ls} s b = go b.kind
  where
    same : s.line ≡ b.line
    same = let e = s.parts in let f = b.parts in cc

    go : Deep i b.line → ⊥
    go (inl h) = let at = s.says.at in let e : s.line.indent ≡ b.line.indent = ap (λ l. l.indent) same in omega arith
    go (inr h) = s.command (one_line s.sentence sentences.Else b.line.tokens (subst (λ l. SpellsSentence s.sentence l.tokens []) same s.says.says) h.1)

module _ (B : ℕ → List Act → List Line → List Line → Type 0) (b : ℕ → List Line → Option (List Act × List Line)) (sound : (i : ℕ) → Sound (B i) (b i))
    (shrinks : (i : ℕ) → Shrinks (B i)) (front : (i : ℕ) (acts : List Act) (ls rest : List Line) → B i acts ls rest → Front (λ l. i < l.indent) ls rest)
    (greedy : (i : ℕ) → Greedy (B i) (b i)) where
  pub command_starts : {i : ℕ} {c : Act} {ls rest : List Line} → SpellsCommand B i c ls rest → Starts i ls
  command_starts (sets h) = record { line = _; others = _; parts = refl; sentence = _; says = h; command = λ e. cc }
  command_starts (deletes h) = record { line = _; others = _; parts = refl; sentence = _; says = h; command = λ e. cc }
  command_starts (calls h) = record { line = _; others = _; parts = refl; sentence = _; says = h; command = λ e. cc }
  command_starts (partitions h d) = record { line = _; others = _; parts = refl; sentence = _; says = h; command = λ e. cc }
  command_starts (only h d) = record { line = _; others = _; parts = refl; sentence = _; says = h; command = λ e. cc }
  command_starts (either h d g e) = record { line = _; others = _; parts = refl; sentence = _; says = h; command = λ e. cc }

  pub command_shrinks : (i : ℕ) → Shrinks (SpellsCommand B i)
  command_shrinks i _ _ _ (sets h) = omega arith
  command_shrinks i _ _ _ (deletes h) = omega arith
  command_shrinks i _ _ _ (calls h) = omega arith
  command_shrinks i _ _ _ (partitions h d) = omega (arith, shrinks i _ _ _ d)
  command_shrinks i _ _ _ (only h d) = omega (arith, shrinks i _ _ _ d)
  command_shrinks i _ _ _ (either h d g e) = omega (arith, shrinks i _ _ _ d, shrinks i _ _ _ e)

  deeper : {i : ℕ} {acts : List Act} {ls rest : List Line} → B i acts ls rest → Front (Deep i) ls rest
  deeper d = front_weaker (λ l h. inl h) (front _ _ _ _ d)

  -- the lines after the first
  pub command_tail : {i : ℕ} {c : Act} {l : Line} {ls rest : List Line} → SpellsCommand B i c (l ∷ ls) rest → Front (Deep i) ls rest
  command_tail (sets h) = stop
  command_tail (deletes h) = stop
  command_tail (calls h) = stop
  command_tail (partitions h d) = deeper d
  command_tail (only h d) = deeper d
  command_tail (either h d g e) = front_then (deeper d) (go_on (inr (g.at, g.says)) (deeper e))

  pub command_apart : (i : ℕ) → Sound (SpellsCommand B i) (command_at b i) → Apart (SpellsCommand B i) (command_at b i)
  command_apart i good y x z [] r m s d e less c = let st = command_starts d in let f = st.parts in cc
  command_apart i good y x z (l ∷ ls) r m s d e less c =
      starts_apart (command_starts c) (front_begins (command_tail (read_is (SpellsCommand B i) (command_at b i) good (command_shrinks i) e)) (command_tail d)
      less)

  -- What is parsed is spelled so.
  otherwise_sound : (i : ℕ) (l : Line) (t : Term) (acts : List Act) (ls ms : List Line) → Says i (sentences.If t) l → B i acts ls ms
      → SpellsCommand B i (when l.number t (block_of acts) (block_of (otherwise_at b i ms).0)) (l ∷ ls) (otherwise_at b i ms).1
  unfolding otherwise_at
  otherwise_sound i l t acts ls ms h d = step (else_at i ms) (else_each i ms)
    where
      Whole : List Act × List Line → Type 0
      Whole x = SpellsCommand B i (when l.number t (block_of acts) (block_of x.0)) (l ∷ ls) x.1

      blocks : {rest : List Line} {o : Option (List Act × List Line)} → Otherwise i ms rest → Each (λ (x : List Act × List Line). B i x.0 rest x.1) o
          → Whole (choose o ([], ms) (λ y. y))
      blocks w absent = only h d
      blocks w (here e) = either h (subst (λ m. B i acts ls m) w.parts d) w.says e

      step : (o : Option (List Line)) → Each (λ rest. Otherwise i ms rest) o → Whole (choose o ([], ms) (λ rest. choose (b i rest) ([], ms) (λ y. y)))
      step _ absent = only h d
      step _ (here {x = rest} w) = blocks w (sound i rest)

  stated_sound : (i : ℕ) (l : Line) (s : Sentence) (ls : List Line) → Says i s l
      → Each (λ (x : Act × List Line). SpellsCommand B i x.0 (l ∷ ls) x.1) (stated_at b i l.number s ls)
  unfolding stated_at
  stated_sound i l (sentences.Set c t) ls h = here (sets h)
  stated_sound i l (sentences.Del c) ls h = here (deletes h)
  stated_sound i l (sentences.Call cs f) ls h = here (calls h)
  stated_sound i l (sentences.Partition k) ls h = bind_each (sound i ls) (λ x d. here (partitions h d))
  stated_sound i l (sentences.If t) ls h = bind_each (sound i ls) (λ x d. here (otherwise_sound i l t x.0 ls x.1 h d))
  stated_sound i l _ ls h = absent

  pub command_sound : (i : ℕ) → Sound (SpellsCommand B i) (command_at b i)
  unfolding command_at
  command_sound i [] = absent
  command_sound i (l ∷ ls) = tested (l.indent == i) _
      (λ e. bind_each (line_each l) (λ s d. stated_sound i l s ls (record { at = eqb-true l.indent i e; says = d })))

  -- What is spelled is parsed at least as far.
  at_line : (i : ℕ) (l : Line) (s : Sentence) (ls : List Line) → Says i s l → command_at b i (l ∷ ls) ≡ stated_at b i l.number s ls
  unfolding command_at
  at_line i l s ls h = rw (eqb_same l.indent i h.at, line_complete s l.tokens h.says) refl

  otherwise_shrinks : (i : ℕ) (ms : List Line) → length (otherwise_at b i ms).1 ≤ length ms
  unfolding otherwise_at
  otherwise_shrinks i ms = step (else_at i ms) (else_each i ms)
    where
      blocks : {rest : List Line} {o : Option (List Act × List Line)} → length rest ≤ length ms → Each (λ (x : List Act × List Line). B i x.0 rest x.1) o
          → length (choose o ([], ms) (λ y. y)).1 ≤ length ms
      blocks w absent = omega arith
      blocks w (here e) = omega (arith, w, shrinks i _ _ _ e)

      step : (o : Option (List Line)) → Each (λ rest. Otherwise i ms rest) o → length (choose o ([], ms) (λ rest. choose (b i rest) ([], ms) (λ y. y))).1
          ≤ length ms
      step _ absent = omega arith
      step _ (here {x = rest} w) = blocks (let e = ap length w.parts in omega arith) (sound i rest)

  otherwise_none : (i : ℕ) (ms : List Line) → length (otherwise_at b i ms).1 ≡ length ms → otherwise_at b i ms ≡ ([], ms)
  unfolding otherwise_at
  otherwise_none i ms = step (else_at i ms) (else_each i ms)
    where
      blocks : {rest : List Line} {o : Option (List Act × List Line)} → length rest < length ms → Each (λ (x : List Act × List Line). B i x.0 rest x.1) o
          → length (choose o ([], ms) (λ y. y)).1 ≡ length ms → choose o ([], ms) (λ y. y) ≡ ([], ms)
      blocks w absent f = refl
      blocks w (here e) f = absurd (omega (arith, w, f, shrinks i _ _ _ e))

      step : (o : Option (List Line)) → Each (λ rest. Otherwise i ms rest) o
          → length (choose o ([], ms) (λ rest. choose (b i rest) ([], ms) (λ y. y))).1 ≡ length ms
          → choose o ([], ms) (λ rest. choose (b i rest) ([], ms) (λ y. y)) ≡ ([], ms)
      step _ absent f = refl
      step _ (here {x = rest} w) f = blocks (let e = ap length w.parts in omega arith) (sound i rest) f

  only_reaches : (i n : ℕ) (t : Term) (acts : List Act) (ls r : List Line) → Reaches (b i ls) acts r
      → Reaches (stated_at b i n (sentences.If t) ls) (when n t (block_of acts) no_acts) r
  unfolding stated_at
  only_reaches i n t acts ls r g =
      let short = otherwise_shrinks i g.rest in
      record {
        tree = when n t (block_of g.tree) (block_of (otherwise_at b i g.rest).0);
        rest = (otherwise_at b i g.rest).1;
        reads = rw g.reads refl;
        far = omega (arith, short, g.far);
        same = λ e.
            let at = g.same (omega (arith, short, g.far, e)) in
            let none = otherwise_none i g.rest (omega (arith, short, g.far, e)) in
            ((λ j. when n t (block_of (at.0 j)) (block_of (none j).0)), (ap (λ x. x.1) none ∙ at.1));
      }

  either_reaches : (i n : ℕ) (t : Term) (acts bs : List Act) (ls : List Line) (m : Line) (ms r : List Line) → B i acts ls (m ∷ ms) → Says i sentences.Else m
      → B i bs ms r → Reaches (stated_at b i n (sentences.If t) ls) (when n t (block_of acts) (block_of bs)) r
  unfolding stated_at otherwise_at
  either_reaches i n t acts bs ls m ms r d h e = rw (g.reads, at.1, else_given i m ms h, f.reads) (record {
    tree = when n t (block_of g.tree) (block_of f.tree);
    rest = f.rest;
    reads = refl;
    far = f.far;
    same = λ k. let z = f.same k in ((λ j. when n t (block_of (at.0 j)) (block_of (z.0 j))), z.1);
  })
    where
      g : Reaches (b i ls) acts (m ∷ ms)
      g = greedy i acts ls (m ∷ ms) d

      f : Reaches (b i ms) bs r
      f = greedy i bs ms r e

      exact : (length g.rest < length (m ∷ ms)) ⊎ (length (m ∷ ms) ≤ length g.rest) → length g.rest ≡ length (m ∷ ms)
      exact (inl less) =
          let begins = front_begins (front i _ _ _ (read_is (B i) (b i) (sound i) (shrinks i) g.reads)) (front i _ _ _ d) less in
          let same : m ≡ begins.line = (let p = begins.parts in cc) in
          let deep = begins.kind in
          let indent = h.at in
          let k : m.indent ≡ begins.line.indent = ap (λ l. l.indent) same in
          absurd (omega arith)
      exact (inr more) = omega (arith, g.far, more)

      at : (g.tree ≡ acts) × (g.rest ≡ m ∷ ms)
      at = g.same (exact (cases_lt (length g.rest) (length (m ∷ ms))))

  pub command_greedy : (i : ℕ) → Greedy (SpellsCommand B i) (command_at b i)
  unfolding stated_at
  command_greedy i _ _ _ (sets {l = l} {rest = r} h) = record { tree = _; rest = r; reads = at_line i l _ r h; far = omega arith; same = λ e. (refl, refl) }
  command_greedy i _ _ _ (deletes {l = l} {rest = r} h) = record { tree = _; rest = r; reads = at_line i l _ r h; far = omega arith; same = λ e. (refl, refl) }
  command_greedy i _ _ _ (calls {l = l} {rest = r} h) = record { tree = _; rest = r; reads = at_line i l _ r h; far = omega arith; same = λ e. (refl, refl) }
  command_greedy i _ _ _ (partitions {l = l} {k = k} {ls = ls} {rest = r} h d) =
      let g = greedy i _ ls r d in
      record {
        tree = partition l.number k (block_of g.tree);
        rest = g.rest;
        reads = at_line i l _ ls h ∙ rw g.reads refl;
        far = g.far;
        same = λ e. let z = g.same e in ((λ j. partition l.number k (block_of (z.0 j))), z.1);
      }
  command_greedy i _ _ _ (only {l = l} {t = t} {b = acts} {ls = ls} {rest = r} h d) = subst (λ o. Reaches o (when l.number t (block_of acts) no_acts) r)
      (sym (at_line i l _ ls h)) (only_reaches i l.number t acts ls r (greedy i acts ls r d))
  command_greedy i _ _ _ (either {l = l} {m = m} {t = t} {a = acts} {b = bs} {ls = ls} {ms = ms} {rest = r} h d g e) = subst
      (λ o. Reaches o (when l.number t (block_of acts) (block_of bs)) r) (sym (at_line i l _ ls h)) (either_reaches i l.number t acts bs ls m ms r d g e)
