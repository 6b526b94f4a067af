-- The law of blocks, functions and drivers: the recursion is closed here.
use Rattle.std.proofs.Common.{◌≡◌, ◌==◌, ℕ, zero, suc, ◌<◌, nat_lt, List, [], ◌∷◌, length, Option, refl, sym, ap, ◌∙◌, subst, arith, inl, inr}
use Rattle.std.proofs.lemmas.Bool.{lt-ltb, ltb-true, eqb-true}
use Rattle.m_places.specs.declared.limits.TheConstants.{DRIVER_LEVEL}
use Rattle.mpp_lexer.specs.declared.piece.Line.{Line}
use Rattle.mpp_parser.specs.declared.command.Function.{Function}
use Rattle.mpp_parser.specs.declared.command.Driver.{Driver}
use Rattle.mpp_parser.specs.declared.sentence.Sentence.{Sentence}
use Rattle.mpp_parser.specs.declared.sentence.Sentence.TheVariants as sentences
use Rattle.mpp_parser.specs.Commands.{Act}
use Rattle.mpp_parser.specs.Drivers.{Says, Many, no_more, one_more, SpellsCommand, SpellsBlock, block, SpellsInnerBlock, SpellsFunction, function, SpellsDriver}
use Rattle.mpp_parser.specs.Drivers.{IsLongest}
use Rattle.mpp_parser.specs.inner.Blocks.{many_at, command_at, commands_at, some_of, block_at, headed_at, function_at, functions_at}
use Rattle.m_lexer.proofs.ChainSound.{Each, absent, here, bind_each}
use Rattle.mpp_parser.proofs.Sentences.{line_complete}
use Rattle.mpp_parser.proofs.BlockLaws.{Front, stop, go_on, front_then, front_weaker, Begins, front_begins, Sound, Reaches, Greedy, Shrinks, Apart, many_sound}
use Rattle.mpp_parser.proofs.BlockLaws.{many_shrinks, ManyReaches, many_greedy, read_is}
use Rattle.mpp_parser.proofs.CommandLaws.{tested, line_each, eqb_same, command_sound, command_shrinks, command_tail, command_starts, command_apart}
use Rattle.mpp_parser.proofs.CommandLaws.{command_greedy, Starts, Deep}

-- The invariants of a parser of blocks.
pub record Blocks (B : ℕ → List Act → List Line → List Line → Type 0) (b : ℕ → List Line → Option (List Act × List Line)) : Type 0 where
  pub sound : (i : ℕ) → Sound (B i) (b i)
  pub shrinks : (i : ℕ) → Shrinks (B i)
  pub front : (i : ℕ) (acts : List Act) (ls rest : List Line) → B i acts ls rest → Front (λ l. i < l.indent) ls rest
  pub greedy : (i : ℕ) → Greedy (B i) (b i)

module _ (B : ℕ → List Act → List Line → List Line → Type 0) (b : ℕ → List Line → Option (List Act × List Line)) (law : Blocks B b) where
  is_command : (i : ℕ) → Sound (SpellsCommand B i) (command_at b i)
  is_command = command_sound B b law.sound law.shrinks law.front law.greedy

  is_shorter : (i : ℕ) → Shrinks (SpellsCommand B i)
  is_shorter = command_shrinks B b law.sound law.shrinks law.front law.greedy

  -- all lines of commands at an indentation have it or a greater one
  commands_front : {i j : ℕ} {acts : List Act} {ls rest : List Line} → i < j → Many (SpellsCommand B j) acts ls rest → Front (λ l. i < l.indent) ls rest
  commands_front h no_more = stop
  commands_front {i} {j} h (one_more {x = c} {ls = ls} {mid = mid} d e) = front_then (one (command_starts B b law.sound law.shrinks law.front law.greedy d))
      (commands_front h e)
    where
      within : (l : Line) → Deep j l → i < l.indent
      within l (inl k) = omega arith
      within l (inr k) = omega (arith, k.0)

      one : Starts j ls → Front (λ l. i < l.indent) ls mid
      one s = subst (λ m. Front (λ l. i < l.indent) m mid) (sym s.parts)
          (go_on (omega (arith, s.says.at)) (front_weaker within
          (command_tail B b law.sound law.shrinks law.front law.greedy (subst (λ m. SpellsCommand B j c m mid) s.parts d))))

  some_sound : (i : ℕ) (l : Line) (ls : List Line) (acts : List Act) (rest : List Line) → i < l.indent → Many (SpellsCommand B l.indent) acts (l ∷ ls) rest
      → Each (λ (x : List Act × List Line). SpellsBlock B i x.0 (l ∷ ls) x.1) (some_of acts rest)
  some_sound i l ls [] rest h m = absent
  some_sound i l ls (a ∷ acts) rest h m = here (block h m)

  block_shrinks : (i : ℕ) → Shrinks (SpellsBlock B i)
  block_shrinks i _ _ _ (block {l = l} h (one_more d e)) = omega (
    arith,
    is_shorter l.indent _ _ _ d,
    many_shrinks (SpellsCommand B l.indent)
        (command_at b l.indent) (is_command l.indent) (is_shorter l.indent) e,
  )

  block_front : (i : ℕ) (acts : List Act) (ls rest : List Line) → SpellsBlock B i acts ls rest → Front (λ l. i < l.indent) ls rest
  block_front i _ _ _ (block h m) = commands_front h m

  some_given : (a : Act) (acts : List Act) (out : List Act × List Line) (ls rest : List Line) → ManyReaches out [] (a ∷ acts) rest → length rest < length ls
      → ((out.0 ≡ []) → out.1 ≡ ls) → Reaches (some_of out.0 out.1) (a ∷ acts) rest
  some_given a acts ([], r) ls rest q h none = absurd (let e = ap length (none refl) in omega (arith, q.far, h, e))
  some_given a acts (x ∷ xs, r) ls rest q h none = record { tree = x ∷ xs; rest = r; reads = refl; far = q.far; same = q.same }

  many_none : {R : Act → List Line → List Line → Type 0} {xs : List Act} {ls rest : List Line} → Many R xs ls rest → xs ≡ [] → rest ≡ ls
  many_none no_more e = refl
  many_none (one_more d m) e = absurd (cc)

-- Induction on the nesting of blocks.
module _ (B : ℕ → List Act → List Line → List Line → Type 0) (d : ℕ) (law : Blocks B (block_at d)) where
  next_sound : (i : ℕ) → Sound (SpellsBlock B i) (block_at (suc d) i)
  unfolding block_at
  next_sound i [] = absent
  next_sound i (l ∷ ls) = tested (nat_lt i l.indent) _ (λ e.
      let q = many_sound (SpellsCommand B l.indent) (command_at (block_at d) l.indent) (is_command B (block_at d) law l.indent)
      (is_shorter B (block_at d) law l.indent) (length (l ∷ ls)) [] (l ∷ ls) in
      let out = commands_at (block_at d) l.indent (l ∷ ls) in
      some_sound B (block_at d) law i l ls out.0 out.1 (ltb-true i l.indent e) (subst (λ acts. Many (SpellsCommand B l.indent) acts (l ∷ ls) out.1) (sym q.all)
      q.many))

  next_greedy : (i : ℕ) → Greedy (SpellsBlock B i) (block_at (suc d) i)
  unfolding block_at
  next_greedy i _ _ rest (block {l = l} {a = a} {acts = acts} {ls = ls} h m) =
      let R = SpellsCommand B l.indent in
      let p = command_at (block_at d) l.indent in
      let good = is_command B (block_at d) law l.indent in
      let less = is_shorter B (block_at d) law l.indent in
      let q = many_greedy R p good less (command_greedy B (block_at d) law.sound law.shrinks law.front law.greedy l.indent)
      (command_apart B (block_at d) law.sound law.shrinks law.front law.greedy l.indent good) (length (l ∷ ls)) [] m (omega arith) in
      let r = many_sound R p good less (length (l ∷ ls)) [] (l ∷ ls) in
      rw (lt-ltb i l.indent h) (some_given B (block_at d) law a acts (commands_at (block_at d) l.indent (l ∷ ls)) (l ∷ ls) rest q
      (block_shrinks B (block_at d) law i _ _ _ (block h m)) (λ e. many_none B (block_at d) law r.many (sym r.all ∙ e)))

pub blocks : (d : ℕ) → Blocks (SpellsInnerBlock d) (block_at d)
unfolding SpellsInnerBlock block_at
blocks zero = record { sound = λ i ls. absent; shrinks = λ i y ls r h. absurd h; front = λ i acts ls rest h. absurd h; greedy = λ i y ls r h. absurd h }
blocks (suc d) = record {
  sound = next_sound (SpellsInnerBlock d) d (blocks d);
  shrinks = block_shrinks (SpellsInnerBlock d) (block_at d) (blocks d);
  front = block_front (SpellsInnerBlock d) (block_at d) (blocks d);
  greedy = next_greedy (SpellsInnerBlock d) d (blocks d);
}

-- Functions.
headed_sound : (l : Line) (s : Sentence) (ls : List Line) → Says 0 s l
    → Each (λ (x : Function × List Line). SpellsFunction x.0 (l ∷ ls) x.1) (headed_at l.number s ls)
unfolding headed_at
headed_sound l (sentences.Function name) ls h = bind_each ((blocks DRIVER_LEVEL).sound 0 ls) (λ b d. here (function h d))
headed_sound l _ ls h = absent

function_sound : Sound SpellsFunction function_at
unfolding function_at
function_sound [] = absent
function_sound (l ∷ ls) = tested (l.indent == 0) _ (λ e. bind_each (line_each l) (λ s d. headed_sound l s ls (record { at = eqb-true l.indent 0 e; says = d })))

function_shrinks : Shrinks SpellsFunction
function_shrinks _ _ _ (function h d) = omega (arith, (blocks DRIVER_LEVEL).shrinks 0 _ _ _ d)

function_greedy : Greedy SpellsFunction function_at
unfolding function_at headed_at
function_greedy _ _ _ (function {l = l} {name = name} {ls = ls} {rest = r} h d) =
    let g = (blocks DRIVER_LEVEL).greedy 0 _ ls r d in
    record {
      tree = record { name = name; line = l.number; body = g.tree };
      rest = g.rest;
      reads = rw (eqb_same l.indent 0 h.at, line_complete _ l.tokens h.says, g.reads) refl;
      far = g.far;
      same = λ e. let z = g.same e in ((λ j. record { name = name; line = l.number; body = z.0 j }), z.1);
    }

function_tail : {f : Function} {l : Line} {ls rest : List Line} → SpellsFunction f (l ∷ ls) rest → Front (λ l. 0 < l.indent) ls rest
function_tail (function h d) = (blocks DRIVER_LEVEL).front 0 _ _ _ d

function_first : {f : Function} {ls rest : List Line} → SpellsFunction f ls rest → Begins (λ l. l.indent ≡ 0) ls
function_first (function h d) = record { line = _; others = _; parts = refl; kind = h.at }

function_apart : Apart SpellsFunction function_at
function_apart y x z [] r m s d e less c = let st = function_first d in let f = st.parts in cc
function_apart y x z (l ∷ ls) r m s d e less c =
    let deep = front_begins (function_tail (read_is SpellsFunction function_at function_sound function_shrinks e)) (function_tail d) less in
    let first = function_first c in
    let p = deep.parts in
    let q = first.parts in
    let same : deep.line ≡ first.line = cc in
    let k : deep.line.indent ≡ first.line.indent = ap (λ l. l.indent) same in
    let u = deep.kind in
    let v = first.kind in
    omega arith

-- Drivers.
pub driver_read : (ls : List Line) → SpellsDriver (record { functions = (functions_at ls).0 }) ls (functions_at ls).1
unfolding functions_at
driver_read ls =
    let q = many_sound SpellsFunction function_at function_sound function_shrinks (length ls) [] ls in
    subst (λ fs. Many SpellsFunction fs ls (many_at function_at (length ls) [] ls).1) (sym q.all) q.many

pub driver_longest : (ls : List Line) → IsLongest ls (functions_at ls).1
unfolding functions_at
driver_longest ls d r m = (many_greedy SpellsFunction function_at function_sound function_shrinks function_greedy function_apart (length ls) [] m
    (omega arith)).far

-- the lines and the rest determine the driver
pub one_driver : (ls r : List Line) (d e : Driver) → SpellsDriver d ls r → SpellsDriver e ls r → IsLongest ls r → d ≡ e
unfolding functions_at
one_driver ls r d e a b longest =
    let at = driver_read ls in
    let short = longest (record { functions = (functions_at ls).0 }) (functions_at ls).1 at in
    let q = many_greedy SpellsFunction function_at function_sound function_shrinks function_greedy function_apart (length ls) [] a (omega arith) in
    let w = many_greedy SpellsFunction function_at function_sound function_shrinks function_greedy function_apart (length ls) [] b (omega arith) in
    let same = (q.same (omega (arith, short, q.far))).0 in
    let other = (w.same (omega (arith, short, w.far))).0 in
    λ i. record { functions = (sym same ∙ other) i }

-- the longest prefix is the one that is parsed
pub one_rest : (ls r : List Line) (d : Driver) → SpellsDriver d ls r → IsLongest ls r → (functions_at ls).1 ≡ r
unfolding functions_at
one_rest ls r d a longest =
    let short = longest (record { functions = (functions_at ls).0 }) (functions_at ls).1 (driver_read ls) in
    let q = many_greedy SpellsFunction function_at function_sound function_shrinks function_greedy function_apart (length ls) [] a (omega arith) in
    (q.same (omega (arith, short, q.far))).1
