-- The calls of functions are the reads of their base.
use Rattle.std.proofs.Common.{◌≡◌, ◌≤◌, ◌<◌, ◌+◌, ℕ, zero, suc, Bool, true, false, cond, inl, inr, ◌⊎◌, eqb, List, [], ◌∷◌, ◌++◌, length, map, get_or, All}
use Rattle.std.proofs.Common.{Option, None, Some, refl, sym, ap, ◌∙◌, subst, arith, slice_get}
use mathlib.Core.Bool.{◌||◌}
use Rattle.std.specs.Prelude.{IsSomeAnd}
use Rattle.std.specs.Option.{option_map}
use Rattle.std.proofs.lemmas.Bool.{eq-eqb, ne_eqb}
use Rattle.std.proofs.lemmas.List.Elements.{All-nil, All-cons, All-head, All-tail}
use Rattle.micro_m.specs.Trees.{Tree}
use Rattle.micro_m.specs.Views.{steps_of}
use Rattle.micro_m.specs.Bases.{is_among, AreDistinctCells, definition_among, IsWithin, StepsAreWithin, IsValidBase}
use Rattle.micro_m.specs.Reads.{TermReads, StepsRead, Reads, LeadsTo, IsCycle, HasNoCycle}
use Rattle.micro_m.specs.declared.term.Step.{Step}
use Rattle.driver_core.specs.declared.program.Core.{Core}
use Rattle.driver_core.specs.Actions.{Action, assign, clear, branch, partition, call, solve, action_nodes, nodes_of_block, Block, no_actions, an_action}
use Rattle.driver_core.specs.ActionView.{block_of}
use Rattle.driver_core.specs.Valid.{block_or_none, ActionCalls, BlockCalls, Calls, HasNoRing, ActionIsWithin, BlockIsWithin, IsInRange}
use Rattle.mpp_core.specs.inner.Calls.{action_steps, block_steps, calls_term, calls_from, calls_base}

-- ---- steps

each : {A B C D : Type 0} → (A → C) → (B → D) → A ⊎ B → C ⊎ D
each f g (inl a) = inl (f a)
each f g (inr b) = inr (g b)

moved : {A B C : Type 0} → B ⊎ C → (A ⊎ B) ⊎ C
moved (inl b) = inl (inr b)
moved (inr c) = inr c

-- what concatenated steps read, the first or the second read
either_reads : (first second : List (Step ℕ)) (g : ℕ) → StepsRead (steps_of (first ++ second)) g → StepsRead (steps_of first) g ⊎ StepsRead (steps_of second) g
either_reads [] second g k = inr k
either_reads (s ∷ first) second g (inl k) = inl (inl k)
either_reads (s ∷ first) second g (inr k) = moved (either_reads first second g k)

first_reads : (first second : List (Step ℕ)) (g : ℕ) → StepsRead (steps_of first) g → StepsRead (steps_of (first ++ second)) g
first_reads [] second g k = absurd k
first_reads (s ∷ first) second g (inl k) = inl k
first_reads (s ∷ first) second g (inr k) = inr (first_reads first second g k)

second_reads : (first second : List (Step ℕ)) (g : ℕ) → StepsRead (steps_of second) g → StepsRead (steps_of (first ++ second)) g
second_reads [] second g k = k
second_reads (s ∷ first) second g k = inr (second_reads first second g k)

both_within : (n : ℕ) (first second : List (Step ℕ)) → StepsAreWithin n (steps_of first) → StepsAreWithin n (steps_of second)
    → StepsAreWithin n (steps_of (first ++ second))
both_within n [] second h k = k
both_within n (s ∷ first) second h k = (h.0, both_within n first second h.1 k)

-- ---- blocks

mutual
  action_reads : (action : Action) (g : ℕ) → StepsRead (steps_of (action_steps action)) g → ActionCalls action g
  action_reads (assign line c term) g k = absurd k
  action_reads (clear line c) g k = absurd k
  action_reads (branch line condition first second) g k = each (block_reads first g) (block_reads second g)
      (either_reads (block_steps first) (block_steps second) g k)
  action_reads (partition line cells block) g k = block_reads block g k
  action_reads (call line names received function) g (inl k) = k
  action_reads (call line names received function) g (inr k) = absurd k
  action_reads (solve line names received) g k = absurd k

  block_reads : (block : Block) (g : ℕ) → StepsRead (steps_of (block_steps block)) g → BlockCalls block g
  block_reads no_actions g k = absurd k
  block_reads (an_action action rest) g k = each (action_reads action g) (block_reads rest g) (either_reads (action_steps action) (block_steps rest) g k)

mutual
  action_is_read : (action : Action) (g : ℕ) → ActionCalls action g → StepsRead (steps_of (action_steps action)) g
  action_is_read (assign line c term) g k = absurd k
  action_is_read (clear line c) g k = absurd k
  action_is_read (branch line condition first second) g (inl k) = first_reads (block_steps first) (block_steps second) g (block_is_read first g k)
  action_is_read (branch line condition first second) g (inr k) = second_reads (block_steps first) (block_steps second) g (block_is_read second g k)
  action_is_read (partition line cells block) g k = block_is_read block g k
  action_is_read (call line names received function) g k = inl k
  action_is_read (solve line names received) g k = absurd k

  block_is_read : (block : Block) (g : ℕ) → BlockCalls block g → StepsRead (steps_of (block_steps block)) g
  block_is_read no_actions g k = absurd k
  block_is_read (an_action action rest) g (inl k) = first_reads (action_steps action) (block_steps rest) g (action_is_read action g k)
  block_is_read (an_action action rest) g (inr k) = second_reads (action_steps action) (block_steps rest) g (block_is_read rest g k)

mutual
  action_within : (cells n : ℕ) (action : Action) → ActionIsWithin cells n action → StepsAreWithin n (steps_of (action_steps action))
  action_within cells n (assign line c term) h = tt
  action_within cells n (clear line c) h = tt
  action_within cells n (branch line condition first second) h =
      both_within n (block_steps first) (block_steps second) (block_within cells n first h.1) (block_within cells n second h.2)
  action_within cells n (partition line named block) h = block_within cells n block h.1
  action_within cells n (call line names received function) h = (h.1, tt)
  action_within cells n (solve line names received) h = tt

  block_within : (cells n : ℕ) (block : Block) → BlockIsWithin cells n block → StepsAreWithin n (steps_of (block_steps block))
  block_within cells n no_actions h = tt
  block_within cells n (an_action action rest) h = both_within n (action_steps action) (block_steps rest) (action_within cells n action h.0)
      (block_within cells n rest h.1)

-- ---- functions

abbrev body_term : List Action → Tree
body_term body = calls_term (block_of body)

found : (bodies : List (List Action)) (k f c : ℕ) → c ≡ k + f → definition_among (calls_from k bodies) c ≡ option_map body_term (slice_get bodies f)
found [] k f c e = refl
found (body ∷ bodies) k zero c e = ap (λ b. cond b (Some (body_term body)) (definition_among (calls_from (k + 1) bodies) c)) (eq-eqb c k (omega (arith, e)))
found (body ∷ bodies) k (suc f) c e =
    ap (λ b. cond b (Some (body_term body)) (definition_among (calls_from (k + 1) bodies) c)) (ne_eqb c k (λ q. omega (arith, e, q)))
    ∙ found bodies (k + 1) f c (omega (arith, e))

by_body : (o : Option (List Action)) (g : ℕ) → IsSomeAnd (option_map body_term o) (λ t. TermReads t g) → BlockCalls (block_or_none o) g
by_body None g k = absurd k
by_body (Some body) g (inl k) = absurd k
by_body (Some body) g (inr k) = block_reads (block_of body) g k

of_body : (o : Option (List Action)) (g : ℕ) → BlockCalls (block_or_none o) g → IsSomeAnd (option_map body_term o) (λ t. TermReads t g)
of_body None g k = absurd k
of_body (Some body) g k = inr (block_is_read (block_of body) g k)

reads_call : (core : Core) (f g : ℕ) → Reads (calls_base core.bodies) f g → Calls core f g
reads_call core f g k = by_body (slice_get core.bodies f) g (subst (λ o. IsSomeAnd o (λ t. TermReads t g)) (found core.bodies 0 f f (omega arith)) k)

calls_read : (core : Core) (f g : ℕ) → Calls core f g → Reads (calls_base core.bodies) f g
calls_read core f g k = subst (λ o. IsSomeAnd o (λ t. TermReads t g)) (sym (found core.bodies 0 f f (omega arith))) (of_body (slice_get core.bodies f) g k)

reads_lead : (core : Core) (f : ℕ) (gs : List ℕ) (last : ℕ) → LeadsTo (Reads (calls_base core.bodies)) f gs last → LeadsTo (Calls core) f gs last
reads_lead core f [] last k = reads_call core f last k
reads_lead core f (g ∷ gs) last k = (reads_call core f g k.0, reads_lead core g gs last k.1)

calls_lead : (core : Core) (f : ℕ) (gs : List ℕ) (last : ℕ) → LeadsTo (Calls core) f gs last → LeadsTo (Reads (calls_base core.bodies)) f gs last
calls_lead core f [] last k = calls_read core f last k
calls_lead core f (g ∷ gs) last k = (calls_read core f g k.0, calls_lead core g gs last k.1)

-- if a base of calls has no cycle, the functions have none
pub no_ring : (core : Core) → HasNoCycle (calls_base core.bodies) → HasNoRing core
no_ring core h [] r = r
no_ring core h (f ∷ fs) r = h (f ∷ fs) (r.0, calls_lead core f fs f r.1)

-- a cycle of a base of calls is a cycle of calls
pub is_ring : (core : Core) (fs : List ℕ) → IsCycle (Reads (calls_base core.bodies)) fs → IsCycle (Calls core) fs
is_ring core [] c = c
is_ring core (f ∷ fs) c = (c.0, reads_lead core f fs f c.1)

-- ---- the base is valid

abbrev targets : ℕ → List (List Action) → List ℕ
targets k bodies = map (λ d. d.0) (calls_from k bodies)

targets_within : (n k : ℕ) (bodies : List (List Action)) → k + length bodies ≤ n → All (λ c. c < n) (targets k bodies)
targets_within n k [] h = All-nil (λ c. c < n)
targets_within n k (body ∷ bodies) h = All-cons (λ c. c < n) k (targets (k + 1) bodies) (omega (arith, h)) (targets_within n (k + 1) bodies (omega (arith, h)))

terms_within : (cells n k : ℕ) (bodies : List (List Action)) → All (λ commands. BlockIsWithin cells n (block_of commands)) bodies
    → All (IsWithin n) (map (λ d. d.1) (calls_from k bodies))
terms_within cells n k [] h = All-nil (IsWithin n)
terms_within cells n k (body ∷ bodies) h =
    All-cons (IsWithin n) (body_term body) (map (λ d. d.1) (calls_from (k + 1) bodies))
    (tt, block_within cells n (block_of body) (All-head (λ commands. BlockIsWithin cells n (block_of commands)) body bodies h))
    (terms_within cells n (k + 1) bodies (All-tail (λ commands. BlockIsWithin cells n (block_of commands)) body bodies h))

neither : (a b : Bool) → a ≡ false → b ≡ false → (a || b) ≡ false
neither false false p q = refl
neither false true p q = absurd (cc)
neither true b p q = absurd (cc)

absent : (c k : ℕ) (bodies : List (List Action)) → c < k → is_among c (targets k bodies) ≡ false
absent c k [] h = refl
absent c k (body ∷ bodies) h = neither (eqb c k) (is_among c (targets (k + 1) bodies)) (ne_eqb c k (λ e. omega (arith, e, h)))
    (absent c (k + 1) bodies (omega (arith, h)))

distinct : (k : ℕ) (bodies : List (List Action)) → AreDistinctCells (targets k bodies)
distinct k [] = tt
distinct k (body ∷ bodies) = (absent k (k + 1) bodies (omega arith), distinct (k + 1) bodies)

-- the calls of functions that are in range are a valid base
pub valid_base : (core : Core) → IsInRange core → IsValidBase (calls_base core.bodies)
valid_base core h = record {
  constants = All-nil (λ constant. constant.0 < length core.bodies);
  targets = targets_within (length core.bodies) 0 core.bodies (omega arith);
  terms = terms_within core.cells (length core.bodies) 0 core.bodies h.bodies;
  conditions = All-nil (λ check. IsWithin (length core.bodies) check.0);
  labels = All-nil (λ check. check.1 < 0);
  defined_once = distinct 0 core.bodies;
  constant_once = tt;
}

-- ---- sizes

-- an element of a list is no larger than the list
pub command_size : (all : List Action) (i : ℕ) (a : Action) → i < length all → a ≡ get_or all i a → action_nodes a ≤ nodes_of_block (block_of all)
command_size [] i a h e = absurd (omega arith)
command_size (b ∷ all) zero a h e = omega (arith, ap action_nodes e)
command_size (b ∷ all) (suc i) a h e = let k = command_size all i a (omega (arith, h)) e in omega (arith, k)
