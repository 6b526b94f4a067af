-- Run states and their continuations.
use Rattle.std.proofs.Common.{◌≡◌, List, [], ◌∷◌, ◌++◌, Option, Some, None, refl, sym, ap, ◌∙◌}
use Rattle.std.specs.Option.{option_or}
use Rattle.m_places.specs.declared.verification.Label.{Label}
use Rattle.observables.specs.Answers.{Cause}
use Rattle.driver_core.specs.Meaning.{Env, RunState, goes, stops, noted, behind, then_do, unless_stopped}
use Rattle.mpp_inline.specs.inner.Growth.{SoFar, observed_more, outcome_of}

pub append-none : {A : Type 0} (xs : List A) → xs ++ [] ≡ xs
append-none [] = refl
append-none (x ∷ xs) = ap (λ l. x ∷ l) (append-none xs)

pub or-none : {A : Type 0} (o : Option A) → option_or o None ≡ o
or-none None = refl
or-none (Some s) = refl

-- notes before a run
pub behind-goes : (ns ms : List Label) (e : Env) → behind ns (goes ms e) ≡ goes (ns ++ ms) e
behind-goes [] ms e = refl
behind-goes (n ∷ ns) ms e = ap (noted n) (behind-goes ns ms e)

pub behind-stops : (ns : List Label) (cause : Cause) → behind ns (stops cause) ≡ stops cause
behind-stops [] cause = refl
behind-stops (n ∷ ns) cause = ap (noted n) (behind-stops ns cause)

noted-then : (n : Label) (o : RunState) (f : Env → RunState) → then_do (noted n o) f ≡ noted n (then_do o f)
noted-then n (goes ms e) f = refl
noted-then n (stops cause) f = refl

pub behind-then : (ns : List Label) (o : RunState) (f : Env → RunState) → then_do (behind ns o) f ≡ behind ns (then_do o f)
behind-then [] o f = refl
behind-then (n ∷ ns) o f = noted-then n (behind ns o) f ∙ ap (noted n) (behind-then ns o f)

-- outcomes
pub goes-last : (o : RunState) → then_do o (λ e. goes [] e) ≡ o
goes-last (goes ns e) = behind-goes ns [] e ∙ ap (λ l. goes l e) (append-none ns)
goes-last (stops cause) = refl

pub then-then : (o : RunState) (f g : Env → RunState) → then_do (then_do o f) g ≡ then_do o (λ e. then_do (f e) g)
then-then (goes ns e) f g = behind-then ns (f e) g
then-then (stops cause) f g = refl

-- a change of the environment only
set-by : (s : Option Cause) (ns : List Label) (e : Env) (f : Env → Env) → unless_stopped s (goes ns (f e)) ≡ then_do (unless_stopped s (goes ns e))
    (λ x. goes [] (f x))
set-by None ns e f = sym (goes-last (goes ns (f e)))
set-by (Some cause) ns e f = refl

pub set-goes : (s : SoFar) (e : Env) (f : Env → Env) → outcome_of s (f e) ≡ then_do (outcome_of s e) (λ x. goes [] (f x))
set-goes s e f = set-by s.stop s.notes e f

-- a stage between a change of the environment and another
wrap-by : (s : Option Cause) (ns : List Label) (e : Env) (before : Env → Env) (does : Env → RunState) (after : Env → Env → Env)
    → then_do (then_do (unless_stopped s (goes ns (before e))) does) (λ f. goes [] (after e f)) ≡ then_do (unless_stopped s (goes ns e))
    (λ x. then_do (does (before x)) (λ f. goes [] (after x f)))
wrap-by None ns e before does after = behind-then ns (does (before e)) (λ f. goes [] (after e f))
wrap-by (Some cause) ns e before does after = refl

pub wrap : (s : SoFar) (e : Env) (before : Env → Env) (does : Env → RunState) (after : Env → Env → Env)
    → then_do (then_do (outcome_of s (before e)) does) (λ f. goes [] (after e f)) ≡ then_do (outcome_of s e)
    (λ x. then_do (does (before x)) (λ f. goes [] (after x f)))
wrap s e before does after = wrap-by s.stop s.notes e before does after

-- two steps in sequence as one
both-by : (s : Option Cause) (ns : List Label) (e : Env) (first second both : Env → RunState) → then_do (first e) second ≡ both e
    → then_do (then_do (unless_stopped s (goes ns e)) first) second ≡ then_do (unless_stopped s (goes ns e)) both
both-by None ns e first second both h = behind-then ns (first e) second ∙ ap (behind ns) h
both-by (Some cause) ns e first second both h = refl

pub both-steps : (s : SoFar) (e : Env) (first second both : Env → RunState) → then_do (first e) second ≡ both e
    → then_do (then_do (outcome_of s e) first) second ≡ then_do (outcome_of s e) both
both-steps s e first second both h = both-by s.stop s.notes e first second both h

-- an added stop or added notes
found-by : (s : Option Cause) (ns : List Label) (e : Env) (cause : Option Cause) (more : List Label) (next : Env → RunState)
    → unless_stopped cause (goes more e) ≡ next e → unless_stopped (option_or s cause) (goes (ns ++ more) e) ≡ then_do (unless_stopped s (goes ns e)) next
found-by None ns e None more next h = sym (behind-goes ns more e) ∙ ap (behind ns) h
found-by None ns e (Some cause) more next h = sym (behind-stops ns cause) ∙ ap (behind ns) h
found-by (Some first) ns e cause more next h = refl

pub found-run : (s : SoFar) (e : Env) (cause : Option Cause) (more : List Label) (next : Env → RunState) → unless_stopped cause (goes more e) ≡ next e
    → outcome_of (observed_more s cause more) e ≡ then_do (outcome_of s e) next
found-run s e cause more next h = found-by s.stop s.notes e cause more next h

pub more-none : (s : SoFar) → observed_more s None [] ≡ s
more-none s = λ i. record { stop = or-none s.stop i; notes = append-none s.notes i }

pub more-more : (s : SoFar) (cause : Option Cause) (notes : List Label) → observed_more (observed_more s cause []) None notes ≡ observed_more s cause notes
more-more s cause notes = λ i. record { stop = or-none (option_or s.stop cause) i; notes = append-none s.notes i ++ notes }
