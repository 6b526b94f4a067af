-- Which labels, checks and notes the program of a driver has.
use Rattle.std.specs.Prelude.{ℕ, zero, suc, List, [], ◌∷◌, ◌++◌, map, length, if◌then◌else◌}
use Rattle.m_places.specs.declared.verification.Label.{Label}
use Rattle.micro_m.specs.declared.base.Base.{Base}
use Rattle.micro_m.specs.Failures.{Check, is_stopping, kind_at}
use Rattle.observables.specs.declared.face.FaceLabel.{FaceLabel}
use Rattle.observables.specs.declared.face.FaceLabel.TheVariants.{Verif, DriverLine}
use Rattle.driver_core.specs.declared.program.Core.{Core}
use Rattle.driver_core.specs.Actions.{Action, assign, clear, branch, partition, call, solve, Block, no_actions, an_action}
use Rattle.driver_core.specs.Valid.{body_among}

-- the labels of a program, and for each check and each note the number of its label
pub record Labelling : Type 0 where
  pub labels : List FaceLabel
  pub checks : List ℕ
  pub notes : List ℕ

-- at first there are the labels of the base
abbrev pub first_labelling : List Label → Labelling
first_labelling labels = record { labels = map Verif labels; checks = []; notes = [] }

-- a verification adds a check, and a note if its error doesn't stop the run
abbrev pub with_check : List Label → ℕ → Labelling → Labelling
with_check labels number l = record {
  labels = l.labels;
  checks = l.checks ++ number ∷ [];
  notes = if is_stopping (kind_at labels number) then l.notes else l.notes ++ number ∷ [];
}

abbrev pub with_checks : List Label → List Check → Labelling → Labelling
with_checks labels [] l = l
with_checks labels (check ∷ checks) l = with_checks labels checks (with_check labels check.1 l)

-- a call of the rules adds what its verifications add, in order
abbrev pub with_rules : Base → Labelling → Labelling
with_rules base l = with_checks base.labels base.checks l

-- an `if` adds a label for its line and a check with that label
abbrev pub with_line : ℕ → Labelling → Labelling
with_line line l = record { labels = l.labels ++ DriverLine line ∷ []; checks = l.checks ++ length l.labels ∷ []; notes = l.notes }

-- given what a call of the rules and a call of a function add
module _ (rules : Labelling → Labelling) (body : ℕ → Labelling → Labelling) where
  abbrev mutual
    -- what a command adds: an `if` what its line, its first block and its second block add, in this
    -- order
    pub with_action : Action → Labelling → Labelling
    with_action (assign line c term) l = l
    with_action (clear line c) l = l
    with_action (branch line condition first second) l = with_block second (with_block first (with_line line l))
    with_action (partition line cells block) l = with_block block l
    with_action (call line names received function) l = body function l
    with_action (solve line names received) l = rules l

    pub with_block : Block → Labelling → Labelling
    with_block no_actions l = l
    with_block (an_action action rest) l = with_block rest (with_action action l)

-- what the body of a function adds, with calls nested at most `turns` deep
abbrev pub with_body : Base → List (List Action) → ℕ → ℕ → Labelling → Labelling
with_body base bodies zero f l = l
with_body base bodies (suc turns) f l = with_block (with_rules base) (with_body base bodies turns) (body_among bodies f) l

-- The labels, checks and notes of a driver: those of the base, and what the body of `main` adds. An
-- `if` on line 2 over a call of the rules, of which one verification stops the run, has the label of
-- the verification and that of line 2, the checks 1 and 0, and no note.
abbrev pub labelling_of : Core → Base → Labelling
labelling_of core base = with_body base core.bodies (suc (length core.bodies)) core.main (first_labelling base.labels)
