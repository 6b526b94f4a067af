-- The meaning of the work list, and the invariant of a step.
use Rattle.std.specs.Prelude.{◌≡◌, ℕ, pos, List, [], ◌∷◌, ◌⊎◌, if◌then◌else◌}
use Rattle.std.specs.List.{AllByRecursion}
use Rattle.m_fixed.specs.declared.amount.Value.{Value}
use Rattle.m_fixed.specs.declared.amount.Value.TheVariants.{Num}
use Rattle.flat_code.specs.Runs.{is_one}
use Rattle.driver_core.specs.declared.program.Core.{Core}
use Rattle.driver_core.specs.Actions.{Action}
use Rattle.driver_core.specs.ActionView.{block_of}
use Rattle.driver_core.specs.Meaning.{Env, RunState, goes, then_do, with_values}
use Rattle.micro_m.specs.Values.{environment}
use Rattle.rule_order.specs.declared.ordered.Ordered.{Ordered}
use Rattle.mpp_inline.specs.Labelling.{Labelling, with_rules, with_action, with_block, with_body}
use Rattle.mpp_inline.specs.inner.Cells.{written}
use Rattle.mpp_inline.specs.inner.Labels.{labelling_by}
use Rattle.mpp_inline.specs.declared.builder.Builder.{Builder}
use Rattle.mpp_inline.specs.declared.work.Driver.{Driver}
use Rattle.mpp_inline.specs.declared.work.Work.{Work}
use Rattle.mpp_inline.specs.declared.work.Work.TheVariants.{Run, Under, Restore, Return}
use Rattle.mpp_inline.specs.inner.Growth.{at, denoted, run, entries, IsUsable, Known, Held, Ready, Longer, means, means_one}

-- the run, followed by `next` if the guard is 1
abbrev pub under : Value → RunState → (Env → RunState) → RunState
under guard outcome next = if is_one guard then then_do outcome next else outcome

-- a point of the run: the value of the current guard, the state so far, and the labels, checks and
-- notes so far
pub record Point : Type 0 where
  pub guard : Value
  pub far : RunState
  pub labelling : Labelling

abbrev pub point : Builder → List Value → List ℕ → ℕ → Point
point b inputs env g = record { guard = at b inputs g; far = run b inputs env; labelling = labelling_by b }

-- a driver and its ordered rules
pub record Whole : Type 0 where
  pub core : Core
  pub ordered : Ordered

abbrev pub whole_of : Core → Ordered → Whole
whole_of core ordered = record { core = core; ordered = ordered }

abbrev pub whole_by : Driver → Whole
whole_by driver = whole_of driver.core.now driver.ordered.now

-- the meaning of commands, if the definitions are computed in the order of the rules
abbrev pub does : Whole → ℕ → List Action → Env → RunState
does whole depth block = means whole.core whole.ordered.base whole.ordered.sequence depth (block_of block)

abbrev pub does_one : Whole → ℕ → Action → Env → RunState
does_one whole depth action = means_one whole.core whole.ordered.base whole.ordered.sequence depth action

-- the labels, checks and notes that commands add
abbrev pub adds : Whole → ℕ → List Action → Labelling → Labelling
adds whole depth block l = with_block (with_rules whole.ordered.base) (with_body whole.ordered.base whole.core.bodies depth) (block_of block) l

abbrev pub adds_one : Whole → ℕ → Action → Labelling → Labelling
adds_one whole depth action l = with_action (with_rules whole.ordered.base) (with_body whole.ordered.base whole.core.bodies depth) action l

-- the point after an item is processed
abbrev pub done : Whole → Builder → List Value → Work → Point → Point
done whole b inputs (Run depth block)
    p = record { guard = p.guard; far = under p.guard p.far (does whole depth block.now); labelling = adds whole depth block.now p.labelling }
done whole b inputs (Under k) p = record { guard = at b inputs k; far = p.far; labelling = p.labelling }
done whole b inputs (Restore before)
    p = record { guard = p.guard; far = then_do p.far (λ e. goes [] (written (entries b inputs before.items) e)); labelling = p.labelling }
done whole b inputs (Return cells outer)
    p = record {
      guard = p.guard;
      far = then_do p.far (λ e. goes [] (with_values cells.now (environment e) (denoted b inputs outer.items)));
      labelling = p.labelling;
    }

-- the point after all items are processed, the head of the list last
abbrev pub finish : Whole → Builder → List Value → List Work → Point → Point
finish whole b inputs [] p = p
finish whole b inputs (w ∷ ws) p = done whole b inputs w (finish whole b inputs ws p)

-- the point after one command
abbrev pub ahead : Whole → Builder → List Value → List ℕ → ℕ → ℕ → Action → Point
ahead whole b inputs env g depth a = record {
  guard = at b inputs g;
  far = under (at b inputs g) (run b inputs env) (does_one whole depth a);
  labelling = adds_one whole depth a (labelling_by b);
}

-- the point after a block
abbrev pub block_ahead : Whole → Builder → List Value → List ℕ → ℕ → ℕ → List Action → Point
block_ahead whole b inputs env g depth block = record {
  guard = at b inputs g;
  far = under (at b inputs g) (run b inputs env) (does whole depth block);
  labelling = adds whole depth block (labelling_by b);
}

abbrev pub IsBit : Value → Type 0
IsBit v = (v ≡ Num (pos 0)) ⊎ (v ≡ Num (pos 1000000))

-- a guard: a usable node whose value is 0 or 1
pub record Guarding (b : Builder) (k : ℕ) : Type 0 where
  pub within : IsUsable b k
  pub bit : (inputs : List Value) → IsBit (at b inputs k)

-- the nodes in an item are usable
abbrev pub Kept : Builder → Work → Type 0
Kept b (Run depth block) = Unit {0}
Kept b (Under k) = Guarding b k
Kept b (Restore before) = Held b before.items
Kept b (Return cells outer) = Known b outer.items

-- the invariant of the main loop: program, environment, guard and work list
pub record Standing (whole : Whole) (b : Builder) (env : List ℕ) (g : ℕ) (ws : List Work) : Type 0 where
  pub ready : Ready whole.ordered.base.labels b env g
  pub bit : (inputs : List Value) → IsBit (at b inputs g)
  pub left : AllByRecursion (Kept b) ws

-- A step keeps the final point: the new work list, run from the new point, reaches the same final
-- point as the old work list, run from `target`.
pub record Moves (whole : Whole) (b c : Builder) (env : List ℕ) (g : ℕ) (ws ws' : List Work) (target : List Value → Point) : Type 0 where
  pub base : Longer b c
  pub standing : Standing whole c env g ws'
  pub same : (inputs : List Value) → finish whole c inputs ws' (point c inputs env g) ≡ finish whole b inputs ws (target inputs)

-- a change of the environment that takes effect only if the guard is 1, and what it adds to the
-- labels, checks and notes
pub record Step (b c : Builder) (g : ℕ) (env env' : List ℕ) (next : Env → RunState) (more : Labelling → Labelling) : Type 0 where
  pub base : Longer b c
  pub labelling : labelling_by c ≡ more (labelling_by b)
  pub known : Known c env'
  pub moved : (inputs : List Value) → IsBit (at b inputs g) → run c inputs env' ≡ under (at b inputs g) (run b inputs env) next
