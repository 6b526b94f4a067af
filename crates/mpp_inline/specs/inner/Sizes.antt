-- Sizes: of the program under construction, of the work list (its weight), and of the number of
-- iterations of the main loop (its turns).
use Rattle.std.specs.Prelude.{ℕ, zero, suc, ◌+◌, List, [], ◌∷◌, length}
use Rattle.micro_m.specs.declared.base.Base.{Base}
use Rattle.micro_m.specs.Bases.{term_at}
use Rattle.driver_core.specs.Actions.{Action, assign, clear, branch, partition, call, solve, Block, no_actions, an_action}
use Rattle.driver_core.specs.ActionView.{block_of}
use Rattle.driver_core.specs.Valid.{body_among}
use Rattle.driver_core.specs.Weights.{tree_weight, base_weight, action_weight, block_weight, body_weight}
use Rattle.mpp_inline.specs.declared.builder.Builder.{Builder}
use Rattle.mpp_inline.specs.declared.work.Work.{Work}
use Rattle.mpp_inline.specs.declared.work.Work.TheVariants.{Run, Under, Restore, Return}
use Rattle.mpp_inline.specs.inner.Work.{Whole}

-- the number of nodes, checks, labels and notes
abbrev pub load : Builder → ℕ
load b = length b.nodes.items + length b.checks.items + length b.labels.items + length b.notes.items

-- ---- weights

-- the weight of the definitions at these positions
abbrev pub positions_weight : Base → List ℕ → ℕ
positions_weight base [] = 0
positions_weight base (p ∷ ps) = tree_weight (term_at base p) + 1 + positions_weight base ps

-- the weight of a function's body, of a command and of a block, at this depth of calls
abbrev pub body_size : Whole → ℕ → ℕ → ℕ
body_size whole depth = body_weight (base_weight whole.ordered.base) whole.ordered.base.cells whole.core.bodies depth

abbrev pub action_size : Whole → ℕ → Action → ℕ
action_size whole depth a = action_weight (base_weight whole.ordered.base) whole.ordered.base.cells (body_size whole depth) a

abbrev pub block_size : Whole → ℕ → Block → ℕ
block_size whole depth block = block_weight (base_weight whole.ordered.base) whole.ordered.base.cells (body_size whole depth) block

abbrev pub work_weight : Whole → Work → ℕ
work_weight whole (Run depth block) = block_size whole depth (block_of block.now)
work_weight whole (Under k) = 0
work_weight whole (Restore before) = 0
work_weight whole (Return cells outer) = 0

abbrev pub left_weight : Whole → List Work → ℕ
left_weight whole [] = 0
left_weight whole (w ∷ ws) = work_weight whole w + left_weight whole ws

-- ---- turns

-- given the turns of the body of each function
module _ (body : ℕ → ℕ) where
  abbrev mutual
    -- the turns of the items that a command pushes
    pub turns : Action → ℕ
    turns (assign line c term) = 0
    turns (clear line c) = 0
    turns (branch line condition first second) = turns_all first + turns_all second + 2
    turns (partition line cells block) = turns_all block + 1
    turns (call line names received function) = body function + 1
    turns (solve line names received) = 0

    -- the turns of a block: one for each command, one for its end, and those of the items that its
    -- commands push
    pub turns_all : Block → ℕ
    turns_all no_actions = 1
    turns_all (an_action action rest) = turns action + turns_all rest + 1

abbrev pub body_turns : List (List Action) → ℕ → ℕ → ℕ
body_turns bodies zero f = 1
body_turns bodies (suc n) f = turns_all (body_turns bodies n) (body_among bodies f)

abbrev pub action_turns : Whole → ℕ → Action → ℕ
action_turns whole depth a = turns (body_turns whole.core.bodies depth) a

abbrev pub block_turns : Whole → ℕ → Block → ℕ
block_turns whole depth block = turns_all (body_turns whole.core.bodies depth) block

abbrev pub work_turns : Whole → Work → ℕ
work_turns whole (Run depth block) = block_turns whole depth (block_of block.now)
work_turns whole (Under k) = 1
work_turns whole (Restore before) = 1
work_turns whole (Return cells outer) = 1

abbrev pub left_turns : Whole → List Work → ℕ
left_turns whole [] = 0
left_turns whole (w ∷ ws) = work_turns whole w + left_turns whole ws
