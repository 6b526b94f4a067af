-- What the program under construction computes, and what each step adds to it.
use Rattle.std.specs.Prelude.{◌≡◌, ℕ, zero, suc, ◌+◌, ◌*◌, ◌<◌, ◌≤◌, Bool, true, false, pos, negsuc, if◌then◌else◌, List, [], ◌∷◌, ◌++◌, Option, Some, None}
use Rattle.std.specs.Prelude.{map, length, replicate, slice_index_or, slice_set, option_and_then}
use Rattle.std.specs.List.{AllByRecursion, cons_option}
use Rattle.std.specs.Option.{option_or}
use Rattle.m_fixed.specs.declared.amount.Value.{Value}
use Rattle.m_fixed.specs.declared.amount.Value.TheVariants.{Undef, Num, Over as OverValue}
use Rattle.m_fixed.specs.declared.operator.Op.TheVariants.{And}
use Rattle.m_fixed.specs.Operators.{op_value, truth_of, chosen}
use Rattle.m_places.specs.declared.verification.Label.{Label}
use Rattle.m_ast.specs.declared.variable.VariableItem.{VariableItem}
use Rattle.m_ast.specs.declared.variable.Role.{Role}
use Rattle.m_ast.specs.declared.variable.Role.TheVariants.{Input as InputRole, Computed as ComputedRole, Constant}
use Rattle.m_ast.specs.Items.{is_input}
use Rattle.m_symbols.specs.declared.variable.Variable.{Variable}
use Rattle.micro_m.specs.declared.base.Base.{Base}
use Rattle.micro_m.specs.Bases.{is_among, target_at, term_at}
use Rattle.micro_m.specs.Failures.{Check, kind_at, failure_of, note_of}
use Rattle.micro_m.specs.Values.{Environment, environment, term_value}
use Rattle.observables.specs.declared.answer.Stop.{Stop}
use Rattle.flat_code.specs.declared.program.Node.{Node}
use Rattle.flat_code.specs.declared.program.Node.TheVariants.{Input, Lit, Do}
use Rattle.flat_code.specs.Entries.{node_at}
use Rattle.flat_code.specs.Tidy.{Reads}
use Rattle.flat_code.specs.declared.program.Check.{Check as Guarded}
use Rattle.observables.specs.declared.face.FaceLabel.{FaceLabel}
use Rattle.observables.specs.declared.face.FaceLabel.TheVariants.{Verif, DriverLine}
use Rattle.observables.specs.declared.inputs.InputType.{InputType}
use Rattle.observables.specs.declared.inputs.InputType.TheVariants.{Any, Whole, Truth}
use Rattle.observables.specs.Answers.{Cause, over_driver, label_number, cause_of, is_reported}
use Rattle.observables.specs.Outputs.{verif_of}
use Rattle.flat_code.specs.Runs.{AreNodes, node_values, first_stop}
use Rattle.driver_core.specs.declared.program.Core.{Core}
use Rattle.driver_core.specs.Actions.{Action, Block}
use Rattle.driver_core.specs.Answers.{first_value, next_input}
use Rattle.driver_core.specs.Inputs.{type_declared}
use Rattle.driver_core.specs.Meaning.{Env, RunState, goes, stops, then_do, with_values, unless_stopped, failure_cause, action_run, block_run, called}
use Rattle.mpp_inline.specs.Inlined.{IsDriverLine, IsTruthInput}
use Rattle.mpp_inline.specs.Labelling.{first_labelling, with_line}
use Rattle.mpp_inline.specs.inner.Labels.{labelling_by}
use Rattle.mpp_inline.specs.inner.Cells.{written}
use Rattle.mpp_inline.specs.declared.builder.Builder.{Builder}
use Rattle.mpp_inline.specs.declared.branches.Branches.{Branches}

abbrev pub count : Builder → ℕ
count b = length b.nodes.items

-- the value of a node
abbrev pub at : Builder → List Value → ℕ → Value
at b inputs k = slice_index_or (node_values inputs b.nodes.items) k Undef

-- the cause of a stop, whose label is looked up
abbrev pub read_stop : List FaceLabel → Stop → Cause
read_stop labels stop = cause_of stop (slice_index_or labels (label_number stop) (DriverLine 0))

abbrev pub stop_read : List FaceLabel → Option Stop → Option Cause
stop_read labels None = None
stop_read labels (Some stop) = Some (read_stop labels stop)

-- the cause of the program's first stop, if any
abbrev pub stop_of : Builder → List Value → Option Cause
stop_of b inputs = stop_read b.labels.items (first_stop (node_values inputs b.nodes.items) b.checks.items)

-- the verification that a note reports, given its label and its node's value; none unless the value
-- is a number other than 0
abbrev pub note_read : FaceLabel → Value → Option Label
note_read label value = if is_reported value then verif_of label else None

-- the verifications that notes report, in order; a note is a node and the number of a label
abbrev pub notes_read : List FaceLabel → (ℕ → Value) → List (ℕ × ℕ) → List Label
notes_read labels values [] = []
notes_read labels values (n ∷ ns) = cons_option (note_read (slice_index_or labels n.1 (DriverLine 0)) (values n.0)) (notes_read labels values ns)

-- what the program reports so far: the cause of its first stop, and the noted verifications
pub record SoFar : Type 0 where
  pub stop : Option Cause
  pub notes : List Label

abbrev pub so_far : Builder → List Value → SoFar
so_far b inputs = record { stop = stop_of b inputs; notes = notes_read b.labels.items (at b inputs) b.notes.items }

-- the same, followed by a stop and notes
abbrev pub observed_more : SoFar → Option Cause → List Label → SoFar
observed_more s cause notes = record { stop = option_or s.stop cause; notes = s.notes ++ notes }

-- the values of the cells
abbrev pub denoted : Builder → List Value → List ℕ → Env
denoted b inputs env = map (at b inputs) env

abbrev pub outcome_of : SoFar → Env → RunState
outcome_of s env = unless_stopped s.stop (goes s.notes env)

-- the state of the run so far: its first stop, otherwise its notes and the values of the cells
abbrev pub run : Builder → List Value → List ℕ → RunState
run b inputs env = outcome_of (so_far b inputs) (denoted b inputs env)

-- a check's nodes and its label exist
pub record IsCheckWithin (nodes labels : ℕ) (c : Guarded) : Type 0 where
  pub guard : c.guard < nodes
  pub condition : c.condition < nodes
  pub label : c.label < labels

-- a label that names a verification
abbrev pub IsVerif : FaceLabel → Type 0
IsVerif (Verif label) = Unit {0}
IsVerif (DriverLine line) = ⊥

-- a note's node exists, and its label exists and names a verification
pub record IsNoteWithin (nodes : ℕ) (labels : List FaceLabel) (n : ℕ × ℕ) : Type 0 where
  pub node : n.0 < nodes
  pub label : n.1 < length labels
  pub verif : IsVerif (slice_index_or labels n.1 (DriverLine 0))

-- the node with this number
abbrev pub node_of : Builder → ℕ → Node
node_of b k = node_at b.nodes.items k

-- A node that every other may read: it exists, and isn't an input of type `Truth`, whose `And` is
-- read instead.
pub record IsUsable (b : Builder) (k : ℕ) : Type 0 where
  pub there : k < count b
  pub own : IsTruthInput b.inputs (node_of b k) → ⊥

-- a node that may be appended: its input exists, or its arguments are usable
abbrev pub MayStand : Builder → Node → Type 0
MayStand b (Input n) = n < length b.inputs
MayStand b (Lit v) = Unit {0}
MayStand b (Do op i j k) = IsUsable b i × IsUsable b j × IsUsable b k

-- checks and notes read usable nodes, and an input of type `Truth` is read only by its `And`
pub record Fenced (b : Builder) : Type 0 where
  pub nodes : (p x : ℕ) → p < count b → Reads (node_of b p) x → IsTruthInput b.inputs (node_of b x) → node_of b p ≡ Do And x x x
  pub checks : AllByRecursion (λ c. IsUsable b c.guard × IsUsable b c.condition) b.checks.items
  pub notes : AllByRecursion (λ n. IsUsable b n.0) b.notes.items

-- The invariant of the program under construction: the nodes and labels that nodes, checks and
-- notes use exist, and the first three nodes are the literals undefined, 0 and 1.
pub record Sane (b : Builder) : Type 0 where
  pub nodes : AreNodes (length b.inputs) 0 b.nodes.items
  pub fenced : Fenced b
  pub notes : AllByRecursion (λ n. IsNoteWithin (count b) b.labels.items n) b.notes.items
  pub checks : AllByRecursion (λ c. IsCheckWithin (count b) (length b.labels.items) c) b.checks.items
  pub three : 3 ≤ count b
  pub literal : (k : ℕ) → k < 3 → IsUsable b k
  pub undef : (inputs : List Value) → at b inputs 0 ≡ Undef
  pub zero : (inputs : List Value) → at b inputs 1 ≡ Num (pos 0)
  pub one : (inputs : List Value) → at b inputs 2 ≡ Num (pos 1000000)

-- each node of the environment is usable
pub record Known (b : Builder) (env : List ℕ) : Type 0 where
  pub all : AllByRecursion (IsUsable b) env

-- the preconditions of a point of the driver that is executed if a guard is 1
pub record Placed (b : Builder) (env : List ℕ) (g : ℕ) : Type 0 where
  pub sane : Sane b
  pub known : Known b env
  pub guard : IsUsable b g

-- one more node
pub record Pushed (b c : Builder) (node : Node) (k : ℕ) : Type 0 where
  pub inputs : c.inputs ≡ b.inputs
  pub number : k ≡ count b
  pub nodes : c.nodes.items ≡ b.nodes.items ++ node ∷ []
  pub checks : c.checks.items ≡ b.checks.items
  pub labels : c.labels.items ≡ b.labels.items
  pub notes : c.notes.items ≡ b.notes.items

-- one more check, with this label
pub record Checked (b c : Builder) (guard condition : ℕ) (over_only : Bool) (label : ℕ) : Type 0 where
  pub inputs : c.inputs ≡ b.inputs
  pub nodes : c.nodes.items ≡ b.nodes.items
  pub checks : c.checks.items ≡ b.checks.items ++ record { guard = guard; condition = condition; over_only = over_only; label = label } ∷ []
  pub notes : c.notes.items ≡ b.notes.items

-- one more check of the rules, whose label exists
pub record CheckedRule (b c : Builder) (guard condition : ℕ) (over_only : Bool) (label : ℕ) : Type 0 where
  pub base : Checked b c guard condition over_only label
  pub labels : c.labels.items ≡ b.labels.items

-- one more note
pub record NotedAt (b c : Builder) (node label : ℕ) : Type 0 where
  pub inputs : c.inputs ≡ b.inputs
  pub nodes : c.nodes.items ≡ b.nodes.items
  pub checks : c.checks.items ≡ b.checks.items
  pub labels : c.labels.items ≡ b.labels.items
  pub notes : c.notes.items ≡ b.notes.items ++ (node, label) ∷ []

-- one more check of a driver line, with a new label for the line
pub record CheckedLine (b c : Builder) (guard condition line : ℕ) : Type 0 where
  pub base : Checked b c guard condition true (length b.labels.items)
  pub labels : c.labels.items ≡ b.labels.items ++ DriverLine line ∷ []

-- the label with this number
abbrev pub face : Builder → ℕ → FaceLabel
face b l = slice_index_or b.labels.items l (DriverLine 0)

abbrev pub faces : Builder → ℕ
faces b = length b.labels.items

-- the first labels are those of the rules, in order, and the others are driver lines
pub record HasFaces (labels : List Label) (b : Builder) : Type 0 where
  pub within : length labels ≤ faces b
  pub same : (i : ℕ) (d : Label) → i < length labels → face b i ≡ Verif (slice_index_or labels i d)
  pub others : (l : ℕ) → length labels ≤ l → IsDriverLine (face b l)

pub record Ready (labels : List Label) (b : Builder) (env : List ℕ) (g : ℕ) : Type 0 where
  pub placed : Placed b env g
  pub labelled : HasFaces labels b

-- the program has grown: the old nodes keep their values, the old labels are unchanged, and the new
-- labels are driver lines
pub record Longer (b c : Builder) : Type 0 where
  pub sane : Sane c
  pub inputs : c.inputs ≡ b.inputs
  pub longer : count b ≤ count c
  pub keeps_node : (k : ℕ) → k < count b → node_of c k ≡ node_of b k
  pub keeps : (inputs : List Value) (k : ℕ) → IsUsable b k → at c inputs k ≡ at b inputs k
  pub more_faces : faces b ≤ faces c
  pub keeps_face : (l : ℕ) → l < faces b → face c l ≡ face b l
  pub new_faces : (l : ℕ) → faces b ≤ l → IsDriverLine (face c l)

-- the program has grown by nodes, has the same labels, checks and notes, and reports the same
pub record Grows (b c : Builder) : Type 0 where
  pub base : Longer b c
  pub labelling : labelling_by c ≡ labelling_by b
  pub reported : (inputs : List Value) → so_far c inputs ≡ so_far b inputs

-- the remaining computation, applied to node k of the new program, gives the value of the whole
-- computation
pub record Along (b c : Builder) (rest : List Value → Value → Value) (whole : List Value → Value) (k : ℕ) : Type 0 where
  pub grows : Grows b c
  pub within : IsUsable c k
  pub value : (inputs : List Value) → rest inputs (at c inputs k) ≡ whole inputs

-- a node with this value
abbrev pub Gives : Builder → Builder → (List Value → Value) → ℕ → Type 0
Gives b c value k = Along b c (λ inputs v. v) value k

-- node k has the value of a term, for the cells of this environment
abbrev pub TermStep : Builder → Builder → List ℕ → (Environment → Value) → ℕ → Type 0
TermStep b c env term k = Gives b c (λ inputs. term (environment (denoted b inputs env))) k

-- the remaining computation, applied to the new environment, gives what the whole computation gives
-- for the old one
pub record Computed (b c : Builder) (env env' : List ℕ) (rest whole : Env → Env) : Type 0 where
  pub grows : Grows b c
  pub known : Known c env'
  pub value : (inputs : List Value) → rest (denoted c inputs env') ≡ whole (denoted b inputs env)

-- If the guard is 1, the new run followed by the remaining computation is the old run followed by
-- the whole computation. If it is 0, neither a stop nor a note is added.
pub record Stage (b c : Builder) (guard : ℕ) (env env' : List ℕ) (rest whole : Env → RunState) : Type 0 where
  pub base : Longer b c
  pub known : Known c env'
  pub taken : (inputs : List Value) → at b inputs guard ≡ Num (pos 1000000) → then_do (run c inputs env') rest ≡ then_do (run b inputs env) whole
  pub idle : (inputs : List Value) → at b inputs guard ≡ Num (pos 0) → so_far c inputs ≡ so_far b inputs

-- two environments that differ at most at these cells
pub record SameBut (xs : List ℕ) (env env' : List ℕ) : Type 0 where
  pub size : length env' ≡ length env
  pub same : (x : ℕ) → is_among x xs ≡ false → slice_index_or env' x 0 ≡ slice_index_or env x 0

-- the same inside a loop, whose remaining cells are `rest`
pub record SameButSome (rest whole : List ℕ) (env env' : List ℕ) : Type 0 where
  pub size : length env' ≡ length env
  pub among : (x : ℕ) → is_among x whole ≡ false → is_among x rest ≡ false
  pub same : (x : ℕ) → is_among x whole ≡ false → slice_index_or env' x 0 ≡ slice_index_or env x 0

-- a stop if the condition's value is Over
abbrev pub over_judged : ℕ → Value → Env → RunState
over_judged line Undef env = goes [] env
over_judged line (Num x) env = goes [] env
over_judged line OverValue env = stops (over_driver line)

-- the condition of an `if` and the guards of its two blocks
pub record Opened (b c : Builder) (env : List ℕ) (g line : ℕ) (term : Environment → Value) (r : Branches) : Type 0 where
  pub stage : Stage b c g env env (λ e. goes [] e) (λ e. over_judged line (term (environment e)) e)
  pub labelling : labelling_by c ≡ with_line line (labelling_by b)
  pub first_within : IsUsable c r.first
  pub second_within : IsUsable c r.second
  pub truth_within : IsUsable c r.truth
  pub truth : (inputs : List Value) → at c inputs r.truth ≡ truth_of (term (environment (denoted b inputs env)))
  pub first : (inputs : List Value) → at c inputs r.first ≡ chosen (at c inputs r.truth) (at b inputs g) (Num (pos 0))
  pub second : (inputs : List Value) → at c inputs r.second ≡ chosen (at c inputs r.truth) (Num (pos 0)) (at b inputs g)

-- the same cells, with the values of their nodes
abbrev pub entries : Builder → List Value → List (ℕ × ℕ) → List (ℕ × Value)
entries b inputs ps = map (λ p. (p.0, at b inputs p.1)) ps

abbrev pub cells_of : List (ℕ × ℕ) → List ℕ
cells_of ps = map (λ p. p.0) ps

pub record Held (b : Builder) (ps : List (ℕ × ℕ)) : Type 0 where
  pub all : AllByRecursion (λ p. IsUsable b p.1) ps

-- If the guard is 1, the new environment with the remaining entries written has the values of the
-- old one with all entries written. If it is 0, the values are unchanged.
pub record Merged (b c : Builder) (truth : ℕ) (rest whole : List (ℕ × ℕ)) (env env' : List ℕ) : Type 0 where
  pub grows : Grows b c
  pub known : Known c env'
  pub first : (inputs : List Value) → at b inputs truth ≡ Num (pos 1000000)
      → written (entries b inputs rest) (denoted c inputs env') ≡ written (entries b inputs whole) (denoted b inputs env)
  pub second : (inputs : List Value) → at b inputs truth ≡ Num (pos 0) → denoted c inputs env' ≡ denoted b inputs env

-- the three literals and the labels of the rules, without a check or a note
pub record HasLiterals (labels : List Label) (b : Builder) : Type 0 where
  pub sane : Sane b
  pub labelled : HasFaces labels b
  pub labelling : labelling_by b ≡ first_labelling labels
  pub one : (inputs : List Value) → at b inputs 2 ≡ Num (pos 1000000)
  pub reported : (inputs : List Value) → so_far b inputs ≡ record { stop = None; notes = [] }

-- a node for each cell, with the cell's initial value
pub record Begun (b c : Builder) (start : List Value → Env) (env : List ℕ) : Type 0 where
  pub grows : Grows b c
  pub known : Known c env
  pub value : (inputs : List Value) → denoted c inputs env ≡ start inputs

-- The initial value of an input variable: for type `Truth` it is the `And` of the input with
-- itself, which equals the input if that is undefined, 0 or 1.
abbrev pub typed_value : InputType → Value → Value
typed_value Any value = value
typed_value Whole value = value
typed_value Truth value = op_value And value value value

abbrev pub begun_value : List Value → ℕ → VariableItem → Value
begun_value inputs n item =
    if is_input item.role then typed_value (type_declared item.value_word) (slice_index_or inputs n Undef) else first_value inputs n item.role

-- the initial values of the cells of variables, whose first input has this number
abbrev pub begun_from : List Value → ℕ → List Variable → Env
begun_from inputs n [] = []
begun_from inputs n (v ∷ vs) = replicate v.cells (begun_value inputs n v.item) ++ begun_from inputs (next_input n v.item.role) vs

-- the input with this number exists and has this type
pub record HasInput (kinds : List InputType) (next : ℕ) (kind : InputType) : Type 0 where
  pub there : next < length kinds
  pub is : slice_index_or kinds next Any ≡ kind

-- if the variable is an input, the input with this number exists and has this type
abbrev pub InputIsThere : List InputType → ℕ → InputType → Role → Type 0
InputIsThere kinds next kind (InputRole code) = HasInput kinds next kind
InputIsThere kinds next kind (ComputedRole size) = Unit {0}
InputIsThere kinds next kind (Constant amount) = Unit {0}

-- if the variable is an input, its number is below the number of inputs
abbrev pub IsAnInput : ℕ → ℕ → Role → Type 0
IsAnInput inputs next (InputRole code) = next < inputs
IsAnInput inputs next (ComputedRole size) = Unit {0}
IsAnInput inputs next (Constant amount) = Unit {0}

-- the types of the inputs among variables
abbrev pub kinds_from : List Variable → List InputType
kinds_from [] = []
kinds_from (v ∷ vs) = if is_input v.item.role then type_declared v.item.value_word ∷ kinds_from vs else kinds_from vs

-- ---- the rules in turn

-- the effect of a check of the rules, given its condition's value
abbrev pub judged : List Label → ℕ → Value → Env → RunState
judged labels number value env =
    unless_stopped (option_and_then (failure_cause labels) (failure_of value (kind_at labels number) number))
    (goes (cons_option (note_of labels value number) []) env)

-- the effect of all checks in turn: the first stop, otherwise the notes
abbrev pub checked : List Label → List Check → Env → RunState
checked labels [] env = goes [] env
checked labels (c ∷ cs) env = then_do (judged labels c.1 (term_value (environment env) c.0) env) (checked labels cs)

-- the environment after the definitions at these positions are computed in turn
abbrev pub computed : Base → List ℕ → Env → Env
computed base [] env = env
computed base (p ∷ later) env = computed base later (slice_set env (target_at base p) (term_value (environment env) (term_at base p)))

abbrev pub rules_in_turn : Base → List ℕ → List ℕ → Env → RunState
rules_in_turn base sequence received env =
    then_do (checked base.labels base.checks (computed base sequence env)) (λ values. goes [] (with_values received (environment values) env))

-- the meaning of calls and blocks, if the definitions are computed in this sequence
abbrev pub calls : Core → Base → List ℕ → ℕ → ℕ → Env → RunState
calls core base sequence depth = called (rules_in_turn base sequence) core.bodies depth

abbrev pub means : Core → Base → List ℕ → ℕ → Block → Env → RunState
means core base sequence depth block = block_run (rules_in_turn base sequence) (calls core base sequence depth) block

abbrev pub means_one : Core → Base → List ℕ → ℕ → Action → Env → RunState
means_one core base sequence depth action = action_run (rules_in_turn base sequence) (calls core base sequence depth) action
