-- Terms in reverse Polish form, and how a stack runs them: `A - 1` is the parts `read A`, `number 1`, `do - 2`.
use Rattle.std.specs.Prelude.{◌≡◌, ℕ, zero, suc, ◌+◌, ◌-◌, ◌<◌, ◌≤◌, ◌==◌, ◌||◌, max, Bool, false, List, [], ◌∷◌, ◌++◌, length, take, drop, Option, None, Some}
use Rattle.std.specs.Prelude.{slice_index_or}
use Rattle.std.specs.Option.{option_map_or}
use Rattle.m_fixed.specs.declared.amount.Value.{Value}
use Rattle.m_fixed.specs.declared.amount.Value.TheVariants.{Undef, Num, Over}
use Rattle.micro_m.specs.Trees.{Tree, lit, cell, pick, apply, chain, Trees, none, more, Steps, end, step}
use Rattle.micro_m.specs.declared.base.Base.{Base}
use Rattle.micro_m.specs.declared.table.Picked.{Picked}
use Rattle.micro_m.specs.declared.table.Picked.TheVariants.{Cell, Fixed}
use Rattle.micro_m.specs.Bases.{definition_of}
use Rattle.micro_m.specs.ReadTests.{is_in_run}
use Rattle.micro_m.specs.Values.{Environment, applied, picked, picked_value}
use Rattle.why_report.specs.declared.part.Part.{Part}
use Rattle.why_report.specs.declared.part.Part.TheVariants.{Undefined, Overflow, Number, Read, ReadAt, Do}

-- ---- the parts of a term

abbrev pub literal : Value → Part
literal Undef = Undefined
literal Over = Overflow
literal (Num amount) = Number amount

abbrev pub selected : Picked → Part
selected (Cell c) = Read c
selected (Fixed value) = literal value

-- the part of a table read at a literal index; none at any other index
abbrev pub literal_read : ℕ → ℕ → Tree → Option Part
literal_read first size (lit value) = Some (selected (picked first size value))
literal_read first size (cell c) = None
literal_read first size (pick f s index) = None
literal_read first size (apply op arguments) = None
literal_read first size (chain a steps) = None

-- the parts of a table read, from those of its index
abbrev pub table_parts : Option Part → ℕ → ℕ → List Part → List Part
table_parts None first size index = index ++ ReadAt first size ∷ []
table_parts (Some part) first size index = part ∷ []

abbrev pub count_of : Trees → ℕ
count_of none = 0
count_of (more argument rest) = count_of rest + 1

abbrev mutual
  -- the parts of a term: those of its arguments before its operator
  pub parts_of : Tree → List Part
  parts_of (lit value) = literal value ∷ []
  parts_of (cell c) = Read c ∷ []
  parts_of (pick first size index) = table_parts (literal_read first size index) first size (parts_of index)
  parts_of (apply op arguments) = argument_parts arguments ++ Do op (count_of arguments) ∷ []
  parts_of (chain first steps) = parts_of first ++ step_parts steps

  pub argument_parts : Trees → List Part
  argument_parts none = []
  argument_parts (more argument rest) = parts_of argument ++ argument_parts rest

  pub step_parts : Steps → List Part
  step_parts end = []
  step_parts (step op operand rest) = parts_of operand ++ Do op 2 ∷ step_parts rest

-- the parts of the term that defines a cell; a cell without a definition has none
abbrev pub cell_parts : Base → ℕ → List Part
cell_parts base c = option_map_or parts_of (definition_of base c) []

-- ---- how a stack runs them

-- how many values a part takes off the stack
abbrev pub taken : Part → ℕ
taken Undefined = 0
taken Overflow = 0
taken (Number amount) = 0
taken (Read c) = 0
taken (ReadAt first size) = 1
taken (Do op count) = count

-- the value that a part puts on the stack, from those that it took off
abbrev pub pushed : Environment → List Value → Part → Value
pushed values arguments Undefined = Undef
pushed values arguments Overflow = Over
pushed values arguments (Number amount) = Num amount
pushed values arguments (Read c) = values c
pushed values arguments (ReadAt first size) = picked_value values (picked first size (slice_index_or arguments 0 Undef))
pushed values arguments (Do op count) = applied op arguments

-- the stack after a part, where this many values stay on it
abbrev pub stacked : Environment → Part → List Value → ℕ → List Value
stacked values part stack kept = take kept stack ++ pushed values (drop kept stack) part ∷ []

-- the stack after parts
abbrev pub executed : Environment → List Part → List Value → List Value
executed values [] stack = stack
executed values (part ∷ parts) stack = executed values parts (stacked values part stack (length stack - taken part))

-- how many values the stack holds at most, from this many on
abbrev pub height : ℕ → List Part → ℕ
height depth [] = depth
height depth (part ∷ parts) = max depth (height (depth - taken part + 1) parts)

-- ---- what they read

abbrev pub part_reads : Part → ℕ → Bool
part_reads Undefined c = false
part_reads Overflow c = false
part_reads (Number amount) c = false
part_reads (Read d) c = c == d
part_reads (ReadAt first size) c = is_in_run first size c
part_reads (Do op count) c = false

abbrev pub parts_read : List Part → ℕ → Bool
parts_read [] c = false
parts_read (part ∷ parts) c = part_reads part c || parts_read parts c

-- the cells that a part reads are below this number
abbrev pub IsPartWithin : ℕ → Part → Type 0
IsPartWithin cells Undefined = Unit {0}
IsPartWithin cells Overflow = Unit {0}
IsPartWithin cells (Number amount) = Unit {0}
IsPartWithin cells (Read c) = c < cells
IsPartWithin cells (ReadAt first size) = first + size ≤ cells
IsPartWithin cells (Do op count) = Unit {0}

abbrev pub ArePartsWithin : ℕ → List Part → Type 0
ArePartsWithin cells [] = Unit {0}
ArePartsWithin cells (part ∷ parts) = IsPartWithin cells part × ArePartsWithin cells parts
