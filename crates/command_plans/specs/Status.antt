-- The exit statuses, and which of them report an I/O failure or out of memory.
use Rattle.std.specs.Prelude.{ℕ}
use Rattle.command_plans.specs.declared.status.Status.{Status}
use Rattle.command_plans.specs.declared.status.Status.TheVariants.{Done, Refused, Usage, ReadFault, WriteFault, Memory, Stopped}

-- the exit status
abbrev pub number_of : Status → ℕ
number_of Done = 0
number_of Refused = 1
number_of Usage = 2
number_of ReadFault = 3
number_of WriteFault = 4
number_of Memory = 5
number_of Stopped = 6

-- no read failed, no write failed, and memory sufficed
abbrev pub IsFaultless : Status → Type 0
IsFaultless ReadFault = ⊥
IsFaultless WriteFault = ⊥
IsFaultless Memory = ⊥
IsFaultless _ = Unit {0}

-- the command did all of its work, or there was no memory for it
abbrev pub IsComplete : Status → Type 0
IsComplete Done = Unit {0}
IsComplete Stopped = Unit {0}
IsComplete Memory = Unit {0}
IsComplete _ = ⊥

-- the status of a command that ran to its end: it did its work, or rejected its input, or was stopped
abbrev pub IsOfEnd : Status → Type 0
IsOfEnd Done = Unit {0}
IsOfEnd Refused = Unit {0}
IsOfEnd Stopped = Unit {0}
IsOfEnd _ = ⊥
