-- The effect of a call that gives a text to an output.
use Rattle.std.specs.Prelude.{◌≡◌, ◌≤◌, ℕ, List, Option, Result, OnOk, OnErr}
use Rattle.std.specs.Io.KnownBytes.{append_known}
use Rattle.m_ports.specs.Counts.{Rose}
use Rattle.m_ports.specs.Sink.{AppendsPrefix}

-- At `Ok` the whole text was appended, if the written bytes are known, and no fault was counted. At
-- an error a prefix of it was appended, and the count of faults rose. These are the clauses of
-- `give_all`, by the same names, for the output before and after: `old` and `new`. Every printing
-- function ensures them.
pub record Gives {S T E : Type 0} (written : S → Option (List ℕ)) (faults : S → ℕ) (old new : S) (result : Result T E) (text : List ℕ) : Type 0 where
  pub all : OnOk result (written new ≡ append_known (written old) text)
  pub failed : OnErr result (Rose (faults old) (faults new))
  pub prefix : OnErr result (AppendsPrefix (written old) (written new) text)
  pub faultless : OnOk result (faults new ≡ faults old)
  pub counted : faults old ≤ faults new
