-- A session joined to a reporter, as contracts see it.
use Rattle.std.specs.Prelude.{ℕ, List}
use Rattle.household_session.specs.Repliers.{Replying}
use Rattle.household_session.specs.Seats.{Seated, lines_cost}
use Rattle.household_session.specs.Sessions.{showing_of}
use Rattle.m_symbols.specs.Declarations.{Declared}
use Rattle.micro_m.specs.Values.{environment}
use Rattle.rule_order.specs.declared.ordered.Ordered.{Ordered}
use Rattle.why_report.specs.Reasons.{why_lines}
use Rattle.why_report.specs.Starts.{Reporting, start_env}
use Rattle.why_session.specs.Explains.{Explaining, explained_replies, explanation}

-- A session, a reporter, and the declarations.
pub record Joined : Type 0 where
  pub seated : Seated
  pub reporting : Reporting
  pub declared : Declared

-- the explanation of a name over an ordered base: the report of its cell, in the base's order
abbrev pub explains_by : Declared → Ordered → Explaining
explains_by declared ordered values name = explanation declared (λ c. why_lines ordered (environment (start_env declared values)) c) name

-- the explanation of a name for the current values
abbrev pub explains_in : Joined → List ℕ → List ℕ
explains_in joined name = explains_by joined.declared joined.reporting.ordered joined.seated.sitting.values name

-- The replies to lines, and their cost: a `why` line has none, as a line that the session alone rejects.
abbrev pub joined_replies : Joined → Replying
joined_replies joined lines = record {
  text = explained_replies (showing_of joined.seated.sitting) (explains_by joined.declared joined.reporting.ordered) joined.seated.sitting.values lines;
  cost = lines_cost joined.seated lines;
}
