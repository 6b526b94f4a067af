use Rattle.std.proofs.Common.{◌≡◌, ◌+◌, ◌-◌, ◌≤◌, length, min}
use Rattle.std.specs.Io.KnownBytes.{Consumes}
use Rattle.m_ports.specs.Counts.{last_count}
use Rattle.m_ports.proofs.host.read_whole.Given as goal

abbrev pub invariant-loop-bytes : goal.invariant-loop-bytes
invariant-loop-bytes g l = record {
  few : length l.bytes.items ≤ l.limit;
  counted : l.taken ≡ min (l.initial.taken + length l.bytes.items) last_count;
  moved : Consumes (g.O.Opener.remaining l.initial.opener) (g.O.Opener.remaining l.opener) l.bytes.items;
  failures : g.O.Opener.failures l.opener ≡ g.O.Opener.failures l.initial.opener;
  known_files : g.O.Opener.known_files l.opener ≡ g.O.Opener.known_files l.initial.opener;
}

abbrev pub decreases-loop-bytes : goal.decreases-loop-bytes
decreases-loop-bytes g l = l.limit - length l.bytes.items
