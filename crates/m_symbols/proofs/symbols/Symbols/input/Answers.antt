use Rattle.std.proofs.Common.{◌<◌, length, arith}
use Rattle.m_symbols.proofs.Indexed.{as_many, input_at}
use Rattle.m_symbols.proofs.symbols.Symbols.input.Goals as goal

pub returns-clause-within : goal.returns-clause-within
returns-clause-within c =
    let t = c.self.inside.tables in
    let there = rw (← c.self.view_is) at c.requires in
    let within : c.args.n < length t.codes = omega (arith, there, as_many t c.self.invariant) in
    rw (← c.self.view_is) (input_at t c.self.invariant c.args.n c.index.result.now within c.index.ensures).1
