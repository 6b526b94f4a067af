use Rattle.std.proofs.Common.{◌≡◌, ℕ, zero, suc, ◌≤◌, None, ap, sym, ◌∙◌, arith}
use Rattle.std.specs.Option.{option_map_or}
use Rattle.micro_m.specs.declared.base.Base.{Base}
use Rattle.micro_m.specs.Bases.{definition_of}
use Rattle.micro_m.specs.Values.{Environment, environment, term_value, value_in}
use Rattle.micro_m.proofs.SlowLemmas.{reach-less, nodes-argument, nodes-step}
use Rattle.micro_m.proofs.TermLemmas.{argument_values-at, argument_values-past}
use Rattle.micro_m.proofs.slow.+slow.Goals as goal

pub slow_argument-slow_term-requires : goal.slow_argument-slow_term-requires
slow_argument-slow_term-requires t c =
    let found = c.in-Some.ensures.lookup in
    (omega (arith, nodes-argument c.args.arguments.now c.args.at c.in-Some.argument.now found.3.0 found.1), tt)

pub slow_argument-returns-in-Some : goal.slow_argument-returns-in-Some
slow_argument-returns-in-Some t c =
    let found = c.in-Some.ensures.lookup in
    c.slow_term.ensures ∙ argument_values-at (value_in c.args.base.now (environment c.args.env.now) c.args.turns) c.args.arguments.now c.args.at
    c.in-Some.argument.now found.3.0 found.1

pub slow_argument-returns-in-None : goal.slow_argument-returns-in-None
slow_argument-returns-in-None t c =
    argument_values-past (value_in c.args.base.now (environment c.args.env.now) c.args.turns) c.args.arguments.now c.args.at c.in-None.ensures.lookup.3

pub slow_cell-slow_term-requires : goal.slow_cell-slow_term-requires
slow_cell-slow_term-requires t c =
    (omega (arith, reach-less c.args.base.now c.args.cell c.args.turns c.in-Some.term.now (omega arith) (sym c.in-Some.ensures)), tt)

-- a cell without a definition has the given value
given-value : (base : Base) (given : Environment) (turns c : ℕ) → 1 ≤ turns → None ≡ definition_of base c → given c ≡ value_in base given turns c
given-value base given zero c h none = absurd (omega arith)
given-value base given (suc turns) c h none = ap (λ o. option_map_or (term_value (value_in base given turns)) o (given c)) none

pub slow_cell-returns-in-None : goal.slow_cell-returns-in-None
slow_cell-returns-in-None t c =
    c.value_at.ensures ∙ given-value c.args.base.now (environment c.args.env.now) c.args.turns c.args.cell (omega arith) c.in-None.ensures

pub slow_fold-slow_term-requires : goal.slow_fold-slow_term-requires
slow_fold-slow_term-requires t c =
    (omega (arith, nodes-step c.args.steps.now c.loop-step.step-index c.step-item.result c.loop-step-test.true c.step-item.is), tt)
