use Rattle.std.proofs.Common.{◌≡◌, rules, Some, true, false}
use Rattle.std.specs.Ordering.{int_eq}
use Rattle.m_facts.specs.inner.Parts.{words_after}
use Rattle.m_lint.proofs.PrintLemmas.{gives-text}
use Rattle.m_facts.proofs.LineLemmas.{number-line, interval-line}
use Rattle.m_facts.proofs.line.print_fact.Goals as goal

pub returns-then-eq : goal.returns-then-eq
returns-then-eq g c =
    let some : c.args.fact.range ≡ Some (c.in-Some.low, c.in-Some.high) = search rules in
    let equal : int_eq c.in-Some.low c.in-Some.high ≡ true = search rules in
    let words : c.words_after-words.result.now ≡ words_after c.args.fact.undef c.args.fact.over = search rules in
    gives-text _ _ _ _ _ _ _ (number-line c.args.name.now c.words_after-words.result.now c.args.fact (c.in-Some.low, c.in-Some.high) some equal words)
    c.print_number.ensures

pub returns-else-eq : goal.returns-else-eq
returns-else-eq g c =
    let some : c.args.fact.range ≡ Some (c.in-Some.low, c.in-Some.high) = search rules in
    let apart : int_eq c.in-Some.low c.in-Some.high ≡ false = search rules in
    let words : c.words_after-words.result.now ≡ words_after c.args.fact.undef c.args.fact.over = search rules in
    gives-text _ _ _ _ _ _ _ (interval-line c.args.name.now c.words_after-words.result.now c.args.fact (c.in-Some.low, c.in-Some.high) some apart words)
    c.print_interval.ensures
