use Rattle.std.proofs.Common.{ap, ◌∙◌}
use Rattle.std.specs.List.{flat_map}
use Rattle.loop_values.specs.Headers.{all_indexes}
use Rattle.index_expand.specs.LoopFaults.{least, header_faults, formula_scope, word_faults, term_faults, scope_within, no_scope}
use Rattle.index_expand.proofs.FaultLemmas.{least_three}
use Rattle.index_expand.proofs.faults.with_formula.Goals as goal

pub returns : goal.returns
returns c =
    let formula = c.args.formula.now in
    let scope = c.formula_scope-scope.ensures ∙ ap (λ hs. scope_within (all_indexes hs) no_scope) c.as_slice-headers.ensures in
    least_three c.args.first c.with_headers-first.result c.with_word-first.result c.with_term.result
    (flat_map header_faults formula.loops) (word_faults (formula_scope formula) formula.target formula.place) (term_faults (formula_scope formula) formula.term)
    (c.with_headers-first.ensures ∙ ap (λ hs. least c.args.first (flat_map header_faults hs)) c.as_slice-headers.ensures)
    (c.with_word-first.ensures ∙ (λ k. least c.with_headers-first.result (word_faults (scope k) (c.bytes.ensures k) formula.place)))
    (c.with_term.ensures ∙ ap (λ s. least c.with_word-first.result (term_faults s formula.term)) scope)
