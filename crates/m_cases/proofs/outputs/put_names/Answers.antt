use Rattle.std.proofs.Common.{arith, length, sym, subst, ap, List, ℕ, take}
use Rattle.observables.specs.Outputs.{names_of}
use Rattle.m_cases.specs.inner.Outputs.{Finds}
use Rattle.m_cases.proofs.Found.{finds_named, counts_named, same_noted}
use Rattle.m_cases.proofs.outputs.put_names.Goals as goal
use Rattle.m_cases.proofs.outputs.put_names.Goals.{in-Named+in_ok-put_name-in-Named, in-Noted}

pub loop-output-preserved : goal.loop-output-preserved
loop-output-preserved c =
    let outputs = c.args.outputs.now in
    let i = c.loop-output.output-index in
    let so_far = c.loop-output.invariant.place in
    let below = c.loop-output.invariant.within in
    record {
      finds = elim c.match-output.branch [
        | in-Named+in_ok-put_name-in-Named w ↦
            rw (w.known-is, w.places-is) (finds_named outputs i c.output-item.result w.in-Named.name _ _ c.loop-output-test.true c.output-item.is w.in-Named.is
            (rw w.bytes.ensures at (w.in_ok-put_name-in-Named.ensures (names_of (take i outputs)) so_far c.loop-output.invariant.finds)))
        | in-Noted w ↦
            rw (w.known-is, w.places-is)
            (subst (λ (ns : List (List ℕ)). Finds ns c.loop-output.known c.loop-output.places.items)
            (sym (same_noted outputs i c.output-item.result _ c.loop-output-test.true c.output-item.is w.in-Noted.is))
            c.loop-output.invariant.finds)
      ];
      place = elim c.match-output.branch [
        | in-Named+in_ok-put_name-in-Named w ↦
            let more = w.place-is in
            let next = counts_named outputs i c.output-item.result w.in-Named.name c.loop-output-test.true c.output-item.is w.in-Named.is in
            omega (arith, more, next, so_far)
        | in-Noted w ↦
            let same = w.place-is in
            let next = ap (λ (ns : List (List ℕ)). length ns) (same_noted outputs i c.output-item.result _ c.loop-output-test.true c.output-item.is
            w.in-Noted.is) in
            omega (arith, same, next, so_far)
      ];
      within = elim c.match-output.branch [
        | in-Named+in_ok-put_name-in-Named w ↦ let more = w.place-is in omega (arith, more, below)
        | in-Noted w ↦ let same = w.place-is in omega (arith, same, below)
      ];
    }
