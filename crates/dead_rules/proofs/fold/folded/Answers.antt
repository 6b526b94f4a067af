use Rattle.std.proofs.Common.{◌≡◌, ◌<◌, length, map, refl, sym, ◌∙◌, ap, subst}
use Rattle.std.specs.List.{AllByRecursion}
use Rattle.flat_code.specs.declared.program.Flat.{Flat}
use Rattle.flat_code.specs.Runs.{IsCheck}
use Rattle.flat_code.specs.Passes.{Becomes}
use Rattle.flat_code.specs.inner.Renumber.{AreValid, moved}
use Rattle.flat_code.proofs.ReadLemmas.{are-valid}
use Rattle.dead_rules.specs.inner.Steps.{look, with_nodes, IsCarried}
use Rattle.dead_rules.proofs.MoveLemmas.{checks-moved, outputs-within, becomes-moved, root-within, same-flat}
use Rattle.dead_rules.proofs.fold.folded.Goals as goal

pub finish-requires-clause-checks : goal.finish-requires-clause-checks
finish-requires-clause-checks c =
    let flat = c.args.flat.now in
    let b = c.in_ok-builder.field-0.builder in
    let numbers = c.in_ok-builder.field-0.numbers.items in
    let h : IsCarried flat.nodes (length flat.nodes) b.nodes numbers = subst (λ xs. IsCarried xs (length xs) b.nodes numbers) c.as_slice.ensures
    c.in_ok-builder.ensures.carried in
    let checks : c.in_ok-checks.field-0.checks.items ≡ map (moved (look numbers)) flat.checks = c.in_ok-checks.ensures.checks
    ∙ ap (λ xs. map (moved (look xs)) flat.checks) c.deref.ensures.value in
    subst (AllByRecursion (IsCheck (length b.nodes))) (sym checks) (checks-moved (look numbers) (length flat.nodes) (length b.nodes) flat.checks h.within
    c.requires.valid.checks)

pub finish-requires-clause-outputs : goal.finish-requires-clause-outputs
finish-requires-clause-outputs c =
    let flat = c.args.flat.now in
    let b = c.in_ok-builder.field-0.builder in
    let numbers = c.in_ok-builder.field-0.numbers.items in
    let h : IsCarried flat.nodes (length flat.nodes) b.nodes numbers = subst (λ xs. IsCarried xs (length xs) b.nodes numbers) c.as_slice.ensures
    c.in_ok-builder.ensures.carried in
    let outputs : c.in_ok-checks.field-0.outputs.items ≡ map (look numbers) flat.outputs = c.in_ok-checks.ensures.outputs
    ∙ ap (λ xs. map (look xs) flat.outputs) c.deref.ensures.value in
    subst (AllByRecursion (λ output. output < length b.nodes)) (sym outputs) (outputs-within (look numbers) (length flat.nodes) (length b.nodes) flat.outputs
    h.within c.requires.valid.outputs)

pub returns-clause-becomes : goal.returns-clause-becomes
returns-clause-becomes c =
    let flat = c.args.flat.now in
    let b = c.in_ok-builder.field-0.builder in
    let numbers = c.in_ok-builder.field-0.numbers.items in
    let m = look numbers in
    let h : IsCarried flat.nodes (length flat.nodes) b.nodes numbers = subst (λ xs. IsCarried xs (length xs) b.nodes numbers) c.as_slice.ensures
    c.in_ok-builder.ensures.carried in
    let checks : c.in_ok-checks.field-0.checks.items ≡ map (moved m) flat.checks = c.in_ok-checks.ensures.checks
    ∙ ap (λ xs. map (moved (look xs)) flat.checks) c.deref.ensures.value in
    let outputs : c.in_ok-checks.field-0.outputs.items ≡ map m flat.outputs = c.in_ok-checks.ensures.outputs
    ∙ ap (λ xs. map (look xs) flat.outputs) c.deref.ensures.value in
    let is : c.finish.result ≡ with_nodes flat b.nodes m = c.finish.ensures.program
    ∙ same-flat b.inputs flat.inputs b.nodes b.nodes c.in_ok-checks.field-0.checks.items (map (moved m) flat.checks) c.in_ok-checks.field-0.outputs.items
    (map m flat.outputs) c.in_ok-builder.ensures.inputs refl checks outputs in
    let valid : AreValid flat.inputs b.nodes = subst (λ (f : Flat). AreValid f.inputs f.nodes) is
    (are-valid c.finish.result.inputs c.finish.result.nodes c.finish.ensures.valid.nodes) in
    subst (Becomes flat) (sym is) (becomes-moved flat b.nodes m valid h.few
    (λ x r. h.within x (root-within flat x c.requires.valid r))
    (λ x r inputs plain. h.value x (root-within flat x c.requires.valid r) inputs plain))
