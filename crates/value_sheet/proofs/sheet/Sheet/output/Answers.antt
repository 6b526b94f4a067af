use Rattle.std.proofs.Common.{◌<◌, List, ℕ, length, get_or, ap, ◌∙◌, arith}
use Rattle.std.proofs.lemmas.List.{get_or_read}
use Rattle.std.proofs.lemmas.Option.{slice_get-get_or}
use Rattle.m_fixed.specs.declared.amount.Value.TheVariants.{Undef}
use Rattle.flat_code.specs.Runs.{node_values, value_at}
use Rattle.flat_code.proofs.RunLemmas.{length-node_values, one_of_all}
use Rattle.value_sheet.specs.Held.{Held}
use Rattle.value_sheet.proofs.sheet.Sheet.output.Goals as goal

pub index-requires : goal.index-requires
index-requires c =
    let s = c.self.inside in
    let there : c.args.k < length s.tidy.outputs = omega (arith, c.requires.output, ap (λ (held : Held). length held.flat.outputs) c.self.view_is) in
    let within : get_or s.tidy.outputs c.args.k 0 < length s.tidy.nodes =
    one_of_all (λ output. output < length s.tidy.nodes) s.tidy.outputs c.args.k (get_or s.tidy.outputs c.args.k 0) c.self.invariant.valid.outputs
    (slice_get-get_or s.tidy.outputs c.args.k 0 there) in
    omega (
      arith,
      within,
      ap (λ (outputs : List ℕ). get_or outputs c.args.k 0) c.outputs_of.ensures,
      ap length c.self.invariant.right,
      length-node_values
          s.last.value.items s.tidy.nodes,
      s.kept.ok.0,
    )

pub returns : goal.returns
returns c =
    let s = c.self.inside in
    let there : c.args.k < length s.tidy.outputs = omega (arith, c.requires.output, ap (λ (held : Held). length held.flat.outputs) c.self.view_is) in
    let within : get_or s.tidy.outputs c.args.k 0 < length s.tidy.nodes =
    one_of_all (λ output. output < length s.tidy.nodes) s.tidy.outputs c.args.k (get_or s.tidy.outputs c.args.k 0) c.self.invariant.valid.outputs
    (slice_get-get_or s.tidy.outputs c.args.k 0 there) in
    let node = get_or c.outputs_of.result.now c.args.k 0 in
    let room : get_or c.outputs_of.result.now c.args.k 0 < length s.kept.items =
    omega (
      arith,
      within,
      ap (λ (outputs : List ℕ). get_or outputs c.args.k 0) c.outputs_of.ensures,
      ap length c.self.invariant.right,
      length-node_values
          s.last.value.items s.tidy.nodes,
    ) in
    get_or_read s.kept.items node c.index.result.now room c.index.ensures Undef
    ∙ ap (λ (outputs : List ℕ). value_at s.kept.items (get_or outputs c.args.k 0)) c.outputs_of.ensures
    ∙ ap (λ vs. value_at vs (get_or s.tidy.outputs c.args.k 0)) c.self.invariant.right
    ∙ ap (λ (held : Held). value_at (node_values held.settled held.flat.nodes) (get_or held.flat.outputs c.args.k 0)) c.self.view_is
    ∙ ap (λ now. value_at (node_values now c.args.self.now.flat.nodes) (get_or c.args.self.now.flat.outputs c.args.k 0)) c.requires.settled
