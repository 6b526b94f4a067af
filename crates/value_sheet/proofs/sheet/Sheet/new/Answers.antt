use Rattle.std.proofs.Common.{false, length, replicate, List, ap, sym, subst, ◌∙◌}
use Rattle.std.proofs.lemmas.List.{length-replicate}
use Rattle.m_fixed.specs.declared.amount.Value.TheVariants.{Undef}
use Rattle.flat_code.specs.declared.program.Node.{Node}
use Rattle.flat_code.specs.Runs.{node_values, value_at}
use Rattle.value_sheet.specs.inner.Readers.{IsReaders, IsInputRows}
use Rattle.value_sheet.proofs.sheet.Sheet.new.Goals as goal

pub invariant_of-result : goal.invariant_of-result
invariant_of-result c =
    let nodes = c.nodes_of-nodes.result.now in
    record {
      valid = c.nodes_of-nodes.ensures.valid;
      few = c.requires;
      given = ap length (c.in_ok-inputs.ensures.items_if_clones_equal (λ y h. h)) ∙ length-replicate c.inputs_of-count.result Undef ∙ c.inputs_of-count.ensures;
      before = ap (λ v. length v.items) c.of-last.ensures ∙ ap length (c.in_ok-inputs.ensures.items_if_clones_equal (λ y h. h))
          ∙ length-replicate c.inputs_of-count.result Undef ∙ c.inputs_of-count.ensures;
      puts = ap length c.in_ok-puts.ensures ∙ length-replicate c.inputs_of-count.result false ∙ c.inputs_of-count.ensures;
      same = λ n h. ap (λ v. value_at v.items n) c.of-last.ensures;
      right = c.in_ok-kept.ensures ∙ ap (λ vs. node_values vs nodes) c.deref.ensures.value ∙ ap (λ v. node_values v.items nodes) (sym c.of-last.ensures)
          ∙ ap (node_values c.of-last.result.value.items) c.nodes_of-nodes.ensures.nodes;
      unmarked = c.in_ok-marks.ensures ∙ ap (λ (ns : List Node). replicate (length ns) false) c.nodes_of-nodes.ensures.nodes;
      edges = subst (λ ns. IsReaders c.in_ok-readers.readers ns) c.nodes_of-nodes.ensures.nodes c.in_ok-readers.ensures;
      starts = subst (λ n. IsInputRows c.in_ok-input_rows.input_rows c.args.tidy.nodes n) c.inputs_of-count.ensures
          (subst (λ ns. IsInputRows c.in_ok-input_rows.input_rows ns c.inputs_of-count.result) c.nodes_of-nodes.ensures.nodes c.in_ok-input_rows.ensures);
    }
