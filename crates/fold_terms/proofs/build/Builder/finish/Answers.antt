use Rattle.std.proofs.Common.{◌≡◌, ◌<◌, sym, ◌∙◌, ap, length, subst}
use Rattle.std.specs.List.{AllByRecursion}
use Rattle.flat_code.specs.Runs.{AreNodes, IsCheck}
use Rattle.flat_code.proofs.ReadLemmas.{are-nodes}
use Rattle.fold_terms.specs.Drafts.{Draft}
use Rattle.fold_terms.proofs.build.Builder.finish.Goals as goal

pub returns-clause-valid : goal.returns-clause-valid
returns-clause-valid c =
    let nodes : c.from_vec.result ≡ c.self.inside.parts.nodes = c.from_vec.ensures ∙ c.into_nodes.ensures in
    let size : length c.args.self.nodes ≡ length c.from_vec.result = ap (λ (d : Draft). length d.nodes) (sym c.self.view_is) ∙ ap length (sym nodes) in
    record {
      nodes = subst (AreNodes c.self.inside.parts.inputs 0) (sym nodes) (are-nodes c.self.inside.parts.inputs c.self.inside.parts.nodes c.self.invariant.valid);
      checks = subst (λ n. AllByRecursion (IsCheck n) c.from_vec-2.result) size
          (subst (AllByRecursion (IsCheck (length c.args.self.nodes))) (sym c.from_vec-2.ensures) c.requires.checks);
      outputs = subst (λ n. AllByRecursion (λ output. output < n) c.from_vec-3.result) size
          (subst (AllByRecursion (λ output. output < length c.args.self.nodes)) (sym c.from_vec-3.ensures) c.requires.outputs);
    }
