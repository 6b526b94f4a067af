use Rattle.std.proofs.Common.{◌∙◌}
use Rattle.fold_terms.proofs.GrowLemmas.{IsCut, built-push, cut-either, wanted-entered, err-then}
use Rattle.fold_terms.proofs.parts.Parts.enter.Goals as goal

whole : (c : goal.After-cut) → IsCut c.args.self.now.inputs c.args.self.now.nodes c.cut.new.self.nodes c.cut.new.self.facts
whole c =
    let h = c.requires in
    let n = c.note-number.ensures in
    cut-either c.note-number.result c.args.self.now.inputs c.args.self.now.nodes c.note-number.new.self.nodes c.cut.new.self.nodes
    c.args.self.now.facts c.note-number.new.self.facts c.cut.new.self.facts c.args.node c.args.fact
    h.built c.cut.ensures.nodes n.facts n.all_facts n.entered n.same c.cut.ensures.facts
    (λ absent. built-push c.args.self.now.inputs c.args.self.now.nodes c.args.self.now.facts c.args.node c.args.fact h.built h.node h.fact h.possible h.normal
    h.unfixed h.formless absent)

pub returns-clause-built : goal.returns-clause-built
returns-clause-built c = (whole c).built

pub returns-clause-grows : goal.returns-clause-grows
returns-clause-grows c = (whole c).grows

pub returns-clause-wanted : goal.returns-clause-wanted
returns-clause-wanted c = wanted-entered c.note-number.result c.args.self.now.nodes c.note-number.new.self.nodes c.cut.new.self.nodes c.args.node
    c.cut.ensures.nodes c.note-number.ensures.entered

pub returns-clause-err : goal.returns-clause-err
returns-clause-err c =
    err-then c.note-number.result (λ same. c.cut.ensures.nodes ∙ same) c.note-number.ensures.same
