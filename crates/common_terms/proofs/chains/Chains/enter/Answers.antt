use Rattle.std.proofs.Common.{◌∙◌}
use Rattle.common_terms.proofs.TableLemmas.{entered-added, err-then}
use Rattle.common_terms.proofs.chains.Chains.enter.Goals as goal

pub returns-clause-entered : goal.returns-clause-entered
returns-clause-entered c =
    entered-added c.add.result c.args.self.now.nodes.items c.make_room.new.self.nodes.items c.add.new.self.nodes.items c.args.node.now c.make_room.ensures.nodes
    c.requires.absent c.add.ensures.number c.add.ensures.ok

pub returns-clause-err : goal.returns-clause-err
returns-clause-err c = err-then c.add.result (λ same. same ∙ c.make_room.ensures.nodes) c.add.ensures.err
