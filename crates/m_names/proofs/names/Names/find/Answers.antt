use Rattle.std.proofs.Common.{◌∙◌, ap}
use Rattle.m_names.specs.Names.{index_of}
use Rattle.m_names.proofs.KeyLemmas.{index_of-keys}
use Rattle.m_names.proofs.names.Names.find.Goals as goal

pub returns-clause-number : goal.returns-clause-number
returns-clause-number c =
    c.get_index_of.ensures.index ∙ index_of-keys (λ k. k.items) c.args.name.now c.self.inside.known.keys ∙ ap (index_of c.args.name.now) c.self.view_is
