use Rattle.std.proofs.Common.{◌+◌, ◌<◌, ◌≤◌, length, arith, sym, subst}
use Rattle.common_terms.proofs.TableLemmas.{apart-either, few-either}
use Rattle.common_terms.proofs.table.NodeTable.find_or_add.Goals as goal

pub returns-clause-apart : goal.returns-clause-apart
returns-clause-apart c =
    apart-either c.find_or_add.result c.self.inside.chains.nodes.items c.find_or_add.new.self.nodes.items c.args.node c.self.invariant.1
    c.find_or_add.ensures.entered c.find_or_add.ensures.err

pub invariant_of-self : goal.invariant_of-self
invariant_of-self c =
    let old = c.self.inside.chains.nodes.items in
    let new = c.find_or_add.new.self.nodes.items in
    let room : length old < 4_294_967_295 = subst (λ xs. length xs < 4_294_967_295) (sym c.self.view_is) c.requires.room in
    let few : length new ≤ length old + 1 = few-either c.find_or_add.result old new c.args.node c.find_or_add.ensures.entered c.find_or_add.ensures.err in
    (omega arith, returns-clause-apart c, c.find_or_add.ensures.table)
