use Rattle.std.proofs.Common.{◌≡◌, ℕ, List, ◌∙◌, subst}
use Rattle.std.specs.Prelude.{IfOk}
use Rattle.m_symbols.specs.Declarations.{Declared}
use Rattle.driver_core.specs.Ascending.{ascending}
use Rattle.driver_core.specs.Groups.{groups_in}
use Rattle.driver_core.specs.Kinds.{IsIndexOf}
use Rattle.mpp_core.proofs.NameLemmas.{kind-is}
use Rattle.mpp_core.proofs.scope.Scope.cells_with.Goals as goal

pub returns : goal.returns
returns c =
    let declared = c.args.self.now in
    let index = c.self.inside.kinds.value in
    let indexed = subst (λ (d : Declared). IsIndexOf d.variables index) c.self.view_is c.self.invariant in
    let same = (λ i. ascending (groups_in index (c.bytes.ensures i) (c.as_slice.ensures i)))
    ∙ kind-is declared index c.args.attribute.now c.args.values.now c.requires indexed in
    subst (λ (l : List ℕ). IfOk c.new.result (λ cells. cells ≡ l)) same c.new.ensures
