-- Well-formed trees, as the parser makes them, and terms without loops.
use Rattle.std.specs.Prelude.{◌≢◌, []}
use Rattle.std.specs.Prelude.{All}
use Rattle.m_ast.specs.declared.header.Header.{Header}
use Rattle.m_ast.specs.declared.header.Index.{Index}
use Rattle.m_ast.specs.declared.item.Formula.{Formula}
use Rattle.m_ast.specs.declared.item.CheckItem.{CheckItem}
use Rattle.m_ast.specs.declared.item.Item.{Item}
use Rattle.m_ast.specs.declared.item.Item.TheVariants.{Variable, Rule, Verif, Error, Silent}
use Rattle.m_ast.specs.Syntax.{Syntax, lit, named, the_x, cell, apply, chain, among, loop, Terms, no_terms, a_term, Links, no_links, a_link, Members}
use Rattle.m_ast.specs.Syntax.{no_members, a_member}

-- an index has a value
abbrev pub IsWholeIndex : Index → Type 0
IsWholeIndex index = index.values ≢ []

-- A header has an index, and each index a value, as in `i = 1..3` and `i = A ; j = 1`.
pub record IsWholeHeader (header : Header) : Type 0 where
  pub some_index : header.indexes ≢ []
  pub each_index : All IsWholeIndex header.indexes

-- each chain has at least two operands, each membership a member, and each header is whole
abbrev mutual
  pub IsWhole : Syntax → Type 0
  IsWhole (lit v) = Unit {0}
  IsWhole (named n p) = Unit {0}
  IsWhole (the_x p) = Unit {0}
  IsWhole (cell n a p) = IsWhole a
  IsWhole (apply op all) = AreWholeTerms all
  IsWhole (chain a all) = (all ≢ no_links) × IsWhole a × AreWholeLinks all
  IsWhole (among negated a all) = (all ≢ no_members) × IsWhole a × AreWholeMembers all
  IsWhole (loop h a) = IsWholeHeader h × IsWhole a

  pub AreWholeTerms : Terms → Type 0
  AreWholeTerms no_terms = Unit {0}
  AreWholeTerms (a_term a rest) = IsWhole a × AreWholeTerms rest

  pub AreWholeLinks : Links → Type 0
  AreWholeLinks no_links = Unit {0}
  AreWholeLinks (a_link op a rest) = IsWhole a × AreWholeLinks rest

  pub AreWholeMembers : Members → Type 0
  AreWholeMembers no_members = Unit {0}
  AreWholeMembers (a_member a b rest) = IsWhole a × IsWhole b × AreWholeMembers rest

pub record IsWholeFormula (formula : Formula) : Type 0 where
  pub loops : All IsWholeHeader formula.loops
  pub term : IsWhole formula.term

abbrev pub IsWholeCheck : CheckItem → Type 0
IsWholeCheck check = IsWhole check.condition

-- all formulas of a rule and all conditions of a verification are whole
abbrev pub IsWholeItem : Item → Type 0
IsWholeItem (Variable v) = Unit {0}
IsWholeItem (Rule r) = All IsWholeFormula r.formulas
IsWholeItem (Verif v) = All IsWholeCheck v.checks
IsWholeItem (Error e) = Unit {0}
IsWholeItem (Silent p) = Unit {0}

-- a term contains no loop
abbrev mutual
  pub HasNoLoop : Syntax → Type 0
  HasNoLoop (lit v) = Unit {0}
  HasNoLoop (named n p) = Unit {0}
  HasNoLoop (the_x p) = Unit {0}
  HasNoLoop (cell n a p) = HasNoLoop a
  HasNoLoop (apply op all) = HaveNoLoopTerms all
  HasNoLoop (chain a all) = HasNoLoop a × HaveNoLoopLinks all
  HasNoLoop (among negated a all) = HasNoLoop a × HaveNoLoopMembers all
  HasNoLoop (loop h a) = ⊥

  pub HaveNoLoopTerms : Terms → Type 0
  HaveNoLoopTerms no_terms = Unit {0}
  HaveNoLoopTerms (a_term a rest) = HasNoLoop a × HaveNoLoopTerms rest

  pub HaveNoLoopLinks : Links → Type 0
  HaveNoLoopLinks no_links = Unit {0}
  HaveNoLoopLinks (a_link op a rest) = HasNoLoop a × HaveNoLoopLinks rest

  pub HaveNoLoopMembers : Members → Type 0
  HaveNoLoopMembers no_members = Unit {0}
  HaveNoLoopMembers (a_member a b rest) = HasNoLoop a × HasNoLoop b × HaveNoLoopMembers rest
