-- The literals of the base are those of the rules without loops.
use Rattle.std.proofs.Common.{◌≡◌, ℕ, Bool, true, false, List, [], ◌∷◌, ◌++◌, Result, Ok, subst}
use Rattle.std.specs.List.{AllByRecursion}
use Rattle.m_fixed.specs.declared.operator.Op.TheVariants.{Or}
use Rattle.m_ast.specs.Syntax.{Syntax, lit, named, the_x, cell, apply, chain, among, loop, Terms, no_terms, a_term, Links, no_links, a_link, Members}
use Rattle.m_ast.specs.Syntax.{no_members, a_member}
use Rattle.m_symbols.specs.Declarations.{Declared}
use Rattle.micro_m.specs.Trees.{Tree, lit as lit_tree, cell as cell_tree, pick, apply as apply_tree, chain as chain_tree}
use Rattle.micro_m.specs.Views.{trees_of, steps_of}
use Rattle.micro_m.specs.declared.term.Step.{Step}
use Rattle.micro_m.specs.declared.base.Base.{Base}
use Rattle.micro_m.specs.Bases.{Definition as CellDefinition, IsValidBase}
use Rattle.m_symbols.specs.Placed.{IsPlaced}
use Rattle.m_ast.specs.Members.{is_single}
use Rattle.m_ast.specs.declared.plain_rules.Plain.{Plain}
use Rattle.m_ast.specs.declared.plain_rules.Definition.{Definition}
use Rattle.m_resolve.specs.Terms.{if_resolved, resolved_cell, resolved_table, member_by, any_of, membership, resolved_term, resolved_terms, resolved_links}
use Rattle.m_resolve.specs.Terms.{resolved_members}
use Rattle.m_resolve.specs.Bases.{resolved_target, new_target, cells_of, resolved_definition, resolved_definitions, resolved_conditions, base_with, resolved}
use Rattle.m_resolve.specs.declared.fault.ResolveFault.{ResolveFault}
use Rattle.m_resolve.proofs.Valid.{resolved_by, resolved_valid}
use Rattle.household.proofs.InputLemmas.{AllByRecursion-push}
use Rattle.report_laws.proofs.Operators.{HasAmounts, HaveAmounts, StepsHaveAmounts, AreOfAmounts}
use Rattle.report_laws.proofs.Literals.{SaysAmounts, TermsSayAmounts, LinksSayAmounts, MembersSayAmounts}
use Rattle.report_laws.proofs.Expanded.{DefinitionSays}

ok_one : {A : Type 0} (a b : A) → ◌≡◌ {A = Result A ResolveFault} (Ok a) (Ok b) → a ≡ b
ok_one a b e = cc

-- ---- terms

trees_have : (ts : List Tree) → AllByRecursion HasAmounts ts → HaveAmounts (trees_of ts)
trees_have [] h = tt
trees_have (t ∷ ts) h = (h.0, trees_have ts h.1)

abbrev StepHas : Step ℕ → Type 0
StepHas s = HasAmounts s.term

steps_have : (ss : List (Step ℕ)) → AllByRecursion StepHas ss → StepsHaveAmounts (steps_of ss)
steps_have [] h = tt
steps_have (s ∷ ss) h = (h.0, steps_have ss h.1)

member_has : (single : Bool) (x low high : Tree) → HasAmounts x → HasAmounts low → HasAmounts high → HasAmounts (member_by single x low high)
member_has true x low high a b c = (a, (b, tt))
member_has false x low high a b c = ((a, (b, tt)), ((a, (c, tt)), tt))

any_has : (members : List (Step ℕ)) → AllByRecursion StepHas members → HasAmounts (any_of members)
any_has [] h = tt
any_has (m ∷ []) h = h.0
any_has (m ∷ s ∷ rest) h = (h.0, steps_have (s ∷ rest) h.1)

membership_has : (negated : Bool) (members : List (Step ℕ)) → AllByRecursion StepHas members → HasAmounts (membership negated members)
membership_has false members h = any_has members h
membership_has true members h = (any_has members h, tt)

mutual
  term_has : (d : Declared) (s : Syntax) (t : Tree) → SaysAmounts s → resolved_term d s ≡ Ok t → HasAmounts t
  term_has d (lit value) t a e = subst HasAmounts (ok_one (lit_tree value) t e) a
  term_has d (named name place) t a e =
      let k = resolved_by (λ c. Ok (cell_tree c)) (resolved_cell d name place) t e in
      subst HasAmounts (ok_one (cell_tree k.0) t k.2) tt
  term_has d (the_x place) t a e = absurd (cc)
  term_has d (cell name index place) t a e =
      let k = resolved_by (λ (table : ℕ × ℕ). if_resolved (λ i. Ok (pick table.0 table.1 i)) (resolved_term d index)) (resolved_table d name place) t e in
      let m = resolved_by (λ i. Ok (pick k.0.0 k.0.1 i)) (resolved_term d index) t k.2 in
      subst HasAmounts (ok_one (pick k.0.0 k.0.1 m.0) t m.2) (term_has d index m.0 a m.1)
  term_has d (apply op all) t a e =
      let k = resolved_by (λ arguments. Ok (apply_tree op (trees_of arguments))) (resolved_terms d [] all) t e in
      subst HasAmounts (ok_one (apply_tree op (trees_of k.0)) t k.2) (trees_have k.0 (terms_have d [] all k.0 a tt k.1))
  term_has d (chain first links) t a e =
      let k = resolved_by (λ f. if_resolved (λ steps. Ok (chain_tree f (steps_of steps))) (resolved_links d [] links)) (resolved_term d first) t e in
      let m = resolved_by (λ steps. Ok (chain_tree k.0 (steps_of steps))) (resolved_links d [] links) t k.2 in
      subst HasAmounts (ok_one (chain_tree k.0 (steps_of m.0)) t m.2) (term_has d first k.0 a.0 k.1, steps_have m.0 (links_have d [] links m.0 a.1 tt m.1))
  term_has d (among negated x all) t a e =
      let k = resolved_by (λ y. if_resolved (λ members. Ok (membership negated members)) (resolved_members d y [] all)) (resolved_term d x) t e in
      let m = resolved_by (λ members. Ok (membership negated members)) (resolved_members d k.0 [] all) t k.2 in
      subst HasAmounts (ok_one (membership negated m.0) t m.2)
      (membership_has negated m.0 (members_have d k.0 [] all m.0 (term_has d x k.0 a.0 k.1) a.1 tt m.1))
  term_has d (loop header body) t a e = let s = ok_one _ t e in subst HasAmounts s tt

  terms_have : (d : Declared) (before : List Tree) (all : Terms) (ts : List Tree) → TermsSayAmounts all → AllByRecursion HasAmounts before
      → resolved_terms d before all ≡ Ok ts → AllByRecursion HasAmounts ts
  terms_have d before no_terms ts a h e = subst (AllByRecursion HasAmounts) (ok_one before ts e) h
  terms_have d before (a_term x rest) ts a h e =
      let k = resolved_by (λ t. resolved_terms d (before ++ t ∷ []) rest) (resolved_term d x) ts e in
      terms_have d (before ++ k.0 ∷ []) rest ts a.1 (AllByRecursion-push HasAmounts before k.0 h (term_has d x k.0 a.0 k.1)) k.2

  links_have : (d : Declared) (before : List (Step ℕ)) (all : Links) (ss : List (Step ℕ)) → LinksSayAmounts all → AllByRecursion StepHas before
      → resolved_links d before all ≡ Ok ss → AllByRecursion StepHas ss
  links_have d before no_links ss a h e = subst (AllByRecursion StepHas) (ok_one before ss e) h
  links_have d before (a_link op x rest) ss a h e =
      let k = resolved_by (λ t. resolved_links d (before ++ record { op = op; term = t } ∷ []) rest) (resolved_term d x) ss e in
      links_have d (before ++ record { op = op; term = k.0 } ∷ []) rest ss a.1
      (AllByRecursion-push StepHas before (record { op = op; term = k.0 }) h (term_has d x k.0 a.0 k.1)) k.2

  members_have : (d : Declared) (x : Tree) (before : List (Step ℕ)) (all : Members) (ss : List (Step ℕ)) → HasAmounts x → MembersSayAmounts all
      → AllByRecursion StepHas before
      → resolved_members d x before all ≡ Ok ss → AllByRecursion StepHas ss
  members_have d x before no_members ss i a h e = subst (AllByRecursion StepHas) (ok_one before ss e) h
  members_have d x before (a_member low high rest) ss i a h e =
      let k = resolved_by (λ m. resolved_members d x (before ++ record { op = Or; term = m } ∷ []) rest)
      (if_resolved (λ l. if_resolved (λ g. Ok (member_by (is_single low high) x l g)) (resolved_term d high)) (resolved_term d low)) ss e in
      let p = resolved_by (λ l. if_resolved (λ g. Ok (member_by (is_single low high) x l g)) (resolved_term d high)) (resolved_term d low) k.0 k.1 in
      let q = resolved_by (λ g. Ok (member_by (is_single low high) x p.0 g)) (resolved_term d high) k.0 p.2 in
      let w = subst HasAmounts (ok_one (member_by (is_single low high) x p.0 q.0) k.0 q.2)
      (member_has (is_single low high) x p.0 q.0 i (term_has d low p.0 a.0 p.1) (term_has d high q.0 a.1 q.1)) in
      members_have d x (before ++ record { op = Or; term = k.0 } ∷ []) rest ss i a.2 (AllByRecursion-push StepHas before (record { op = Or; term = k.0 }) h w)
      k.2

-- ---- definitions

definition_has : (d : Declared) (before : List CellDefinition) (definition : Definition) (made : CellDefinition) → DefinitionSays definition
    → resolved_definition d before definition ≡ Ok made → HasAmounts made.1
definition_has d before definition made a e =
    let k = resolved_by (λ c. if_resolved (λ tree. Ok (c, tree, definition.place)) (resolved_term d definition.term))
    (if_resolved (new_target d definition.place (cells_of before)) (resolved_target d definition)) made e in
    let t = resolved_by (λ tree. Ok (k.0, tree, definition.place)) (resolved_term d definition.term) made k.2 in
    subst (λ (x : CellDefinition). HasAmounts x.1) (ok_one (k.0, t.0, definition.place) made t.2) (term_has d definition.term t.0 a t.1)

definitions_have : (d : Declared) (before : List CellDefinition) (all : List Definition) (made : List CellDefinition) → AllByRecursion DefinitionSays all
    → AreOfAmounts before → resolved_definitions d before all ≡ Ok made → AreOfAmounts made
definitions_have d before [] made a h e = subst AreOfAmounts (ok_one before made e) h
definitions_have d before (x ∷ all) made a h e =
    let k = resolved_by (λ stated. resolved_definitions d (before ++ stated ∷ []) all) (resolved_definition d before x) made e in
    definitions_have d (before ++ k.0 ∷ []) all made a.1 (AllByRecursion-push (λ (y : CellDefinition). HasAmounts y.1) before k.0 h
    (definition_has d before x k.0 a.0 k.1)) k.2

-- ---- the base

-- Properties of a base that is the resolved rules without loops.
pub record IsMade (base : Base) : Type 0 where
  pub valid : IsValidBase base
  pub amounts : AreOfAmounts base.definitions

pub base_made : (declared : Declared) (plain : Plain) (base : Base) → IsPlaced declared → AllByRecursion DefinitionSays plain.definitions
    → resolved declared plain ≡ Ok base → IsMade base
base_made declared plain base placed a r =
    let d = resolved_by (λ definitions. if_resolved (λ checks. Ok (base_with declared definitions checks))
    (resolved_conditions declared ([], []) plain.conditions)) (resolved_definitions declared [] plain.definitions) base r in
    let c = resolved_by (λ checks. Ok (base_with declared d.0 checks)) (resolved_conditions declared ([], []) plain.conditions) base d.2 in
    subst IsMade (ok_one (base_with declared d.0 c.0) base c.2) (record {
      valid = resolved_valid declared plain d.0 c.0 placed d.1 c.1;
      amounts = definitions_have declared [] plain.definitions d.0 a tt d.1;
    })
