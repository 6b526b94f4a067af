-- The error of a step, as the error of the rule files.
use Rattle.std.proofs.Common.{◌≡◌, ◌≢◌, ◌<◌, ◌+◌, ℕ, List, [], ◌∷◌, length, map, All, Some, None, Result, Ok, Err, refl, sym, subst, ap}
use Rattle.std.specs.Prelude.{IfOk}
use Rattle.m_places.specs.Refusals.{Outcome}
use Rattle.m_ast.specs.declared.item.Item.{Item}
use Rattle.m_ast.specs.Items.{variables_of, variable_cells}
use Rattle.m_ast.specs.declared.variable.VariableItem.{VariableItem}
use Rattle.m_symbols.specs.declared.variable.Variable.{Variable}
use Rattle.m_symbols.specs.Declarations.{Declared, declared_by, placed_from, owners_from}
use Rattle.m_symbols.specs.Placed.{IsPlaced, items_of}
use Rattle.m_symbols.specs.Faults.{first_fault}
use Rattle.m_symbols.specs.declared.fault.DeclareFault.{DeclareFault}
use Rattle.m_symbols.specs.declared.fault.DeclareFault.TheVariants as declare
use Rattle.m_ast.specs.declared.plain_rules.Plain.{Plain}
use Rattle.index_expand.specs.Expansion.{expansion}
use Rattle.index_expand.specs.Faults.{expand_fault}
use Rattle.index_expand.specs.declared.fault.ExpandFault.{ExpandFault}
use Rattle.index_expand.specs.declared.fault.ExpandFault.TheVariants as expand
use Rattle.m_resolve.specs.Terms.{if_resolved}
use Rattle.m_resolve.specs.Bases.{resolved, base_with, resolved_definitions, resolved_conditions}
use Rattle.m_resolve.proofs.Valid.{resolved_by}
use Rattle.m_resolve.specs.declared.fault.ResolveFault.{ResolveFault}
use Rattle.m_resolve.specs.declared.fault.ResolveFault.TheVariants as resolve
use Rattle.m_places.specs.declared.source.Text.{Text}
use Rattle.rule_base.specs.declared.read_fault.ReadFault.{ReadFault}
use Rattle.rule_base.specs.declared.read_fault.ReadFault.TheVariants as read
use Rattle.rule_base.specs.Files.{SayAll, IsFirstFileFault}
use Rattle.rule_base.specs.declared.fault.RuleFault.{RuleFault}
use Rattle.rule_base.specs.declared.fault.RuleFault.TheVariants.{Cycle, Memory}
use Rattle.micro_m.specs.declared.base.Base.{Base}
use Rattle.micro_m.specs.Bases.{IsValidBase}
use Rattle.rule_order.specs.Orders.{IsOrder, ShowsCycle}
use Rattle.rule_base.specs.declared.base.RuleBase.{RuleBase}
use Rattle.rule_base.specs.Base.{Declares, IsBaseOf}
use Rattle.rule_order.specs.declared.fault.OrderFault.{OrderFault}
use Rattle.rule_order.specs.declared.fault.OrderFault.TheVariants as order
use Rattle.m_symbols.specs.Cells.{cell_name}
use Rattle.rule_base.proofs.Cycles.{cycle_within}
use Rattle.rule_base.specs.Faults.{IsRuleFault, of_tokens, of_items, of_declarations, of_loops, of_names, of_a_cycle}
use Rattle.rule_base.specs.inner.Parts.{IsReadFault, bad_tokens, bad_items, IsBaseOver, IsOverFault, loops, names, ShowsNamedCycle, shown}
use Rattle.rule_base.specs.inner.Steps.{read_step, declare_step, expand_step, resolve_step}

pub read_reported : (texts : List Text) (fault : ReadFault) → (fault ≢ read.Memory → IsFirstFileFault 0 texts fault) → read_step fault ≢ Memory
    → IsReadFault texts (read_step fault)
read_reported texts (read.Lex f) h k = bad_tokens (h (λ e. cc))
read_reported texts (read.Parse f) h k = bad_items (h (λ e. cc))
read_reported texts read.Memory h k = absurd (k refl)

-- an error of the files is one of their base
pub file_reported : (texts : List Text) (application : List ℕ) (fault : RuleFault) → IsReadFault texts fault → IsRuleFault texts application fault
file_reported texts application _ (bad_tokens f) = of_tokens f
file_reported texts application _ (bad_items f) = of_items f

-- the errors of the steps after the declarations
pub expand_reported : (items : List Item) (application : List ℕ) (declared : Declared) (fault : ExpandFault)
    → (fault ≢ expand.Memory → expand_fault items application declared ≡ Some fault)
    → expand_step fault ≢ Memory → IsOverFault items application declared (expand_step fault)
expand_reported items application declared expand.Memory h k = absurd (k refl)
expand_reported items application declared (expand.BadRange p) h k = loops (h (λ e. cc))
expand_reported items application declared (expand.LoopTooLarge p) h k = loops (h (λ e. cc))
expand_reported items application declared (expand.UnboundIndex p) h k = loops (h (λ e. cc))
expand_reported items application declared (expand.TooManyParts p) h k = loops (h (λ e. cc))

pub resolve_reported : (items : List Item) (application : List ℕ) (declared : Declared) (plain : Plain) (fault : ResolveFault)
    → expand_fault items application declared ≡ None → plain ≡ expansion items application declared
    → (fault ≢ resolve.Memory → resolved declared plain ≡ Err fault) → resolve_step fault ≢ Memory → IsOverFault items application declared (resolve_step fault)
resolve_reported items application declared plain resolve.Memory x e h k = absurd (k refl)
resolve_reported items application declared plain (resolve.UnknownName n p) x e h k = names x
    (subst (λ (q : Plain). resolved declared q ≡ Err (resolve.UnknownName n p)) e (h (λ z. cc)))
resolve_reported items application declared plain (resolve.NotATable n p) x e h k = names x
    (subst (λ (q : Plain). resolved declared q ≡ Err (resolve.NotATable n p)) e (h (λ z. cc)))
resolve_reported items application declared plain (resolve.IsATable n p) x e h k = names x
    (subst (λ (q : Plain). resolved declared q ≡ Err (resolve.IsATable n p)) e (h (λ z. cc)))
resolve_reported items application declared plain (resolve.BadTarget n p) x e h k = names x
    (subst (λ (q : Plain). resolved declared q ≡ Err (resolve.BadTarget n p)) e (h (λ z. cc)))
resolve_reported items application declared plain (resolve.DefinedTwice n p) x e h k = names x
    (subst (λ (q : Plain). resolved declared q ≡ Err (resolve.DefinedTwice n p)) e (h (λ z. cc)))
resolve_reported items application declared plain (resolve.UnknownError n p) x e h k = names x
    (subst (λ (q : Plain). resolved declared q ≡ Err (resolve.UnknownError n p)) e (h (λ z. cc)))

-- the base that plain rules resolve to, if they are the items' rules
pub resolve_done : (items : List Item) (application : List ℕ) (declared : Declared) (plain : Plain) (base : Base)
    → expand_fault items application declared ≡ None → plain ≡ expansion items application declared
    → resolved declared plain ≡ Ok base → IsBaseOver items application declared base
resolve_done items application declared plain base x e r = record { expands = x; resolves = subst (λ (q : Plain). resolved declared q ≡ Ok base) e r }

-- how many cells a resolved base has
pub resolved_cells : (declared : Declared) (plain : Plain) (base : Base) → resolved declared plain ≡ Ok base
    → base.cells ≡ length (owners_from 0 declared.variables)
resolved_cells declared plain base r =
    let d = resolved_by (λ definitions. if_resolved (λ checks. Ok (base_with declared definitions checks))
    (resolved_conditions declared ([], []) plain.conditions)) (resolved_definitions declared [] plain.definitions) base r in
    let c = resolved_by (λ checks. Ok (base_with declared d.0 checks)) (resolved_conditions declared ([], []) plain.conditions) base d.2 in
    let s : base_with declared d.0 c.0 ≡ base = (let e = c.2 in cc) in
    ap (λ (b : Base). b.cells) (sym s)

-- the declarations of items are placed
items_placed : (first : ℕ) (vs : List VariableItem) → placed_from first vs ≡ placed_from first (items_of (placed_from first vs))
items_placed first [] = refl
items_placed first (v ∷ vs) = ap (λ (rest : List Variable). record { item = v; first_cell = first; cells = variable_cells v } ∷ rest)
    (items_placed (first + variable_cells v) vs)

pub declared_placed : (items : List Item) (declared : Declared) → declared ≡ declared_by items → IsPlaced declared
declared_placed items declared e = subst IsPlaced (sym e) (items_placed 0 (variables_of items))

-- the error of declarations
pub declare_reported : (texts : List Text) (application : List ℕ) (items : List Item) (fault : DeclareFault) → SayAll 0 texts items
    → (fault ≢ declare.Memory → first_fault items ≡ Some fault)
    → declare_step fault ≢ Memory → IsRuleFault texts application (declare_step fault)
declare_reported texts application items declare.Memory s h k = absurd (k refl)
declare_reported texts application items (declare.DeclaredTwice n p q) s h k = of_declarations s (h (λ e. cc))
declare_reported texts application items (declare.AliasTwice n p q) s h k = of_declarations s (h (λ e. cc))
declare_reported texts application items (declare.TableSize p) s h k = of_declarations s (h (λ e. cc))
declare_reported texts application items (declare.TooManyCells p) s h k = of_declarations s (h (λ e. cc))

-- the cells of a reported cycle are declared
pub cycle_of_cells : (base : Base) (declared : Declared) (fault : OrderFault) (cells : List ℕ) → fault ≡ order.Cycle cells → IsValidBase base
    → base.cells ≡ length (owners_from 0 declared.variables)
    → (fault ≢ order.Memory → ShowsCycle base fault) → All (λ c. c < length (owners_from 0 declared.variables)) cells
cycle_of_cells base declared fault cells e valid count h =
    let shown : ShowsCycle base (order.Cycle cells) = subst (ShowsCycle base) e (h (λ m. cc (e, m))) in
    subst (λ n. All (λ c. c < n) cells) count (cycle_within base cells valid shown.0)

pub shown_cycle : (base : Base) (declared : Declared) (fault : OrderFault) (cells : List ℕ) (reported_as : RuleFault) → fault ≡ order.Cycle cells
    → (fault ≢ order.Memory → ShowsCycle base fault)
    → reported_as ≡ Cycle (map (cell_name declared) cells) → ShowsNamedCycle declared base reported_as
shown_cycle base declared fault cells reported_as e h t =
    let s : ShowsCycle base (order.Cycle cells) = subst (ShowsCycle base) e (h (λ m. cc (e, m))) in
    subst (ShowsNamedCycle declared base) (sym t) (shown cells s.0 s.1)

-- declarations without an error
declares : (texts : List Text) (items : List Item) (declared : Declared) → SayAll 0 texts items → (first_fault items ≡ None) × (declared ≡ declared_by items)
    → Declares texts items
declares texts items declared s d = record { stated = s; faultless = d.0 }

-- an error after the declarations
pub over_reported : (texts : List Text) (application : List ℕ) (items : List Item) (declared : Declared) (fault : RuleFault) → SayAll 0 texts items
    → (first_fault items ≡ None) × (declared ≡ declared_by items)
    → IsOverFault items application declared fault → IsRuleFault texts application fault
over_reported texts application items declared fault s d (loops {fault = f} e) =
    of_loops (declares texts items declared s d) (subst (λ (k : Declared). expand_fault items application k ≡ Some f) d.1 e)
over_reported texts application items declared fault s d (names {fault = f} x e) =
    of_names (declares texts items declared s d) (subst (λ (k : Declared). expand_fault items application k ≡ None) d.1 x)
    (subst (λ (k : Declared). resolved k (expansion items application k) ≡ Err f) d.1 e)

-- the base of the texts
base_made : (texts : List Text) (application : List ℕ) (items : List Item) (declared : Declared) (base : Base) → SayAll 0 texts items
    → (first_fault items ≡ None) × (declared ≡ declared_by items)
    → IsBaseOver items application declared base → IsBaseOf texts application declared base
base_made texts application items declared base s d o =
    record { items = items; declares = declares texts items declared s d; symbols = d.1; expands = o.expands; resolves = o.resolves }

-- a reported cycle is an error of the texts
cycle_reported : (texts : List Text) (application : List ℕ) (declared : Declared) (base : Base) (fault : RuleFault) → IsBaseOf texts application declared base
    → ShowsNamedCycle declared base fault → IsRuleFault texts application fault
cycle_reported texts application declared base fault made (shown cells c b) = of_a_cycle cells made c b

-- the base in an order, or its cycle
pub finished : (texts : List Text) (application : List ℕ) (items : List Item) (declared : Declared) (base : Base) (result : Result RuleBase RuleFault)
    → SayAll 0 texts items → (first_fault items ≡ None) × (declared ≡ declared_by items)
    → IsBaseOver items application declared base
    → Outcome Memory result (λ made. (made.symbols ≡ declared) × (made.ordered.base ≡ base) × IsOrder base made.ordered.sequence)
    (ShowsNamedCycle declared base)
    → Outcome Memory result (λ made. IsBaseOf texts application made.symbols made.ordered.base × IsOrder made.ordered.base made.ordered.sequence)
    (IsRuleFault texts application)
finished texts application items declared base (Ok made) s d o h =
    let b : IsBaseOf texts application made.symbols base = subst (λ (k : Declared). IsBaseOf texts application k base) (sym h.0)
    (base_made texts application items declared base s d o) in
    (subst (λ (k : Base). IsBaseOf texts application made.symbols k) (sym h.1) b, subst (λ (k : Base). IsOrder k made.ordered.sequence) (sym h.1) h.2)
finished texts application items declared base (Err fault) s d o h = λ n. cycle_reported texts application declared base fault
    (base_made texts application items declared base s d o) (h n)

-- placed declarations stay placed
pub placed_after : (declared : Declared) (base : Base) (result : Result RuleBase RuleFault) (bad : RuleFault → Type 0) → IsPlaced declared
    → Outcome Memory result (λ made. (made.symbols ≡ declared) × (made.ordered.base ≡ base) × IsOrder base made.ordered.sequence) bad
    → IfOk result (λ made. IsPlaced made.symbols)
placed_after declared base (Ok made) bad p h = subst IsPlaced (sym h.0) p
placed_after declared base (Err fault) bad p h = tt
