-- Items: reading is sound, and reads at least as far as any spelling does.
use Rattle.std.proofs.Common.{◌≡◌, ◌<◌, ℕ, Bool, true, false, cond, List, ◌∷◌, length, Option, Some, None, refl}
use Rattle.m_places.specs.declared.place.Place.{Place}
use Rattle.m_lexer.specs.declared.token.Token.{Token}
use Rattle.m_lexer.specs.declared.token.Kind.TheVariants.{Key}
use Rattle.m_lexer.specs.declared.token.Key.{Key as AKey}
use Rattle.m_lexer.specs.declared.token.Key.TheVariants as keys
use Rattle.m_lexer.specs.declared.token.Sign.TheVariants as signs
use Rattle.m_ast.specs.declared.item.Item.{Item}
use Rattle.m_ast.specs.declared.item.Item.TheVariants.{Rule, Verif}
use Rattle.m_ast.specs.declared.item.Slot.{Slot}
use Rattle.m_ast.specs.declared.item.Formula.{Formula}
use Rattle.m_ast.specs.declared.item.CheckItem.{CheckItem}
use Rattle.m_ast.specs.declared.item.RuleItem.{RuleItem}
use Rattle.m_ast.specs.declared.item.VerifItem.{VerifItem}
use Rattle.m_lexer.specs.Chains.{first, ended, further}
use Rattle.m_terms.specs.Tokens.{is_key, kind_is_sign, kind_is_key}
use Rattle.m_lexer.specs.inner.Chains.{open_at, choose, ◌>>=◌}
use Rattle.m_terms.specs.inner.Reading.{begins_by}
use Rattle.m_lexer.proofs.ChainSound.{Each, absent, here, bind_each, Sound}
use Rattle.m_terms.proofs.Passes.{Passes}
use Rattle.m_lexer.proofs.ChainComplete.{open_complete}
use Rattle.m_items.specs.Tokens.{name, SpellsSign, SpellsKeyAt}
use Rattle.m_items.specs.DeclarationGrammar.{SpellsDeclaration}
use Rattle.m_items.specs.Standing.{BeginsDeclaration, by_name, by_application, by_chaining}
use Rattle.m_items.specs.inner.DeclarationReading.{sign_at, key_at, named_at, declared_at, declaration_at}
use Rattle.m_items.proofs.Answered.{declaration_begins}
use Rattle.m_items.proofs.FirstTokens.{BeginsWith, begins_with, nothing_opened, no_place_opened, sign_first, key_first, key_place_first, key_begins}
use Rattle.m_items.proofs.FirstTokens.{BeginsWithWord, a_word, name_first}
use Rattle.m_items.proofs.DeclarationSoundLaws.{declaration_sound}
use Rattle.m_items.proofs.DeclarationCompleteLaws.{declaration_complete}
use Rattle.m_items.proofs.DeclarationPassLaws.{declaration_passes}
use Rattle.m_items.specs.RuleGrammar.{head, SpellsSlot, no_index, every_cell, one_cell, SpellsFormula, formula, SpellsRule, rule, SpellsCheck, check}
use Rattle.m_items.specs.RuleGrammar.{SpellsVerification, verification}
use Rattle.m_items.specs.inner.RuleReading.{rule_at, verification_at}
use Rattle.m_items.proofs.RuleSoundLaws.{rule_sound, verification_sound}
use Rattle.m_items.proofs.RulePassLaws.{rule_passes, verification_passes}
use Rattle.m_items.proofs.RuleCompleteLaws.{placed_word_first}
use Rattle.m_items.proofs.RunLaws.{RunsOn, just, beyond, rule_runs, verification_runs}
use Rattle.m_items.specs.Grammar.{SpellsItem, a_declaration, a_rule, a_verification}
use Rattle.m_items.specs.inner.Reading.{item_at}

-- What is read is a spelling, is whole, and takes at least one token.
either_each : {A : Type 0} {P : A → Type 0} (b : Bool) {x y : Option A} → Each P x → Each P y → Each P (cond b x y)
either_each true p q = p
either_each false p q = q

pub item_sound : Sound SpellsItem item_at
unfolding item_at
item_sound ts =
    either_each (begins_by (is_key keys.Regle) ts) (bind_each (rule_sound ts) (λ r d. here (a_rule d)))
    (either_each (begins_by (is_key keys.Verif) ts) (bind_each (verification_sound ts) (λ v d. here (a_verification d)))
    (declared (declaration_sound ts)))
  where
    declared : {o : Option (Item × List Token)} → Each (λ i. SpellsDeclaration i.0 ts i.1) o → Each (λ i. SpellsItem i.0 ts i.1) o
    declared absent = absent
    declared (here d) = here (a_declaration d)

pub item_passes : Passes SpellsItem
item_passes _ _ _ (a_declaration d) = declaration_passes _ _ _ d
item_passes _ _ _ (a_rule d) = rule_passes _ _ _ d
item_passes _ _ _ (a_verification d) = verification_passes _ _ _ d

-- The first tokens of items.
begun : (k : AKey) (ts : List Token) {p : Place} {rest : List Token} → SpellsKeyAt k p ts rest → begins_by (is_key k) ts ≡ true
begun k ts d = rw (open_complete (key_begins k d)) refl

not_begun : (k : AKey) (ts : List Token) → key_at k ts ≡ None → begins_by (is_key k) ts ≡ false
not_begun k ts h = rw h refl

no_key_at_word : (k : AKey) {ts : List Token} → BeginsWithWord ts → key_at k ts ≡ None
no_key_at_word k (a_word b) = nothing_opened (kind_is_key k) b refl

-- a declaration begins with a name, or with one of two reserved words
not_declared : (k : AKey) (ts : List Token) → kind_is_key k (Key keys.Application) ≡ None → kind_is_key k (Key keys.Enchaineur) ≡ None → BeginsDeclaration ts
    → key_at k ts ≡ None
not_declared k ts h g (by_name d s) = no_key_at_word k (name_first d)
not_declared k ts h g (by_application d) = nothing_opened (kind_is_key k) (key_first keys.Application d) h
not_declared k ts h g (by_chaining d) = nothing_opened (kind_is_key k) (key_first keys.Enchaineur d) g

pub no_rule_declared : {i : Item} (ts : List Token) {rest : List Token} → SpellsDeclaration i ts rest → begins_by (is_key keys.Regle) ts ≡ false
no_rule_declared ts d = not_begun keys.Regle ts (not_declared keys.Regle ts refl refl (declaration_begins _ _ _ d))

pub no_verification_declared : {i : Item} (ts : List Token) {rest : List Token} → SpellsDeclaration i ts rest → begins_by (is_key keys.Verif) ts ≡ false
no_verification_declared ts d = not_begun keys.Verif ts (not_declared keys.Verif ts refl refl (declaration_begins _ _ _ d))

pub rule_begins : {r : RuleItem} (ts : List Token) {rest : List Token} → SpellsRule r ts rest → begins_by (is_key keys.Regle) ts ≡ true
rule_begins ts (rule (head d w e s f g) c fs) = begun keys.Regle ts d

pub verification_begins : {v : VerifItem} (ts : List Token) {rest : List Token} → SpellsVerification v ts rest → begins_by (is_key keys.Verif) ts ≡ true
verification_begins ts (verification (head d w e s f g) cs) = begun keys.Verif ts d

pub no_rule_verified : {v : VerifItem} (ts : List Token) {rest : List Token} → SpellsVerification v ts rest → begins_by (is_key keys.Regle) ts ≡ false
no_rule_verified ts (verification (head d w e s f g) cs) = not_begun keys.Regle ts (nothing_opened (kind_is_key keys.Regle) (key_place_first keys.Verif d) refl)

declared_at_front : {i : Item} (ts : List Token) {rest : List Token} → SpellsDeclaration i ts rest → item_at ts ≡ Some (i, rest)
unfolding item_at
declared_at_front ts d = rw (no_rule_declared ts d, no_verification_declared ts d) (declaration_complete d)

rule_at_front : {r : RuleItem} (ts : List Token) {rest : List Token} → SpellsRule r ts rest → item_at ts ≡ (rule_at ts >>= λ r. Some (Rule r.0, r.1))
unfolding item_at
rule_at_front ts d = rw (rule_begins ts d) refl

verification_at_front : {v : VerifItem} (ts : List Token) {rest : List Token} → SpellsVerification v ts rest
    → item_at ts ≡ (verification_at ts >>= λ v. Some (Verif v.0, v.1))
unfolding item_at
verification_at_front ts d = rw (no_rule_verified ts d, verification_begins ts d) refl

-- No item begins with a formula or a check.
no_item : (ts : List Token) → key_at keys.Regle ts ≡ None → key_at keys.Verif ts ≡ None → declaration_at ts ≡ None → item_at ts ≡ None
unfolding item_at
no_item ts h g e = rw (not_begun keys.Regle ts h, not_begun keys.Verif ts g) e

-- after a reserved word that begins no item
no_name : {k : AKey} {ts : List Token} → BeginsWith (Key k) ts → open_at name ts ≡ None
no_name (begins_with e) = rw e refl

not_declared_at_key : {k : AKey} {ts : List Token} → BeginsWith (Key k) ts → kind_is_key keys.Application (Key k) ≡ None
    → kind_is_key keys.Enchaineur (Key k) ≡ None → declaration_at ts ≡ None
unfolding declaration_at declared_at
not_declared_at_key b e f = rw (no_place_opened keys.Application b e, no_place_opened keys.Enchaineur b f, no_name b) refl

no_item_at_key : (k : AKey) (ts : List Token) → BeginsWith (Key k) ts → kind_is_key keys.Regle (Key k) ≡ None → kind_is_key keys.Verif (Key k) ≡ None
    → kind_is_key keys.Application (Key k) ≡ None → kind_is_key keys.Enchaineur (Key k) ≡ None → item_at ts ≡ None
no_item_at_key k ts b h g e f = no_item ts (nothing_opened (kind_is_key keys.Regle) b h) (nothing_opened (kind_is_key keys.Verif) b g)
    (not_declared_at_key b e f)

no_colon : {s : Slot} {ts mid rest : List Token} → SpellsSlot s ts mid → SpellsSign signs.Equal mid rest → sign_at signs.Colon ts ≡ None
no_colon no_index e = nothing_opened (kind_is_sign signs.Colon) (sign_first signs.Equal e) refl
no_colon (every_cell o k c) e = nothing_opened (kind_is_sign signs.Colon) (sign_first signs.OpenBracket o) refl
no_colon (one_cell o d c) e = nothing_opened (kind_is_sign signs.Colon) (sign_first signs.OpenBracket o) refl

-- a word with no colon after it
not_declared_at_word : (t : Token) (ts : List Token) → BeginsWithWord (t ∷ ts) → sign_at signs.Colon ts ≡ None → declaration_at (t ∷ ts) ≡ None
unfolding declaration_at declared_at
not_declared_at_word t ts (a_word b) h = rw (no_place_opened keys.Application b refl, no_place_opened keys.Enchaineur b refl) (go (name t))
  where
    go : (o : Option (List ℕ × Place)) → (choose {B = Option ((List ℕ × Place) × List Token)} o None (λ n. Some (n, ts)) >>= λ n. sign_at signs.Colon n.1 >>=
        λ c. named_at n.0 c.1) ≡ None
    go None = refl
    go (Some n) = rw h refl

no_item_at_word : (t : Token) (ts : List Token) → BeginsWithWord (t ∷ ts) → sign_at signs.Colon ts ≡ None → item_at (t ∷ ts) ≡ None
no_item_at_word t ts b h = no_item (t ∷ ts) (no_key_at_word keys.Regle b) (no_key_at_word keys.Verif b) (not_declared_at_word t ts b h)

formula_no_item : {f : Formula} {ts rest : List Token} → SpellsFormula f ts rest → item_at ts ≡ None
formula_no_item (formula ended (first {t = t} {ts = ts} e) s q f g) = no_item_at_word t ts (placed_word_first (first {t = t} {ts = ts} e)) (no_colon s q)
formula_no_item (formula (further {t = t} {b = b} {ts = ts} o l c) d s q f g) = no_item_at_key keys.Pour (t ∷ ts)
    (key_first keys.Pour (first {b = b} {t = t} {ts = ts} o)) refl refl refl refl

check_no_item : {c : CheckItem} {ts rest : List Token} → SpellsCheck c ts rest → item_at ts ≡ None
check_no_item {ts = ts} (check d e f g h w s) = no_item_at_key keys.Si ts (key_place_first keys.Si d) refl refl refl refl

-- reading gives the item up to r; or it continues after r, and no item begins at r
pub data ItemRuns (i : Item) (ts r : List Token) : Type 0 where
  exact : item_at ts ≡ Some (i, r) → ItemRuns i ts r
  longer : (j : Item) (m : List Token) → item_at ts ≡ Some (j, m) → length m < length r → item_at r ≡ None → ItemRuns i ts r

rule_item_runs : {x : RuleItem} (ts r : List Token) → item_at ts ≡ (rule_at ts >>= λ r. Some (Rule r.0, r.1)) → RunsOn SpellsFormula (rule_at ts) x r
    → ItemRuns (Rule x) ts r
rule_item_runs ts r h (just e) = exact (rw (h, e) refl)
rule_item_runs ts r h (beyond y m z s e less d) = longer (Rule y) m (rw (h, e) refl) less (formula_no_item d)

verification_item_runs : {x : VerifItem} (ts r : List Token) → item_at ts ≡ (verification_at ts >>= λ v. Some (Verif v.0, v.1))
    → RunsOn SpellsCheck (verification_at ts) x r → ItemRuns (Verif x) ts r
verification_item_runs ts r h (just e) = exact (rw (h, e) refl)
verification_item_runs ts r h (beyond y m z s e less d) = longer (Verif y) m (rw (h, e) refl) less (check_no_item d)

pub item_runs : {i : Item} {ts r : List Token} → SpellsItem i ts r → ItemRuns i ts r
item_runs {ts = ts} (a_declaration d) = exact (declared_at_front ts d)
item_runs {ts = ts} {r = r} (a_rule d) = rule_item_runs ts r (rule_at_front ts d) (rule_runs d)
item_runs {ts = ts} {r = r} (a_verification d) = verification_item_runs ts r (verification_at_front ts d) (verification_runs d)
