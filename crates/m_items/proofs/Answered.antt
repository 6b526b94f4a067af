-- The results of the public calls, from the laws of declarations and applications.
use Rattle.std.proofs.Common.{◌≡◌, ◌<◌, ◌≤◌, ◌-◌, ℕ, Bool, true, false, List, [], ◌∷◌, length, drop, Option, Some, None, Result, Ok, Err, refl, sym, ap, ◌∙◌}
use Rattle.std.proofs.Common.{subst, arith}
use Rattle.std.specs.Result.{IsErrAnd}
use Rattle.m_places.specs.Refusals.{Outcome}
use Rattle.m_lexer.specs.declared.token.Token.{Token}
use Rattle.m_lexer.specs.declared.token.Key.TheVariants as keys
use Rattle.m_lexer.specs.declared.token.Sign.TheVariants.{Comma}
use Rattle.m_ast.specs.declared.item.Item.{Item}
use Rattle.m_lexer.specs.Chains.{first}
use Rattle.m_terms.specs.Tokens.{is_sign}
use Rattle.m_terms.specs.Terms.{BeginsBy}
use Rattle.m_lexer.specs.inner.Chains.{choose}
use Rattle.m_terms.specs.inner.Reading.{begins_by}
use Rattle.m_lexer.proofs.ChainSound.{Each, absent, here}
use Rattle.m_terms.proofs.Passes.{Behind, behind_drop, behind_shorter}
use Rattle.m_lexer.proofs.ChainComplete.{open_complete}
use Rattle.m_items.specs.declared.item_fault.ItemFault.{ItemFault}
use Rattle.m_items.specs.declared.item_fault.ItemFault.TheVariants.{NoItem, Memory}
use Rattle.m_items.specs.DeclarationGrammar.{input, computed, constant, error, SpellsApplications, SpellsDeclaration, a_variable, an_error, an_application}
use Rattle.m_items.specs.DeclarationGrammar.{a_chaining}
use Rattle.m_items.specs.Standing.{DeclarationAt, NoDeclaration, ApplicationsStand, NoApplications, EndsApplications, BeginsDeclaration, by_name}
use Rattle.m_items.specs.Standing.{by_application, by_chaining}
use Rattle.m_items.specs.inner.DeclarationReading.{Fails, sign_at, applications_at, declaration_at}
use Rattle.m_items.proofs.DeclarationSoundLaws.{applications_sound, declaration_sound}
use Rattle.m_items.proofs.DeclarationPassLaws.{applications_passes, declaration_passes}
use Rattle.m_items.proofs.DeclarationCompleteLaws.{applications_complete, declaration_complete}
use Rattle.m_items.proofs.FirstTokens.{key_begins}

-- an error of the inner reader, propagated
pub failed : {A B : Type 0} {p : Option A} (good : B → Type 0) {bad : Type 0} (result : Result B ItemFault) (e : ItemFault) → IsErrAnd result (λ x. x ≡ e)
    → (p ≡ None → bad) → Fails e p → Outcome Memory result good (λ fault. bad)
failed good (Ok x) e h k f = absurd h
failed good (Err x) NoItem h k f = λ other. k f
failed good (Err x) Memory h k f = λ other. absurd (other h)

found : {A : Type 0} {P : A → Type 0} {o : Option A} {x : A} → Each P o → o ≡ Some x → P x
found absent e = absurd (cc)
found {P = P} {x = x} (here {x = y} p) e = let f : y ≡ x = cc in subst P f p

same : {A : Type 0} {x y : A} → Some x ≡ Some y → x ≡ y
same e = cc

-- the remaining tokens, by their position
record Left (tokens rest : List Token) : Type 0 where
  some : 0 < length tokens - length rest
  within : length tokens - length rest ≤ length tokens
  left : rest ≡ drop (length tokens - length rest) tokens

left_of : (tokens rest : List Token) → Behind rest tokens → Left tokens rest
left_of tokens rest b =
    let shorter : length rest < length tokens = behind_shorter b in
    record { some = omega arith; within = omega arith; left = behind_drop b (length tokens - length rest) (omega arith) }

-- Declarations.
pub declaration_found : (tokens : List Token) {i : Item} {rest : List Token} → declaration_at tokens ≡ Some (i, rest)
    → DeclarationAt tokens i (length tokens - length rest)
declaration_found tokens {i} {rest} e =
    let spelled : SpellsDeclaration i tokens rest = found (declaration_sound tokens) e in
    let l : Left tokens rest = left_of tokens rest (declaration_passes _ _ _ spelled) in
    record { some = l.some; within = l.within; spelled = subst (λ m. SpellsDeclaration i tokens m) l.left spelled }

pub no_declaration : (tokens : List Token) → declaration_at tokens ≡ None → NoDeclaration tokens
no_declaration tokens e = λ i rest d. let f = declaration_complete d in absurd (cc)

pub declaration_one : (i j : Item) (ts r s : List Token) → SpellsDeclaration i ts r → SpellsDeclaration j ts s → (i ≡ j) × (r ≡ s)
declaration_one i j ts r s a b = let e : (i, r) ≡ (j, s) = same (sym (declaration_complete a) ∙ declaration_complete b) in ((λ k. (e k).0), (λ k. (e k).1))

pub declaration_begins : (i : Item) (ts rest : List Token) → SpellsDeclaration i ts rest → BeginsDeclaration ts
declaration_begins _ _ _ (a_variable (input d s k e j f g)) = by_name d s
declaration_begins _ _ _ (a_variable (computed d s e j f g)) = by_name d s
declaration_begins _ _ _ (a_variable (constant d s k f g h)) = by_name d s
declaration_begins _ _ _ (an_error (error d s e f g count h)) = by_name d s
declaration_begins _ _ _ (an_application k d s) = by_application (key_begins keys.Application k)
declaration_begins _ _ _ (a_chaining k d e s) = by_chaining (key_begins keys.Enchaineur k)

-- Applications.
pub comma_none : (ts : List Token) → EndsApplications ts → sign_at Comma ts ≡ None
comma_none [] h = refl
comma_none (t ∷ ts) h = go (is_sign Comma t) refl
  where
    go : (o : Option (Unit {0})) → is_sign Comma t ≡ o → choose {B = Option (Unit {0} × List Token)} o None (λ b. Some (b, ts)) ≡ None
    go None e = refl
    go (Some b) e = absurd (h (ts, first e))

clash : {b : Bool} → b ≡ true → b ≡ false → ⊥
clash e f = let h : true ≡ false = sym e ∙ f in absurd (cc)

comma_begins : (ts : List Token) → BeginsBy (is_sign Comma) ts → begins_by (is_sign Comma) ts ≡ true
comma_begins ts b = rw (open_complete b.1) refl

pub ends_at : (ts : List Token) → begins_by (is_sign Comma) ts ≡ false → EndsApplications ts
ends_at ts e = λ b. clash (comma_begins ts b) e

begins_none : (ts : List Token) → sign_at Comma ts ≡ None → begins_by (is_sign Comma) ts ≡ false
begins_none ts h = rw h refl

pub applications_stand : (tokens : List Token) {names : List (List ℕ)} {rest : List Token} → applications_at tokens ≡ Some (names, rest)
    → begins_by (is_sign Comma) rest ≡ false → ApplicationsStand tokens names (length tokens - length rest)
applications_stand tokens {names} {rest} e b =
    let spelled : SpellsApplications names tokens rest = found (applications_sound tokens) e in
    let l : Left tokens rest = left_of tokens rest (applications_passes _ _ _ spelled) in
    record {
      some = l.some;
      within = l.within;
      spelled = subst (λ m. SpellsApplications names tokens m) l.left spelled;
      ended = subst (λ m. EndsApplications m) l.left (ends_at rest b);
    }

pub no_applications : (tokens : List Token) → applications_at tokens ≡ None → NoApplications tokens
no_applications tokens e = λ names rest d h. let f = applications_complete d (comma_none rest h) in absurd (cc)

pub no_applications_end : (tokens : List Token) {names : List (List ℕ)} {rest : List Token} → applications_at tokens ≡ Some (names, rest)
    → begins_by (is_sign Comma) rest ≡ true → NoApplications tokens
no_applications_end tokens {names} {rest} e b = λ others left d h.
    let f : (names, rest) ≡ (others, left) = same (sym e ∙ applications_complete d (comma_none left h)) in
    let g : begins_by (is_sign Comma) rest ≡ false = ap (λ (x : List (List ℕ) × List Token). begins_by (is_sign Comma) x.1) f
    ∙ begins_none left (comma_none left h) in
    clash b g

pub applications_one : (a b : List (List ℕ)) (ts r s : List Token) → SpellsApplications a ts r → EndsApplications r → SpellsApplications b ts s
    → EndsApplications s → (a ≡ b) × (r ≡ s)
applications_one a b ts r s d g e h = let k : (a, r) ≡ (b, s) = same (sym (applications_complete d (comma_none r g))
    ∙ applications_complete e (comma_none s h)) in ((λ j. (k j).0), (λ j. (k j).1))
