-- Soundness: what is read is a spelling.
use Rattle.std.proofs.Common.{◌≡◌, ℕ, Bool, true, false, cond, List, [], length, Option, Some, None, inl, inr, refl, sym, subst}
use Rattle.std.specs.Prelude.{◌==◌, ◌||◌}
use Rattle.std.proofs.lemmas.Bool.{eqb-true}
use Rattle.m_places.specs.declared.place.Place.{Place}
use Rattle.m_places.specs.declared.verification.ErrorKind.{ErrorKind}
use Rattle.m_lexer.specs.declared.token.Token.{Token}
use Rattle.m_lexer.specs.declared.token.Key.TheVariants as keys
use Rattle.m_lexer.specs.declared.token.Sign.TheVariants as signs
use Rattle.m_ast.specs.declared.item.Item.{Item}
use Rattle.m_ast.specs.declared.item.Item.TheVariants as items
use Rattle.m_items.specs.declared.lists.Listed.TheVariants.{Texts}
use Rattle.m_lexer.specs.Chains.{First}
use Rattle.m_terms.specs.Tokens.{is_sign, is_key}
use Rattle.m_lexer.specs.inner.Chains.{open_at, ◌>>=◌}
use Rattle.m_lexer.proofs.ChainSound.{Each, absent, here, bind_each, choose_each, each_from, open_each, Sound, chain_sound}
use Rattle.m_terms.proofs.Sound.{joined_sound}
use Rattle.m_items.specs.Tokens.{word, name, whole, amount, text, error_kind, key_place, SpellsSign, SpellsKey, SpellsKeyAt}
use Rattle.m_items.specs.DeclarationGrammar.{attribute, attributes_of, SpellsAmount, positive, negative, SpellsNumber, without, with_one, SpellsAttributes}
use Rattle.m_items.specs.DeclarationGrammar.{attributes, SpellsType, no_type, a_type, SpellsEnd, ending, SpellsSize, no_table, table, input, computed, constant}
use Rattle.m_items.specs.DeclarationGrammar.{SpellsTexts, IsFourOrFive, error_item, error, SpellsApplications, applications, SpellsDeclaration, a_variable}
use Rattle.m_items.specs.DeclarationGrammar.{an_error, an_application, a_chaining}
use Rattle.m_items.specs.inner.DeclarationReading.{amount_at, number_at, lists_at, type_at, end_at, cells_at, size_at, input_at, computed_at, constant_at}
use Rattle.m_items.specs.inner.DeclarationReading.{is_four_or_five, list_at, error_at, named_at, applications_at, application_at, chaining_at, declared_at}
use Rattle.m_items.specs.inner.DeclarationReading.{declaration_at}

-- Parts.
amount_sound : Sound SpellsAmount amount_at
unfolding amount_at
amount_sound ts =
    choose_each (open_each (is_sign signs.Minus) ts) (each_from (open_each amount ts) (λ z d. positive d)) (λ o s.
    bind_each (open_each amount o.1) (λ z d. here (negative s d)))

number_sound : Sound SpellsNumber number_at
unfolding number_at
number_sound ts =
    choose_each (open_each (is_sign signs.Equal) ts) (here without) (λ o s.
    bind_each (amount_sound o.1) (λ z d. here (with_one s d)))

lists_sound : Sound SpellsAttributes lists_at
unfolding lists_at
lists_sound ts =
    bind_each (chain_sound word attribute SpellsNumber number_at number_sound (length ts) [] ts) (λ xs c.
    here (subst (λ l. SpellsAttributes (attributes_of l) ts xs.1) (sym c.all) (attributes c.chain)))

type_sound : Sound SpellsType type_at
unfolding type_at
type_sound ts =
    choose_each (open_each (is_key keys.TypeKey) ts) (here no_type) (λ o k.
    bind_each (open_each word o.1) (λ w d. here (a_type k d)))

end_sound : Sound SpellsEnd end_at
unfolding end_at
end_sound ts =
    bind_each (open_each (is_sign signs.Colon) ts) (λ c s.
    bind_each (open_each text c.1) (λ x d.
    bind_each (type_sound x.1) (λ w e.
    bind_each (open_each (is_sign signs.Semicolon) w.1) (λ z f. here (ending s d e f)))))

cells_sound : {from ts : List Token} → SpellsKey keys.Tableau from ts → Each (λ (o : Option ℕ × List Token). SpellsSize o.0 from o.1) (cells_at ts)
unfolding cells_at
cells_sound {ts = ts} k =
    bind_each (open_each (is_sign signs.OpenBracket) ts) (λ o s.
    bind_each (open_each whole o.1) (λ n d.
    bind_each (open_each (is_sign signs.CloseBracket) n.1) (λ c f. here (table k s d f))))

size_sound : Sound SpellsSize size_at
unfolding size_at
size_sound ts = choose_each (open_each (is_key keys.Tableau) ts) (here no_table) (λ o k. cells_sound k)

-- Items: each is what the tokens from a position on spell.
abbrev Declares : List Token → Item × List Token → Type 0
Declares from o = SpellsDeclaration o.0 from o.1

input_sound : {n : List ℕ × Place} {from a b ts : List Token} → First name n from a → SpellsSign signs.Colon a b → SpellsKey keys.Saisie b ts
    → Each (Declares from) (input_at n ts)
unfolding input_at
input_sound {ts = ts} d s k =
    bind_each (lists_sound ts) (λ l e.
    bind_each (open_each (is_key keys.Alias) l.1) (λ a j.
    bind_each (open_each word a.1) (λ c f.
    bind_each (end_sound c.1) (λ w g. here (a_variable (input d s k e j f g))))))

computed_sound : {n : List ℕ × Place} {from a ts : List Token} → First name n from a → SpellsSign signs.Colon a ts → Each (Declares from) (computed_at n ts)
unfolding computed_at
computed_sound {ts = ts} d s =
    bind_each (size_sound ts) (λ m e.
    bind_each (open_each (is_key keys.Calculee) m.1) (λ k j.
    bind_each (lists_sound k.1) (λ l f.
    bind_each (end_sound l.1) (λ w g. here (a_variable (computed d s e j f g))))))

constant_sound : {n : List ℕ × Place} {from a b ts : List Token} → First name n from a → SpellsSign signs.Colon a b → SpellsKey keys.Const b ts
    → Each (Declares from) (constant_at n ts)
unfolding constant_at
constant_sound {ts = ts} d s k =
    bind_each (open_each (is_sign signs.Equal) ts) (λ e f.
    bind_each (amount_sound e.1) (λ z g.
    bind_each (open_each (is_sign signs.Semicolon) z.1) (λ c h. here (a_variable (constant d s k f g h)))))

count_is : (m : ℕ) → is_four_or_five m ≡ true → IsFourOrFive m
count_is m h = go (m == 4) (m == 5) refl refl h
  where
    go : (a b : Bool) → (m == 4) ≡ a → (m == 5) ≡ b → (a || b) ≡ true → IsFourOrFive m
    go true b e f h = inl (eqb-true m 4 e)
    go false true e f h = inr (eqb-true m 5 f)
    go false false e f h = absurd (cc)

texts_sound : Sound SpellsTexts (list_at Texts)
texts_sound = joined_sound (is_sign signs.Colon) (First text) (open_at text) (open_each text)

counted : {n : List ℕ × Place} {k : ErrorKind} {from rest : List Token} (texts : List (List ℕ)) (o : Bool) → is_four_or_five (length texts) ≡ o
    → (IsFourOrFive (length texts) → SpellsDeclaration (items.Error (error_item n k texts)) from rest)
    → Each (Declares from) (cond o (Some (items.Error (error_item n k texts))) None >>= λ i. Some (i, rest))
counted texts true h p = here (p (count_is (length texts) h))
counted texts false h p = absent

error_sound : {n : List ℕ × Place} {k : ErrorKind} {from a b ts : List Token} → First name n from a → SpellsSign signs.Colon a b → First error_kind k b ts
    → Each (Declares from) (error_at n k ts)
unfolding error_at
error_sound {ts = ts} d s e =
    bind_each (open_each (is_sign signs.Colon) ts) (λ c f.
    bind_each (texts_sound c.1) (λ xs g.
    bind_each (open_each (is_sign signs.Semicolon) xs.1) (λ z h.
    counted xs.0 (is_four_or_five (length xs.0)) refl (λ count. an_error (error d s e f g count h)))))

named_sound : {n : List ℕ × Place} {from a ts : List Token} → First name n from a → SpellsSign signs.Colon a ts → Each (Declares from) (named_at n ts)
unfolding named_at
named_sound {ts = ts} d s =
    choose_each (open_each (is_key keys.Saisie) ts)
    (choose_each (open_each (is_key keys.Const) ts)
    (choose_each (open_each error_kind ts) (computed_sound d s) (λ k e. error_sound d s e))
    (λ o k. constant_sound d s k))
    (λ o k. input_sound d s k)

pub applications_sound : Sound SpellsApplications applications_at
unfolding applications_at
applications_sound ts =
    bind_each (open_each (is_key keys.Application) ts) (λ k d.
    bind_each (open_each (is_sign signs.Colon) k.1) (λ c s.
    each_from (joined_sound (is_sign signs.Comma) (First word) (open_at word) (open_each word) c.1) (λ names e. applications d s e)))

application_sound : {p : Place} {from ts : List Token} → SpellsKeyAt keys.Application p from ts → Each (Declares from) (application_at p ts)
unfolding application_at
application_sound {ts = ts} k =
    bind_each (open_each word ts) (λ w d.
    bind_each (open_each (is_sign signs.Semicolon) w.1) (λ c s. here (an_application k d s)))

chaining_sound : {p : Place} {from ts : List Token} → SpellsKeyAt keys.Enchaineur p from ts → Each (Declares from) (chaining_at p ts)
unfolding chaining_at
chaining_sound {ts = ts} k =
    bind_each (open_each word ts) (λ w d.
    bind_each (applications_sound w.1) (λ names e.
    bind_each (open_each (is_sign signs.Semicolon) names.1) (λ c s. here (a_chaining k d e s))))

declared_sound : (ts : List Token) → Each (Declares ts) (declared_at ts)
unfolding declared_at
declared_sound ts =
    bind_each (open_each name ts) (λ n d.
    bind_each (open_each (is_sign signs.Colon) n.1) (λ c s. named_sound d s))

pub declaration_sound : Sound SpellsDeclaration declaration_at
unfolding declaration_at
declaration_sound ts =
    choose_each (open_each (key_place keys.Application) ts)
    (choose_each (open_each (key_place keys.Enchaineur) ts) (declared_sound ts) (λ o k. chaining_sound k))
    (λ o k. application_sound k)
