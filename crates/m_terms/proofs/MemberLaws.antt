-- Members: reading is sound and complete for the grammar.
use Rattle.std.proofs.Common.{◌≡◌, ℕ, ℤ, List, ◌∷◌, Some, None, refl, sym, subst}
use Rattle.m_places.specs.declared.place.Place.{Place}
use Rattle.m_fixed.specs.declared.amount.Value.TheVariants.{Num}
use Rattle.m_fixed.specs.declared.operator.Op.TheVariants.{Neg}
use Rattle.m_lexer.specs.declared.token.Token.{Token}
use Rattle.m_lexer.specs.declared.token.Kind.{Kind}
use Rattle.m_lexer.specs.declared.token.Kind.TheVariants.{Word, Number, Text, Key, Sign}
use Rattle.m_lexer.specs.declared.token.Sign.TheVariants as signs
use Rattle.m_ast.specs.Syntax.{Syntax, lit}
use Rattle.m_terms.specs.declared.cursor.Mark.TheVariants.{OfSign}
use Rattle.m_lexer.specs.Chains.{First, first}
use Rattle.m_terms.specs.Tokens.{at, sign, is_sign}
use Rattle.m_terms.specs.Grammar.{one, member, SpellsSigned, positive, negative, SpellsMember, amount, name, range, SpellsMembers}
use Rattle.m_lexer.specs.inner.Chains.{open_at}
use Rattle.m_terms.specs.inner.Reading.{joined_at, number_of, number, word_of, plain_word, signed_at, ends_at, member_at}
use Rattle.m_lexer.proofs.ChainSound.{here, bind_each, choose_each, each_from, open_each, Sound}
use Rattle.m_terms.proofs.Sound.{mark_each, joined_sound}
use Rattle.m_terms.proofs.Passes.{next, later, over, skip, Passes, joined_passes}
use Rattle.m_lexer.proofs.ChainComplete.{Complete}
use Rattle.m_terms.proofs.HeaderLaws.{Loose, range_closed, commas_complete}

same : {A : Type 0} {x y : A} → Some x ≡ Some y → x ≡ y
same e = cc

-- Numbers.
data AmountAt : Syntax → List Token → List Token → Type 0 where
  amount_at : {z : ℤ} {n : List ℕ} {p : Place} {rest : List Token} → AmountAt (lit (Num z)) (at (Number z n) p ∷ rest) rest

number_is : (k : Kind) (p : Place) (a : Syntax) (rest : List Token) → number_of k ≡ Some a → AmountAt a (at k p ∷ rest) rest
number_is (Number z n) p a rest e = subst (λ x. AmountAt x (at (Number z n) p ∷ rest) rest) (same e) amount_at
number_is (Word w) p a rest e = absurd (cc)
number_is (Text w) p a rest e = absurd (cc)
number_is (Key k) p a rest e = absurd (cc)
number_is (Sign s) p a rest e = absurd (cc)

number_shape : {a : Syntax} {ts rest : List Token} → First number a ts rest → AmountAt a ts rest
number_shape (first {t = t} e) = number_is t.kind t.place _ _ e

as_positive : {a : Syntax} {ts rest : List Token} → AmountAt a ts rest → SpellsSigned a ts rest
as_positive amount_at = positive

as_negative : {a : Syntax} {p : Place} {ts rest : List Token} → AmountAt a ts rest → SpellsSigned (one Neg a) (sign signs.Minus p ∷ ts) rest
as_negative amount_at = negative

signed_sound : Sound SpellsSigned signed_at
unfolding signed_at
signed_sound ts =
    choose_each (mark_each (OfSign signs.Minus) ts) (each_from (open_each number ts) (λ z d. as_positive (number_shape d))) (λ o g.
    bind_each (open_each number o.1) (λ z d.
    here (subst (λ m. SpellsSigned (one Neg z.0) m z.1) (sym g.1) (as_negative (number_shape d)))))

signed_passes : Passes SpellsSigned
signed_passes _ _ _ positive = next
signed_passes _ _ _ negative = later next

signed_complete : {a : Syntax} {ts rest : List Token} → SpellsSigned a ts rest → signed_at ts ≡ Some (a, rest)
unfolding signed_at
signed_complete positive = refl
signed_complete negative = refl

-- Members.
ends_sound : Sound SpellsMember ends_at
unfolding ends_at
ends_sound ts =
    bind_each (signed_sound ts) (λ a d.
    choose_each (mark_each (OfSign signs.Range) a.1) (here (amount d)) (λ o g.
    bind_each (signed_sound o.1) (λ b f.
    here (range (subst (λ m. SpellsSigned a.0 ts m) g.1 d) f))))

word_is : (k : Kind) (p : Place) (a : Syntax) (rest : List Token) → word_of k p ≡ Some a → SpellsMember (member a a) (at k p ∷ rest) rest
word_is (Word w) p a rest e = subst (λ x. SpellsMember (member x x) (at (Word w) p ∷ rest) rest) (same e) name
word_is (Number z n) p a rest e = absurd (cc)
word_is (Text w) p a rest e = absurd (cc)
word_is (Key k) p a rest e = absurd (cc)
word_is (Sign s) p a rest e = absurd (cc)

word_shape : {a : Syntax} {ts rest : List Token} → First plain_word a ts rest → SpellsMember (member a a) ts rest
word_shape (first {t = t} e) = word_is t.kind t.place _ _ e

member_sound : Sound SpellsMember member_at
unfolding member_at
member_sound ts = choose_each (open_each plain_word ts) (ends_sound ts) (λ w d. here (word_shape d))

member_passes : Passes SpellsMember
member_passes _ _ _ (amount d) = signed_passes _ _ _ d
member_passes _ _ _ name = next
member_passes _ _ _ (range d f) = over (skip (signed_passes _ _ _ d)) (signed_passes _ _ _ f)

signed_no_word : {a : Syntax} {ts rest : List Token} → SpellsSigned a ts rest → open_at plain_word ts ≡ None
signed_no_word positive = refl
signed_no_word negative = refl

member_complete : Complete (Loose 3) SpellsMember member_at
unfolding member_at ends_at
member_complete _ _ _ (amount d) h = rw (signed_no_word d, signed_complete d, range_closed _ h) refl
member_complete _ _ _ name h = refl
member_complete _ _ _ (range d f) h = rw (signed_no_word d, signed_complete d, signed_complete f) refl

pub list_sound : Sound SpellsMembers (joined_at (is_sign signs.Comma) member_at)
list_sound = joined_sound (is_sign signs.Comma) SpellsMember member_at member_sound

pub list_passes : Passes SpellsMembers
list_passes = joined_passes (is_sign signs.Comma) SpellsMember member_passes

pub list_complete : Complete (Loose 2) SpellsMembers (joined_at (is_sign signs.Comma) member_at)
list_complete = commas_complete SpellsMember member_at member_passes member_complete
