-- The loop over attributes, which the code keeps in two lists.
use Rattle.std.proofs.Common.{◌≡◌, ◌<◌, ℕ, ℤ, List, [], ◌∷◌, ◌++◌, length, Option, Some, None, refl, sym, ◌∙◌, ap}
use Rattle.std.proofs.lemmas.List.Elements.{filter_map-append}
use Rattle.std.proofs.lemmas.List.{append-nil}
use Rattle.m_lexer.specs.declared.token.Token.{Token}
use Rattle.m_lexer.specs.inner.Chains.{open_at}
use Rattle.m_lexer.proofs.Chains.{Going, chain_start, chain_turn, chain_stop, chain_stuck}
use Rattle.m_items.specs.Tokens.{word}
use Rattle.m_items.specs.DeclarationGrammar.{Attribute, attribute, Attributes, attributes_of, no_attributes, word_without, pair_with}
use Rattle.m_items.specs.inner.DeclarationReading.{number_at, attributes_at, lists_at, with_one_more}

-- one more attribute
more_sorted : (done : List Attribute) (w : List ℕ) (z : Option ℤ) → attributes_of (done ++ attribute w z ∷ []) ≡ with_one_more (attributes_of done) w z
more_sorted done w None = rw (
  filter_map-append (λ (a : Attribute). word_without a.0 a.1) done (attribute w None ∷ []),
  filter_map-append
      (λ (a : Attribute). pair_with a.0 a.1) done (attribute w None ∷ []),
  append-nil,
) refl
more_sorted done w (Some z) = rw (
  filter_map-append (λ (a : Attribute). word_without a.0 a.1) done (attribute w (Some z) ∷ []),
  filter_map-append
      (λ (a : Attribute). pair_with a.0 a.1) done (attribute w (Some z) ∷ []),
  append-nil,
) refl

-- at ts, with these lists, the result will be the attributes from the first token on
pub record Sorting (from : List Token) (lists : Attributes) (ts : List Token) : Type 0 where
  pub done : List Attribute
  pub sorted : lists ≡ attributes_of done
  pub going : Going word attribute number_at (attributes_at from) done ts

module _ {from : List Token} {lists : Attributes} {ts : List Token} where
  pub sorting_turn : {w : List ℕ} {z : Option ℤ} {us rest : List Token} → Sorting from lists ts → open_at word ts ≡ Some (w, us) → number_at us ≡ Some (z, rest)
      → length rest < length ts → Sorting from (with_one_more lists w z) rest
  sorting_turn {w} {z} s o r shorter = record {
    done = s.done ++ attribute w z ∷ [];
    sorted = ap (λ l. with_one_more l w z) s.sorted ∙ sym (more_sorted s.done w z);
    going = chain_turn word attribute number_at s.going o r shorter;
  }

  pub sorting_stop : Sorting from lists ts → open_at word ts ≡ None → lists_at from ≡ Some (lists, ts)
  unfolding lists_at
  sorting_stop s o = rw (chain_stop word attribute number_at s.going o, s.sorted) refl

  pub sorting_stuck : {w : List ℕ} {us : List Token} → Sorting from lists ts → open_at word ts ≡ Some (w, us) → length us < length ts → number_at us ≡ None
      → lists_at from ≡ None
  unfolding lists_at
  sorting_stuck s o shorter r = rw (chain_stuck word attribute number_at s.going o shorter r) refl

pub sorting_start : (from : List Token) → Sorting from no_attributes from
sorting_start from = record { done = []; sorted = refl; going = chain_start word attribute number_at refl }
