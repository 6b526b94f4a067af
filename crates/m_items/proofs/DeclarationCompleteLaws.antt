-- Completeness: every spelling is read.
use Rattle.std.proofs.Common.{◌≡◌, ◌≤◌, ℕ, zero, suc, ℤ, true, List, [], ◌∷◌, ◌++◌, length, Option, Some, None, inl, inr, refl, ap, ◌∙◌, append_assoc, arith}
use Rattle.std.proofs.lemmas.List.{append-nil}
use Rattle.m_places.specs.declared.place.Place.{Place}
use Rattle.m_lexer.specs.declared.token.Token.{Token}
use Rattle.m_lexer.specs.declared.token.Kind.TheVariants.{Key, Sign}
use Rattle.m_lexer.specs.declared.token.Key.TheVariants as keys
use Rattle.m_lexer.specs.declared.token.Sign.TheVariants as signs
use Rattle.m_ast.specs.declared.item.Item.{Item}
use Rattle.m_lexer.specs.Chains.{First, first, Chain, ended, further}
use Rattle.m_terms.specs.Tokens.{kind_is_sign, kind_is_key, is_sign, Joined}
use Rattle.m_lexer.specs.inner.Chains.{open_at, chain_at}
use Rattle.m_terms.proofs.Passes.{next, first_passes, behind_shorter}
use Rattle.m_lexer.proofs.ChainComplete.{open_complete}
use Rattle.m_terms.proofs.Complete.{joined_complete}
use Rattle.m_places.specs.declared.verification.ErrorKind.{ErrorKind}
use Rattle.m_places.specs.declared.verification.ErrorKind.TheVariants as kinds
use Rattle.m_lexer.specs.declared.token.Key.{Key as AKey}
use Rattle.m_ast.specs.declared.item.Item.TheVariants as items
use Rattle.m_ast.specs.declared.variable.Role.TheVariants.{Input, Computed, Constant}
use Rattle.m_items.specs.Tokens.{word_of, error_kind_of, word, text, error_kind, key_place, name, SpellsSign, SpellsKey}
use Rattle.m_items.specs.DeclarationGrammar.{Attribute, attribute, Attributes, no_attributes, variable, error_item, SpellsAmount, positive, negative}
use Rattle.m_items.specs.DeclarationGrammar.{SpellsNumber, without, with_one, SpellsAttributes, attributes, SpellsType, no_type, a_type, SpellsEnd, ending}
use Rattle.m_items.specs.DeclarationGrammar.{SpellsSize, no_table, table, input, computed, constant, IsFourOrFive, SpellsTexts, error, SpellsApplications}
use Rattle.m_items.specs.DeclarationGrammar.{applications, SpellsDeclaration, a_variable, an_error, an_application, a_chaining}
use Rattle.m_items.specs.inner.DeclarationReading.{sign_at, key_at, amount_at, number_at, lists_at, type_at, end_at, cells_at, size_at, input_at, computed_at}
use Rattle.m_items.specs.inner.DeclarationReading.{constant_at, is_four_or_five, list_at, error_at, named_at, applications_at, application_at, chaining_at}
use Rattle.m_items.specs.inner.DeclarationReading.{declared_at, declaration_at}
use Rattle.m_items.specs.declared.lists.Listed.TheVariants.{Words, Texts}
use Rattle.m_items.proofs.FirstTokens.{BeginsWith, nothing_opened, no_place_opened, sign_first, key_first, key_place_first, BeginsWithWord, a_word, word_first}
use Rattle.m_items.proofs.FirstTokens.{name_first, BeginsWithNumber, a_number, amount_first, error_kind_first, kind_key}
use Rattle.m_items.proofs.DeclarationPassLaws.{number_on}

-- Parts.
no_minus : {ts : List Token} → BeginsWithNumber ts → sign_at signs.Minus ts ≡ None
no_minus (a_number b) = nothing_opened (kind_is_sign signs.Minus) b refl

amount_complete : {z : ℤ} {ts rest : List Token} → SpellsAmount z ts rest → amount_at ts ≡ Some (z, rest)
unfolding amount_at
amount_complete (positive d) = rw (no_minus (amount_first d), open_complete d) refl
amount_complete (negative s d) = rw (open_complete s, open_complete d) refl

number_complete : {z : Option ℤ} {ts rest : List Token} → SpellsNumber z ts rest → sign_at signs.Equal rest ≡ None → number_at ts ≡ Some (z, rest)
unfolding number_at
number_complete without h = rw h refl
number_complete (with_one s d) h = rw (open_complete s, amount_complete d) refl

-- tokens at which attributes end
record Ends (ts : List Token) : Type 0 where
  no_word : open_at word ts ≡ None
  no_equal : sign_at signs.Equal ts ≡ None

no_equal_at_word : {ts : List Token} → BeginsWithWord ts → sign_at signs.Equal ts ≡ None
no_equal_at_word (a_word b) = nothing_opened (kind_is_sign signs.Equal) b refl

chain_no_equal : {xs : List Attribute} {ts rest : List Token} → Chain word attribute SpellsNumber xs ts rest → Ends rest → sign_at signs.Equal ts ≡ None
chain_no_equal ended h = h.no_equal
chain_no_equal (further {t = t} o d c) h = no_equal_at_word (word_first (first {t = t} o))

chain_complete : (n : ℕ) {xs : List Attribute} {ts rest : List Token} (done : List Attribute) → Chain word attribute SpellsNumber xs ts rest → Ends rest
    → length ts ≤ n → chain_at word attribute number_at n done ts ≡ Some (done ++ xs, rest)
unfolding chain_at
chain_complete zero done ended h l = rw append-nil refl
chain_complete (suc n) done ended h l = rw (h.no_word, append-nil) refl
chain_complete zero done (further o d c) h l = absurd (omega arith)
chain_complete (suc n) {rest = rest} done (further {t = t} {b = b} {x = x} {xs = xs} {ts = ts} o d c) h l =
    rw (o, number_complete d (chain_no_equal c h))
    (chain_complete n (done ++ attribute b x ∷ []) c h (omega (arith, behind_shorter (number_on (next {t = t} {ts = ts}) d)))
    ∙ ap (λ l. Some (l, rest)) (append_assoc done (attribute b x ∷ []) xs))

lists_complete : {l : Attributes} {ts rest : List Token} → SpellsAttributes l ts rest → Ends rest → lists_at ts ≡ Some (l, rest)
unfolding lists_at
lists_complete {ts = ts} (attributes c) h = rw (chain_complete (length ts) [] c h (omega arith)) refl

type_complete : {w : Option (List ℕ)} {ts mid : List Token} → SpellsType w ts mid → BeginsWith (Sign signs.Semicolon) mid → type_at ts ≡ Some (w, mid)
unfolding type_at
type_complete no_type b = rw (nothing_opened (kind_is_key keys.TypeKey) b refl) refl
type_complete (a_type k d) b = rw (open_complete k, open_complete d) refl

end_complete : {w : Option (List ℕ)} {ts rest : List Token} → SpellsEnd w ts rest → end_at ts ≡ Some (w, rest)
unfolding end_at
end_complete (ending s d e f) = rw (open_complete s, open_complete d, type_complete e (sign_first signs.Semicolon f), open_complete f) refl

size_complete : {n : Option ℕ} {ts mid : List Token} → SpellsSize n ts mid → BeginsWith (Key keys.Calculee) mid → size_at ts ≡ Some (n, mid)
unfolding size_at cells_at
size_complete no_table b = rw (nothing_opened (kind_is_key keys.Tableau) b refl) refl
size_complete (table k s d e) b = rw (open_complete k, open_complete s, open_complete d, open_complete e) refl

count_complete : (m : ℕ) → IsFourOrFive m → is_four_or_five m ≡ true
count_complete m (inl e) = rw e refl
count_complete m (inr e) = rw e refl

texts_complete : {texts : List (List ℕ)} {ts rest : List Token} → Joined (is_sign signs.Colon) (First text) texts ts rest
    → BeginsWith (Sign signs.Semicolon) rest → list_at Texts ts ≡ Some (texts, rest)
texts_complete d b = joined_complete (is_sign signs.Colon) (First text) (open_at text) (λ _. Unit {0}) (BeginsWith (Sign signs.Semicolon))
    (λ _ _ _ e. first_passes e) (λ _ _ _ e h. open_complete e) (λ _ _ _ _. tt) (λ _ _. tt) (λ ts h. nothing_opened (kind_is_sign signs.Colon) h refl) _ _ _ d b

words_complete : {names : List (List ℕ)} {ts rest : List Token} → Joined (is_sign signs.Comma) (First word) names ts rest → sign_at signs.Comma rest ≡ None
    → list_at Words ts ≡ Some (names, rest)
words_complete d b = joined_complete (is_sign signs.Comma) (First word) (open_at word) (λ _. Unit {0}) (λ ts. sign_at signs.Comma ts ≡ None)
    (λ _ _ _ e. first_passes e) (λ _ _ _ e h. open_complete e) (λ _ _ _ _. tt) (λ _ _. tt) (λ ts h. h) _ _ _ d b

pub applications_complete : {names : List (List ℕ)} {ts rest : List Token} → SpellsApplications names ts rest → sign_at signs.Comma rest ≡ None
    → applications_at ts ≡ Some (names, rest)
unfolding applications_at
applications_complete (applications k s d) h = rw (open_complete k, open_complete s, words_complete d h) refl

-- Items.
ends_before_key : {ts : List Token} → BeginsWith (Key keys.Alias) ts → Ends ts
ends_before_key b = record { no_word = nothing_opened word_of b refl; no_equal = nothing_opened (kind_is_sign signs.Equal) b refl }

ends_before_sign : {ts : List Token} → BeginsWith (Sign signs.Colon) ts → Ends ts
ends_before_sign b = record { no_word = nothing_opened word_of b refl; no_equal = nothing_opened (kind_is_sign signs.Equal) b refl }

end_first : {w : Option (List ℕ)} {ts rest : List Token} → SpellsEnd w ts rest → BeginsWith (Sign signs.Colon) ts
end_first (ending s d e f) = sign_first signs.Colon s

-- a computed variable begins with neither `saisie` nor `const`
record IsComputed (ts : List Token) : Type 0 where
  no_input : key_at keys.Saisie ts ≡ None
  no_constant : key_at keys.Const ts ≡ None
  no_error : open_at error_kind ts ≡ None

is_computed : {ts mid : List Token} {n : Option ℕ} → SpellsSize n ts mid → BeginsWith (Key keys.Calculee) mid → IsComputed ts
is_computed no_table b = record {
  no_input = nothing_opened (kind_is_key keys.Saisie) b refl;
  no_constant = nothing_opened (kind_is_key keys.Const) b refl;
  no_error = nothing_opened error_kind_of b refl;
}
is_computed (table k s d e) b = record {
  no_input = nothing_opened (kind_is_key keys.Saisie) (key_first keys.Tableau k) refl;
  no_constant = nothing_opened
      (kind_is_key keys.Const) (key_first keys.Tableau k) refl;
  no_error = nothing_opened error_kind_of (key_first keys.Tableau k) refl;
}

computed_complete : {n : List ℕ × Place} {size : Option ℕ} {l : Attributes} {w : Option (List ℕ)} {ts a b c rest : List Token} → SpellsSize size ts a
    → SpellsKey keys.Calculee a b → SpellsAttributes l b c → SpellsEnd w c rest → named_at n ts ≡ Some (items.Variable (variable n (Computed size) l w), rest)
unfolding named_at computed_at
computed_complete {ts = ts} e k f g =
    let own : IsComputed ts = is_computed e (key_first keys.Calculee k) in
    rw (
      own.no_input,
      own.no_constant,
      own.no_error,
      size_complete e (key_first keys.Calculee k),
      open_complete k,
      lists_complete f
          (ends_before_sign (end_first g)),
      end_complete g,
    ) refl

input_complete : {n : List ℕ × Place} {l : Attributes} {code : List ℕ} {w : Option (List ℕ)} {ts a b c d rest : List Token} → SpellsKey keys.Saisie ts a
    → SpellsAttributes l a b → SpellsKey keys.Alias b c → First word code c d → SpellsEnd w d rest
    → named_at n ts ≡ Some (items.Variable (variable n (Input code) l w), rest)
unfolding named_at input_at
input_complete k e j f g = rw (open_complete k, lists_complete e (ends_before_key (key_first keys.Alias j)), open_complete j, open_complete f, end_complete g)
    refl

constant_complete : {n : List ℕ × Place} {z : ℤ} {ts a b c rest : List Token} → SpellsKey keys.Const ts a → SpellsSign signs.Equal a b → SpellsAmount z b c
    → SpellsSign signs.Semicolon c rest → named_at n ts ≡ Some (items.Variable (variable n (Constant z) no_attributes None), rest)
unfolding named_at constant_at
constant_complete k s d e = rw (
  nothing_opened (kind_is_key keys.Saisie) (key_first keys.Const k) refl,
  open_complete k,
  open_complete s,
  amount_complete d,
  open_complete e,
) refl

error_no_input : (k : ErrorKind) → kind_is_key keys.Saisie (Key (kind_key k)) ≡ None
error_no_input kinds.Anomalie = refl
error_no_input kinds.Discordance = refl
error_no_input kinds.Informative = refl

error_no_constant : (k : ErrorKind) → kind_is_key keys.Const (Key (kind_key k)) ≡ None
error_no_constant kinds.Anomalie = refl
error_no_constant kinds.Discordance = refl
error_no_constant kinds.Informative = refl

error_complete : {n : List ℕ × Place} {k : ErrorKind} {texts : List (List ℕ)} {ts a b c rest : List Token} → First error_kind k ts a
    → SpellsSign signs.Colon a b → SpellsTexts texts b c → IsFourOrFive (length texts) → SpellsSign signs.Semicolon c rest
    → named_at n ts ≡ Some (items.Error (error_item n k texts), rest)
unfolding named_at error_at
error_complete {k = k} {texts = texts} d s e count f =
    rw (
      nothing_opened (kind_is_key keys.Saisie) (error_kind_first d) (error_no_input k),
      nothing_opened (kind_is_key keys.Const) (error_kind_first d)
          (error_no_constant k),
      open_complete d,
      open_complete s,
      texts_complete e (sign_first signs.Semicolon f),
      open_complete f,
      count_complete (length texts)
          count,
    ) refl

no_key_at_word : (k : AKey) {ts : List Token} → BeginsWithWord ts → open_at (key_place k) ts ≡ None
no_key_at_word k (a_word b) = no_place_opened k b refl

named_complete : {n : List ℕ × Place} {i : Item} {ts a b rest : List Token} → First name n ts a → SpellsSign signs.Colon a b → named_at n b ≡ Some (i, rest)
    → declaration_at ts ≡ Some (i, rest)
unfolding declaration_at declared_at
named_complete d s h = rw (no_key_at_word keys.Application (name_first d), no_key_at_word keys.Enchaineur (name_first d), open_complete d, open_complete s) h

pub declaration_complete : {i : Item} {ts rest : List Token} → SpellsDeclaration i ts rest → declaration_at ts ≡ Some (i, rest)
unfolding declaration_at application_at chaining_at
declaration_complete (a_variable (input d s k e j f g)) = named_complete d s (input_complete k e j f g)
declaration_complete (a_variable (computed d s e k f g)) = named_complete d s (computed_complete e k f g)
declaration_complete (a_variable (constant d s k e f g)) = named_complete d s (constant_complete k e f g)
declaration_complete (an_error (error d s e f g count h)) = named_complete d s (error_complete e f g count h)
declaration_complete (an_application k d s) = rw (open_complete k, open_complete d, open_complete s) refl
declaration_complete (a_chaining k d e s) =
    rw (
      no_place_opened keys.Application (key_place_first keys.Enchaineur k) refl,
      open_complete k,
      open_complete d,
      applications_complete e
          (nothing_opened (kind_is_sign signs.Comma) (sign_first signs.Semicolon s) refl),
      open_complete s,
    ) refl
