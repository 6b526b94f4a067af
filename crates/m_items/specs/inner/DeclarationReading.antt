-- Parsing as a function, against which the readers are proved: the tree at the start of the tokens
-- and the remaining tokens, or none.
use Rattle.std.specs.Prelude.{◌≡◌, ◌==◌, ◌||◌, ℕ, ℤ, neg_ℤ, Bool, cond, List, [], ◌∷◌, ◌++◌, length, Option, Some, None, Result, Ok, Err}
use Rattle.std.specs.Str.Parse.{digits_value}
use Rattle.m_places.specs.declared.place.Place.{Place}
use Rattle.m_places.specs.declared.verification.ErrorKind.{ErrorKind}
use Rattle.m_lexer.specs.declared.token.Token.{Token}
use Rattle.m_lexer.specs.declared.token.Key.{Key as AKey}
use Rattle.m_lexer.specs.declared.token.Key.TheVariants as keys
use Rattle.m_lexer.specs.declared.token.Sign.{Sign as ASign}
use Rattle.m_lexer.specs.declared.token.Sign.TheVariants as signs
use Rattle.m_ast.specs.declared.item.Item.{Item}
use Rattle.m_ast.specs.declared.item.Item.TheVariants as items
use Rattle.m_ast.specs.declared.variable.Role.TheVariants.{Input, Computed, Constant}
use Rattle.m_terms.specs.Tokens.{is_sign, is_key}
use Rattle.m_lexer.specs.inner.Chains.{open_at, chain_at, choose, ◌>>=◌}
use Rattle.m_terms.specs.inner.Reading.{joined_at}
use Rattle.m_items.specs.declared.item_fault.ItemFault.{ItemFault}
use Rattle.m_items.specs.declared.item_fault.ItemFault.TheVariants.{NoItem, Memory}
use Rattle.m_items.specs.Tokens.{word, name, whole, amount, text, error_kind, key_place}
use Rattle.m_items.specs.DeclarationGrammar.{Attribute, attribute, Attributes, attributes_of, no_attributes, variable, error_item}
use Rattle.m_items.specs.declared.attributes.AttributeLists.{AttributeLists}
use Rattle.m_items.specs.declared.lists.Listed.{Listed}
use Rattle.m_items.specs.declared.lists.Listed.TheVariants.{Words, Texts}

-- A reader of the code returned the result of this function, unless it ran out of memory.
abbrev pub Fails : {A : Type 0} → ItemFault → Option A → Type 0
Fails NoItem read = read ≡ None
Fails Memory read = Unit {0}

abbrev pub GivesBy : {A B : Type 0} → (A → B) → Result A ItemFault → Option (B × List Token) → List Token → Type 0
GivesBy view (Ok x) read rest = read ≡ Some (view x, rest)
GivesBy view (Err e) read rest = Fails e read

abbrev pub Gives : {A : Type 0} → Result A ItemFault → Option (A × List Token) → List Token → Type 0
Gives = GivesBy (λ x. x)

-- Parts.

-- a sign, and a reserved word
abbrev pub sign_at : ASign → List Token → Option (Unit {0} × List Token)
sign_at s = open_at (is_sign s)

abbrev pub key_at : AKey → List Token → Option (Unit {0} × List Token)
key_at k = open_at (is_key k)

unfoldable pub amount_at : List Token → Option (ℤ × List Token)
amount_at ts = choose (sign_at signs.Minus ts) (open_at amount ts) (λ o. open_at amount o.1 >>= λ z. Some (neg_ℤ z.0, z.1))

unfoldable pub number_at : List Token → Option (Option ℤ × List Token)
number_at ts = choose (sign_at signs.Equal ts) (Some (None, ts)) (λ o. amount_at o.1 >>= λ z. Some (Some z.0, z.1))

-- the attributes in the order of the source
abbrev pub attributes_at : List Token → Option (List Attribute × List Token)
attributes_at ts = chain_at word attribute number_at (length ts) [] ts

-- the two lists that the code keeps
abbrev pub lists : AttributeLists → Attributes
lists a = (a.words.items, a.pairs.items)

-- those lists, with one more attribute
abbrev pub with_one_more : Attributes → List ℕ → Option ℤ → Attributes
with_one_more l w None = (l.0 ++ w ∷ [], l.1)
with_one_more l w (Some z) = (l.0, l.1 ++ (w, z) ∷ [])

unfoldable pub lists_at : List Token → Option (Attributes × List Token)
lists_at ts = attributes_at ts >>= λ xs. Some (attributes_of xs.0, xs.1)

unfoldable pub type_at : List Token → Option (Option (List ℕ) × List Token)
type_at ts = choose (key_at keys.TypeKey ts) (Some (None, ts)) (λ o. open_at word o.1 >>= λ w. Some (Some w.0, w.1))

unfoldable pub end_at : List Token → Option (Option (List ℕ) × List Token)
end_at ts = do
  c ← sign_at signs.Colon ts
  x ← open_at text c.1
  w ← type_at x.1
  s ← sign_at signs.Semicolon w.1
  Some (w.0, s.1)

unfoldable pub cells_at : List Token → Option (Option ℕ × List Token)
cells_at ts = do
  o ← sign_at signs.OpenBracket ts
  n ← open_at whole o.1
  c ← sign_at signs.CloseBracket n.1
  Some (Some (digits_value 10 n.0), c.1)

unfoldable pub size_at : List Token → Option (Option ℕ × List Token)
size_at ts = choose (key_at keys.Tableau ts) (Some (None, ts)) (λ o. cells_at o.1)

-- Items, after a name and a colon.

-- after "saisie"
unfoldable pub input_at : List ℕ × Place → List Token → Option (Item × List Token)
input_at n ts = do
  l ← lists_at ts
  a ← key_at keys.Alias l.1
  c ← open_at word a.1
  w ← end_at c.1
  Some (items.Variable (variable n (Input c.0) l.0 w.0), w.1)

unfoldable pub computed_at : List ℕ × Place → List Token → Option (Item × List Token)
computed_at n ts = do
  s ← size_at ts
  k ← key_at keys.Calculee s.1
  l ← lists_at k.1
  w ← end_at l.1
  Some (items.Variable (variable n (Computed s.0) l.0 w.0), w.1)

-- after "const"
unfoldable pub constant_at : List ℕ × Place → List Token → Option (Item × List Token)
constant_at n ts = do
  e ← sign_at signs.Equal ts
  z ← amount_at e.1
  s ← sign_at signs.Semicolon z.1
  Some (items.Variable (variable n (Constant z.0) no_attributes None), s.1)

-- Lists of words, and of texts: their separators and elements.
abbrev pub between : Listed → ASign
between Words = signs.Comma
between Texts = signs.Colon

abbrev pub part : Listed → Token → Option (List ℕ)
part Words = word
part Texts = text

abbrev pub list_at : Listed → List Token → Option (List (List ℕ) × List Token)
list_at listed = joined_at (is_sign (between listed)) (open_at (part listed))

abbrev pub is_four_or_five : ℕ → Bool
is_four_or_five n = n == 4 || n == 5

-- an error item, if it has four or five texts
abbrev pub error_of : List ℕ × Place → ErrorKind → List (List ℕ) → Option Item
error_of n k texts = cond (is_four_or_five (length texts)) (Some (items.Error (error_item n k texts))) None

-- after the kind of an error
unfoldable pub error_at : List ℕ × Place → ErrorKind → List Token → Option (Item × List Token)
error_at n k ts = do
  c ← sign_at signs.Colon ts
  xs ← list_at Texts c.1
  s ← sign_at signs.Semicolon xs.1
  e ← error_of n k xs.0
  Some (e, s.1)

unfoldable pub named_at : List ℕ × Place → List Token → Option (Item × List Token)
named_at n ts =
    choose (key_at keys.Saisie ts)
    (choose (key_at keys.Const ts)
    (choose (open_at error_kind ts) (computed_at n ts) (λ k. error_at n k.0 k.1))
    (λ o. constant_at n o.1))
    (λ o. input_at n o.1)

-- Items.

unfoldable pub applications_at : List Token → Option (List (List ℕ) × List Token)
applications_at ts = do
  k ← key_at keys.Application ts
  c ← sign_at signs.Colon k.1
  list_at Words c.1

-- after "application"
unfoldable pub application_at : Place → List Token → Option (Item × List Token)
application_at p ts = do
  w ← open_at word ts
  s ← sign_at signs.Semicolon w.1
  Some (items.Silent p, s.1)

-- after "enchaineur"
unfoldable pub chaining_at : Place → List Token → Option (Item × List Token)
chaining_at p ts = do
  w ← open_at word ts
  l ← applications_at w.1
  s ← sign_at signs.Semicolon l.1
  Some (items.Silent p, s.1)

unfoldable pub declared_at : List Token → Option (Item × List Token)
declared_at ts = do
  n ← open_at name ts
  c ← sign_at signs.Colon n.1
  named_at n.0 c.1

unfoldable pub declaration_at : List Token → Option (Item × List Token)
declaration_at ts =
    choose (open_at (key_place keys.Application) ts)
    (choose (open_at (key_place keys.Enchaineur) ts) (declared_at ts) (λ o. chaining_at o.0 o.1))
    (λ o. application_at o.0 o.1)
