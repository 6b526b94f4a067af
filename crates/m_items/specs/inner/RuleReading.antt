-- Parsing as a function, against which the readers are proved: the tree at the start of the tokens
-- and the remaining tokens, or none.
use Rattle.std.specs.Prelude.{◌≡◌, ℕ, zero, suc, Bool, true, false, cond, List, [], ◌∷◌, ◌++◌, length, Option, Some, None, Result, Ok, Err}
use Rattle.std.specs.Str.Parse.{digits_value}
use Rattle.std.specs.declared.alloc.AllocError.{AllocError}
use Rattle.m_places.specs.declared.limits.TheConstants.{BRACKET_DEPTH}
use Rattle.m_lexer.specs.declared.token.Token.{Token}
use Rattle.m_lexer.specs.declared.token.Key.{Key as AKey}
use Rattle.m_lexer.specs.declared.token.Key.TheVariants as keys
use Rattle.m_lexer.specs.declared.token.Sign.TheVariants as signs
use Rattle.m_ast.specs.Syntax.{Syntax}
use Rattle.m_ast.specs.declared.header.Header.{Header}
use Rattle.m_ast.specs.declared.item.Slot.{Slot}
use Rattle.m_ast.specs.declared.item.Slot.TheVariants.{Whole, Cell, Every}
use Rattle.m_ast.specs.declared.item.Formula.{Formula}
use Rattle.m_ast.specs.declared.item.RuleItem.{RuleItem}
use Rattle.m_ast.specs.declared.item.CheckItem.{CheckItem}
use Rattle.m_ast.specs.declared.item.VerifItem.{VerifItem}
use Rattle.m_terms.specs.Tokens.{is_sign, is_key}
use Rattle.m_terms.specs.Terms.{follows}
use Rattle.m_lexer.specs.inner.Chains.{open_at, chain_at, choose, ◌>>=◌}
use Rattle.m_terms.specs.inner.Reading.{begins_by, header_at, expr_at, inner_at}
use Rattle.m_terms.specs.declared.fault.TermFault.{TermFault}
use Rattle.m_terms.specs.declared.fault.TermFault.TheVariants.{NoTerm, Memory}
use Rattle.m_items.specs.declared.item_fault.ItemFault.{ItemFault}
use Rattle.m_items.specs.declared.item_fault.ItemFault.TheVariants.{NoItem}
use Rattle.m_items.specs.declared.item_fault.ItemFault.TheVariants as faults
use Rattle.m_items.specs.Tokens.{word, placed_word, whole, key_place}
use Rattle.m_items.specs.inner.DeclarationReading.{sign_at, key_at, applications_at}
use Rattle.m_items.specs.RuleGrammar.{head_of, formula_of, rule_of, check_of, verification_of}
use Rattle.m_items.specs.declared.head.Head.{Head}

-- Parts.

-- without a term there is no item; out of memory stays the same
abbrev pub item_fault_of : TermFault → ItemFault
item_fault_of NoTerm = NoItem
item_fault_of Memory = faults.Memory

-- a term that is followed by a token that may follow one
unfoldable pub term_at : List Token → Option (Syntax × List Token)
term_at ts = expr_at (inner_at BRACKET_DEPTH) ts >>= λ t. cond (begins_by follows t.1) (Some t) None

-- a header that is followed by a colon
unfoldable pub headed_at : List Token → Option (Header × List Token)
headed_at ts = header_at ts >>= λ h. cond (begins_by (is_sign signs.Colon) h.1) (Some h) None

-- the tokens after the words at the start
unfoldable pub behind_words : List Token → List Token
behind_words [] = []
behind_words (t ∷ ts) = choose (word t) (t ∷ ts) (λ w. behind_words ts)

-- at most n further ones, after the finished ones: as many as can be read
unfoldable pub many_at : {A : Type 0} → (List Token → Option (A × List Token)) → ℕ → List A → List Token → List A × List Token
many_at p zero done ts = (done, ts)
many_at p (suc n) done ts = choose (p ts) (done, ts) (λ x. many_at p n (done ++ x.0 ∷ []) x.1)

-- one, and as many further ones as can be read
unfoldable pub one_or_more_at : {A : Type 0} → (List Token → Option (A × List Token)) → List Token → Option (List A × List Token)
one_or_more_at p ts = p ts >>= λ x. Some (many_at p (length x.1) (x.0 ∷ []) x.1)

-- A reader of an optional element returned the result of this function, unless it ran out of
-- memory. If there is none, the cursor is unchanged.
abbrev pub GivesOne : {A : Type 0} → Result (Option A) AllocError → Option (A × List Token) → List Token → List Token → Type 0
GivesOne (Ok (Some x)) read before rest = read ≡ Some (x, rest)
GivesOne (Ok None) read before rest = (read ≡ None) × (rest ≡ before)
GivesOne (Err e) read before rest = Unit {0}

-- Heads.

unfoldable pub head_at : AKey → List Token → Option (Head × List Token)
head_at k ts = do
  p ← open_at (key_place k) ts
  n ← open_at whole (behind_words p.1)
  c ← sign_at signs.Colon n.1
  names ← applications_at c.1
  s ← sign_at signs.Semicolon names.1
  Some (head_of p.0 n.0 names.0, s.1)

-- Formulas.

-- after "pour"
unfoldable pub loop_at : List Token → Option (Header × List Token)
loop_at ts = headed_at ts >>= λ h. sign_at signs.Colon h.1 >>= λ c. Some (h.0, c.1)

abbrev pub loops_at : List Token → Option (List Header × List Token)
loops_at ts = chain_at (is_key keys.Pour) (λ _ h. h) loop_at (length ts) [] ts

-- after "["
unfoldable pub index_at : List Token → Option (Slot × List Token)
index_at ts = choose (key_at keys.X ts) (open_at whole ts >>= λ n. Some (Cell (digits_value 10 n.0), n.1)) (λ o. Some (Every, o.1))

unfoldable pub slot_at : List Token → Option (Slot × List Token)
slot_at ts = choose (sign_at signs.OpenBracket ts) (Some (Whole, ts)) (λ o. index_at o.1 >>= λ s. sign_at signs.CloseBracket s.1 >>= λ c. Some (s.0, c.1))

-- after the target
unfoldable pub set_at : List Token → Option (Syntax × List Token)
set_at ts = do
  e ← sign_at signs.Equal ts
  t ← term_at e.1
  s ← sign_at signs.Semicolon t.1
  Some (t.0, s.1)

unfoldable pub formula_at : List Token → Option (Formula × List Token)
formula_at ts = do
  hs ← loops_at ts
  w ← open_at placed_word hs.1
  s ← slot_at w.1
  t ← set_at s.1
  Some (formula_of hs.0 w.0 s.0 t.0, t.1)

-- Rules.

unfoldable pub chaining_at : List Token → Option (Bool × List Token)
chaining_at ts = choose (key_at keys.Enchaineur ts) (Some (false, ts)) (λ o. sign_at signs.Colon o.1 >>= λ c. open_at word c.1 >>= λ w. sign_at signs.Semicolon
    w.1 >>= λ s. Some (true, s.1))

unfoldable pub rule_at : List Token → Option (RuleItem × List Token)
rule_at ts = do
  h ← head_at keys.Regle ts
  c ← chaining_at h.1
  fs ← one_or_more_at formula_at c.1
  Some (rule_of h.0 c.0 fs.0, fs.1)

-- Verifications.

-- after a condition: the name of the error
unfoldable pub error_at : List Token → Option (List ℕ × List Token)
error_at ts = do
  a ← key_at keys.Alors ts
  e ← key_at keys.Erreur a.1
  w ← open_at word e.1
  s ← sign_at signs.Semicolon (behind_words w.1)
  Some (w.0, s.1)

unfoldable pub check_at : List Token → Option (CheckItem × List Token)
check_at ts = do
  p ← open_at (key_place keys.Si) ts
  t ← term_at p.1
  e ← error_at t.1
  Some (check_of p.0 t.0 e.0, e.1)

unfoldable pub verification_at : List Token → Option (VerifItem × List Token)
verification_at ts = do
  h ← head_at keys.Verif ts
  cs ← one_or_more_at check_at h.1
  Some (verification_of h.0 cs.0, cs.1)
