-- Completeness: every spelling is read.
use Rattle.std.proofs.Common.{◌≡◌, ℕ, Bool, List, [], ◌∷◌, length, Some, None, refl, arith}
use Rattle.m_places.specs.declared.place.Place.{Place}
use Rattle.m_lexer.specs.declared.token.Token.{Token}
use Rattle.m_lexer.specs.declared.token.Kind.{Kind}
use Rattle.m_lexer.specs.declared.token.Kind.TheVariants.{Word, Number, Text, Key, Sign}
use Rattle.m_lexer.specs.declared.token.Key.{Key as AKey}
use Rattle.m_lexer.specs.declared.token.Key.TheVariants as keys
use Rattle.m_lexer.specs.declared.token.Sign.TheVariants as signs
use Rattle.m_ast.specs.Syntax.{Syntax}
use Rattle.m_ast.specs.declared.header.Header.{Header}
use Rattle.m_ast.specs.declared.item.Slot.{Slot}
use Rattle.m_ast.specs.declared.item.Formula.{Formula}
use Rattle.m_ast.specs.declared.item.CheckItem.{CheckItem}
use Rattle.m_lexer.specs.Chains.{First, first, ended, further}
use Rattle.m_terms.specs.Tokens.{is_key, kind_is_sign, kind_is_key}
use Rattle.m_terms.specs.Terms.{SpellsTerm, follows, follows_of, BeginsBy}
use Rattle.m_lexer.specs.inner.Chains.{open_at}
use Rattle.m_lexer.proofs.ChainComplete.{open_complete, chain_complete}
use Rattle.m_items.specs.Tokens.{placed, word_of, whole_of, word, placed_word, whole, SpellsSign}
use Rattle.m_items.specs.inner.DeclarationReading.{key_at}
use Rattle.m_items.proofs.FirstTokens.{BeginsWith, begins_with, nothing_opened, sign_first, key_first, BeginsWithWord, a_word}
use Rattle.m_items.proofs.DeclarationCompleteLaws.{applications_complete}
use Rattle.m_terms.proofs.Passes.{shrinks_passing}
use Rattle.m_items.specs.Many.{Many, no_more, one_more}
use Rattle.m_items.specs.RuleGrammar.{SpellsHead, head, SpellsLoop, loop, SpellsLoops, SpellsSlot, no_index, every_cell, one_cell, SpellsFormula, formula}
use Rattle.m_items.specs.RuleGrammar.{SpellsChaining, unchained, chained, SpellsCheck, check}
use Rattle.m_items.specs.declared.head.Head.{Head}
use Rattle.m_items.specs.inner.RuleReading.{behind_words, head_at, loop_at, loops_at, index_at, slot_at, set_at, formula_at, chaining_at, error_at, check_at}
use Rattle.m_items.proofs.Words.{words_stop}
use Rattle.m_items.proofs.Expressions.{term_complete, headed_complete}
use Rattle.m_items.proofs.RulePassLaws.{loop_passes}

-- First tokens.
whole_no_word : (k : Kind) (n : List ℕ) → whole_of k ≡ Some n → word_of k ≡ None
whole_no_word (Word w) n e = absurd (cc)
whole_no_word _ n e = refl

whole_no_key : (j : AKey) (k : Kind) (n : List ℕ) → whole_of k ≡ Some n → kind_is_key j k ≡ None
whole_no_key j (Key i) n e = absurd (cc)
whole_no_key j _ n e = refl

no_word_at_whole : {n : List ℕ} {ts rest : List Token} → First whole n ts rest → open_at word ts ≡ None
no_word_at_whole (first {t = t} e) = rw (whole_no_word t.kind _ e) refl

no_key_at_whole : (j : AKey) {n : List ℕ} {ts rest : List Token} → First whole n ts rest → key_at j ts ≡ None
no_key_at_whole j (first {t = t} e) = rw (whole_no_key j t.kind _ e) refl

no_word_at_sign : {ts rest : List Token} → SpellsSign signs.Semicolon ts rest → open_at word ts ≡ None
no_word_at_sign s = nothing_opened word_of (sign_first signs.Semicolon s) refl

placed_word_is : (k : Kind) (p : Place) (x : List ℕ × Place) → placed (word_of k) p ≡ Some x → (w : List ℕ) × (k ≡ Word w)
placed_word_is (Word w) p x e = (w, refl)
placed_word_is (Number z n) p x e = absurd (cc)
placed_word_is (Text w) p x e = absurd (cc)
placed_word_is (Key k) p x e = absurd (cc)
placed_word_is (Sign s) p x e = absurd (cc)

pub placed_word_first : {w : List ℕ × Place} {ts rest : List Token} → First placed_word w ts rest → BeginsWithWord ts
placed_word_first (first {t = t} e) = let w = placed_word_is t.kind t.place _ e in a_word (begins_with w.1)

begins_followed : {k : Kind} {ts : List Token} → BeginsWith k ts → follows_of k ≡ Some tt → BeginsBy follows ts
begins_followed (begins_with {ts = ts} e) h = (ts, first (rw e h))

-- Heads.
words_complete : {words : List (List ℕ)} {ts rest : List Token} → Many (First word) words ts rest → open_at word rest ≡ None → behind_words ts ≡ rest
unfolding behind_words
words_complete {ts = ts} no_more h = words_stop ts h
words_complete (one_more (first e) d) h = rw e (words_complete d h)

pub head_complete : {k : AKey} {h : Head} {ts rest : List Token} → SpellsHead k h ts rest → head_at k ts ≡ Some (h, rest)
unfolding head_at
head_complete (head d w e s f g) =
    rw (
      open_complete d,
      words_complete w (no_word_at_whole e),
      open_complete e,
      open_complete s,
      applications_complete f
          (nothing_opened (kind_is_sign signs.Comma) (sign_first signs.Semicolon g) refl),
      open_complete g,
    ) refl

-- Formulas.
loop_complete : {h : Header} {ts rest : List Token} → SpellsLoop h ts rest → loop_at ts ≡ Some (h, rest)
unfolding loop_at
loop_complete (loop {rest = rest} d s) = rw (headed_complete d (rest, s), open_complete s) refl

loops_complete : {hs : List Header} {ts rest : List Token} → SpellsLoops hs ts rest → BeginsWithWord rest → loops_at ts ≡ Some (hs, rest)
loops_complete {ts = ts} c (a_word b) = chain_complete (is_key keys.Pour) (λ _ h. h) SpellsLoop (shrinks_passing SpellsLoop loop_passes) loop_at (λ _. Unit {0})
    (λ ts. key_at keys.Pour ts ≡ None) (λ _ _ _ d h. loop_complete d) (λ _ _ _ _. tt) (λ _ _. tt) (λ _ h. h) (length ts) [] c
    (nothing_opened (kind_is_key keys.Pour) b refl) (omega arith)

slot_complete : {s : Slot} {ts mid rest : List Token} → SpellsSlot s ts mid → SpellsSign signs.Equal mid rest → slot_at ts ≡ Some (s, mid)
unfolding slot_at index_at
slot_complete no_index e = rw (nothing_opened (kind_is_sign signs.OpenBracket) (sign_first signs.Equal e) refl) refl
slot_complete (every_cell o k c) e = rw (open_complete o, open_complete k, open_complete c) refl
slot_complete (one_cell o d c) e = rw (open_complete o, no_key_at_whole keys.X d, open_complete d, open_complete c) refl

set_complete : {t : Syntax} {ts a b rest : List Token} → SpellsSign signs.Equal ts a → SpellsTerm t a b → SpellsSign signs.Semicolon b rest
    → set_at ts ≡ Some (t, rest)
unfolding set_at
set_complete s d e = rw (open_complete s, term_complete d (begins_followed (sign_first signs.Semicolon e) refl), open_complete e) refl

pub formula_complete : {f : Formula} {ts rest : List Token} → SpellsFormula f ts rest → formula_at ts ≡ Some (f, rest)
unfolding formula_at
formula_complete (formula l d e s f g) = rw (loops_complete l (placed_word_first d), open_complete d, slot_complete e s, set_complete s f g) refl

-- the first token of a formula
pub data FormulaBegins (ts : List Token) : Type 0 where
  with_pour : BeginsWith (Key keys.Pour) ts → FormulaBegins ts
  with_word : BeginsWithWord ts → FormulaBegins ts

key_table : (k : AKey) {t : Token} {b : Unit {0}} {ts : List Token} → is_key k t ≡ Some b → BeginsWith (Key k) (t ∷ ts)
key_table k {t} {b} {ts} e = key_first k (first {t = t} {ts = ts} e)

pub formula_begins : {f : Formula} {ts rest : List Token} → SpellsFormula f ts rest → FormulaBegins ts
formula_begins (formula ended d e s f g) = with_word (placed_word_first d)
formula_begins (formula (further o l c) d e s f g) = with_pour (key_table keys.Pour o)

-- Rules.
no_key : (k : AKey) {ts : List Token} → FormulaBegins ts → kind_is_key k (Key keys.Pour) ≡ None → key_at k ts ≡ None
no_key k (with_pour b) h = nothing_opened (kind_is_key k) b h
no_key k (with_word (a_word b)) h = nothing_opened (kind_is_key k) b refl

pub chaining_complete : {c : Bool} {f : Formula} {ts mid rest : List Token} → SpellsChaining c ts mid → SpellsFormula f mid rest
    → chaining_at ts ≡ Some (c, mid)
unfolding chaining_at
chaining_complete unchained d = rw (no_key keys.Enchaineur (formula_begins d) refl) refl
chaining_complete (chained k s e f) d = rw (open_complete k, open_complete s, open_complete e, open_complete f) refl

-- Verifications.
pub check_complete : {c : CheckItem} {ts rest : List Token} → SpellsCheck c ts rest → check_at ts ≡ Some (c, rest)
unfolding check_at error_at
check_complete (check d e k f g w s) =
    rw (
      open_complete d,
      term_complete e (begins_followed (key_first keys.Alors k) refl),
      open_complete k,
      open_complete f,
      open_complete g,
      words_complete w
          (no_word_at_sign s),
      open_complete s,
    ) refl
