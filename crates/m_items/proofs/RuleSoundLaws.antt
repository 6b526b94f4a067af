-- Soundness: what is read is a spelling.
use Rattle.std.proofs.Common.{◌≡◌, ℕ, zero, suc, Bool, true, false, cond, List, [], ◌∷◌, ◌++◌, length, Option, Some, None, refl, sym, ◌∙◌, subst, append_assoc}
use Rattle.std.proofs.lemmas.List.{append-nil}
use Rattle.m_places.specs.declared.limits.TheConstants.{BRACKET_DEPTH}
use Rattle.m_places.specs.declared.place.Place.{Place}
use Rattle.m_lexer.specs.declared.token.Token.{Token}
use Rattle.m_lexer.specs.declared.token.Key.{Key as AKey}
use Rattle.m_lexer.specs.declared.token.Key.TheVariants as keys
use Rattle.m_lexer.specs.declared.token.Sign.TheVariants as signs
use Rattle.m_ast.specs.Syntax.{Syntax}
use Rattle.m_ast.specs.declared.header.Header.{Header}
use Rattle.m_ast.specs.declared.item.Slot.{Slot}
use Rattle.m_lexer.specs.Chains.{First, first}
use Rattle.m_terms.specs.Tokens.{is_sign, is_key}
use Rattle.m_terms.specs.Grammar.{SpellsInner}
use Rattle.m_terms.specs.Headers.{SpellsHeader}
use Rattle.m_terms.specs.Terms.{SpellsTerm, follows}
use Rattle.m_lexer.specs.inner.Chains.{choose}
use Rattle.m_terms.specs.inner.Reading.{begins_by, inner_at}
use Rattle.m_lexer.proofs.ChainSound.{Each, absent, here, bind_each, choose_each, each_from, open_each, Sound, chain_sound}
use Rattle.m_terms.proofs.HeaderLaws.{header_sound}
use Rattle.m_terms.proofs.TermLaws.{expr_sound}
use Rattle.m_terms.proofs.TermCompletes.{inner_sound}
use Rattle.m_items.specs.Tokens.{word, placed_word, whole, key_place, SpellsSign, SpellsKey, SpellsKeyAt}
use Rattle.m_items.proofs.DeclarationSoundLaws.{applications_sound}
use Rattle.m_items.specs.Many.{Many, no_more, one_more, OneOrMore, one}
use Rattle.m_items.specs.RuleGrammar.{formula_of, check_of, SpellsHead, head, SpellsLoop, loop, SpellsLoops, SpellsSlot, no_index, every_cell, one_cell}
use Rattle.m_items.specs.RuleGrammar.{SpellsFormula, formula, SpellsChaining, unchained, chained, SpellsRule, rule, SpellsCheck, check, SpellsVerification}
use Rattle.m_items.specs.RuleGrammar.{verification}
use Rattle.m_items.specs.inner.RuleReading.{term_at, headed_at, behind_words, many_at, one_or_more_at, head_at, loop_at, loops_at, index_at, slot_at, set_at}
use Rattle.m_items.specs.inner.RuleReading.{formula_at, chaining_at, rule_at, error_at, check_at, verification_at}

kept : {A : Type 0} {P : A → Type 0} (b : Bool) (x : A) → P x → Each P (cond b (Some x) None)
kept true x p = here p
kept false x p = absent

term_sound : Sound SpellsTerm term_at
unfolding term_at
term_sound ts = bind_each (expr_sound (SpellsInner BRACKET_DEPTH) (inner_at BRACKET_DEPTH) (inner_sound BRACKET_DEPTH) ts)
    (λ t d. kept (begins_by follows t.1) t d)

headed_sound : Sound SpellsHeader headed_at
unfolding headed_at
headed_sound ts = bind_each (header_sound ts) (λ h d. kept (begins_by (is_sign signs.Colon) h.1) h d)

-- Repeated parts.

-- the words at the start
pub record Words (ts : List Token) (rest : List Token) : Type 0 where
  pub words : List (List ℕ)
  pub many : Many (First word) words ts rest

pub words_sound : (ts : List Token) → Words ts (behind_words ts)
unfolding behind_words
words_sound [] = record { words = []; many = no_more }
words_sound (t ∷ ts) = go (word t) refl (words_sound ts)
  where
    go : (o : Option (List ℕ)) → word t ≡ o → Words ts (behind_words ts) → Words (t ∷ ts) (choose o (t ∷ ts) (λ w. behind_words ts))
    go None e h = record { words = []; many = no_more }
    go (Some w) e h = record { words = w ∷ h.words; many = one_more (first e) h.many }

-- the result of many_at
pub record ManyRead {A : Type 0} (R : A → List Token → List Token → Type 0) (done : List A) (ts : List Token) (out : List A × List Token) : Type 0 where
  pub others : List A
  pub all : out.0 ≡ done ++ others
  pub many : Many R others ts out.1

module _ {A : Type 0} (R : A → List Token → List Token → Type 0) (p : List Token → Option (A × List Token)) (sound : Sound R p) where
  pub many_sound : (n : ℕ) (done : List A) (ts : List Token) → ManyRead R done ts (many_at p n done ts)
  unfolding many_at
  many_sound zero done ts = record { others = []; all = sym (append-nil done); many = no_more }
  many_sound (suc n) done ts = step (λ x. many_sound n (done ++ x.0 ∷ []) x.1) (sound ts)
    where
      step : ((x : A × List Token) → ManyRead R (done ++ x.0 ∷ []) x.1 (many_at p n (done ++ x.0 ∷ []) x.1)) → {o : Option (A × List Token)}
          → Each (λ x. R x.0 ts x.1) o → ManyRead R done ts (choose o (done, ts) (λ x. many_at p n (done ++ x.0 ∷ []) x.1))
      step again absent = record { others = []; all = sym (append-nil done); many = no_more }
      step again (here {x = x} d) =
          let q = again x in
          record { others = x.0 ∷ q.others; all = q.all ∙ append_assoc done (x.0 ∷ []) q.others; many = one_more d q.many }

  pub one_or_more_sound : Sound (OneOrMore R) (one_or_more_at p)
  unfolding one_or_more_at
  one_or_more_sound ts =
      bind_each (sound ts) (λ x d.
      let q = many_sound (length x.1) (x.0 ∷ []) x.1 in
      here (subst (λ l. OneOrMore R l ts (many_at p (length x.1) (x.0 ∷ []) x.1).1) (sym q.all) (one d q.many)))

-- Heads.
head_sound : (k : AKey) → Sound (SpellsHead k) (head_at k)
unfolding head_at
head_sound k ts =
    bind_each (open_each (key_place k) ts) (λ p d.
    bind_each (open_each whole (behind_words p.1)) (λ n e.
    bind_each (open_each (is_sign signs.Colon) n.1) (λ c s.
    bind_each (applications_sound c.1) (λ names f.
    bind_each (open_each (is_sign signs.Semicolon) names.1) (λ z g. here (head d (words_sound p.1).many e s f g))))))

-- Formulas.
loop_sound : Sound SpellsLoop loop_at
unfolding loop_at
loop_sound ts =
    bind_each (headed_sound ts) (λ h d.
    bind_each (open_each (is_sign signs.Colon) h.1) (λ c s. here (loop d s)))

loops_sound : Sound SpellsLoops loops_at
loops_sound ts = each_from (chain_sound (is_key keys.Pour) (λ _ h. h) SpellsLoop loop_at loop_sound (length ts) [] ts)
    (λ hs c. subst (λ l. SpellsLoops l ts hs.1) (sym c.all) c.chain)

indexed : {from ts : List Token} → SpellsSign signs.OpenBracket from ts
    → Each (λ (s : Slot × List Token). (rest : List Token) → SpellsSign signs.CloseBracket s.1 rest → SpellsSlot s.0 from rest) (index_at ts)
unfolding index_at
indexed {ts = ts} o =
    choose_each (open_each (is_key keys.X) ts)
    (bind_each (open_each whole ts) (λ n d. here (λ rest c. one_cell o d c)))
    (λ x k. here (λ rest c. every_cell o k c))

slot_sound : Sound SpellsSlot slot_at
unfolding slot_at
slot_sound ts =
    choose_each (open_each (is_sign signs.OpenBracket) ts) (here no_index) (λ o s.
    bind_each (indexed s) (λ x d.
    bind_each (open_each (is_sign signs.CloseBracket) x.1) (λ c e. here (d c.1 e))))

-- "=" expr ";"
pub data SpellsSet : Syntax → List Token → List Token → Type 0 where
  a_set : {t : Syntax} {ts a b rest : List Token} → SpellsSign signs.Equal ts a → SpellsTerm t a b → SpellsSign signs.Semicolon b rest → SpellsSet t ts rest

set_sound : Sound SpellsSet set_at
unfolding set_at
set_sound ts =
    bind_each (open_each (is_sign signs.Equal) ts) (λ e s.
    bind_each (term_sound e.1) (λ t d.
    bind_each (open_each (is_sign signs.Semicolon) t.1) (λ c f. here (a_set s d f))))

pub formula_sound : Sound SpellsFormula formula_at
unfolding formula_at
formula_sound ts =
    bind_each (loops_sound ts) (λ hs d.
    bind_each (open_each placed_word hs.1) (λ w e.
    bind_each (slot_sound w.1) (λ s f.
    bind_each (set_sound s.1) (λ t g. here (made d e f g)))))
  where
    made : {hs : List Header} {w : List ℕ × Place} {s : Slot} {t : Syntax} {ts a b c rest : List Token} → SpellsLoops hs ts a → First placed_word w a b
        → SpellsSlot s b c → SpellsSet t c rest → SpellsFormula (formula_of hs w s t) ts rest
    made d e f (a_set s g h) = formula d e f s g h

-- Rules.
chaining_sound : Sound SpellsChaining chaining_at
unfolding chaining_at
chaining_sound ts =
    choose_each (open_each (is_key keys.Enchaineur) ts) (here unchained) (λ o k.
    bind_each (open_each (is_sign signs.Colon) o.1) (λ c s.
    bind_each (open_each word c.1) (λ w d.
    bind_each (open_each (is_sign signs.Semicolon) w.1) (λ z e. here (chained k s d e)))))

pub rule_sound : Sound SpellsRule rule_at
unfolding rule_at
rule_sound ts =
    bind_each (head_sound keys.Regle ts) (λ h d.
    bind_each (chaining_sound h.1) (λ c e.
    bind_each (one_or_more_sound SpellsFormula formula_at formula_sound c.1) (λ fs f. here (rule d e f))))

-- Verifications.

-- "alors" "erreur" WORD { WORD } ";"
pub data SpellsError : List ℕ → List Token → List Token → Type 0 where
  an_error : {w : List ℕ} {words : List (List ℕ)} {ts a b c d rest : List Token}
      → SpellsKey keys.Alors ts a → SpellsKey keys.Erreur a b → First word w b c → Many (First word) words c d → SpellsSign signs.Semicolon d rest →
      SpellsError w ts rest

error_sound : Sound SpellsError error_at
unfolding error_at
error_sound ts =
    bind_each (open_each (is_key keys.Alors) ts) (λ a d.
    bind_each (open_each (is_key keys.Erreur) a.1) (λ e f.
    bind_each (open_each word e.1) (λ w g.
    bind_each (open_each (is_sign signs.Semicolon) (behind_words w.1)) (λ c h. here (an_error d f g (words_sound w.1).many h)))))

pub check_sound : Sound SpellsCheck check_at
unfolding check_at
check_sound ts =
    bind_each (open_each (key_place keys.Si) ts) (λ p d.
    bind_each (term_sound p.1) (λ t e.
    bind_each (error_sound t.1) (λ w f. here (made d e f))))
  where
    made : {p : Place} {t : Syntax} {w : List ℕ} {ts a b rest : List Token} → SpellsKeyAt keys.Si p ts a → SpellsTerm t a b → SpellsError w b rest
        → SpellsCheck (check_of p t w) ts rest
    made d e (an_error f g h i j) = check d e f g h i j

pub verification_sound : Sound SpellsVerification verification_at
unfolding verification_at
verification_sound ts =
    bind_each (head_sound keys.Verif ts) (λ h d.
    bind_each (one_or_more_sound SpellsCheck check_at check_sound h.1) (λ cs e. here (verification d e)))
