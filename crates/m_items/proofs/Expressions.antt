-- The readers of terms and headers return what the reading functions give.
use Rattle.std.proofs.Common.{◌≡◌, ◌<◌, ℕ, Bool, true, false, cond, List, drop, Option, Some, None, refl, lit<, arith}
use Rattle.m_places.specs.declared.limits.TheConstants.{BRACKET_DEPTH}
use Rattle.m_lexer.specs.declared.token.Token.{Token}
use Rattle.m_lexer.specs.declared.token.Kind.{Kind}
use Rattle.m_lexer.specs.declared.token.Kind.TheVariants.{Key, Sign}
use Rattle.m_lexer.specs.declared.token.Key.TheVariants.{Alors, Sinon, Finsi}
use Rattle.m_lexer.specs.declared.token.Sign.TheVariants.{CloseParen, CloseBracket, Comma, Semicolon, Colon}
use Rattle.m_ast.specs.Syntax.{Syntax}
use Rattle.m_ast.specs.declared.header.Header.{Header}
use Rattle.m_terms.specs.declared.fault.TermFault.{TermFault}
use Rattle.m_terms.specs.declared.fault.TermFault.TheVariants.{NoTerm, Memory}
use Rattle.m_lexer.specs.Chains.{First, first}
use Rattle.m_terms.specs.Tokens.{is_sign, kind_is_sign}
use Rattle.m_terms.specs.Grammar.{SpellsInner}
use Rattle.m_terms.specs.Headers.{SpellsHeader}
use Rattle.m_terms.specs.Terms.{SpellsTerm, follows, follows_of, BeginsBy, TermAt, HeaderAt, NoTermAt, NoHeaderAt}
use Rattle.m_lexer.specs.inner.Chains.{◌>>=◌}
use Rattle.m_terms.specs.inner.Reading.{begins_by, header_at, expr_at, inner_at}
use Rattle.m_lexer.proofs.ChainComplete.{open_complete}
use Rattle.m_terms.proofs.HeaderLaws.{grip_of, Loose, header_complete}
use Rattle.m_terms.proofs.TermCompletes.{expr_complete}
use Rattle.m_terms.proofs.TermLaws.{tightness, Below}
use Rattle.m_terms.proofs.TermCompletes.{inner_passes, inner_complete}
use Rattle.m_terms.proofs.Answered.{term_is_marked, header_found}
use Rattle.m_items.specs.inner.DeclarationReading.{Fails}
use Rattle.m_items.specs.inner.RuleReading.{item_fault_of, term_at, headed_at}

begins_true : (table : Token → Option (Unit {0})) (ts : List Token) → BeginsBy table ts → begins_by table ts ≡ true
begins_true table ts b = rw (open_complete b.1) refl

-- Terms.
follows_below : (k : Kind) (b : Unit {0}) → follows_of k ≡ Some b → tightness k < 1
follows_below (Sign Semicolon) b e = lit< tt
follows_below (Sign CloseParen) b e = lit< tt
follows_below (Sign CloseBracket) b e = lit< tt
follows_below (Sign Comma) b e = lit< tt
follows_below (Key Alors) b e = lit< tt
follows_below (Key Sinon) b e = lit< tt
follows_below (Key Finsi) b e = lit< tt
follows_below _ b e = absurd (cc)

first_below : {b : Unit {0}} {ts rest : List Token} → First follows b ts rest → Below 1 ts
first_below (first {t = t} e) = follows_below t.kind _ e

pub term_complete : {t : Syntax} {ts rest : List Token} → SpellsTerm t ts rest → BeginsBy follows rest → term_at ts ≡ Some (t, rest)
unfolding term_at
term_complete {rest = rest} d b = rw (
  expr_complete (SpellsInner BRACKET_DEPTH) (inner_passes BRACKET_DEPTH) (inner_at BRACKET_DEPTH)
      (inner_complete BRACKET_DEPTH) _ _ _ d (first_below b.1),
  begins_true follows rest b,
) refl

pub term_read : (ts : List Token) {t : Syntax} {to : ℕ} → TermAt ts 0 t to → term_at ts ≡ Some (t, drop to ts)
term_read ts s = term_complete s.spelled s.closed

term_stuck : (ts : List Token) (t : Syntax) (rest : List Token) → expr_at (inner_at BRACKET_DEPTH) ts ≡ Some (t, rest) → NoTermAt ts 0 → (b : Bool)
    → begins_by follows rest ≡ b → cond {A = Option (Syntax × List Token)} b (Some (t, rest)) None ≡ None
term_stuck ts t rest e none true f = absurd (none t _ (term_is_marked ts 0 (omega arith) e f))
term_stuck ts t rest e none false f = refl

no_term : (ts : List Token) → NoTermAt ts 0 → term_at ts ≡ None
unfolding term_at
no_term ts none = go (expr_at (inner_at BRACKET_DEPTH) ts) refl
  where
    go : (o : Option (Syntax × List Token)) → expr_at (inner_at BRACKET_DEPTH) ts ≡ o → (o >>= λ t. cond (begins_by follows t.1) (Some t) None) ≡ None
    go None e = refl
    go (Some t) e = term_stuck ts t.0 t.1 e none (begins_by follows t.1) refl

pub term_fails : (ts : List Token) (fault : TermFault) → ((fault ≡ Memory → ⊥) → NoTermAt ts 0) → Fails (item_fault_of fault) (term_at ts)
term_fails ts NoTerm h = no_term ts (h (λ e. absurd (cc)))
term_fails ts Memory h = tt

-- Headers.
colon_loose : (k : Kind) (b : Unit {0}) → kind_is_sign Colon k ≡ Some b → grip_of k < 1
colon_loose (Sign Colon) b e = lit< tt
colon_loose _ b e = absurd (cc)

first_loose : {b : Unit {0}} {ts rest : List Token} → First (is_sign Colon) b ts rest → Loose 1 ts
first_loose (first {t = t} e) = colon_loose t.kind _ e

pub headed_complete : {h : Header} {ts rest : List Token} → SpellsHeader h ts rest → BeginsBy (is_sign Colon) rest → headed_at ts ≡ Some (h, rest)
unfolding headed_at
headed_complete {rest = rest} d b = rw (header_complete _ _ _ d (first_loose b.1), begins_true (is_sign Colon) rest b) refl

pub header_read : (ts : List Token) {h : Header} {to : ℕ} → HeaderAt ts 0 h to → headed_at ts ≡ Some (h, drop to ts)
header_read ts s = headed_complete s.spelled s.closed

header_stuck : (ts : List Token) (h : Header) (rest : List Token) → header_at ts ≡ Some (h, rest) → NoHeaderAt ts 0 → (b : Bool)
    → begins_by (is_sign Colon) rest ≡ b → cond {A = Option (Header × List Token)} b (Some (h, rest)) None ≡ None
header_stuck ts h rest e none true f = absurd (none h _ (header_found ts 0 (omega arith) e f))
header_stuck ts h rest e none false f = refl

no_header : (ts : List Token) → NoHeaderAt ts 0 → headed_at ts ≡ None
unfolding headed_at
no_header ts none = go (header_at ts) refl
  where
    go : (o : Option (Header × List Token)) → header_at ts ≡ o → (o >>= λ h. cond (begins_by (is_sign Colon) h.1) (Some h) None) ≡ None
    go None e = refl
    go (Some h) e = header_stuck ts h.0 h.1 e none (begins_by (is_sign Colon) h.1) refl

pub header_fails : (ts : List Token) (fault : TermFault) → ((fault ≡ Memory → ⊥) → NoHeaderAt ts 0) → Fails (item_fault_of fault) (headed_at ts)
header_fails ts NoTerm h = no_header ts (h (λ e. absurd (cc)))
header_fails ts Memory h = tt
