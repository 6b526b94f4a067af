-- The law of lines: parsing yields exactly the sentence that the tokens spell, and there is at most
-- one.
use Rattle.std.proofs.Common.{◌≡◌, ◌≢◌, ℕ, Bool, true, false, cond, List, [], ◌∷◌, length, Option, Some, None, Result, Ok, Err, MatchResult, refl, sym, ap, ◌∙◌}
use Rattle.std.proofs.Common.{subst, lit<, arith}
use denote.Enum.Bare.{sameb, same_true}
use Rattle.mpp_lexer.specs.contracts.piece.DriverSign.{the_type}
use Rattle.mpp_lexer.specs.declared.piece.DriverPiece.{DriverPiece}
use Rattle.mpp_lexer.specs.declared.piece.DriverPiece.TheVariants.{Word, Number, Sign}
use Rattle.mpp_lexer.specs.declared.piece.DriverSign.TheVariants.{OpenParen, CloseParen, OpenBracket, Comma, Colon, Assign, Receive}
use Rattle.mpp_parser.specs.declared.keyword.Keyword.{Keyword}
use Rattle.mpp_parser.specs.declared.keyword.Keyword.TheVariants as keys
use Rattle.mpp_parser.specs.declared.unread.Unread.{Unread}
use Rattle.mpp_parser.specs.declared.unread.Unread.TheVariants.{NotSpelled, Memory}
use Rattle.mpp_parser.specs.declared.term.CellName.{CellName}
use Rattle.mpp_parser.specs.declared.sentence.Sentence.{Sentence}
use Rattle.mpp_parser.specs.declared.sentence.Sentence.TheVariants as sentences
use Rattle.mpp_parser.specs.Keywords.{keyword_of}
use Rattle.m_lexer.specs.Chains.{Chain, ended, further}
use Rattle.mpp_parser.specs.Grammar.{is, SpellsCell, plain, indexed, SpellsKind, SpellsTerm, Listed, listed, SpellsSentence, function, set, del, call, when}
use Rattle.mpp_parser.specs.Grammar.{otherwise, partition}
use Rattle.mpp_parser.specs.inner.Reading.{sign_at, cell_rest_at, bracket_at, cell_at, term_at, called_at, cells_at, call_at, command_rest_at, function_rest_at}
use Rattle.mpp_parser.specs.inner.Reading.{named_at, partition_at, worded_at, sentence_at, whole, line_at, ReadsAll}
use Rattle.m_lexer.proofs.ChainSound.{Each, absent, here, bind_each, choose_each, Sound, chain_sound}
use Rattle.mpp_parser.proofs.Sound.{sign_each}
use Rattle.m_lexer.proofs.ChainComplete.{chain_complete}
use Rattle.mpp_parser.proofs.Tightness.{Below}
use Rattle.mpp_parser.proofs.Cells.{key_each, word_each, cell_rest_sound, cell_sound, cell_shrinks, cell_complete, kind_sound, kind_complete}
use Rattle.mpp_parser.proofs.Expressions.{until_sound, until_complete, term_sound, term_shrinks, term_complete}

-- What is parsed is spelled so.
called_sound : (c : CellName) (cs : List CellName) (ts us : List DriverPiece) → Listed SpellsCell (c ∷ cs) ts us
    → Each (λ (s : Sentence × List DriverPiece). SpellsSentence s.0 ts s.1) (called_at (c ∷ cs) us)
unfolding called_at
called_sound c cs ts us d =
    bind_each (sign_each Receive us) (λ r i.
    bind_each (word_each r.1) (λ w j.
    bind_each (sign_each OpenParen w.1) (λ o k.
    bind_each (sign_each CloseParen o.1) (λ q l.
    here (call (subst (Listed SpellsCell (c ∷ cs) ts) (i ∙ ap (λ m. Sign Receive ∷ m) (j.1 ∙ ap (λ m. Word w.0 ∷ m) (k ∙ ap (λ m. Sign OpenParen ∷ m) l))) d)
    j.0)))))

call_sound : (c : CellName) (ts us : List DriverPiece) → SpellsCell c ts us
    → Each (λ (s : Sentence × List DriverPiece). SpellsSentence s.0 ts s.1) (call_at c us)
unfolding call_at cells_at
call_sound c ts us d =
    bind_each (chain_sound (is Comma) (λ _ x. x) SpellsCell cell_at cell_sound (length us) (c ∷ []) us) (λ cs h.
    subst (λ all. Each (λ (s : Sentence × List DriverPiece). SpellsSentence s.0 ts s.1) (called_at all cs.1)) (sym h.all)
    (called_sound c h.others ts cs.1 (listed d h.chain)))

command_rest_sound : (w : List ℕ) (ts : List DriverPiece) → keyword_of w ≡ None
    → Each (λ (s : Sentence × List DriverPiece). SpellsSentence s.0 (Word w ∷ ts) s.1) (command_rest_at w ts)
unfolding command_rest_at
command_rest_sound w ts g =
    bind_each (cell_rest_sound w ts g) (λ c d.
    choose_each (sign_each Assign c.1) (call_sound c.0 (Word w ∷ ts) c.1 d) (λ o h.
    bind_each (term_sound o.1) (λ t f.
    here (set (subst (λ m. SpellsCell c.0 (Word w ∷ ts) m) h d) f))))

named_sound : (w : List ℕ) (ts : List DriverPiece) → keyword_of w ≡ None → Each (λ (s : Sentence × List DriverPiece). SpellsSentence s.0 (Word w ∷ ts) s.1)
    (named_at w ts)
unfolding named_at function_rest_at
named_sound w ts g =
    choose_each (sign_each OpenParen ts) (command_rest_sound w ts g) (λ o h.
    bind_each (sign_each CloseParen o.1) (λ c i.
    bind_each (sign_each Colon c.1) (λ r j.
    here (subst (λ m. SpellsSentence (sentences.Function w) (Word w ∷ m) r.1) (sym (h ∙ ap (λ m. Sign OpenParen ∷ m) (i ∙ ap (λ m. Sign CloseParen ∷ m) j)))
    (function g)))))

partition_sound : (w : List ℕ) (ts : List DriverPiece) → keyword_of w ≡ Some keys.Partition
    → Each (λ (s : Sentence × List DriverPiece). SpellsSentence s.0 (Word w ∷ ts) s.1) (partition_at ts)
unfolding partition_at
partition_sound w ts g =
    bind_each (key_each keys.With ts) (λ v h.
    bind_each (kind_sound v.1) (λ k d.
    bind_each (sign_each Colon k.1) (λ r i.
    here (subst (λ m. SpellsSentence (sentences.Partition k.0) (Word w ∷ m) r.1) (sym h.2) (partition g h.1 (subst (λ m. SpellsKind k.0 v.1 m) i d))))))

worded_sound : (w : List ℕ) (k : Option Keyword) (ts : List DriverPiece) → keyword_of w ≡ k
    → Each (λ (s : Sentence × List DriverPiece). SpellsSentence s.0 (Word w ∷ ts) s.1) (worded_at w k ts)
unfolding worded_at
worded_sound w None ts g = named_sound w ts g
worded_sound w (Some keys.Del) ts g = bind_each (cell_sound ts) (λ c d. here (del g d))
worded_sound w (Some keys.If) ts g = bind_each (until_sound SpellsTerm term_at term_sound Colon ts) (λ t d. here (when g d))
worded_sound w (Some keys.Else) ts g = bind_each (sign_each Colon ts)
    (λ r h. here (subst (λ m. SpellsSentence sentences.Else (Word w ∷ m) r.1) (sym h) (otherwise g)))
worded_sound w (Some keys.Partition) ts g = partition_sound w ts g
worded_sound w (Some _) ts g = absent

sentence_sound : Sound SpellsSentence sentence_at
unfolding sentence_at
sentence_sound (Word w ∷ ts) = worded_sound w (keyword_of w) ts refl
sentence_sound _ = absent

-- What is spelled is parsed so.

-- the tokens that can follow a cell at the start of a command
abbrev EndsName : List DriverPiece → Type 0
EndsName ts = (sign_at OpenParen ts ≡ None) × (sign_at OpenBracket ts ≡ None) × (sign_at Assign ts ≡ None)

comma_ends : (t : DriverPiece) (b : Unit {0}) (ts : List DriverPiece) → is Comma t ≡ Some b → EndsName (t ∷ ts) × Below 6 (t ∷ ts)
comma_ends (Word w) b ts e = absurd (cc)
comma_ends (Number z u) b ts e = absurd (cc)
comma_ends (Sign s) b ts e = subst (λ x. EndsName (Sign x ∷ ts) × Below 6 (Sign x ∷ ts)) (sym (go (sameb the_type s Comma) refl e))
    ((refl, refl, refl), lit< tt)
  where
    go : (c : Bool) → sameb the_type s Comma ≡ c → cond c (Some tt) None ≡ Some b → s ≡ Comma
    go true f g = same_true the_type tt s Comma f
    go false f g = absurd (cc)

cells_end : {cs : List CellName} {mid us : List DriverPiece} → Chain (is Comma) (λ _ x. x) SpellsCell cs mid (Sign Receive ∷ us) → EndsName mid × Below 6 mid
cells_end ended = ((refl, refl, refl), lit< tt)
cells_end (further {t = t} {b = b} {ts = ts} o d c) = comma_ends t b ts o

-- the tokens that can follow a list of cells
abbrev EndsCells : List DriverPiece → Type 0
EndsCells ts = (sign_at Comma ts ≡ None) × Below 6 ts

cells_read : {c : CellName} {cs : List CellName} {mid us : List DriverPiece} → Chain (is Comma) (λ _ x. x) SpellsCell cs mid (Sign Receive ∷ us)
    → cells_at c mid ≡ Some (c ∷ cs, Sign Receive ∷ us)
unfolding cells_at
cells_read {c} {mid = mid} d = chain_complete (is Comma) (λ _ x. x) SpellsCell cell_shrinks cell_at (Below 6) EndsCells cell_complete
    (λ t b ts e. (comma_ends t b ts e).1) (λ ts h. h.1) (λ ts h. h.0) (length mid) (c ∷ []) d (refl, lit< tt) (omega arith)

pub sentence_complete : (s : Sentence) (ts : List DriverPiece) → SpellsSentence s ts [] → sentence_at ts ≡ Some (s, [])
unfolding sentence_at worded_at named_at function_rest_at command_rest_at call_at called_at cell_rest_at bracket_at partition_at
sentence_complete _ _ (function g) = rw g refl
sentence_complete _ _ (set (plain g) d) = rw (g, term_complete _ _ _ d (lit< tt)) refl
sentence_complete _ _ (set (indexed g f) d) = rw (g, f, term_complete _ _ _ d (lit< tt)) refl
sentence_complete _ _ (del g d) = rw (g, cell_complete _ _ _ d (lit< tt)) refl
sentence_complete _ _ (call (listed (plain g) c) f) = let h = cells_end c in rw (g, h.0.0, h.0.1, h.0.2, cells_read c, f) refl
sentence_complete _ _ (call (listed (indexed g e) c) f) = let h = cells_end c in rw (g, e, h.0.2, cells_read c, f) refl
sentence_complete _ _ (when g d) = rw (g, until_complete SpellsTerm term_shrinks term_at term_complete Colon d (lit< tt) refl) refl
sentence_complete _ _ (otherwise g) = rw g refl
sentence_complete _ _ (partition g f d) = rw (g, f, kind_complete _ _ _ d (refl, refl)) refl

-- Whole lines.
line_sound : (ts : List DriverPiece) → Each (λ s. SpellsSentence s ts []) (line_at ts)
unfolding line_at
line_sound ts = bind_each (sentence_sound ts) (λ s d. ends s.0 s.1 d)
  where
    ends : (s : Sentence) (us : List DriverPiece) → SpellsSentence s ts us → Each (λ s. SpellsSentence s ts []) (whole s us)
    ends s [] d = here d
    ends s (u ∷ us) d = absent

pub line_complete : (s : Sentence) (ts : List DriverPiece) → SpellsSentence s ts [] → line_at ts ≡ Some s
unfolding line_at
line_complete s ts d = rw (sentence_complete s ts d) refl

pub line_found : (ts : List DriverPiece) {s : Sentence} → line_at ts ≡ Some s → SpellsSentence s ts []
line_found ts e = go (line_sound ts) e
  where
    go : {o : Option Sentence} {s : Sentence} → Each (λ s. SpellsSentence s ts []) o → o ≡ Some s → SpellsSentence s ts []
    go absent e = absurd (cc)
    go {s = s} (here {x = x} d) e = let same : x ≡ s = cc in subst (λ s. SpellsSentence s ts []) same d

pub line_answer : (ts : List DriverPiece) (result : Result Sentence Unread) → ReadsAll result (line_at ts)
    → MatchResult result (λ s. SpellsSentence s ts []) (λ e. e ≢ Memory → (s : Sentence) → SpellsSentence s ts [] → ⊥)
line_answer ts (Ok s) h = line_found ts h
line_answer ts (Err NotSpelled) h = λ ne s d. let e = line_complete s ts d in absurd (cc)
line_answer ts (Err Memory) h = λ ne s d. ne refl

pub one_line : (s u : Sentence) (ts : List DriverPiece) → SpellsSentence s ts [] → SpellsSentence u ts [] → s ≡ u
one_line s u ts a b = let e = line_complete s ts a in let f = line_complete u ts b in cc
