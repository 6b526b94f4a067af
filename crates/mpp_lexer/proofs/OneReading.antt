-- Texts have one list of lines or one first error, and not both.
use Rattle.std.proofs.Common.{◌≡◌, ◌⊎◌, ℕ, codes, cond, List, [], ◌∷◌, refl, sym, ap, ◌∙◌, subst, arith, inl, inr}
use Rattle.std.specs.List.{AllByRecursion}
use Rattle.std.specs.Str.{bytes_eq}
use Rattle.m_text.specs.Bytes.{IsWordByte, hash, point, space}
use Rattle.m_text.specs.Words.{IsWord, IsNumber, LongestOf}
use Rattle.m_text.proofs.Fronts.{all_right}
use Rattle.m_text.proofs.Longest.{one_longest}
use Rattle.m_text.proofs.Spelled.{word_first, number_first, point_is_none}
use Rattle.mpp_lexer.specs.declared.piece.DriverSign.{DriverSign}
use Rattle.mpp_lexer.specs.declared.piece.DriverSign.TheVariants.{OpenParen, CloseParen, OpenBracket, CloseBracket, Comma, Colon, Assign, Equal, NotEqual, Less}
use Rattle.mpp_lexer.specs.declared.piece.DriverSign.TheVariants.{LessEqual, Greater, GreaterEqual, Plus, Minus, Star, Slash, Receive}
use Rattle.mpp_lexer.specs.declared.piece.DriverPiece.{DriverPiece}
use Rattle.mpp_lexer.specs.declared.piece.DriverPiece.TheVariants.{Number, Sign}
use Rattle.mpp_lexer.specs.declared.piece.Line.{Line}
use Rattle.mpp_lexer.specs.Tokens.{sign_spelling, IsToken, Spells, word, number, sign, IsTooGreat, TokensOf, end, comment, blank, token, HasBadToken, no_token}
use Rattle.mpp_lexer.specs.Tokens.{too_great, spaces}
use Rattle.mpp_lexer.specs.Lines.{Lexes, end, without, with, FirstBadToken, here, later}
use Rattle.mpp_lexer.proofs.Tokens.{IsMark, sign_first, token_first, not_empty}

-- the sign of a spelling
abbrev sign_of : List ℕ → DriverSign
sign_of t = cond (bytes_eq t (codes "(")) OpenParen
    (cond (bytes_eq t (codes ")")) CloseParen
    (cond (bytes_eq t (codes "[")) OpenBracket
    (cond (bytes_eq t (codes "]")) CloseBracket
    (cond (bytes_eq t (codes ",")) Comma (cond (bytes_eq t (codes ":")) Colon
    (cond (bytes_eq t (codes "=")) Assign (cond (bytes_eq t (codes "==")) Equal
    (cond (bytes_eq t (codes "!=")) NotEqual
    (cond (bytes_eq t (codes "<")) Less (cond (bytes_eq t (codes "<=")) LessEqual
    (cond (bytes_eq t (codes ">")) Greater (cond (bytes_eq t (codes ">=")) GreaterEqual
    (cond (bytes_eq t (codes "+")) Plus (cond (bytes_eq t (codes "-")) Minus
    (cond (bytes_eq t (codes "*")) Star (cond (bytes_eq t (codes "/")) Slash Receive))))))))))))))))

sign_of-sign_spelling : (s : DriverSign) → sign_of (sign_spelling s) ≡ s
sign_of-sign_spelling OpenParen = refl
sign_of-sign_spelling CloseParen = refl
sign_of-sign_spelling OpenBracket = refl
sign_of-sign_spelling CloseBracket = refl
sign_of-sign_spelling Comma = refl
sign_of-sign_spelling Colon = refl
sign_of-sign_spelling Assign = refl
sign_of-sign_spelling Equal = refl
sign_of-sign_spelling NotEqual = refl
sign_of-sign_spelling Less = refl
sign_of-sign_spelling LessEqual = refl
sign_of-sign_spelling Greater = refl
sign_of-sign_spelling GreaterEqual = refl
sign_of-sign_spelling Plus = refl
sign_of-sign_spelling Minus = refl
sign_of-sign_spelling Star = refl
sign_of-sign_spelling Slash = refl
sign_of-sign_spelling Receive = refl

one_sign : (s u : DriverSign) → sign_spelling s ≡ sign_spelling u → s ≡ u
one_sign s u e = sym (sign_of-sign_spelling s) ∙ ap sign_of e ∙ sign_of-sign_spelling u

-- a word isn't a number
word_or_number : (t : List ℕ) → IsWord t → IsNumber t → ⊥
word_or_number t h (inl k) = h.1 k.1
word_or_number t h (inr k) = point_is_none (all_right IsWordByte k.0 (point ∷ k.1) (subst (AllByRecursion IsWordByte) k.4 h.0)).0

-- a text spells at most one token
one_token : (t : List ℕ) (p q : DriverPiece) → Spells t p → Spells t q → p ≡ q
one_token t p q (word h) (word k) = refl
one_token t p q (word h) (number k e) = absurd (word_or_number t h k)
one_token t p q (word h) (sign {s = s} e) = let a = word_first t h in let b = sign_first t s e in absurd (omega arith)
one_token t p q (number h e) (word k) = absurd (word_or_number t k h)
one_token t p q (number {z = z} h e) (number {z = y} k f) = let g : z ≡ y = cc in ap (λ x. Number x t) g
one_token t p q (number h e) (sign {s = s} f) = let a = number_first t h in let b = sign_first t s f in absurd (omega arith)
one_token t p q (sign {s = s} e) (word k) = let a = word_first t k in let b = sign_first t s e in absurd (omega arith)
one_token t p q (sign {s = s} e) (number k f) = let a = number_first t k in let b = sign_first t s e in absurd (omega arith)
one_token t p q (sign {s = s} e) (sign {s = u} f) = ap Sign (one_sign s u (sym e ∙ f))

-- a number that is too great isn't a token
great_or_token : (t : List ℕ) (p : DriverPiece) → IsTooGreat t → Spells t p → ⊥
great_or_token t p g (word h) = word_or_number t h g.0
great_or_token t p g (number h e) = cc
great_or_token t p g (sign {s = s} e) = let a = number_first t g.0 in let b = sign_first t s e in omega arith

-- no token begins at the end of a line, with a space, or with `#`
none_at_end : (t rest : List ℕ) → LongestOf IsToken [] t rest → ⊥
none_at_end [] rest l = not_empty l.piece
none_at_end (b ∷ t) rest l = let e = l.parts in cc

begins_with : (b : ℕ) (bytes tail t rest : List ℕ) → bytes ≡ b ∷ tail → LongestOf IsToken bytes t rest → IsWordByte b ⊎ IsMark b
begins_with b bytes tail [] rest e l = absurd (not_empty l.piece)
begins_with b bytes tail (c ∷ t) rest e l = let f = l.parts in let same : c ≡ b = cc in subst (λ x. IsWordByte x ⊎ IsMark x) same (token_first (c ∷ t) l.piece)

none_at_space : (bytes tail t rest : List ℕ) → bytes ≡ space ∷ tail → LongestOf IsToken bytes t rest → ⊥
none_at_space bytes tail t rest e l = let k = begins_with space bytes tail t rest e l in omega arith

none_at_comment : (bytes tail t rest : List ℕ) → bytes ≡ hash ∷ tail → LongestOf IsToken bytes t rest → ⊥
none_at_comment bytes tail t rest e l = let k = begins_with hash bytes tail t rest e l in omega arith

space_or_comment : (bytes tail rest : List ℕ) → bytes ≡ space ∷ tail → bytes ≡ hash ∷ rest → ⊥
space_or_comment bytes tail rest e f = let g : space ≡ hash = cc in omega arith

-- a line has one list of tokens
one_tokens : (x : List ℕ) (ts us : List DriverPiece) → TokensOf x ts → TokensOf x us → ts ≡ us
one_tokens x ts us end end = refl
one_tokens x ts us end (comment e) = absurd (cc)
one_tokens x ts us end (blank e d) = absurd (cc)
one_tokens x ts us end (token {t = t} {rest = r} l s d) = absurd (none_at_end t r l)
one_tokens x ts us (comment e) end = absurd (cc)
one_tokens x ts us (comment e) (comment f) = refl
one_tokens x ts us (comment {rest = r} e) (blank {rest = v} f d) = absurd (space_or_comment x v r f e)
one_tokens x ts us (comment {rest = r} e) (token {t = t} {rest = v} l s d) = absurd (none_at_comment x r t v e l)
one_tokens x ts us (blank e d) end = absurd (cc)
one_tokens x ts us (blank {rest = r} e d) (comment {rest = v} f) = absurd (space_or_comment x r v e f)
one_tokens x ts us (blank {rest = r} e d) (blank {rest = v} f g) = let same : v ≡ r = cc in one_tokens r ts us d (subst (λ y. TokensOf y us) same g)
one_tokens x ts us (blank {rest = r} e d) (token {t = t} {rest = v} l s g) = absurd (none_at_space x r t v e l)
one_tokens x ts us (token {t = t} {rest = r} l s d) end = absurd (none_at_end t r l)
one_tokens x ts us (token {t = t} {rest = v} l s d) (comment {rest = r} e) = absurd (none_at_comment x r t v e l)
one_tokens x ts us (token {t = t} {rest = v} l s d) (blank {rest = r} e g) = absurd (none_at_space x r t v e l)
one_tokens x ts us (token {t = t} {rest = r} {p = p} {tokens = ps} l s d) (token {t = u} {rest = v} {p = q} {tokens = qs} m k g) =
    let w = one_longest IsToken x u v t r m l in
    let same = one_token t p q s (subst (λ y. Spells y q) w.0 k) in
    let others = one_tokens r ps qs d (subst (λ y. TokensOf y qs) w.1 g) in
    λ i. same i ∷ others i

tokens_or_bad : (x : List ℕ) (ts : List DriverPiece) → TokensOf x ts → HasBadToken x → ⊥
tokens_or_bad x ts end (no_token e a b n) = cc
tokens_or_bad x ts end (too_great {t = t} {rest = r} l g) = none_at_end t r l
tokens_or_bad x ts end (blank e d) = cc
tokens_or_bad x ts end (token {t = t} {rest = r} l s d) = none_at_end t r l
tokens_or_bad x ts (comment e) (no_token f a b n) = b (cc)
tokens_or_bad x ts (comment {rest = r} e) (too_great {t = t} {rest = v} l g) = none_at_comment x r t v e l
tokens_or_bad x ts (comment {rest = r} e) (blank {rest = v} f d) = space_or_comment x v r f e
tokens_or_bad x ts (comment {rest = r} e) (token {t = t} {rest = v} l s d) = none_at_comment x r t v e l
tokens_or_bad x ts (blank e d) (no_token f a b n) = a (cc)
tokens_or_bad x ts (blank {rest = r} e d) (too_great {t = t} {rest = v} l g) = none_at_space x r t v e l
tokens_or_bad x ts (blank {rest = r} e d) (blank {rest = v} f g) = let same : v ≡ r = cc in tokens_or_bad r ts d (subst HasBadToken same g)
tokens_or_bad x ts (blank {rest = r} e d) (token {t = t} {rest = v} l s g) = none_at_space x r t v e l
tokens_or_bad x ts (token {t = t} {rest = r} l s d) (no_token e a b n) = n t r l.parts l.piece
tokens_or_bad x ts (token {t = t} {rest = r} {p = p} l s d) (too_great {t = u} {rest = v} m g) = great_or_token t p
    (subst IsTooGreat (one_longest IsToken x u v t r m l).0 g) s
tokens_or_bad x ts (token {t = t} {rest = v} l s d) (blank {rest = r} e g) = none_at_space x r t v e l
tokens_or_bad x ts (token {t = t} {rest = r} {tokens = ps} l s d) (token {t = u} {rest = v} m k g) =
    tokens_or_bad r ps d (subst HasBadToken (one_longest IsToken x u v t r m l).1 g)

-- Lines.
pub one_list : (n : ℕ) (texts : List (List ℕ)) (ls ms : List Line) → Lexes n texts ls → Lexes n texts ms → ls ≡ ms
one_list n texts ls ms end end = refl
one_list n texts ls ms (without t d) (without u e) = one_list _ _ _ _ d e
one_list n texts ls ms (without t d) (with u e) = let same = one_tokens _ _ _ t u in absurd (cc)
one_list n texts ls ms (with t d) (without u e) = let same = one_tokens _ _ _ t u in absurd (cc)
one_list n texts ls ms (with {text = x} {p = p} {ps = ps} t d) (with {p = q} {ps = qs} u e) =
    let same = one_tokens _ _ _ t u in
    let others = one_list _ _ _ _ d e in
    λ i. record { number = n; indent = spaces x; tokens = same i } ∷ others i

pub lines_or_fault : (n : ℕ) (texts : List (List ℕ)) (ls : List Line) (fault : ℕ) → Lexes n texts ls → FirstBadToken n texts fault → ⊥
lines_or_fault n texts ls fault end x = elim x [ ]
lines_or_fault n texts ls fault (without t d) (here b) = tokens_or_bad _ _ t b
lines_or_fault n texts ls fault (without t d) (later u e) = lines_or_fault _ _ _ _ d e
lines_or_fault n texts ls fault (with t d) (here b) = tokens_or_bad _ _ t b
lines_or_fault n texts ls fault (with t d) (later u e) = lines_or_fault _ _ _ _ d e

pub one_first_fault : (n : ℕ) (texts : List (List ℕ)) (fault other : ℕ) → FirstBadToken n texts fault → FirstBadToken n texts other → fault ≡ other
one_first_fault n texts fault other (here b) (here c) = refl
one_first_fault n texts fault other (here b) (later t d) = absurd (tokens_or_bad _ _ t b)
one_first_fault n texts fault other (later t d) (here b) = absurd (tokens_or_bad _ _ t b)
one_first_fault n texts fault other (later t d) (later u e) = one_first_fault _ _ _ _ d e
