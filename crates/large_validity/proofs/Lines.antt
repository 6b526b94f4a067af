-- The lines of the rule base of `large N`, as pieces.
use Rattle.std.proofs.Common.{◌≡◌, ℕ, zero, suc, ◌+◌, ◌-◌, ◌<◌, ◌≤◌, List, [], ◌∷◌, ◌++◌, codes, decimal, refl, ◌∙◌, sym, subst, append_assoc, arith}
use Rattle.m_places.specs.declared.place.Place.{Place}
use Rattle.m_places.specs.declared.limits.TheConstants.{BRACKET_DEPTH}
use Rattle.m_lexer.specs.declared.token.Key.TheVariants as keys
use Rattle.m_lexer.specs.declared.token.Sign.TheVariants as signs
use Rattle.m_lexer.specs.declared.token.Token.{Token}
use Rattle.m_lexer.specs.Tokens.{Lexes, end}
use Rattle.m_terms.specs.Depth.{first_too_deep}
use Rattle.m_items.specs.Faults.{IsShallow}
use Rattle.m_large.specs.Large.{declaration, declarations, rule, rules, first_rule, check, base_text}
use Rattle.large_validity.proofs.Pieces.{Piece, space, feed, plain, reserved, named, digits, quoted, mark, after, tokens_before, pieces_lex}
use Rattle.large_validity.proofs.Numerals.{whole_decimal, whole_zero, whole_one, whole_thousand, zero_digit, one_digit}

abbrev pub colon : List Piece → List Piece
colon xs = space ∷ mark signs.Colon ∷ space ∷ xs

abbrev pub ending : List Piece → List Piece
ending xs = space ∷ mark signs.Semicolon ∷ feed ∷ xs

-- `R0 : saisie revenu classe = 0 alias C0 : "r" ;`
abbrev pub input_line : List ℕ → List Piece → List Piece
input_line d xs =
    named 82 d ∷ colon (reserved keys.Saisie ∷ space ∷ plain (codes "revenu") ∷ space ∷ plain (codes "classe") ∷ space ∷ mark signs.Equal ∷ space ∷ digits
    (codes "0")
    ∷ space ∷ reserved keys.Alias ∷ space ∷ named 67 d ∷ colon (quoted (codes "r") ∷ ending xs))

-- `T0 : calculee : "t" ;`
abbrev pub sum_line : List ℕ → List Piece → List Piece
sum_line d xs = named 84 d ∷ colon (reserved keys.Calculee ∷ colon (quoted (codes "t") ∷ ending xs))

abbrev pub declaration_line : List ℕ → List Piece
declaration_line d = input_line d (sum_line d [])

-- ` application : iliad ;`
abbrev pub application : List Piece → List Piece
application xs = reserved keys.Application ∷ colon (plain (codes "iliad") ∷ ending xs)

-- `T1 = `
abbrev pub target : List ℕ → List Piece → List Piece
target k xs = named 84 k ∷ space ∷ mark signs.Equal ∷ space ∷ xs

-- `max(0, `
abbrev pub opened : List Piece → List Piece
opened xs = reserved keys.Max ∷ mark signs.OpenParen ∷ digits (codes "0") ∷ mark signs.Comma ∷ space ∷ xs

-- `max(0, R1 - 1000)`
abbrev pub called : List ℕ → List Piece → List Piece
called k xs = opened (named 82 k ∷ space ∷ mark signs.Minus ∷ space ∷ digits (codes "1000") ∷ mark signs.CloseParen ∷ xs)

-- `T1 = max(0, R1 - 1000)`
abbrev pub maximum : List ℕ → List Piece → List Piece
maximum k xs = target k (called k xs)

-- ` + `
abbrev pub plus : List Piece → List Piece
plus xs = space ∷ mark signs.Plus ∷ space ∷ xs

abbrev pub head_line : List ℕ → List Piece → List Piece
head_line number xs = reserved keys.Regle ∷ space ∷ digits number ∷ colon (application xs)

abbrev pub rule_line : List ℕ → List ℕ → List ℕ → List Piece
rule_line number k j = head_line number (maximum k (plus (named 84 j ∷ ending [])))

abbrev pub first_line : List Piece
first_line = head_line (codes "1") (maximum (codes "0") (ending []))

-- `E1 : anomalie : "E" : "1" : "0" : "negative" ;`
abbrev pub error_line : List Piece → List Piece
error_line xs =
    named 69 (codes "1") ∷ colon (reserved keys.Anomalie ∷ colon (quoted (codes "E") ∷ colon (quoted (codes "1") ∷ colon (quoted (codes "0")
    ∷ colon (quoted (codes "negative") ∷ ending xs)))))

-- `verif 1 : application : iliad ;` and `si T2 < 0 alors erreur E1 ;`
abbrev pub verification_line : List ℕ → List Piece → List Piece
verification_line k xs =
    reserved keys.Verif ∷ space ∷ digits (codes "1") ∷ colon (application (reserved keys.Si ∷ space ∷ named 84 k ∷ space ∷ mark signs.Less ∷ space
    ∷ digits (codes "0") ∷ space ∷ reserved keys.Alors ∷ space ∷ reserved keys.Erreur ∷ space ∷ named 69 (codes "1") ∷ ending xs))

abbrev pub check_line : List ℕ → List Piece
check_line k = error_line (verification_line k [])

-- ---- the sequence of lines

abbrev pub declared_after : Place → ℕ → Place
declared_after p zero = p
declared_after p (suc k) = after (declared_after p k) (declaration_line (decimal k))

abbrev pub declaration_tokens : Place → ℕ → List Token → List Token
declaration_tokens p zero ts = ts
declaration_tokens p (suc k) ts = declaration_tokens p k (tokens_before (declared_after p k) (declaration_line (decimal k)) ts)

abbrev pub numbered_line : ℕ → List Piece
numbered_line j = rule_line (decimal (j + 2)) (decimal (suc j)) (decimal j)

abbrev pub rules_after : Place → ℕ → Place
rules_after p zero = p
rules_after p (suc j) = rules_after (after p (numbered_line j)) j

abbrev pub rule_tokens : Place → ℕ → List Token → List Token
rule_tokens p zero ts = ts
rule_tokens p (suc j) ts = tokens_before p (numbered_line j) (rule_tokens (after p (numbered_line j)) j ts)

abbrev pub end_tokens : Place → ℕ → List Token
end_tokens p k = tokens_before p first_line (tokens_before (after p first_line) (check_line (decimal k)) [])

abbrev pub base_tokens : Place → ℕ → List Token
base_tokens p n =
    declaration_tokens p n (rule_tokens (declared_after p n) (n - 1) (end_tokens (rules_after (declared_after p n) (n - 1)) (n - 1)))

-- ---- their tokens

pub declarations_lex : (n : ℕ) → n ≤ 100000 → (rest : List ℕ) (p : Place) (ts : List Token) → Lexes (declared_after p n) rest ts
    → Lexes p (declarations n ++ rest) (declaration_tokens p n ts)
declarations_lex zero h rest p ts l = l
declarations_lex (suc k) h rest p ts l =
    let d = (whole_decimal k (omega arith)).are.1 in
    let q = declared_after p k in
    let us = tokens_before q (declaration_line (decimal k)) ts in
    subst (λ t. Lexes p t (declaration_tokens p k us)) (sym (append_assoc (declarations k) (declaration k) rest))
    (declarations_lex k (omega arith) (declaration k ++ rest) p us (pieces_lex (declaration_line (decimal k)) (d, (whole_zero, (d, (d, tt)))) refl rest q ts l))

pub rules_lex : (n : ℕ) → n < 100000 → (rest : List ℕ) (p : Place) (ts : List Token) → Lexes (rules_after p n) rest ts
    → Lexes p (rules n ++ rest) (rule_tokens p n ts)
rules_lex zero h rest p ts l = l
rules_lex (suc j) h rest p ts l =
    let d = (whole_decimal (suc j) (omega arith)).are.1 in
    let e = (whole_decimal j (omega arith)).are.1 in
    let q = after p (numbered_line j) in
    subst (λ t. Lexes p t (rule_tokens p (suc j) ts)) (sym (append_assoc (rule (j + 2) (suc j) j) (rules j) rest))
    (pieces_lex (numbered_line j) (whole_decimal (j + 2) (omega arith), (d, (whole_zero, (d, (whole_thousand, (e, tt)))))) refl (rules j ++ rest) p
    (rule_tokens q j ts) (rules_lex j (omega arith) rest q ts l))

end_lexes : (k : ℕ) → k ≤ 100000 → (p : Place) → Lexes p (first_rule ++ (check k ++ [])) (end_tokens p k)
end_lexes k h p =
    let d = (whole_decimal k h).are.1 in
    let q = after p first_line in
    pieces_lex first_line (whole_one, (zero_digit, (whole_zero, (zero_digit, (whole_thousand, tt))))) refl (check k ++ []) p
    (tokens_before q (check_line (decimal k)) [])
    (pieces_lex (check_line (decimal k)) (one_digit, (whole_one, (d, (whole_zero, (one_digit, tt))))) refl [] q [] end)

-- The tokens of the rule base of `large N`.
pub base_lexes : (n : ℕ) → 1 ≤ n → n ≤ 100000 → (p : Place) → Lexes p (base_text n) (base_tokens p n)
base_lexes n some few p =
    let q = declared_after p n in
    let r = rules_after q (n - 1) in
    declarations_lex n few (rules (n - 1) ++ (first_rule ++ (check (n - 1) ++ []))) p (rule_tokens q (n - 1) (end_tokens r (n - 1)))
    (rules_lex (n - 1) (omega arith) (first_rule ++ (check (n - 1) ++ [])) q (end_tokens r (n - 1)) (end_lexes (n - 1) (omega arith) r))

-- ---- brackets

declarations_shallow : (n : ℕ) (p : Place) (ts : List Token) → first_too_deep BRACKET_DEPTH 0 (declaration_tokens p n ts) ≡ first_too_deep BRACKET_DEPTH 0 ts
declarations_shallow zero p ts = refl
declarations_shallow (suc k) p ts = declarations_shallow k p (tokens_before (declared_after p k) (declaration_line (decimal k)) ts)

rules_shallow : (n : ℕ) (p : Place) (ts : List Token) → first_too_deep BRACKET_DEPTH 0 (rule_tokens p n ts) ≡ first_too_deep BRACKET_DEPTH 0 ts
rules_shallow zero p ts = refl
rules_shallow (suc j) p ts = rules_shallow j (after p (numbered_line j)) ts

-- Their brackets are nested one deep at most.
pub base_shallow : (n : ℕ) (p : Place) → IsShallow (base_tokens p n)
base_shallow n p =
    let q = declared_after p n in
    let r = rules_after q (n - 1) in
    declarations_shallow n p (rule_tokens q (n - 1) (end_tokens r (n - 1))) ∙ rules_shallow (n - 1) q (end_tokens r (n - 1))
