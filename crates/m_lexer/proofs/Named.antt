-- Signs and reserved words have distinct spellings.
use Rattle.std.proofs.Common.{◌≡◌, List, [], ◌∷◌, ℕ, cond, refl, sym, ap, ◌∙◌}
use Rattle.std.specs.Str.{bytes_eq}
use Rattle.m_lexer.specs.declared.token.Sign.{Sign}
use Rattle.m_lexer.specs.declared.token.Sign.TheVariants as signs
use Rattle.m_lexer.specs.declared.token.Key.{Key}
use Rattle.m_lexer.specs.declared.token.Key.TheVariants as keys
use Rattle.m_lexer.specs.Spellings.{sign_spelling, key_spelling}

-- the first row of a table with this spelling, or `other`
abbrev spelled_in : {T : Type 0} → (T → List ℕ) → T → List T → List ℕ → T
spelled_in spelling other [] t = other
spelled_in spelling other (row ∷ rows) t = cond (bytes_eq t (spelling row)) row (spelled_in spelling other rows t)

abbrev all_signs : List Sign
all_signs =
    signs.Plus ∷ signs.Minus ∷ signs.Star ∷ signs.Slash ∷ signs.Equal ∷ signs.NotEqual ∷ signs.Less ∷
    signs.LessEqual ∷ signs.Greater ∷ signs.GreaterEqual ∷ signs.OpenParen ∷ signs.CloseParen ∷ signs.OpenBracket ∷
    signs.CloseBracket ∷ signs.Comma ∷ signs.Semicolon ∷ signs.Colon ∷ signs.Range ∷ []

abbrev all_keys : List Key
all_keys =
    keys.Regle ∷ keys.Verif ∷ keys.Application ∷ keys.Enchaineur ∷ keys.Si ∷ keys.Alors ∷ keys.Sinon ∷ keys.Finsi ∷
    keys.Erreur ∷ keys.Saisie ∷ keys.Calculee ∷ keys.Const ∷ keys.Tableau ∷ keys.Alias ∷ keys.TypeKey ∷ keys.Pour ∷
    keys.Un ∷ keys.Dans ∷ keys.Et ∷ keys.Ou ∷ keys.Non ∷ keys.Somme ∷ keys.Present ∷ keys.Positif ∷
    keys.PositifOuNul ∷ keys.Null ∷ keys.Arr ∷ keys.Inf ∷ keys.Abs ∷ keys.Max ∷ keys.Min ∷ keys.Anomalie ∷
    keys.Discordance ∷ keys.Informative ∷ keys.X ∷ []

sign_found : (s : Sign) → spelled_in sign_spelling signs.Range all_signs (sign_spelling s) ≡ s
sign_found signs.Plus = refl
sign_found signs.Minus = refl
sign_found signs.Star = refl
sign_found signs.Slash = refl
sign_found signs.Equal = refl
sign_found signs.NotEqual = refl
sign_found signs.Less = refl
sign_found signs.LessEqual = refl
sign_found signs.Greater = refl
sign_found signs.GreaterEqual = refl
sign_found signs.OpenParen = refl
sign_found signs.CloseParen = refl
sign_found signs.OpenBracket = refl
sign_found signs.CloseBracket = refl
sign_found signs.Comma = refl
sign_found signs.Semicolon = refl
sign_found signs.Colon = refl
sign_found signs.Range = refl

pub one_sign : (s u : Sign) → sign_spelling s ≡ sign_spelling u → s ≡ u
one_sign s u e = sym (sign_found s) ∙ ap (spelled_in sign_spelling signs.Range all_signs) e ∙ sign_found u

key_found : (k : Key) → spelled_in key_spelling keys.X all_keys (key_spelling k) ≡ k
key_found keys.Regle = refl
key_found keys.Verif = refl
key_found keys.Application = refl
key_found keys.Enchaineur = refl
key_found keys.Si = refl
key_found keys.Alors = refl
key_found keys.Sinon = refl
key_found keys.Finsi = refl
key_found keys.Erreur = refl
key_found keys.Saisie = refl
key_found keys.Calculee = refl
key_found keys.Const = refl
key_found keys.Tableau = refl
key_found keys.Alias = refl
key_found keys.TypeKey = refl
key_found keys.Pour = refl
key_found keys.Un = refl
key_found keys.Dans = refl
key_found keys.Et = refl
key_found keys.Ou = refl
key_found keys.Non = refl
key_found keys.Somme = refl
key_found keys.Present = refl
key_found keys.Positif = refl
key_found keys.PositifOuNul = refl
key_found keys.Null = refl
key_found keys.Arr = refl
key_found keys.Inf = refl
key_found keys.Abs = refl
key_found keys.Max = refl
key_found keys.Min = refl
key_found keys.Anomalie = refl
key_found keys.Discordance = refl
key_found keys.Informative = refl
key_found keys.X = refl

pub one_key : (k l : Key) → key_spelling k ≡ key_spelling l → k ≡ l
one_key k l e = sym (key_found k) ∙ ap (spelled_in key_spelling keys.X all_keys) e ∙ key_found l
