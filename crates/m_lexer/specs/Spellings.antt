-- The spellings of gaps and tokens, as lists of bytes. Words, numbers, quoted texts and comments
-- are those of m_text.
use Rattle.std.specs.Prelude.{◌≡◌, ℕ, List, [], ◌∷◌, codes}
use Rattle.m_text.specs.Bytes.{IsBlankByte}
use Rattle.m_text.specs.Words.{IsComment, IsNumber, IsQuoted, IsWord}
use Rattle.m_lexer.specs.declared.token.Key.{Key}
use Rattle.m_lexer.specs.declared.token.Key.TheVariants.{Regle, Verif, Application, Enchaineur, Si, Alors, Sinon, Finsi, Erreur, Saisie, Calculee, Const}
use Rattle.m_lexer.specs.declared.token.Key.TheVariants.{Tableau, Alias, TypeKey, Pour, Un, Dans, Et, Ou, Non, Somme, Present, Positif, PositifOuNul, Null, Arr}
use Rattle.m_lexer.specs.declared.token.Key.TheVariants.{Inf, Abs, Max, Min, Anomalie, Discordance, Informative, X}
use Rattle.m_lexer.specs.declared.token.Sign.{Sign}
use Rattle.m_lexer.specs.declared.token.Sign.TheVariants.{Plus, Minus, Star, Slash, Equal, NotEqual, Less, LessEqual, Greater, GreaterEqual, OpenParen}
use Rattle.m_lexer.specs.declared.token.Sign.TheVariants.{CloseParen, OpenBracket, CloseBracket, Comma, Semicolon, Colon, Range}

-- one blank byte
abbrev pub IsBlank : List ℕ → Type 0
IsBlank t = (b : ℕ) × IsBlankByte b × (t ≡ b ∷ [])

-- the spelling of each sign
abbrev pub sign_spelling : Sign → List ℕ
sign_spelling Plus = codes "+"
sign_spelling Minus = codes "-"
sign_spelling Star = codes "*"
sign_spelling Slash = codes "/"
sign_spelling Equal = codes "="
sign_spelling NotEqual = codes "!="
sign_spelling Less = codes "<"
sign_spelling LessEqual = codes "<="
sign_spelling Greater = codes ">"
sign_spelling GreaterEqual = codes ">="
sign_spelling OpenParen = codes "("
sign_spelling CloseParen = codes ")"
sign_spelling OpenBracket = codes "["
sign_spelling CloseBracket = codes "]"
sign_spelling Comma = codes ","
sign_spelling Semicolon = codes ";"
sign_spelling Colon = codes ":"
sign_spelling Range = codes ".."

-- the spelling of each reserved word
abbrev pub key_spelling : Key → List ℕ
key_spelling Regle = codes "regle"
key_spelling Verif = codes "verif"
key_spelling Application = codes "application"
key_spelling Enchaineur = codes "enchaineur"
key_spelling Si = codes "si"
key_spelling Alors = codes "alors"
key_spelling Sinon = codes "sinon"
key_spelling Finsi = codes "finsi"
key_spelling Erreur = codes "erreur"
key_spelling Saisie = codes "saisie"
key_spelling Calculee = codes "calculee"
key_spelling Const = codes "const"
key_spelling Tableau = codes "tableau"
key_spelling Alias = codes "alias"
key_spelling TypeKey = codes "type"
key_spelling Pour = codes "pour"
key_spelling Un = codes "un"
key_spelling Dans = codes "dans"
key_spelling Et = codes "et"
key_spelling Ou = codes "ou"
key_spelling Non = codes "non"
key_spelling Somme = codes "somme"
key_spelling Present = codes "present"
key_spelling Positif = codes "positif"
key_spelling PositifOuNul = codes "positif_ou_nul"
key_spelling Null = codes "null"
key_spelling Arr = codes "arr"
key_spelling Inf = codes "inf"
key_spelling Abs = codes "abs"
key_spelling Max = codes "max"
key_spelling Min = codes "min"
key_spelling Anomalie = codes "anomalie"
key_spelling Discordance = codes "discordance"
key_spelling Informative = codes "informative"
key_spelling X = codes "X"

-- A piece of a file: a gap or the spelling of a token. A reserved word is a word here, and a number
-- of any size is one.
pub data IsPiece : List ℕ → Type 0 where
  blank : {t : List ℕ} → IsBlank t → IsPiece t
  comment : {t : List ℕ} → IsComment t → IsPiece t
  word : {t : List ℕ} → IsWord t → IsPiece t
  number : {t : List ℕ} → IsNumber t → IsPiece t
  text : {t : List ℕ} (inside : List ℕ) → IsQuoted t inside → IsPiece t
  sign : {t : List ℕ} (s : Sign) → t ≡ sign_spelling s → IsPiece t
