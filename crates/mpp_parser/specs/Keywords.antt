-- The reserved words of a driver.
use Rattle.std.specs.Prelude.{ℕ, List, Option, Some, None, codes, if◌then◌else◌}
use Rattle.std.specs.Str.{bytes_eq}
use Rattle.mpp_parser.specs.declared.keyword.Keyword.{Keyword}
use Rattle.mpp_parser.specs.declared.keyword.Keyword.TheVariants.{Del, If, Else, Partition, With, And, Or, Not, Present, Cast, Exists}

-- the keywords of terms
unfoldable pub operator_keyword_of : List ℕ → Option Keyword
operator_keyword_of word =
    if bytes_eq word (codes "and") then Some And else
    if bytes_eq word (codes "or") then Some Or else
    if bytes_eq word (codes "not") then Some Not else
    if bytes_eq word (codes "present") then Some Present else
    if bytes_eq word (codes "cast") then Some Cast else
    if bytes_eq word (codes "exists") then Some Exists else None

-- The keyword that a word is. `else` is one; `Else`, `taxbenefit` and `REV` aren't.
unfoldable pub keyword_of : List ℕ → Option Keyword
keyword_of word =
    if bytes_eq word (codes "del") then Some Del else
    if bytes_eq word (codes "if") then Some If else
    if bytes_eq word (codes "else") then Some Else else
    if bytes_eq word (codes "partition") then Some Partition else
    if bytes_eq word (codes "with") then Some With else operator_keyword_of word
