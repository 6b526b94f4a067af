-- Rule files have no more items than bytes.
use Rattle.std.proofs.Common.{◌≡◌, ℕ, ◌+◌, ◌<◌, ◌≤◌, ◌^◌, List, [], ◌∷◌, ◌++◌, length, ap, length-append, arith}
use Rattle.m_places.specs.declared.place.Place.{Place}
use Rattle.m_places.specs.declared.limits.TheConstants.{RULE_BYTES}
use Rattle.m_places.specs.declared.source.Text.{Text}
use Rattle.m_places.specs.SourceLimits.{all_bytes}
use Rattle.m_lexer.specs.declared.token.Token.{Token}
use Rattle.m_lexer.specs.Spellings.{IsPiece}
use Rattle.m_lexer.specs.Tokens.{Lexes, end, gap, token}
use Rattle.m_lexer.proofs.Pieces.{not_empty}
use Rattle.m_ast.specs.declared.item.Item.{Item}
use Rattle.m_terms.proofs.Passes.{behind_shorter}
use Rattle.m_items.specs.Many.{no_more, one_more}
use Rattle.m_items.specs.Grammar.{SpellsItems}
use Rattle.m_items.proofs.ItemLaws.{item_passes}
use Rattle.rule_base.specs.Files.{SayAll, no_files, a_file}

some_bytes : (t : List ℕ) → IsPiece t → 0 < length t
some_bytes [] h = absurd (not_empty h)
some_bytes (b ∷ t) h = omega arith

-- a file has no more tokens than bytes
tokens_few : {p : Place} {bytes : List ℕ} {tokens : List Token} → Lexes p bytes tokens → length tokens ≤ length bytes
tokens_few end = omega arith
tokens_few (gap {t = t} {rest = rest} l g more) = omega (arith, ap length l.parts, length-append t rest, tokens_few more)
tokens_few (token {t = t} {rest = rest} l s more) = omega (arith, ap length l.parts, length-append t rest, some_bytes t l.piece, tokens_few more)

-- nor more items than tokens
items_few : {xs : List Item} {ts r : List Token} → SpellsItems xs ts r → length xs + length r ≤ length ts
items_few no_more = omega arith
items_few (one_more d e) = omega (arith, behind_shorter (item_passes _ _ _ d), items_few e)

all_few : {number : ℕ} {texts : List Text} {items : List Item} → SayAll number texts items → length items ≤ all_bytes texts
all_few no_files = omega arith
all_few (a_file {items = items} {others = others} s more) = omega (arith, length-append items others, items_few s.spelled, tokens_few s.lexed, all_few more)

-- a number counts them
pub counted : {number : ℕ} {texts : List Text} {items : List Item} → SayAll number texts items → all_bytes texts ≤ RULE_BYTES → length items < 2 ^ 32
counted s total = omega (arith, all_few s, total)
