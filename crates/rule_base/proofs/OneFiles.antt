-- Files parse to one list of items or have one first error, and not both.
use Rattle.std.proofs.Common.{◌≡◌, ◌+◌, ℕ, List, [], ◌∷◌, ◌++◌, All, refl, ap, subst}
use Rattle.std.proofs.lemmas.List.Elements.{All-nil, All-append}
use Rattle.m_places.specs.declared.source.Text.{Text}
use Rattle.m_lexer.specs.Tokens.{start_of}
use Rattle.m_lexer.proofs.OneReading.{one_list, no_list_and_fault as no_tokens_and_fault, one_first_fault}
use Rattle.m_ast.specs.declared.item.Item.{Item}
use Rattle.m_ast.specs.Whole.{IsWholeItem}
use Rattle.m_items.specs.Grammar.{SpellsItems}
use Rattle.m_items.specs.Faults.{IsParseFault}
use Rattle.m_items.proofs.OneLaws.{items_one}
use Rattle.m_items.proofs.FaultLaws.{no_list_and_fault, one_fault, items_whole}
use Rattle.rule_base.specs.declared.read_fault.ReadFault.{ReadFault}
use Rattle.rule_base.specs.declared.read_fault.ReadFault.TheVariants.{Lex, Parse}
use Rattle.rule_base.specs.Files.{all_items, SaysItems, IsFileFault, of_tokens, of_items, SayEach, none_each, one_each, SayAll, no_files, a_file}
use Rattle.rule_base.specs.Files.{IsFirstFileFault, here, later}

-- One file.
meaning_one : (number : ℕ) (text : Text) (xs ys : List Item) → SaysItems number text xs → SaysItems number text ys → xs ≡ ys
meaning_one number text xs ys a b =
    let e = one_list (start_of number) text.bytes a.tokens b.tokens a.lexed b.lexed in
    items_one xs ys b.tokens [] (subst (λ ts. SpellsItems xs ts []) e a.spelled) b.spelled

meaning_or_fails : (number : ℕ) (text : Text) (xs : List Item) (fault : ReadFault) → SaysItems number text xs → IsFileFault number text fault → ⊥
meaning_or_fails number text xs _ s (of_tokens {fault = f} h) = no_tokens_and_fault (start_of number) text.bytes s.tokens f s.lexed h
meaning_or_fails number text xs _ s (of_items {fault = f} tokens l h) =
    let e = one_list (start_of number) text.bytes tokens s.tokens l s.lexed in
    no_list_and_fault xs s.tokens f s.shallow s.spelled (subst (λ ts. IsParseFault ts f) e h)

fails_once : (number : ℕ) (text : Text) (fault other : ReadFault) → IsFileFault number text fault → IsFileFault number text other → fault ≡ other
fails_once number text _ _ (of_tokens {fault = f} h) (of_tokens {fault = g} k) = ap Lex (one_first_fault (start_of number) text.bytes f g h k)
fails_once number text _ _ (of_tokens {fault = f} h) (of_items tokens l k) = absurd (no_tokens_and_fault (start_of number) text.bytes tokens f l h)
fails_once number text _ _ (of_items tokens l k) (of_tokens {fault = f} h) = absurd (no_tokens_and_fault (start_of number) text.bytes tokens f l h)
fails_once number text _ _ (of_items {fault = f} tokens l h) (of_items {fault = g} others m k) =
    let e = one_list (start_of number) text.bytes tokens others l m in
    ap Parse (one_fault others f g (subst (λ ts. IsParseFault ts f) e h) k)

-- Files in their order.
pub mean_one : (number : ℕ) (texts : List Text) (xs ys : List Item) → SayAll number texts xs → SayAll number texts ys → xs ≡ ys
mean_one number _ _ _ no_files no_files = refl
mean_one number _ _ _ (a_file {text = t} {texts = ts} {items = a} {others = ys} s h) (a_file {items = b} {others = zs} u k) =
    let front = meaning_one number t a b s u in
    let behind = mean_one (number + 1) ts ys zs h k in
    λ i. front i ++ behind i

pub mean_or_fail : (number : ℕ) (texts : List Text) (xs : List Item) (fault : ReadFault) → SayAll number texts xs → IsFirstFileFault number texts fault → ⊥
mean_or_fail number _ _ fault no_files f = elim f [ ]
mean_or_fail number _ _ fault (a_file {text = t} {items = a} s h) (here f) = meaning_or_fails number t a fault s f
mean_or_fail number _ _ fault (a_file {texts = ts} {others = ys} s h) (later u k) = mean_or_fail (number + 1) ts ys fault h k

pub fail_once : (number : ℕ) (texts : List Text) (fault other : ReadFault) → IsFirstFileFault number texts fault → IsFirstFileFault number texts other
    → fault ≡ other
fail_once number _ fault other (here {text = t} f) (here g) = fails_once number t fault other f g
fail_once number _ fault other (here {text = t} f) (later {items = a} s k) = absurd (meaning_or_fails number t a fault s f)
fail_once number _ fault other (later {items = a} s k) (here {text = t} f) = absurd (meaning_or_fails number t a other s f)
fail_once number _ fault other (later {texts = ts} s h) (later u k) = fail_once (number + 1) ts fault other h k

-- Each file by itself.
pub each_one : (number : ℕ) (texts : List Text) (files others : List (List Item)) → SayEach number texts files → SayEach number texts others → files ≡ others
each_one number _ _ _ none_each none_each = refl
each_one number _ _ _ (one_each {text = t} {texts = ts} {items = a} {others = fs} s h) (one_each {items = b} {others = gs} u k) =
    let front = meaning_one number t a b s u in
    let behind = each_one (number + 1) ts fs gs h k in
    λ i. front i ∷ behind i

pub each_or_fail : (number : ℕ) (texts : List Text) (files : List (List Item)) (fault : ReadFault) → SayEach number texts files
    → IsFirstFileFault number texts fault → ⊥
each_or_fail number _ _ fault none_each f = elim f [ ]
each_or_fail number _ _ fault (one_each {text = t} {items = a} s h) (here f) = meaning_or_fails number t a fault s f
each_or_fail number _ _ fault (one_each {texts = ts} {others = fs} s h) (later u k) = each_or_fail (number + 1) ts fs fault h k

-- all items are those of each file, concatenated
pub stated_all : (number : ℕ) (texts : List Text) (files : List (List Item)) → SayEach number texts files → SayAll number texts (all_items files)
stated_all number _ _ none_each = no_files
stated_all number _ _ (one_each {texts = ts} {others = fs} s h) = a_file s (stated_all (number + 1) ts fs h)

pub stated_whole : (number : ℕ) (texts : List Text) (items : List Item) → SayAll number texts items → All IsWholeItem items
stated_whole number _ _ no_files = All-nil IsWholeItem
stated_whole number _ _ (a_file {texts = ts} {items = a} {others = is} s h) = All-append IsWholeItem a is (items_whole s.spelled)
    (stated_whole (number + 1) ts is h)
