-- The words of errors: one more of them, those at a number, and the labels that they determine.
use Rattle.std.proofs.Common.{◌≡◌, ◌<◌, ◌+◌, ℕ, List, [], ◌∷◌, ◌++◌, length, take, map, get_or, Option, Some, None, refl, sym, ap, ◌∙◌, slice_get}
use Rattle.std.specs.Option.{option_map}
use Rattle.std.proofs.lemmas.List.{take_more, map-append, length-map}
use Rattle.std.proofs.lemmas.Option.{get_or_from_slice_get, slice_get-map, slice_get_read}
use Rattle.m_ast.specs.declared.item.ErrorItem.{ErrorItem}
use Rattle.m_ast.specs.declared.plain_rules.Condition.{Condition}
use Rattle.m_resolve.specs.declared.checks.ErrorWords.{ErrorWords}
use Rattle.m_resolve.specs.Bases.{resolved_label}
use Rattle.m_resolve.specs.inner.Words.{words_of, resolved_with}

-- the words of the errors up to here, and of one more
pub words_more : (errors : List ErrorItem) (i : ℕ) (e : ErrorItem) (before now : List ErrorWords) → i < length errors → slice_get errors i ≡ Some e
    → before ≡ map words_of (take i errors) → now ≡ before ++ words_of e ∷ []
    → now ≡ map words_of (take (i + 1) errors)
words_more errors i e before now h is b n =
    let one : take (i + 1) errors ≡ take i errors ++ e ∷ [] = take_more errors i e h
    ∙ ap (λ w. take i errors ++ w ∷ []) (get_or_from_slice_get errors i e e is) in
    n ∙ ap (λ l. l ++ words_of e ∷ []) b ∙ sym (map-append words_of (take i errors) (e ∷ [])) ∙ ap (map words_of) (sym one)

-- the words at an index are those of the error there
pub words_there : (errors : List ErrorItem) (all : List ErrorWords) (i : ℕ) (words : ErrorWords) → all ≡ map words_of errors → i < length errors
    → words ≡ get_or all i words → option_map words_of (slice_get errors i) ≡ Some words
words_there errors all i words e h is =
    let count : length all ≡ length errors = ap length e ∙ length-map errors words_of in
    sym (slice_get-map words_of errors i) ∙ ap (λ l. slice_get l i) (sym e) ∙ slice_get_read all (length errors) i words (sym count) h is

-- a label depends only on the words of its error
pub stated_by_words : (condition : Condition) (error : Option ErrorItem) → resolved_label condition error ≡ resolved_with condition (option_map words_of error)
stated_by_words condition None = refl
stated_by_words condition (Some e) = refl
