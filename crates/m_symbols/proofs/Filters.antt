-- `filter_map`, one element at a time.
use Rattle.std.proofs.Common.{◌≡◌, ◌<◌, ◌+◌, ℕ, List, [], ◌∷◌, ◌++◌, length, take, Option, Some, sym, ap, ◌∙◌, slice_get}
use Rattle.std.specs.List.{filter_map, cons_option}
use Rattle.std.proofs.lemmas.List.{take_more}
use Rattle.std.proofs.lemmas.Option.{get_or_from_slice_get}
use Rattle.m_symbols.proofs.Added.{filter_map-push}

pub filter_map_more : {X Y : Type 0} (f : X → Option Y) (xs : List X) (i : ℕ) (x : X) (before now : List Y) → i < length xs → slice_get xs i ≡ Some x
    → before ≡ filter_map f (take i xs) → now ≡ before ++ cons_option (f x) []
    → now ≡ filter_map f (take (i + 1) xs)
filter_map_more f xs i x before now h e b n =
    let one : take (i + 1) xs ≡ take i xs ++ x ∷ [] = take_more xs i x h ∙ ap (λ w. take i xs ++ w ∷ []) (get_or_from_slice_get xs i x x e) in
    n ∙ ap (λ l. l ++ cons_option (f x) []) b ∙ sym (filter_map-push f (take i xs) x) ∙ ap (filter_map f) (sym one)
