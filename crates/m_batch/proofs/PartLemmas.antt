-- The answers of all parts, joined, are the answers of the whole.
use Rattle.std.proofs.Common.{◌≡◌, ℕ, ◌+◌, ◌*◌, ◌<◌, ◌≤◌, length, get_or, take, drop, List, ◌++◌, Ok, Err, refl, sym, ◌∙◌, ap, Result, Vec}
use Rattle.std.specs.Prelude.{map, IfOk}
use Rattle.std.specs.declared.alloc.Global.{Global}
use Rattle.std.proofs.lemmas.List.{map-append, take-append-drop}
use Rattle.workers.specs.Parts.{behind, joined, part_at}
use Rattle.workers.proofs.PartLemmas.{of_parts, stated_of_parts}

-- the result for each part is a map of it, so the joined results are the map of the whole
abbrev IsMapped : {X Y E : Type 0} → (X → Y) → ℕ → List X → Result (List Y) E → Type 0
IsMapped f at items all = IfOk all (λ ys. ys ≡ map f items)

more : {X Y E : Type 0} (f : X → Y) (size at : ℕ) (items : List X) (made : List Y) (rest : Result (List Y) E) → made ≡ map f (take size items)
    → IsMapped f (at + size) (drop size items) rest → IsMapped f at items (behind made rest)
more f size at items made (Ok rest) gave is =
    (λ i. gave i ++ is i) ∙ sym (map-append f (take size items) (drop size items)) ∙ ap (map f) (take-append-drop size items)
more f size at items made (Err fault) gave is = tt

-- the joined results of the parts
pub mapped : {X Y E : Type 0} (f : X → Y) (size : ℕ) (items : List X) (parts : List (Result (Vec Y Global) E))
    → ((n : ℕ) (d : Result (Vec Y Global) E) → n < length parts → IfOk (get_or parts n d) (λ made. made.items ≡ map f (part_at items size (n * size))))
    → ((n : ℕ) → n < length parts → n * size < length items) → length items ≤ length parts * size → IfOk (joined parts) (λ ys. ys ≡ map f items)
mapped {X} {Y} {E} f size items parts each inside reach =
    let gives : ℕ → List X → Result (Vec Y Global) E → Type 0 = λ at part made. IfOk made (λ v. v.items ≡ map f part) in
    stated_of_parts gives size (IsMapped f) (λ at. refl) (λ at items fault some gave. tt)
    (λ at items made rest some gave stated. more f size at items made.items rest gave stated) 0 items parts (of_parts gives size items parts each inside reach)
