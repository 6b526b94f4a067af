-- Concatenating the items of files.
use Rattle.std.proofs.Common.{◌≡◌, List, [], ◌∷◌, ◌++◌, sym, ap, ◌∙◌, append_assoc}
use Rattle.std.proofs.lemmas.List.{append-nil}
use Rattle.m_ast.specs.declared.item.Item.{Item}
use Rattle.rule_base.specs.Files.{all_items}

all_items-push : (files : List (List Item)) (items : List Item) → all_items (files ++ items ∷ []) ≡ all_items files ++ items
all_items-push [] items = append-nil items
all_items-push (file ∷ files) items = ap (λ (l : List Item). file ++ l) (all_items-push files items) ∙ sym (append_assoc file (all_items files) items)

-- one more file
pub joined_next : (files : List (List Item)) (before new items : List Item) (file : List Item) → new ≡ before ++ items → items ≡ file → before ≡ all_items files
    → new ≡ all_items (files ++ file ∷ [])
joined_next files before new items file n i b = n ∙ (λ k. b k ++ i k) ∙ sym (all_items-push files file)
