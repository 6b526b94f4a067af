-- The error of a list, from the error of one element.
use Rattle.std.proofs.Common.{◌≡◌, ◌<◌, ◌+◌, ℕ, suc, List, [], ◌∷◌, ◌++◌, length, drop, get_or, Result, Ok, Err, sym, ap, ◌∙◌, arith}
use Rattle.std.proofs.Math.Seq.{drop-cons}
use Rattle.m_ast.specs.Syntax.{Syntax}
use Rattle.m_ast.specs.View.{terms_of}
use Rattle.m_ast.specs.PlainView.{links_of}
use Rattle.m_ast.specs.declared.plain_term.PLink.{PLink}
use Rattle.m_symbols.specs.Declarations.{Declared}
use Rattle.micro_m.specs.Trees.{Tree, chain}
use Rattle.micro_m.specs.Views.{steps_of}
use Rattle.micro_m.specs.declared.term.Step.{Step}
use Rattle.m_resolve.specs.Terms.{if_resolved, resolved_term, resolved_terms, resolved_links}
use Rattle.micro_m.specs.Bases.{Definition as CellDefinition}
use Rattle.m_ast.specs.declared.plain_rules.Definition.{Definition}
use Rattle.m_ast.specs.declared.plain_rules.Condition.{Condition}
use Rattle.m_resolve.specs.Bases.{Checks, resolved_conditions, resolved_label, error_named, resolved_definitions, new_target, cells_of, resolved_target}
use Rattle.m_resolve.specs.declared.fault.ResolveFault.{ResolveFault}

-- the elements from i on are the one at i and those after it
pub drop_next : {A : Type 0} (xs : List A) (i : ℕ) (x : A) → i < length xs → x ≡ get_or xs i x → drop i xs ≡ x ∷ drop (i + 1) xs
drop_next xs i x h e = let one : suc i ≡ i + 1 = omega arith in drop-cons xs i x h ∙ (λ k. sym e k ∷ drop (one k) xs)

pub terms_fault : (d : Declared) (before : List Tree) (all : List Syntax) (i : ℕ) (a : Syntax) (whole : Result (List Tree) ResolveFault) (fault : ResolveFault)
    → i < length all → a ≡ get_or all i a
    → resolved_terms d before (terms_of (drop i all)) ≡ whole → resolved_term d a ≡ Err fault → whole ≡ Err fault
terms_fault d before all i a whole fault h e s f =
    sym s ∙ ap (λ l. resolved_terms d before (terms_of l)) (drop_next all i a h e)
    ∙ ap (if_resolved (λ t. resolved_terms d (before ++ t ∷ []) (terms_of (drop (i + 1) all)))) f

links_fault : (d : Declared) (before : List (Step ℕ)) (all : List PLink) (i : ℕ) (a : PLink) (whole : Result (List (Step ℕ)) ResolveFault)
    (fault : ResolveFault)
    → i < length all → a ≡ get_or all i a
    → resolved_links d before (links_of (drop i all)) ≡ whole → resolved_term d a.term ≡ Err fault → whole ≡ Err fault
links_fault d before all i a whole fault h e s f =
    sym s ∙ ap (λ l. resolved_links d before (links_of l)) (drop_next all i a h e)
    ∙ ap (if_resolved (λ t. resolved_links d (before ++ record { op = a.op; term = t } ∷ []) (links_of (drop (i + 1) all)))) f

-- an error in a link of a left fold whose first operand has none
pub chain_fault : (d : Declared) (first : Syntax) (before : List (Step ℕ)) (all : List PLink) (i : ℕ) (a : PLink) (f : Tree) (fault : ResolveFault)
    → resolved_term d first ≡ Ok f → i < length all → a ≡ get_or all i a
    → resolved_links d before (links_of (drop i all)) ≡ resolved_links d [] (links_of all) → resolved_term d a.term ≡ Err fault
    → if_resolved (λ g. if_resolved (λ steps. Ok (chain g (steps_of steps))) (resolved_links d [] (links_of all))) (resolved_term d first) ≡ Err fault
chain_fault d first before all i a f fault o h e s k =
    ap (if_resolved (λ g. if_resolved (λ steps. Ok (chain g (steps_of steps))) (resolved_links d [] (links_of all)))) o
    ∙ ap (if_resolved (λ steps. Ok (chain f (steps_of steps)))) (links_fault d before all i a (resolved_links d [] (links_of all)) fault h e s k)

-- an error in the term of a condition, and in its error name
pub condition_fault : (d : Declared) (before : Checks) (all : List Condition) (i : ℕ) (a : Condition) (fault : ResolveFault) → i < length all
    → a ≡ get_or all i a
    → resolved_conditions d before (drop i all) ≡ resolved_conditions d ([], []) all → resolved_term d a.term ≡ Err fault
    → resolved_conditions d ([], []) all ≡ Err fault
condition_fault d before all i a fault h e s f =
    sym s ∙ ap (resolved_conditions d before) (drop_next all i a h e)
    ∙ ap (λ r. if_resolved (λ stated. resolved_conditions d stated (drop (i + 1) all))
    (if_resolved (λ tree. if_resolved (λ label. Ok (before.0 ++ (tree, length before.1, a.place) ∷ [], before.1 ++ label ∷ []))
    (resolved_label a (error_named d a.error))) r)) f

pub label_fault : (d : Declared) (before : Checks) (all : List Condition) (i : ℕ) (a : Condition) (tree : Tree) (fault : ResolveFault) → i < length all
    → a ≡ get_or all i a
    → resolved_conditions d before (drop i all) ≡ resolved_conditions d ([], []) all → resolved_term d a.term ≡ Ok tree
    → resolved_label a (error_named d a.error) ≡ Err fault → resolved_conditions d ([], []) all ≡ Err fault
label_fault d before all i a tree fault h e s o f =
    sym s ∙ ap (resolved_conditions d before) (drop_next all i a h e)
    ∙ ap (λ r. if_resolved (λ stated. resolved_conditions d stated (drop (i + 1) all))
    (if_resolved (λ t. if_resolved (λ label. Ok (before.0 ++ (t, length before.1, a.place) ∷ [], before.1 ++ label ∷ []))
    (resolved_label a (error_named d a.error))) r)) o
    ∙ ap (λ r. if_resolved (λ stated. resolved_conditions d stated (drop (i + 1) all))
    (if_resolved (λ label. Ok (before.0 ++ (tree, length before.1, a.place) ∷ [], before.1 ++ label ∷ [])) r)) f

-- an error in the target of a definition, and in its term
pub target_fault : (d : Declared) (before : List CellDefinition) (all : List Definition) (i : ℕ) (a : Definition) (fault : ResolveFault) → i < length all
    → a ≡ get_or all i a
    → resolved_definitions d before (drop i all) ≡ resolved_definitions d [] all
    → if_resolved (new_target d a.place (cells_of before)) (resolved_target d a) ≡ Err fault → resolved_definitions d [] all ≡ Err fault
target_fault d before all i a fault h e s f =
    sym s ∙ ap (resolved_definitions d before) (drop_next all i a h e)
    ∙ ap (λ r. if_resolved (λ stated. resolved_definitions d (before ++ stated ∷ []) (drop (i + 1) all))
    (if_resolved (λ cell. if_resolved (λ tree. Ok (cell, tree, a.place)) (resolved_term d a.term)) r)) f

pub definition_fault : (d : Declared) (before : List CellDefinition) (all : List Definition) (i : ℕ) (a : Definition) (cell : ℕ) (fault : ResolveFault)
    → i < length all → a ≡ get_or all i a
    → resolved_definitions d before (drop i all) ≡ resolved_definitions d [] all
    → if_resolved (new_target d a.place (cells_of before)) (resolved_target d a) ≡ Ok cell → resolved_term d a.term ≡ Err fault
    → resolved_definitions d [] all ≡ Err fault
definition_fault d before all i a cell fault h e s o f =
    sym s ∙ ap (resolved_definitions d before) (drop_next all i a h e)
    ∙ ap (λ r. if_resolved (λ stated. resolved_definitions d (before ++ stated ∷ []) (drop (i + 1) all))
    (if_resolved (λ c. if_resolved (λ tree. Ok (c, tree, a.place)) (resolved_term d a.term)) r)) o
    ∙ ap (λ r. if_resolved (λ stated. resolved_definitions d (before ++ stated ∷ []) (drop (i + 1) all)) (if_resolved (λ tree. Ok (cell, tree, a.place)) r)) f
