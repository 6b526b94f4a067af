use Rattle.std.proofs.Common.{◌≡◌, List, ◌∷◌, [], ◌++◌, OnOk, ap, sym, ◌∙◌, subst, arith}
use Rattle.std.proofs.lemmas.List.{append_assoc}
use Rattle.micro_m.specs.inner.Falls.{sizes_fall, terms_fall}
use Rattle.micro_m.specs.Trees.{Tree, nodes}
use Rattle.micro_m.specs.Views.{tree_of, trees_of}
use Rattle.why_report.specs.declared.part.Part.{Part}
use Rattle.why_report.specs.declared.part.Part.TheVariants.{Do}
use Rattle.why_report.specs.inner.Parts.{argument_parts, count_of, parts_of}
use Rattle.why_report.proofs.PartLemmas.{counted}
use Rattle.why_report.proofs.flatten.+flatten.Goals as goal

pub append_term-append_arguments-requires : goal.append_term-append_arguments-requires
append_term-append_arguments-requires t c =
    rw c.deref-in-Apply.ensures.value (
      omega (arith, terms_fall c.in-Apply.arguments.items, ap nodes c.term.view_is, ap (λ n. nodes (tree_of n)) c.in-Apply.is),
      tt,
    )

pub append_term-append_steps-requires : goal.append_term-append_steps-requires
append_term-append_steps-requires t c =
    rw c.deref-in-Chain-2.ensures.value (
      omega (arith, sizes_fall c.in-Chain.steps.items, ap nodes c.term.view_is, ap (λ n. nodes (tree_of n)) c.in-Chain.is),
      tt,
    )

pub append_term-returns-in_ok-append_arguments-in-Apply : goal.append_term-returns-in_ok-append_arguments-in-Apply
append_term-returns-in_ok-append_arguments-in-Apply t c =
    let op = c.in-Apply.op in
    let all = c.in-Apply.arguments.items in
    let old = c.args.parts.now.items in
    let many : c.len.result ≡ count_of (trees_of all) = omega (arith, c.len.ensures, c.in-Apply.arguments.ok.0, counted all) in
    let last : argument_parts (trees_of c.deref-in-Apply.result.now) ++ Do op c.len.result ∷ [] ≡ parts_of c.args.term.now =
    ap (λ (xs : List Tree). argument_parts (trees_of xs) ++ Do op c.len.result ∷ []) c.deref-in-Apply.ensures.value
    ∙ ap (λ n. argument_parts (trees_of all) ++ Do op n ∷ []) many
    ∙ ap parts_of (sym (sym c.term.view_is ∙ ap tree_of c.in-Apply.is)) in
    subst (λ (xs : List Part). OnOk c.add-in-Apply.result (c.add-in-Apply.new.parts.items ≡ xs))
    (ap (λ (xs : List Part). xs ++ Do op c.len.result ∷ []) c.in_ok-append_arguments-in-Apply.ensures
    ∙ append_assoc old (argument_parts (trees_of c.deref-in-Apply.result.now)) (Do op c.len.result ∷ [])
    ∙ ap (λ (xs : List Part). old ++ xs) last)
    c.add-in-Apply.ensures
