use Rattle.std.proofs.Common.{◌≡◌, ◌∙◌, ◌++◌, ap, length, map, subst}
use Rattle.std.specs.Prelude.{filter, OnOk}
use Rattle.std.specs.List.{range_with_len}
use Rattle.input_reads.specs.Reads.{may_depend, depends_on}
use Rattle.input_reads.specs.inner.Lists.{lists_in}
use Rattle.input_reads.specs.inner.Masks.{has, mask_at, number_at}
use Rattle.input_reads.proofs.BitLemmas.{lists-are}
use Rattle.input_reads.proofs.ListLemmas.{numbers-same}
use Rattle.input_reads.proofs.found.add_group.Goals as goal

pub returns : goal.returns
returns c =
    let known = c.args.known.now in
    let nodes = c.args.nodes.now in
    let inputs = c.args.inputs in
    let wanted = c.args.wanted.now in
    let masks = c.in_ok-masks.masks.items in
    let lists = c.in_ok-lists.ensures in
    let are : lists_in c.in_ok-lists.lists.items ≡ map (depends_on known nodes inputs) wanted =
    lists-are (depends_on known nodes inputs) wanted (lists_in c.in_ok-lists.lists.items) lists.many
    (λ k l. lists.list k l
    ∙ ap (λ ms. filter (λ n. has (mask_at ms n) k) (range_with_len 0 (length ms))) c.deref.ensures.value
    ∙ ap (λ count. filter (λ n. has (mask_at masks n) k) (range_with_len 0 count)) c.in_ok-masks.ensures.size
    ∙ numbers-same (λ n. has (mask_at masks n) k) (may_depend known nodes (number_at wanted k)) inputs (λ n. c.in_ok-masks.ensures.found.bit k n l)) in
    subst (λ more. OnOk c.add_lists.result (c.add_lists.new.found.items ≡ c.args.found.now.items ++ more)) are c.add_lists.ensures
