use Rattle.std.proofs.Common.{◌≡◌, ◌∙◌, List, get_or, subst, sym}
use Rattle.std.specs.Prelude.{IfOk}
use Rattle.household.specs.declared.table.Row.{Row}
use Rattle.m_batch.specs.Batch.{answers_of, row_answer}
use Rattle.m_batch.proofs.PartLemmas.{mapped}
use Rattle.m_batch.proofs.batch.run_batch.Goals as goal

pub returns : goal.returns
returns g c =
    let all = c.in_ok-join_parts.ensures in
    let stated = mapped (row_answer c.args.code.now) c.part_size-size.result c.args.rows.now all.parts
    (λ n d h. let gave = all.made.each n d h in subst (λ (rows : List Row). IfOk (get_or all.parts n d) (λ v. v.items ≡ answers_of c.args.code.now rows)) gave.1
    gave.2)
    all.made.inside all.made.reach in
    c.from_vec.ensures ∙ (rw c.in_ok-answers.was at (rw (sym all.all_is) at stated))
