use Rattle.std.proofs.Common.{◌≡◌, ◌≤◌, ◌+◌, ◌*◌, List, get_or, length, subst, sym, arith}
use Rattle.m_places.specs.SourceLimits.{EachIsWithin}
use Rattle.m_places.specs.declared.source.Text.{Text}
use Rattle.rule_base.proofs.FileSteps.{reported}
use Rattle.rule_base.proofs.Rows.{within_drop, within_take}
use Rattle.rule_base.proofs.Pieces.{IsGiven, SaysFiles, parsed_files}
use Rattle.rule_base.proofs.read.read_all.Goals as goal

pub join_parts-requires-clause-accepts : goal.join_parts-requires-clause-accepts
join_parts-requires-clause-accepts g c κs held = λ at lent part. (
  omega (arith, part.within, c.requires.few),
  subst EachIsWithin (sym part.value) (within_take c.files_at_once-size.result _ (within_drop at c.args.texts.now c.requires.each)),
)

pub returns-in_err-files : goal.returns-in_err-files
returns-in_err-files g c =
    let all = c.in_ok-join_parts.ensures in
    let stated = parsed_files c.files_at_once-size.result c.args.texts.now all.parts
    (λ n d h. let gave = all.made.each n d h in subst (λ (texts : List Text). IsGiven (n * c.files_at_once-size.result) texts (get_or all.parts n d))
    gave.1 gave.2)
    all.made.inside all.made.reach in
    reported _ _ _ _ _ c.from_residual-in_err-files.ensures.1 (rw c.in_err-files.was at (rw (sym all.all_is) at stated))

pub returns : goal.returns
returns g c =
    let all = c.in_ok-join_parts.ensures in
    let stated = parsed_files c.files_at_once-size.result c.args.texts.now all.parts
    (λ n d h. let gave = all.made.each n d h in subst (λ (texts : List Text). IsGiven (n * c.files_at_once-size.result) texts (get_or all.parts n d))
    gave.1 gave.2)
    all.made.inside all.made.reach in
    rw c.from_vec.ensures (rw c.in_ok-files.was at (rw (sym all.all_is) at stated))
