use Rattle.std.proofs.Common.{◌≡◌, ◌-◌, Some, None, sym, ap, ◌∙◌}
use Rattle.std.specs.Prelude.{slice_get}
use Rattle.driver_core.specs.ActionView.{block_of}
use Rattle.driver_core.specs.Valid.{block_or_none}
use Rattle.mpp_inline.specs.Labelling.{with_rules, with_block, with_body}
use Rattle.mpp_inline.specs.inner.Growth.{means}
use Rattle.mpp_inline.specs.inner.Work.{adds, whole_of}
use Rattle.mpp_inline.specs.inner.Sizes.{block_size, block_turns}
use Rattle.mpp_inline.proofs.CallLemmas.{called-body, found-at, none-at}
use Rattle.mpp_inline.proofs.LabelLemmas.{body-adds}
use Rattle.mpp_inline.proofs.SizeLemmas.{body-less, body-turns}
use Rattle.mpp_inline.proofs.blocks.body_at.Goals as goal

pub returns-in-Some-clause-means : goal.returns-in-Some-clause-means
returns-in-Some-clause-means c =
    let core = c.args.core.now in
    let l = c.in-Some.ensures.lookup in
    λ ordered.
    let found : slice_get core.bodies c.args.function ≡ Some c.in-Some.found.now = found-at core.bodies _ c.args.function c.in-Some.found.now c.as_slice.ensures
    l.3.0 l.1 in
    ap (λ x. means core ordered.base ordered.sequence (c.args.depth - 1) (block_of x)) c.as_slice-in-Some.ensures
    ∙ ap (λ o. means core ordered.base ordered.sequence (c.args.depth - 1) (block_or_none o)) (sym found)
    ∙ called-body core ordered.base ordered.sequence c.args.depth c.args.function c.if-depth-eq0.false

pub returns-in-None-clause-means : goal.returns-in-None-clause-means
returns-in-None-clause-means c =
    let core = c.args.core.now in
    λ ordered.
    let none : slice_get core.bodies c.args.function ≡ None = none-at core.bodies _ c.args.function c.as_slice.ensures c.in-None.ensures.lookup.3 in
    ap (λ o. means core ordered.base ordered.sequence (c.args.depth - 1) (block_or_none o)) (sym none)
    ∙ called-body core ordered.base ordered.sequence c.args.depth c.args.function c.if-depth-eq0.false

pub returns-in-Some-clause-weight : goal.returns-in-Some-clause-weight
returns-in-Some-clause-weight c =
    let core = c.args.core.now in
    let l = c.in-Some.ensures.lookup in
    λ ordered.
    let found : slice_get core.bodies c.args.function ≡ Some c.in-Some.found.now = found-at core.bodies _ c.args.function c.in-Some.found.now c.as_slice.ensures
    l.3.0 l.1 in
    ap (λ x. block_size (whole_of core ordered) (c.args.depth - 1) (block_of x)) c.as_slice-in-Some.ensures
    ∙ ap (λ o. block_size (whole_of core ordered) (c.args.depth - 1) (block_or_none o)) (sym found)
    ∙ body-less (whole_of core ordered) c.args.depth c.args.function c.if-depth-eq0.false

pub returns-in-None-clause-weight : goal.returns-in-None-clause-weight
returns-in-None-clause-weight c =
    let core = c.args.core.now in
    λ ordered.
    let none : slice_get core.bodies c.args.function ≡ None = none-at core.bodies _ c.args.function c.as_slice.ensures c.in-None.ensures.lookup.3 in
    ap (λ o. block_size (whole_of core ordered) (c.args.depth - 1) (block_or_none o)) (sym none)
    ∙ body-less (whole_of core ordered) c.args.depth c.args.function c.if-depth-eq0.false

pub returns-in-Some-clause-turns : goal.returns-in-Some-clause-turns
returns-in-Some-clause-turns c =
    let core = c.args.core.now in
    let l = c.in-Some.ensures.lookup in
    λ ordered.
    let found : slice_get core.bodies c.args.function ≡ Some c.in-Some.found.now = found-at core.bodies _ c.args.function c.in-Some.found.now c.as_slice.ensures
    l.3.0 l.1 in
    ap (λ x. block_turns (whole_of core ordered) (c.args.depth - 1) (block_of x)) c.as_slice-in-Some.ensures
    ∙ ap (λ o. block_turns (whole_of core ordered) (c.args.depth - 1) (block_or_none o)) (sym found)
    ∙ body-turns (whole_of core ordered) c.args.depth c.args.function c.if-depth-eq0.false

pub returns-in-None-clause-turns : goal.returns-in-None-clause-turns
returns-in-None-clause-turns c =
    let core = c.args.core.now in
    λ ordered.
    let none : slice_get core.bodies c.args.function ≡ None = none-at core.bodies _ c.args.function c.as_slice.ensures c.in-None.ensures.lookup.3 in
    ap (λ o. block_turns (whole_of core ordered) (c.args.depth - 1) (block_or_none o)) (sym none)
    ∙ body-turns (whole_of core ordered) c.args.depth c.args.function c.if-depth-eq0.false

pub returns-in-Some-clause-labelling : goal.returns-in-Some-clause-labelling
returns-in-Some-clause-labelling c =
    let core = c.args.core.now in
    let found = c.in-Some.ensures.lookup in
    λ ordered l.
    let there : slice_get core.bodies c.args.function ≡ Some c.in-Some.found.now = found-at core.bodies _ c.args.function c.in-Some.found.now c.as_slice.ensures
    found.3.0 found.1 in
    ap (λ x. adds (whole_of core ordered) (c.args.depth - 1) x l) c.as_slice-in-Some.ensures
    ∙ ap (λ o. with_block (with_rules ordered.base) (with_body ordered.base core.bodies (c.args.depth - 1)) (block_or_none o) l) (sym there)
    ∙ body-adds (whole_of core ordered) c.args.depth c.args.function l c.if-depth-eq0.false

pub returns-in-None-clause-labelling : goal.returns-in-None-clause-labelling
returns-in-None-clause-labelling c =
    let core = c.args.core.now in
    λ ordered l.
    let none : slice_get core.bodies c.args.function ≡ None = none-at core.bodies _ c.args.function c.as_slice.ensures c.in-None.ensures.lookup.3 in
    ap (λ o. with_block (with_rules ordered.base) (with_body ordered.base core.bodies (c.args.depth - 1)) (block_or_none o) l) (sym none)
    ∙ body-adds (whole_of core ordered) c.args.depth c.args.function l c.if-depth-eq0.false
