use Rattle.std.proofs.Common.{◌≡◌, ◌++◌, length, take, drop, sym, ap, ◌∙◌, subst, arith}
use Rattle.mpp_inline.specs.inner.Cells.{picked, written, received}
use Rattle.mpp_inline.specs.declared.work.Work.{Work}
use Rattle.mpp_inline.specs.declared.work.Work.TheVariants.{Run, Restore, Return}
use Rattle.mpp_inline.specs.inner.Work.{Standing, Kept, Moves, done, point, block_ahead, whole_of}
use Rattle.mpp_inline.proofs.ListLemmas.{front-all}
use Rattle.mpp_inline.proofs.CommandMoves.{restore-moves, return-moves}
use Rattle.mpp_inline.proofs.blocks.advance.Goals as goal

pub returns-in_ok-next-in-Run-clause-step : goal.returns-in_ok-next-in-Run-clause-step
returns-in_ok-next-in-Run-clause-step c =
    let whole = whole_of c.args.driver.now.core.now c.args.driver.now.ordered.now in
    let b = c.args.b.now in
    let d = c.begin_block.new.b in
    let e = c.args.env.now.items in
    let g = c.args.guard in
    let k = c.in_ok-next-in-Run.next in
    let ws = c.args.left.now.items in
    let ws' = c.begin_block.new.left.items in
    let depth = c.in-Run.depth in
    let block = c.in-Run.block in
    let last : take c.args.env.now.len (c.begin_block.new.env ++ drop (length c.begin_block.new.env) e) ≡ c.begin_block.new.env = front-all
    c.begin_block.new.env _ _ (omega arith) in
    subst (λ (x : Work). Standing whole b e g ws → Kept b x
    → Moves whole b d (take c.args.env.now.len (c.begin_block.new.env ++ drop (length c.begin_block.new.env) e)) k ws ws'
    (λ inputs. done whole b inputs x (point b inputs e g))) (sym c.in-Run.is)
    (λ s kept. subst (λ x. Moves whole b d x k ws ws' (λ inputs. done whole b inputs (Run depth block) (point b inputs e g))) (sym last)
    (subst (λ x. Standing whole b x g ws → Moves whole b d c.begin_block.new.env k ws ws' (λ inputs. block_ahead whole b inputs x g depth block.now))
    c.deref_mut.ensures.value c.in_ok-next-in-Run.ensures.step s))

pub returns-in-Restore-clause-step : goal.returns-in-Restore-clause-step
returns-in-Restore-clause-step c =
    let whole = whole_of c.args.driver.now.core.now c.args.driver.now.ordered.now in
    let b = c.args.b.now in
    let e = c.args.env.now.items in
    let g = c.args.guard in
    let ws = c.args.left.now.items in
    let before = c.in-Restore.before in
    let read : c.deref_mut-in-Restore.result.now ≡ e = c.deref_mut-in-Restore.ensures.value in
    let wrote : c.write.new.env ≡ written before.items e = c.write.ensures ∙ (λ i. written (c.deref.ensures.value i) (read i)) in
    let last : take c.args.env.now.len (c.write.new.env ++ drop (length c.write.new.env) e) ≡ written before.items e = front-all c.write.new.env _ _
    (omega arith) ∙ wrote in
    subst (λ (x : Work). Standing whole b e g ws → Kept b x → Moves whole b b (take c.args.env.now.len (c.write.new.env ++ drop (length c.write.new.env) e)) g
    ws ws (λ inputs. done whole b inputs x (point b inputs e g))) (sym c.in-Restore.is)
    (λ s k. subst (λ x. Moves whole b b x g ws ws (λ inputs. done whole b inputs (Restore before) (point b inputs e g))) (sym last)
    (restore-moves before k s))

pub returns-in_ok-given-in-Return-clause-step : goal.returns-in_ok-given-in-Return-clause-step
returns-in_ok-given-in-Return-clause-step c =
    let whole = whole_of c.args.driver.now.core.now c.args.driver.now.ordered.now in
    let b = c.args.b.now in
    let e = c.args.env.now.items in
    let g = c.args.guard in
    let ws = c.args.left.now.items in
    let cells = c.in-Return.cells in
    let outer = c.in-Return.outer in
    let given : c.deref-in-Return-2.result.now ≡ picked 0 cells.now e = c.deref-in-Return-2.ensures.value ∙ c.in_ok-given-in-Return.ensures
    ∙ ap (picked 0 cells.now) c.deref-in-Return.ensures.value in
    let wrote : c.write-in-Return.new.env ≡ received 0 cells.now e outer.items = c.write-in-Return.ensures
    ∙ (λ i. written (given i) (c.deref_mut-in-Return.ensures.value i)) in
    let last : take outer.len (c.write-in-Return.new.env ++ drop (length c.write-in-Return.new.env) outer.items) ≡ received 0 cells.now e
    outer.items = front-all c.write-in-Return.new.env _ _ (omega arith) ∙ wrote in
    subst (λ (x : Work). Standing whole b e g ws → Kept b x
    → Moves whole b b (take outer.len (c.write-in-Return.new.env ++ drop (length c.write-in-Return.new.env) outer.items)) g ws ws
    (λ inputs. done whole b inputs x (point b inputs e g))) (sym c.in-Return.is)
    (λ s k. subst (λ x. Moves whole b b x g ws ws (λ inputs. done whole b inputs (Return cells outer) (point b inputs e g))) (sym last)
    (return-moves cells outer k s))
