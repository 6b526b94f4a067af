use Rattle.std.proofs.Common.{length, arith, refl, sym, ap, ◌∙◌}
use Rattle.std.proofs.lemmas.Bool.{eqb-false, eqb-true}
use Rattle.mpp_parser.proofs.Manys.{many_start, many_turn, many_stop, block_none, block_end, block_shallow, block_empty, block_some}
use Rattle.mpp_parser.proofs.blocks.+blocks.Goals as goal

pub read_commands-commands-init : goal.read_commands-commands-init
read_commands-commands-init t c = record { shorter = omega arith; going = rw c.new-commands.ensures.items (many_start _ refl) }

pub read_commands-commands-preserved : goal.read_commands-commands-preserved
read_commands-commands-preserved t c =
    let reads = rw c.in-Some.is at c.in_ok-command.ensures.reads in
    let less = rw c.in-Some.is at c.in_ok-command.ensures.stays in
    record {
      shorter = omega (arith, less, c.commands.invariant.shorter);
      going = rw c.in_ok-push.ensures.items (many_turn _ c.commands.invariant.going reads less);
    }

pub read_commands-returns : goal.read_commands-returns
read_commands-returns t c =
    let none = rw c.in_default.is at c.in_ok-command.ensures.reads in
    let stays = rw c.in_default.is at c.in_ok-command.ensures.stays in
    record {
      reads = rw stays (many_stop _ c.commands.invariant.going none);
      shorter = let e = ap length stays in omega (arith, e, c.commands.invariant.shorter);
    }

pub read_block-returns-then-depth-eq0-clause-reads : goal.read_block-returns-then-depth-eq0-clause-reads
read_block-returns-then-depth-eq0-clause-reads t c = block_none _ _ _ c.if-depth-eq0.true

pub read_block-returns-in_default-clause-reads : goal.read_block-returns-in_default-clause-reads
read_block-returns-in_default-clause-reads t c = block_end _ _ _ c.in_default.ensures

pub read_block-returns-then-first-indent-clause-reads : goal.read_block-returns-then-first-indent-clause-reads
read_block-returns-then-first-indent-clause-reads t c = block_shallow _ _ c.in-Some.first.now _ c.in-Some.ensures.0 c.in-Some.ensures.1 c.if-first-indent.true

pub read_block-returns-then-is_empty-clause-reads : goal.read_block-returns-then-is_empty-clause-reads
read_block-returns-then-is_empty-clause-reads t c = block_empty _ _ c.in-Some.first.now _ c.in-Some.ensures.0 _ _ c.if-depth-eq0.false c.in-Some.ensures.1
    (omega (arith, c.if-first-indent.false)) c.in_ok-commands.ensures.reads (ap length (sym c.as_slice.ensures.value)
    ∙ eqb-true _ 0 (sym c.is_empty.ensures ∙ c.if-is_empty.true))

pub read_block-returns-clause-reads : goal.read_block-returns-clause-reads
read_block-returns-clause-reads t c = block_some _ _ c.in-Some.first.now _ c.in-Some.ensures.0 _ _ c.if-depth-eq0.false c.in-Some.ensures.1
    (omega (arith, c.if-first-indent.false)) c.in_ok-commands.ensures.reads
    (λ e. eqb-false _ 0 (sym c.is_empty.ensures ∙ c.if-is_empty.false) (ap length c.as_slice.ensures.value ∙ e))
