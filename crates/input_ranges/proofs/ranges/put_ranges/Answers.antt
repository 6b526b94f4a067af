use Rattle.std.proofs.Common.{◌≡◌, ◌-◌, get_or, set, drop, length, refl, sym, ap, ◌∙◌, arith}
use Rattle.std.proofs.lemmas.List.{drop_all}
use Rattle.input_ranges.specs.Ranges.{facts_within}
use Rattle.input_ranges.specs.declared.ranges.InputRange.{InputRange}
use Rattle.input_ranges.proofs.RangeLemmas.{length_within, next_put, no_ranges, same_read}
use Rattle.input_ranges.proofs.ranges.put_ranges.Goals as goal

pub loop-left-init : goal.loop-left-init
loop-left-init c =
    record {
      within = omega arith;
      filled = c.requires.types ∙ sym (no_ranges c.args.inputs.now)
          ∙ ap (λ rs. facts_within rs c.args.inputs.now) (sym (drop_all (length c.args.ranges.now) c.args.ranges.now (omega arith)));
    }

pub bounds-facts-input : goal.bounds-facts-input
bounds-facts-input c =
    let i = c.loop-left.invariant in
    let d = c.index-ranges-left.result in
    let range = get_or c.args.ranges.now (c.loop-left.left - 1) d in
    let next = next_put c.args.inputs.now c.args.ranges.now c.loop-left.facts c.loop-left.left range d c.requires.known (omega arith) (omega arith) refl
    i.filled in
    omega (arith, next.0, ap length i.filled, length_within (drop c.loop-left.left c.args.ranges.now) c.args.inputs.now)

pub loop-left-preserved : goal.loop-left-preserved
loop-left-preserved c =
    let i = c.loop-left.invariant in
    let d = c.index-ranges-left.result in
    let range = get_or c.args.ranges.now (c.loop-left.left - 1) d in
    let next = next_put c.args.inputs.now c.args.ranges.now c.loop-left.facts c.loop-left.left range d c.requires.known (omega arith) (omega arith) refl
    i.filled in
    let same = same_read c.args.ranges.now (c.loop-left.left - 1) c.index-ranges-left-in-loop-left.result d (omega arith) in
    record { within = omega arith; filled = ap (λ (r : InputRange). set c.loop-left.facts range.input r.fact) same ∙ next.1 }
