use Rattle.std.proofs.Common.{sym, ◌∙◌}
use Rattle.csv.specs.Records.{fields_of}
use Rattle.input_ranges.specs.Ranges.{are_headings}
use Rattle.input_ranges.proofs.FieldLemmas.{four_header, no_header}
use Rattle.input_ranges.proofs.header.is_header.Goals as goal

pub returns-then-len-ne4 : goal.returns-then-len-ne4
returns-then-len-ne4 c = sym (no_header (fields_of c.args.row.now) (λ e. c.if-len-ne4.true (c.len.ensures ∙ e)))

pub returns : goal.returns
returns c =
    c.are_headings.ensures
    ∙ (λ i. are_headings (c.field_at.ensures i) (c.field_at-2.ensures i) (c.field_at-3.ensures i) (c.field_at-4.ensures i))
    ∙ sym (four_header (fields_of c.args.row.now) (sym c.len.ensures ∙ c.if-len-ne4.false))
