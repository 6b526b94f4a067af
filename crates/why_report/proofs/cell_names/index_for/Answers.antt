use Rattle.why_report.proofs.NameLemmas.{not-repeated}
use Rattle.why_report.proofs.cell_names.index_for.Goals as goal

pub unreachable-requires : goal.unreachable-requires
unreachable-requires c = not-repeated c.args.names.now c.in-Err-Repeated.field-0 _ _ c.in-Err-Repeated.field-0-is c.in-Err-Repeated.ensures.outcome c.requires
