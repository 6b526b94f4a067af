use Rattle.m_batch.proofs.PlaceLemmas.{filled_inputs}
use Rattle.m_batch.proofs.rows.put_row.Goals as goal

pub returns-clause-values : goal.returns-clause-values
returns-clause-values c = filled_inputs c.args.places.now c.put_pairs.new.row c.args.given.now.household.pairs c.put_pairs.ensures.values
