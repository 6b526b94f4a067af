-- The labels, checks and notes of the program under construction.
use Rattle.std.specs.Prelude.{map}
use Rattle.mpp_inline.specs.Labelling.{Labelling}
use Rattle.mpp_inline.specs.declared.builder.Builder.{Builder}

abbrev pub labelling_by : Builder → Labelling
labelling_by b = record { labels = b.labels.items; checks = map (λ c. c.label) b.checks.items; notes = map (λ n. n.1) b.notes.items }
