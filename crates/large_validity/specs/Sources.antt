-- The source of `large N`.
use Rattle.std.specs.Prelude.{ℕ, ◌-◌, List, [], ◌∷◌, codes, decimal, Some, None}
use Rattle.m_text.specs.Pieces.{joined, new_line}
use Rattle.m_places.specs.declared.source.Source.{Source}
use Rattle.m_large.specs.Large.{base_name, base_text}

-- the requests: the last of the sums
abbrev pub large_requests : ℕ → List ℕ
large_requests n = joined (codes "T" ∷ decimal (n - 1) ∷ new_line ∷ [])

-- The source: the generated rule file, its application, no driver, and the request of the last sum.
abbrev pub large_source : ℕ → Source
large_source n = record {
  application = codes "iliad";
  texts = record { name = base_name; bytes = base_text n } ∷ [];
  driver = None;
  requests = Some
      (large_requests n);
}
