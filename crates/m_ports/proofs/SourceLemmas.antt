-- Successive reads are one read of all their bytes.
use Rattle.std.proofs.Common.{◌≡◌, ℕ, ◌+◌, ◌≤◌, length, min, arith, List, ◌++◌, Option, ◌∙◌, ap, length-append, take, length-take}
use Rattle.std.specs.Io.KnownBytes.{Consumes}
use Rattle.std.proofs.KnownBytes.{Consumes-trans}
use Rattle.m_ports.specs.Counts.{RoseByMoved, last_count}

-- the bytes moved are as many as were counted
pub rose_by_moved : (old mid new : Option (List ℕ)) (first piece : List ℕ) (n before after : ℕ)
    → Consumes old mid first → Consumes mid new (take n piece) → n ≤ length piece
    → after ≡ min (before + (length first + n)) last_count → RoseByMoved old new before after
rose_by_moved old mid new first piece n before after earlier here few count = record {
  moved = first ++ take n piece;
  whole = Consumes-trans old mid new first (take n piece) earlier here;
  counted = count ∙ ap (λ k. min (before + k) last_count) (omega (arith, length-append first (take n piece), length-take n piece));
}
