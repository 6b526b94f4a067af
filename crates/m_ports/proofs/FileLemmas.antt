-- Failed attempts of successive fetches.
use Rattle.std.proofs.Common.{◌≡◌, ◌+◌, List, [], ◌∷◌, ◌++◌, sym, ◌∙◌, ap, zero-add, add_assoc, if◌then◌else◌}
use Rattle.m_ports.specs.declared.files.Attempt.{Attempt}
use Rattle.m_ports.specs.Files.{failed_count}

pub failed_count-append : (earlier later : List Attempt) → failed_count (earlier ++ later) ≡ failed_count earlier + failed_count later
failed_count-append [] later = sym (zero-add (failed_count later))
failed_count-append (attempt ∷ earlier) later =
    ap (λ count. (if attempt.failed then 1 else 0) + count) (failed_count-append earlier later)
    ∙ sym (add_assoc (if attempt.failed then 1 else 0) (failed_count earlier) (failed_count later))
