-- A text in several writes, interrupted if memory runs out.
use Rattle.std.proofs.Common.{◌≡◌, ℕ, List, [], ◌++◌, Option, None, Some, Result, Ok, Err, refl, sym, ◌∙◌, ap, subst, append-nil}
use Rattle.std.specs.Io.KnownBytes.{append_known}
use Rattle.m_ports.specs.Counts.{Rose}
use Rattle.m_ports.specs.Sink.{AppendsPrefix}
use Rattle.m_ports.proofs.SinkLemmas.{AppendsPrefix-after, AppendsPrefix-before}
use Rattle.m_ports.proofs.GivingLemmas.{Given}
use Rattle.m_batch.specs.Printing.{Counted, WritesRows}
use Rattle.m_batch.specs.declared.fault.PrintFault.{PrintFault}
use Rattle.m_batch.specs.declared.fault.PrintFault.TheVariants.{Memory, Failed}

-- the next part was interrupted
pub part_stopped : {S U : Type 0} (written : S → Option (List ℕ)) (faults : S → ℕ) (old now new : S) (text piece rest left : List ℕ)
    (whole : Result U PrintFault) (other fault : PrintFault) → whole ≡ Err other → other ≡ fault → left ≡ piece ++ rest → Given written faults old now text left
    → AppendsPrefix (written now) (written new) piece → Counted {T = Unit {0}} (Err fault) (faults now) (faults new)
    → WritesRows written faults old new whole text
part_stopped written faults old now new text piece rest left whole other Memory f s is given prefix counted = rw (f ∙ ap Err s) (record {
  all = tt;
  prefix = rw (given.whole ∙ ap (λ bytes. given.front ++ bytes) is)
      (AppendsPrefix-after (written old) (written now) (written new) given.front (piece ++ rest) given.appended
      (AppendsPrefix-before (written now) (written new) piece rest prefix));
  counted = counted ∙ given.faultless;
})
part_stopped written faults old now new text piece rest left whole other Failed f s is given prefix counted = rw (f ∙ ap Err s) (record {
  all = tt;
  prefix = rw (given.whole ∙ ap (λ bytes. given.front ++ bytes) is)
      (AppendsPrefix-after (written old) (written now) (written new) given.front (piece ++ rest) given.appended
      (AppendsPrefix-before (written now) (written new) piece rest prefix));
  counted = subst (λ count. Rose count (faults new)) given.faultless counted;
})

nothing_more : (known : Option (List ℕ)) → known ≡ append_known known []
nothing_more None = refl
nothing_more (Some bytes) = ap Some (sym (append-nil bytes))

-- memory ran out before the first write
pub nothing_written : {S U : Type 0} (written : S → Option (List ℕ)) (faults : S → ℕ) (old : S) (text : List ℕ) (result : Result U PrintFault)
    (fault : PrintFault)
    → result ≡ Err fault → fault ≡ Memory → WritesRows written faults old old result text
nothing_written written faults old text result fault f s = rw (f ∙ ap Err s) (record {
  all = tt;
  prefix = record { part = []; rest = text; whole = refl; appended = nothing_more (written old) };
  counted = refl;
})

-- a write of the whole failed
pub gave_failed : {S U : Type 0} (written : S → Option (List ℕ)) (faults : S → ℕ) (old new : S) (text whole : List ℕ) (result : Result U PrintFault)
    (fault : PrintFault)
    → result ≡ Err fault → fault ≡ Failed → text ≡ whole → Rose (faults old) (faults new) → AppendsPrefix (written old) (written new) text
    → WritesRows written faults old new result whole
gave_failed written faults old new text whole result fault f s is rose prefix = rw (f ∙ ap Err s) (record {
  all = tt;
  prefix = subst (AppendsPrefix (written old) (written new)) is prefix;
  counted = rose;
})

-- a write of the whole succeeded
pub gave_all : {S U : Type 0} (written : S → Option (List ℕ)) (faults : S → ℕ) (old new : S) (text whole : List ℕ) (value : U)
    → text ≡ whole → written new ≡ append_known (written old) text → faults new ≡ faults old → WritesRows written faults old new (Ok value) whole
gave_all written faults old new text whole value is all none = record {
  all = all ∙ ap (append_known (written old)) is;
  prefix = tt;
  counted = none;
}
