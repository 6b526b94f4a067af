-- The turns of a session's loop.
use Rattle.std.proofs.Common.{◌≡◌, ℕ, ◌+◌, ◌<◌, min, length, length-take, length-append, take, List, [], ◌++◌, Option, None, Some, refl, sym, ◌∙◌, ap, subst}
use Rattle.std.proofs.Common.{append_assoc, inl, inr, arith}
use Rattle.std.specs.Io.KnownBytes.{prepend_known, IsAtEnd}
use Rattle.std.proofs.lemmas.Bool.{cases_lt}
use Rattle.std.proofs.lemmas.List.{take_all}
use Rattle.m_places.specs.declared.limits.TheConstants.{INPUT_BYTES}
use Rattle.household_session.specs.Replies.{IsUnended}
use Rattle.household_session.specs.Repliers.{AreLongAlike, Replying, none_replied}
use Rattle.household_session.specs.Serving.{Counts, Ends}
use Rattle.household_session.specs.inner.Going.{Finished, Goes, Stopped, Took}
use Rattle.household_session.specs.declared.turns.ServeEnd.{ServeEnd}
use Rattle.household_session.specs.declared.turns.ServeEnd.TheVariants.{Done, ReadFault, WriteFault, TooLong}
use Rattle.household_session.proofs.ByteLemmas.{unended_take}
use Rattle.household_session.proofs.GoingLemmas.{breaks_ended, breaks_last, goes_cut, goes_ended, goes_none, goes_taken, goes_then, goes_whole, rose_from}

-- ---- known contents of the input

pub prepend_none : (known : Option (List ℕ)) → prepend_known [] known ≡ known
prepend_none None = refl
prepend_none (Some bytes) = refl

prepend_more : (known : Option (List ℕ)) (a b : List ℕ) → prepend_known a (prepend_known b known) ≡ prepend_known (a ++ b) known
prepend_more None a b = refl
prepend_more (Some bytes) a b = ap Some (sym (append_assoc a b bytes))

-- ---- one turn

-- the last line, after the end of the input
pub stopped_at_end : {S K : Type 0} (left : S → Option (List ℕ)) (source_faults : S → ℕ) (written : K → Option (List ℕ)) (faults : K → ℕ)
    (source_old source_now : S) (old now : K) (steps_old steps_now : ℕ) (start : Replying) (held : List ℕ) (most : ℕ) (end : ServeEnd)
    → left source_old ≡ prepend_known [] (left source_now)
    → IsAtEnd (left source_old) → source_faults source_now ≡ source_faults source_old → Finished written faults old now steps_old steps_now start held end
    → Stopped left source_faults written faults source_old source_now old now steps_old steps_now start held most end
stopped_at_end left source_faults written faults source_old source_now old now steps_old steps_now start held most Done moved none calm done =
    let same : left source_now ≡ left source_old = sym (moved ∙ prepend_none (left source_now)) in
    (same, subst (λ (known : Option (List ℕ)). IsAtEnd known) (sym same) none, calm, done)
stopped_at_end left source_faults written faults source_old source_now old now steps_old steps_now start held most WriteFault moved none calm broken =
    let same : left source_now ≡ left source_old = sym (moved ∙ prepend_none (left source_now)) in
    (calm, inr (same, subst (λ (known : Option (List ℕ)). IsAtEnd known) (sym same) none, broken))
stopped_at_end left source_faults written faults source_old source_now old now steps_old steps_now start held most ReadFault moved none calm never =
    absurd never
stopped_at_end left source_faults written faults source_old source_now old now steps_old steps_now start held most TooLong moved none calm never = absurd never

-- the bytes kept of those left are enough
pub goes_kept : {K : Type 0} (written : K → Option (List ℕ)) (faults : K → ℕ) (old now : K) (steps_old steps_now : ℕ) (start current : Replying)
    (before left kept : List ℕ) (count : ℕ)
    → AreLongAlike current → IsUnended left → count ≡ min (length left) 4097 → kept ≡ take count left
    → Goes written faults old now steps_old steps_now start current before left
    → Goes written faults old now steps_old steps_now start current before kept
goes_kept written faults old now steps_old steps_now start current before left kept count alike free is same goes =
    elim (cases_lt (length left) 4098) [
      | inl few ↦ subst (λ (l : List ℕ). Goes written faults old now steps_old steps_now start current before l)
          (sym (same ∙ take_all count left (omega arith))) goes
      | inr many ↦ subst (λ (l : List ℕ). Goes written faults old now steps_old steps_now start current before l) (sym same)
          (goes_cut written faults old now steps_old steps_now start current before left (take count left) alike free
          (unended_take count left free) (omega arith) (omega (arith, length-take count left)) goes)
    ]

-- ---- all turns

-- The bytes so far were read, and the lines that they complete were replied to.
pub record Standing {S K : Type 0} (left : S → Option (List ℕ)) (source_faults : S → ℕ) (written : K → Option (List ℕ)) (faults : K → ℕ)
    (source_old source_now : S) (old now : K) (steps_old steps_now : ℕ) (start current : Replying) (held : List ℕ) (count : ℕ) : Type 0 where
  pub bytes : List ℕ
  pub counted : length bytes ≡ count
  pub moved : left source_old ≡ prepend_known bytes (left source_now)
  pub calm : source_faults source_now ≡ source_faults source_old
  pub goes : Goes written faults old now steps_old steps_now start current bytes held
  pub unended : IsUnended held

pub standing_none : {S K : Type 0} (left : S → Option (List ℕ)) (source_faults : S → ℕ) (written : K → Option (List ℕ)) (faults : K → ℕ)
    (source : S) (out : K) (steps : ℕ) (start : Replying) → Standing left source_faults written faults source source out out steps steps start start [] 0
standing_none left source_faults written faults source out steps start = record {
  bytes = [];
  counted = refl;
  moved = sym (prepend_none (left source));
  calm = refl;
  goes = goes_none written faults out steps start [];
  unended = tt;
}

pub standing_turn : {S K : Type 0} (left : S → Option (List ℕ)) (source_faults : S → ℕ) (written : K → Option (List ℕ)) (faults : K → ℕ)
    (source_old source_now source_new : S) (old now new : K) (steps_old steps_now steps_new : ℕ) (start current later : Replying)
    (held kept : List ℕ) (count most n total : ℕ)
    → Standing left source_faults written faults source_old source_now old now steps_old steps_now start current held count
    → Took left source_faults written faults source_now source_new now new steps_now steps_new current later held kept most n → total ≡ count + n
    → Standing left source_faults written faults source_old source_new old new steps_old steps_new start later kept total
standing_turn left source_faults written faults source_old source_now source_new old now new steps_old steps_now steps_new start current later held kept count
    most n total standing took all = record {
      bytes = standing.bytes ++ took.piece;
      counted = length-append standing.bytes took.piece ∙ ap (λ (k : ℕ). k + length took.piece) standing.counted ∙ ap (λ (k : ℕ). count + k) took.counted
          ∙ sym all;
      moved = standing.moved ∙ ap (prepend_known standing.bytes) took.moved ∙ prepend_more (left source_new) standing.bytes took.piece;
      calm = took.calm ∙ standing.calm;
      goes = goes_then written faults old now new steps_old steps_now steps_new start current later (standing.bytes ++ took.piece) (held ++ took.piece) kept
          (goes_taken written faults old now steps_old steps_now start current standing.bytes held took.piece standing.goes) took.goes;
      unended = took.unended;
    }

-- the turn that ends the loop
pub standing_stopped : {S K : Type 0} (left : S → Option (List ℕ)) (source_faults : S → ℕ) (written : K → Option (List ℕ)) (faults : K → ℕ)
    (source_old source_now source_new : S) (old now new : K) (steps_old steps_now steps_new : ℕ) (start current : Replying) (held : List ℕ) (count most : ℕ)
    (end : ServeEnd)
    → current [] ≡ none_replied → Standing left source_faults written faults source_old source_now old now steps_old steps_now start current held count
    → Stopped left source_faults written faults source_now source_new now new steps_now steps_new current held most end → count < INPUT_BYTES
    → count + most ≡ INPUT_BYTES
    → Ends (left source_old) (left source_new) (written old) (written new) steps_old steps_new start end × Counts (source_faults source_old)
    (source_faults source_new) (faults old) (faults new) end
standing_stopped left source_faults written faults source_old source_now source_new old now new steps_old steps_now steps_new start current held count most Done
    nothing standing (same, none, calm, gave) few room =
    let whole = goes_whole written faults old now new steps_old steps_now steps_new start current standing.bytes held standing.goes gave in (
      (
        (
          standing.bytes,
          omega (arith, standing.counted, few),
          record {
            moved = standing.moved ∙ ap (prepend_known standing.bytes) (sym same);
            appended = whole.appended;
            counted = whole.counted;
          },
        ),
        none,
      ),
      (calm ∙ standing.calm, whole.faultless),
    )
standing_stopped left source_faults written faults source_old source_now source_new old now new steps_old steps_now steps_new start current held count most
    ReadFault nothing standing (same, rose, text, none, still) few room =
    let ended = goes_ended written faults old now steps_old steps_now start current standing.bytes held nothing standing.goes standing.unended in (
      (
        standing.bytes,
        omega (arith, standing.counted, few),
        record {
          moved = standing.moved ∙ ap (prepend_known standing.bytes) (sym same);
          appended = text ∙ ended.appended;
          counted = still ∙ ended.counted;
        },
      ),
      (rose_from source_faults source_old source_now source_new standing.calm rose, none ∙ ended.faultless),
    )
standing_stopped left source_faults written faults source_old source_now source_new old now new steps_old steps_now steps_new start current held count most
    WriteFault nothing standing (calm, inl (piece, short, moved, broken)) few room =
    let whole = breaks_ended written faults old now new steps_old steps_now steps_new start current standing.bytes held piece standing.goes broken in (
      (
        standing.bytes ++ piece,
        omega (arith, length-append standing.bytes piece, standing.counted, short, room),
        standing.moved ∙ ap (prepend_known standing.bytes) moved ∙ prepend_more (left source_new) standing.bytes piece,
        inl whole.within,
      ),
      (calm ∙ standing.calm, whole.rose),
    )
standing_stopped left source_faults written faults source_old source_now source_new old now new steps_old steps_now steps_new start current held count most
    WriteFault nothing standing (calm, inr (same, none, broken)) few room =
    let whole = breaks_last written faults old now new steps_old steps_now steps_new start current standing.bytes held standing.goes broken in (
      (
        standing.bytes,
        omega (arith, standing.counted, few),
        standing.moved ∙ ap (prepend_known standing.bytes) (sym same),
        inr (omega (arith, standing.counted, few), none, whole.within),
      ),
      (calm ∙ standing.calm, whole.rose),
    )
standing_stopped left source_faults written faults source_old source_now source_new old now new steps_old steps_now steps_new start current held count most
    TooLong nothing standing never few room = absurd never

-- the loop has read as much as the limit
pub standing_full : {S K : Type 0} (left : S → Option (List ℕ)) (source_faults : S → ℕ) (written : K → Option (List ℕ)) (faults : K → ℕ)
    (source_old source_now : S) (old now : K) (steps_old steps_now : ℕ) (start current : Replying) (held : List ℕ) (count : ℕ)
    → current [] ≡ none_replied → Standing left source_faults written faults source_old source_now old now steps_old steps_now start current held count
    → count ≡ INPUT_BYTES
    → Ends (left source_old) (left source_now) (written old) (written now) steps_old steps_now start TooLong × Counts (source_faults source_old)
    (source_faults source_now) (faults old) (faults now) TooLong
standing_full left source_faults written faults source_old source_now old now steps_old steps_now start current held count nothing standing full =
    let ended = goes_ended written faults old now steps_old steps_now start current standing.bytes held nothing standing.goes standing.unended in (
      (
        standing.bytes,
        standing.counted ∙ full,
        record { moved = standing.moved; appended = ended.appended; counted = ended.counted },
      ),
      (standing.calm, ended.faultless),
    )
