-- The invariant of the loop, from one line, piece and turn to the next.
use Rattle.std.proofs.Common.{◌≡◌, ℕ, ◌<◌, length, List, [], ◌∷◌, ◌++◌, Option, None, Some, refl, sym, ◌∙◌, ap, subst, append_assoc, append-nil, arith}
use Rattle.std.specs.Io.KnownBytes.{append_known}
use Rattle.m_places.specs.declared.limits.TheConstants.{SESSION_LINE_BYTES}
use Rattle.m_text.specs.Bytes.{line_feed}
use Rattle.m_ports.specs.Counts.{Rose}
use Rattle.m_ports.proofs.SinkLemmas.{append_known-append, AppendsPrefix-after, AppendsPrefix-before}
use Rattle.household_session.specs.Replies.{IsUnended}
use Rattle.household_session.specs.Repliers.{AreLongAlike, Replied, Replying, none_replied, over_ended, over_whole, replied_then}
use Rattle.household_session.proofs.LineLemmas.{ended-line, ended-long, ended-none, none-then, then-assoc, then-none, whole-line, whole-long}
use Rattle.household_session.specs.inner.Going.{BreaksOff, Gave, Goes}

nothing_more : (known : Option (List ℕ)) → known ≡ append_known known []
nothing_more None = refl
nothing_more (Some bytes) = ap Some (sym (append-nil bytes))

-- no lines yet
pub goes_none : {K : Type 0} (written : K → Option (List ℕ)) (faults : K → ℕ) (old : K) (steps : ℕ) (start : Replying) (before : List ℕ)
    → Goes written faults old old steps steps start start before before
goes_none written faults old steps start before = record {
  replies = none_replied;
  whole = λ rest. none-then (over_whole start (before ++ rest));
  ended = λ rest. none-then (over_ended start (before ++ rest));
  gave = record { appended = nothing_more (written old); faultless = refl; counted = omega arith };
}

-- ---- two steps in sequence

gave_then : {K : Type 0} (written : K → Option (List ℕ)) (faults : K → ℕ) (old now new : K) (steps_old steps_now steps_new : ℕ) (front more : Replied)
    → Gave written faults old now steps_old steps_now front → Gave written faults now new steps_now steps_new more
    → Gave written faults old new steps_old steps_new (replied_then front more)
gave_then written faults old now new steps_old steps_now steps_new front more first second = record {
  appended = second.appended ∙ ap (λ known. append_known known more.text) first.appended ∙ append_known-append (written old) front.text more.text;
  faultless = second.faultless ∙ first.faultless;
  counted = omega (arith, first.counted, second.counted);
}

pub goes_then : {K : Type 0} (written : K → Option (List ℕ)) (faults : K → ℕ) (old now new : K) (steps_old steps_now steps_new : ℕ)
    (start current later : Replying) (before mid left : List ℕ)
    → Goes written faults old now steps_old steps_now start current before mid → Goes written faults now new steps_now steps_new current later mid left
    → Goes written faults old new steps_old steps_new start later before left
goes_then written faults old now new steps_old steps_now steps_new start current later before mid left first second = record {
  replies = replied_then first.replies second.replies;
  whole = λ rest. first.whole rest ∙ ap (replied_then first.replies) (second.whole rest)
      ∙ sym (then-assoc first.replies second.replies (over_whole later (left ++ rest)));
  ended = λ rest. first.ended rest ∙ ap (replied_then first.replies) (second.ended rest)
      ∙ sym (then-assoc first.replies second.replies (over_ended later (left ++ rest)));
  gave = gave_then written faults old now new steps_old steps_now steps_new first.replies second.replies first.gave second.gave;
}

-- ---- one line

-- a line with its line feed, followed by more
line_then : (line more rest : List ℕ) → (line ++ line_feed ∷ more) ++ rest ≡ line ++ line_feed ∷ (more ++ rest)
line_then line more rest = append_assoc line (line_feed ∷ more) rest

-- one more line was replied to
pub goes_line : {K : Type 0} (written : K → Option (List ℕ)) (faults : K → ℕ) (old now new : K) (steps_old steps_now steps_new : ℕ)
    (start current later : Replying) (before left line more : List ℕ) (reply : Replied)
    → Goes written faults old now steps_old steps_now start current before left → left ≡ line ++ line_feed ∷ more → IsUnended line
    → ((lines : List (List ℕ)) → current (line ∷ lines) ≡ replied_then reply (later lines)) → Gave written faults now new steps_now steps_new reply
    → Goes written faults old new steps_old steps_new start later before more
goes_line written faults old now new steps_old steps_now steps_new start current later before left line more reply goes is free step gave =
    goes_then written faults old now new steps_old steps_now steps_new start current later before left more goes (record {
      replies = reply;
      whole = λ rest. ap (λ l. over_whole current (l ++ rest)) is ∙ ap (over_whole current) (line_then line more rest)
          ∙ whole-line current later line (more ++ rest) reply free step;
      ended = λ rest. ap (λ l. over_ended current (l ++ rest)) is ∙ ap (over_ended current) (line_then line more rest)
          ∙ ended-line current later line (more ++ rest) reply free step;
      gave = gave;
    })

-- ---- pieces and cuts

-- one more piece is read
pub goes_taken : {K : Type 0} (written : K → Option (List ℕ)) (faults : K → ℕ) (old now : K) (steps_old steps_now : ℕ) (start current : Replying)
    (before left piece : List ℕ)
    → Goes written faults old now steps_old steps_now start current before left
    → Goes written faults old now steps_old steps_now start current (before ++ piece) (left ++ piece)
goes_taken written faults old now steps_old steps_now start current before left piece goes = record {
  replies = goes.replies;
  whole = λ rest. ap (over_whole start) (append_assoc before piece rest) ∙ goes.whole (piece ++ rest)
      ∙ ap (λ l. replied_then goes.replies (over_whole current l)) (sym (append_assoc left piece rest));
  ended = λ rest. ap (over_ended start) (append_assoc before piece rest) ∙ goes.ended (piece ++ rest)
      ∙ ap (λ l. replied_then goes.replies (over_ended current l)) (sym (append_assoc left piece rest));
  gave = goes.gave;
}

-- of a line that is too long its first bytes are enough
pub goes_cut : {K : Type 0} (written : K → Option (List ℕ)) (faults : K → ℕ) (old now : K) (steps_old steps_now : ℕ) (start current : Replying)
    (before left fewer : List ℕ)
    → AreLongAlike current → IsUnended left → IsUnended fewer → SESSION_LINE_BYTES < length left → SESSION_LINE_BYTES < length fewer
    → Goes written faults old now steps_old steps_now start current before left → Goes written faults old now steps_old steps_now start current before fewer
goes_cut written faults old now steps_old steps_now start current before left fewer alike free freed long longer goes = record {
  replies = goes.replies;
  whole = λ rest. goes.whole rest ∙ ap (replied_then goes.replies) (whole-long current left fewer rest alike free freed long longer);
  ended = λ rest. goes.ended rest ∙ ap (replied_then goes.replies) (ended-long current left fewer rest alike free freed long longer);
  gave = goes.gave;
}

-- ---- at the end

-- the replies to all lines: those so far, then those to the lines left
whole_then : {K : Type 0} (written : K → Option (List ℕ)) (faults : K → ℕ) (old now : K) (steps_old steps_now : ℕ) (start current : Replying)
    (before left : List ℕ) → (goes : Goes written faults old now steps_old steps_now start current before left)
    → over_whole start before ≡ replied_then goes.replies (over_whole current left)
whole_then written faults old now steps_old steps_now start current before left goes =
    ap (over_whole start) (sym (append-nil before)) ∙ goes.whole [] ∙ ap (λ l. replied_then goes.replies (over_whole current l)) (append-nil left)

-- and to the lines with their line feed
ended_then : {K : Type 0} (written : K → Option (List ℕ)) (faults : K → ℕ) (old now : K) (steps_old steps_now : ℕ) (start current : Replying)
    (before left : List ℕ) → (goes : Goes written faults old now steps_old steps_now start current before left)
    → over_ended start before ≡ replied_then goes.replies (over_ended current left)
ended_then written faults old now steps_old steps_now start current before left goes =
    ap (over_ended start) (sym (append-nil before)) ∙ goes.ended [] ∙ ap (λ l. replied_then goes.replies (over_ended current l)) (append-nil left)

-- all bytes have their replies, if the bytes left have them
pub goes_whole : {K : Type 0} (written : K → Option (List ℕ)) (faults : K → ℕ) (old now new : K) (steps_old steps_now steps_new : ℕ)
    (start current : Replying) (before left : List ℕ)
    → Goes written faults old now steps_old steps_now start current before left → Gave written faults now new steps_now steps_new (over_whole current left)
    → Gave written faults old new steps_old steps_new (over_whole start before)
goes_whole written faults old now new steps_old steps_now steps_new start current before left goes gave =
    subst (λ (replies : Replied). Gave written faults old new steps_old steps_new replies)
    (sym (whole_then written faults old now steps_old steps_now start current before left goes))
    (gave_then written faults old now new steps_old steps_now steps_new goes.replies (over_whole current left) goes.gave gave)

-- the lines with their line feed have their replies, if the bytes left have no such line
pub goes_ended : {K : Type 0} (written : K → Option (List ℕ)) (faults : K → ℕ) (old now : K) (steps_old steps_now : ℕ) (start current : Replying)
    (before left : List ℕ)
    → current [] ≡ none_replied → Goes written faults old now steps_old steps_now start current before left → IsUnended left
    → Gave written faults old now steps_old steps_now (over_ended start before)
goes_ended written faults old now steps_old steps_now start current before left nothing goes free =
    let same = ended_then written faults old now steps_old steps_now start current before left goes
    ∙ ap (replied_then goes.replies) (ended-none current left nothing free) ∙ then-none goes.replies in
    subst (λ (replies : Replied). Gave written faults old now steps_old steps_now replies) (sym same) goes.gave

-- ---- a write that fails

-- if the fault count rose after an unchanged prefix, it rose since the start
pub rose_from : {K : Type 0} (faults : K → ℕ) (old now new : K) → faults now ≡ faults old → Rose (faults now) (faults new) → Rose (faults old) (faults new)
rose_from faults old now new same rose = subst (λ count. Rose count (faults new)) same rose

-- some replies were given, then a write failed
breaks_after : {K : Type 0} (written : K → Option (List ℕ)) (faults : K → ℕ) (old now new : K) (steps_old steps_now steps_new : ℕ)
    (front more all : Replied)
    → Gave written faults old now steps_old steps_now front → all ≡ replied_then front more → BreaksOff written faults now new steps_now steps_new more
    → BreaksOff written faults old new steps_old steps_new all
breaks_after written faults old now new steps_old steps_now steps_new front more all gave is breaks =
    subst (λ (replies : Replied). BreaksOff written faults old new steps_old steps_new replies) (sym is) (record {
      rose = rose_from faults old now new gave.faultless breaks.rose;
      within = (
        AppendsPrefix-after (written old) (written now) (written new) front.text more.text gave.appended breaks.within.0,
        omega (arith, gave.counted, breaks.within.1),
      );
    })

-- a step, then a failure among the lines that a piece completes
pub breaks_ended : {K : Type 0} (written : K → Option (List ℕ)) (faults : K → ℕ) (old now new : K) (steps_old steps_now steps_new : ℕ)
    (start current : Replying) (before left piece : List ℕ)
    → Goes written faults old now steps_old steps_now start current before left
    → BreaksOff written faults now new steps_now steps_new (over_ended current (left ++ piece))
    → BreaksOff written faults old new steps_old steps_new (over_ended start (before ++ piece))
breaks_ended written faults old now new steps_old steps_now steps_new start current before left piece goes breaks =
    breaks_after written faults old now new steps_old steps_now steps_new goes.replies (over_ended current (left ++ piece)) (over_ended start (before ++ piece))
    goes.gave (goes.ended piece) breaks

-- a step, then a failure in the last line
pub breaks_last : {K : Type 0} (written : K → Option (List ℕ)) (faults : K → ℕ) (old now new : K) (steps_old steps_now steps_new : ℕ)
    (start current : Replying) (before left : List ℕ)
    → Goes written faults old now steps_old steps_now start current before left → BreaksOff written faults now new steps_now steps_new (over_whole current left)
    → BreaksOff written faults old new steps_old steps_new (over_whole start before)
breaks_last written faults old now new steps_old steps_now steps_new start current before left goes breaks =
    breaks_after written faults old now new steps_old steps_now steps_new goes.replies (over_whole current left) (over_whole start before) goes.gave
    (whole_then written faults old now steps_old steps_now start current before left goes) breaks

-- a step, then the reply to a line with its line feed was interrupted
pub breaks_line : {K : Type 0} (written : K → Option (List ℕ)) (faults : K → ℕ) (old now new : K) (steps_old steps_now steps_new : ℕ)
    (start current later : Replying) (before left line more : List ℕ) (reply : Replied)
    → Goes written faults old now steps_old steps_now start current before left → left ≡ line ++ line_feed ∷ more → IsUnended line
    → ((lines : List (List ℕ)) → current (line ∷ lines) ≡ replied_then reply (later lines)) → BreaksOff written faults now new steps_now steps_new reply
    → BreaksOff written faults old new steps_old steps_new (over_ended start before)
breaks_line written faults old now new steps_old steps_now steps_new start current later before left line more reply goes is free step breaks =
    breaks_after written faults old now new steps_old steps_now steps_new goes.replies (over_ended current left) (over_ended start before) goes.gave
    (ended_then written faults old now steps_old steps_now start current before left goes)
    (subst (λ (replies : Replied). BreaksOff written faults now new steps_now steps_new replies)
    (sym (ap (over_ended current) is ∙ ended-line current later line more reply free step)) (record {
      rose = breaks.rose;
      within = (
        AppendsPrefix-before (written now) (written new) reply.text (over_ended later more).text breaks.within.0,
        omega (arith, breaks.within.1),
      );
    }))
