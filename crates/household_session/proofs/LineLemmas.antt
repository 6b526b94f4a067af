-- Replies to the lines of an input and their cost, by its first line and by the bytes before the next line feed.
use Rattle.std.proofs.Common.{◌≡◌, ℕ, ◌+◌, ◌<◌, List, [], ◌∷◌, ◌++◌, length, length-append, append-nil, append_assoc, zero-add, sym, ap, ◌∙◌, arith, refl}
use Rattle.m_places.specs.declared.limits.TheConstants.{SESSION_LINE_BYTES}
use Rattle.m_text.specs.Bytes.{line_feed}
use Rattle.household_session.specs.Replies.{IsUnended, ended_lines, input_lines}
use Rattle.household_session.proofs.ReplyLemmas.{in_front, in_front_ended, ended_lines-front, ended_lines-last, ended_lines-line, input_lines-front}
use Rattle.household_session.proofs.ReplyLemmas.{input_lines-last, input_lines-line}
use Rattle.household_session.specs.Repliers.{AreLongAlike, Replied, Replying, none_replied, over_ended, over_whole, replied_then}

-- ---- replies one after another

pub none-then : (replies : Replied) → replies ≡ replied_then none_replied replies
none-then replies = λ i. record { text = replies.text; cost = sym (zero-add replies.cost) i }

pub then-none : (replies : Replied) → replied_then replies none_replied ≡ replies
then-none replies =
    let sum : replies.cost + 0 ≡ replies.cost = omega arith in
    λ i. record { text = append-nil replies.text i; cost = sum i }

pub then-assoc : (one two three : Replied) → replied_then (replied_then one two) three ≡ replied_then one (replied_then two three)
then-assoc one two three =
    let sums : (one.cost + two.cost) + three.cost ≡ one.cost + (two.cost + three.cost) = omega arith in
    λ i. record { text = append_assoc one.text two.text three.text i; cost = sums i }

-- ---- lines

-- the replies to an input are that to its first line, followed by those to the rest
pub whole-line : (current later : Replying) (first rest : List ℕ) (reply : Replied) → IsUnended first
    → ((lines : List (List ℕ)) → current (first ∷ lines) ≡ replied_then reply (later lines))
    → over_whole current (first ++ line_feed ∷ rest) ≡ replied_then reply (over_whole later rest)
whole-line current later first rest reply free step = ap current (input_lines-line first rest free) ∙ step (input_lines rest)

pub ended-line : (current later : Replying) (first rest : List ℕ) (reply : Replied) → IsUnended first
    → ((lines : List (List ℕ)) → current (first ∷ lines) ≡ replied_then reply (later lines))
    → over_ended current (first ++ line_feed ∷ rest) ≡ replied_then reply (over_ended later rest)
ended-line current later first rest reply free step = ap current (ended_lines-line first rest free) ∙ step (ended_lines rest)

-- a last line without a line feed is replied to like any other
pub whole-last : (current later : Replying) (bytes : List ℕ) (reply : Replied) → later [] ≡ none_replied → IsUnended bytes → 0 < length bytes
    → ((lines : List (List ℕ)) → current (bytes ∷ lines) ≡ replied_then reply (later lines))
    → over_whole current bytes ≡ reply
whole-last current later bytes reply nothing free some step = ap current (input_lines-last bytes free some) ∙ step [] ∙ ap (replied_then reply) nothing
    ∙ then-none reply

-- and isn't among the lines that have one
pub ended-none : (current : Replying) (bytes : List ℕ) → current [] ≡ none_replied → IsUnended bytes → over_ended current bytes ≡ none_replied
ended-none current bytes nothing free = ap current (ended_lines-last bytes free) ∙ nothing

-- ---- lines that are too long

long_in_front : (front first : List ℕ) → SESSION_LINE_BYTES < length front → SESSION_LINE_BYTES < length (front ++ first)
long_in_front front first long = omega (arith, long, length-append front first)

fronts_alike : (current : Replying) (one other : List ℕ) (lines : List (List ℕ)) → AreLongAlike current → SESSION_LINE_BYTES < length one
    → SESSION_LINE_BYTES < length other
    → current (in_front one lines) ≡ current (in_front other lines)
fronts_alike current one other [] alike long longer = alike one other [] long longer
fronts_alike current one other (first ∷ lines) alike long longer =
    alike (one ++ first) (other ++ first) lines (long_in_front one first long) (long_in_front other first longer)

ended_fronts_alike : (current : Replying) (one other : List ℕ) (lines : List (List ℕ)) → AreLongAlike current → SESSION_LINE_BYTES < length one
    → SESSION_LINE_BYTES < length other
    → current (in_front_ended one lines) ≡ current (in_front_ended other lines)
ended_fronts_alike current one other [] alike long longer = refl
ended_fronts_alike current one other (first ∷ lines) alike long longer =
    alike (one ++ first) (other ++ first) lines (long_in_front one first long) (long_in_front other first longer)

pub whole-long : (current : Replying) (one other rest : List ℕ) → AreLongAlike current → IsUnended one → IsUnended other → SESSION_LINE_BYTES < length one
    → SESSION_LINE_BYTES < length other
    → over_whole current (one ++ rest) ≡ over_whole current (other ++ rest)
whole-long current one other rest alike free freed long longer =
    ap current (input_lines-front one rest free (omega (arith, long))) ∙ fronts_alike current one other (input_lines rest) alike long longer
    ∙ sym (ap current (input_lines-front other rest freed (omega (arith, longer))))

pub ended-long : (current : Replying) (one other rest : List ℕ) → AreLongAlike current → IsUnended one → IsUnended other → SESSION_LINE_BYTES < length one
    → SESSION_LINE_BYTES < length other
    → over_ended current (one ++ rest) ≡ over_ended current (other ++ rest)
ended-long current one other rest alike free freed long longer =
    ap current (ended_lines-front one rest free) ∙ ended_fronts_alike current one other (ended_lines rest) alike long longer
    ∙ sym (ap current (ended_lines-front other rest freed))
