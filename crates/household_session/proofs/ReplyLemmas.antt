-- The lines of an input and their replies, line by line and by the bytes before the next line feed.
use Rattle.std.proofs.Common.{◌≡◌, ◌≢◌, ℕ, ◌<◌, Bool, true, false, List, [], ◌∷◌, ◌++◌, length, append-nil, refl, sym, ap, ◌∙◌, arith}
use Rattle.std.specs.Prelude.{◌==◌, if◌then◌else◌}
use Rattle.std.proofs.lemmas.Bool.{ne_eqb}
use Rattle.m_text.specs.Bytes.{line_feed}
use Rattle.m_text.specs.Lines.{onto_first}
use Rattle.household_session.specs.Sessions.{Sitting}
use Rattle.household_session.specs.Replies.{reply_of, after_line, input_lines, onto_ended, ended_lines}
use Rattle.household_session.specs.Replies.{replies_to, replies_of, IsUnended}

-- ---- a complete line

ended_first : (byte : ℕ) (bytes first : List ℕ) (lines : List (List ℕ)) → byte ≢ 10 → input_lines bytes ≡ first ∷ lines
    → input_lines (byte ∷ bytes) ≡ (byte ∷ first) ∷ lines
ended_first byte bytes first lines other is = rw (ne_eqb byte 10 other) (ap (onto_first byte) is)

ended_next : (byte : ℕ) (bytes first : List ℕ) (lines : List (List ℕ)) → byte ≢ 10 → ended_lines bytes ≡ first ∷ lines
    → ended_lines (byte ∷ bytes) ≡ (byte ∷ first) ∷ lines
ended_next byte bytes first lines other is = rw (ne_eqb byte 10 other) (ap (onto_ended byte) is)

pub input_lines-line : (first rest : List ℕ) → IsUnended first → input_lines (first ++ line_feed ∷ rest) ≡ first ∷ input_lines rest
input_lines-line [] rest free = refl
input_lines-line (byte ∷ bytes) rest free = ended_first byte (bytes ++ line_feed ∷ rest) bytes (input_lines rest) free.0 (input_lines-line bytes rest free.1)

pub ended_lines-line : (first rest : List ℕ) → IsUnended first → ended_lines (first ++ line_feed ∷ rest) ≡ first ∷ ended_lines rest
ended_lines-line [] rest free = refl
ended_lines-line (byte ∷ bytes) rest free = ended_next byte (bytes ++ line_feed ∷ rest) bytes (ended_lines rest) free.0 (ended_lines-line bytes rest free.1)

-- ---- bytes before the next line feed

-- bytes put before the first of some lines
abbrev pub in_front : List ℕ → List (List ℕ) → List (List ℕ)
in_front bytes [] = bytes ∷ []
in_front bytes (first ∷ lines) = (bytes ++ first) ∷ lines

abbrev pub in_front_ended : List ℕ → List (List ℕ) → List (List ℕ)
in_front_ended bytes [] = []
in_front_ended bytes (first ∷ lines) = (bytes ++ first) ∷ lines

one_in_front : (byte : ℕ) (lines : List (List ℕ)) → onto_first byte lines ≡ in_front (byte ∷ []) lines
one_in_front byte [] = refl
one_in_front byte (first ∷ lines) = refl

more_in_front : (byte : ℕ) (bytes : List ℕ) (lines : List (List ℕ)) → onto_first byte (in_front bytes lines) ≡ in_front (byte ∷ bytes) lines
more_in_front byte bytes [] = refl
more_in_front byte bytes (first ∷ lines) = refl

more_in_front_ended : (byte : ℕ) (bytes : List ℕ) (lines : List (List ℕ)) → onto_ended byte (in_front_ended bytes lines) ≡ in_front_ended (byte ∷ bytes) lines
more_in_front_ended byte bytes [] = refl
more_in_front_ended byte bytes (first ∷ lines) = refl

none_in_front : (lines : List (List ℕ)) → lines ≡ in_front_ended [] lines
none_in_front [] = refl
none_in_front (first ∷ lines) = refl

at_other : (byte : ℕ) (bytes : List ℕ) → byte ≢ 10 → input_lines (byte ∷ bytes) ≡ onto_first byte (input_lines bytes)
at_other byte bytes other = rw (ne_eqb byte 10 other) refl

at_other_ended : (byte : ℕ) (bytes : List ℕ) → byte ≢ 10 → ended_lines (byte ∷ bytes) ≡ onto_ended byte (ended_lines bytes)
at_other_ended byte bytes other = rw (ne_eqb byte 10 other) refl

pub input_lines-front : (front rest : List ℕ) → IsUnended front → 0 < length front → input_lines (front ++ rest) ≡ in_front front (input_lines rest)
input_lines-front [] rest free some = absurd (omega arith)
input_lines-front (byte ∷ []) rest free some = at_other byte rest free.0 ∙ one_in_front byte (input_lines rest)
input_lines-front (byte ∷ next ∷ bytes) rest free some =
    at_other byte (next ∷ bytes ++ rest) free.0 ∙ ap (onto_first byte) (input_lines-front (next ∷ bytes) rest free.1 (omega arith))
    ∙ more_in_front byte (next ∷ bytes) (input_lines rest)

pub ended_lines-front : (front rest : List ℕ) → IsUnended front → ended_lines (front ++ rest) ≡ in_front_ended front (ended_lines rest)
ended_lines-front [] rest free = none_in_front (ended_lines rest)
ended_lines-front (byte ∷ bytes) rest free =
    at_other_ended byte (bytes ++ rest) free.0 ∙ ap (onto_ended byte) (ended_lines-front bytes rest free.1) ∙ more_in_front_ended byte bytes (ended_lines rest)

-- bytes without a line feed are one line, which has no line feed
pub input_lines-last : (bytes : List ℕ) → IsUnended bytes → 0 < length bytes → input_lines bytes ≡ bytes ∷ []
input_lines-last bytes free some = ap input_lines (sym (append-nil bytes)) ∙ input_lines-front bytes [] free some

pub ended_lines-last : (bytes : List ℕ) → IsUnended bytes → ended_lines bytes ≡ []
ended_lines-last bytes free = ap ended_lines (sym (append-nil bytes)) ∙ ended_lines-front bytes [] free

-- ---- the replies

-- the replies to an input are that to its first line, followed by those to the rest
pub replies-line : (sitting : Sitting) (first rest : List ℕ) → IsUnended first
    → replies_of sitting (first ++ line_feed ∷ rest) ≡ reply_of sitting first ++ replies_of (after_line sitting first) rest
replies-line sitting first rest free = ap (replies_to sitting) (input_lines-line first rest free)

-- a last line without a line feed is replied to like any other
pub replies-last : (sitting : Sitting) (bytes : List ℕ) → IsUnended bytes → 0 < length bytes → replies_of sitting bytes ≡ reply_of sitting bytes
replies-last sitting bytes free some = ap (replies_to sitting) (input_lines-last bytes free some) ∙ append-nil (reply_of sitting bytes)

-- ---- a prefix of an input

lines_begin : (feed : Bool) (byte : ℕ) (all ended lines : List (List ℕ)) → all ≡ ended ++ lines
    → (more : List (List ℕ)) × ((if feed then [] ∷ all else onto_first byte all) ≡ (if feed then [] ∷ ended else onto_ended byte ended) ++ more)
lines_begin true byte all ended lines is = (lines, ap (λ l. [] ∷ l) is)
lines_begin false byte all [] lines is = (onto_first byte all, refl)
lines_begin false byte all (first ∷ ended) lines is = (lines, ap (onto_first byte) is)

ended_begin : (feed : Bool) (byte : ℕ) (all ended lines : List (List ℕ)) → all ≡ ended ++ lines
    → (more : List (List ℕ)) × ((if feed then [] ∷ all else onto_ended byte all) ≡ (if feed then [] ∷ ended else onto_ended byte ended) ++ more)
ended_begin true byte all ended lines is = (lines, ap (λ l. [] ∷ l) is)
ended_begin false byte all [] lines is = (onto_ended byte all, refl)
ended_begin false byte all (first ∷ ended) lines is = (lines, ap (onto_ended byte) is)

-- the lines of an input begin with the lines of a prefix that have their line feed
pub input_lines-begin : (front rest : List ℕ) → (lines : List (List ℕ)) × (input_lines (front ++ rest) ≡ ended_lines front ++ lines)
input_lines-begin [] rest = (input_lines rest, refl)
input_lines-begin (byte ∷ front) rest =
    let more = input_lines-begin front rest in
    lines_begin (byte == line_feed) byte (input_lines (front ++ rest)) (ended_lines front) more.0 more.1

-- the same for the lines of the input that have their line feed
pub ended_lines-begin : (front rest : List ℕ) → (lines : List (List ℕ)) × (ended_lines (front ++ rest) ≡ ended_lines front ++ lines)
ended_lines-begin [] rest = (ended_lines rest, refl)
ended_lines-begin (byte ∷ front) rest =
    let more = ended_lines-begin front rest in
    ended_begin (byte == line_feed) byte (ended_lines (front ++ rest)) (ended_lines front) more.0 more.1
