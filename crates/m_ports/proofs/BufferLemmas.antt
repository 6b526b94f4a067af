-- A text written through a buffer is given as a whole.
use Rattle.std.proofs.Common.{◌≡◌, ◌≤◌, ℕ, ◌+◌, length, take, drop, List, [], ◌∷◌, ◌++◌, Option, None, Some, Result, Ok, Err, refl, sym, ◌∙◌, ap, subst}
use Rattle.std.proofs.Common.{append_assoc, append-nil}
use Rattle.std.specs.Io.KnownBytes.{append_known}
use Rattle.std.proofs.lemmas.List.{take-append-drop, drop-drop, drop_all}
use Rattle.std.specs.Prelude.{OnOk, OnErr}
use Rattle.m_ports.specs.Counts.{Rose}
use Rattle.m_ports.specs.declared.source.Failed.{Failed}
use Rattle.m_ports.specs.Sink.{AppendsPrefix}
use Rattle.m_ports.proofs.SinkLemmas.{append_known-append, AppendsPrefix-after}
use Rattle.m_ports.specs.Giving.{Gives}
use Rattle.m_ports.proofs.GivingLemmas.{Given, piece_given, piece_failed, all_given}
use Rattle.m_ports.specs.Buffers.{Extends, part_since}

pub nothing_more : (known : Option (List ℕ)) → append_known known [] ≡ known
nothing_more None = refl
nothing_more (Some bytes) = ap Some (append-nil bytes)

drop_front : (front rest : List ℕ) → drop (length front) (front ++ rest) ≡ rest
drop_front [] rest = refl
drop_front (x ∷ front) rest = drop_front front rest

same : (one other : List ℕ) → Some one ≡ Some other → one ≡ other
same one other is = cc is

same_rest : (front one other : List ℕ) → front ++ one ≡ front ++ other → one ≡ other
same_rest front one other is = sym (drop_front front one) ∙ ap (drop (length front)) is ∙ drop_front front other

-- nothing was written since
pub extends_none : (known : Option (List ℕ)) → Extends known known
extends_none None = refl
extends_none (Some bytes) = sym (ap (λ (part : List ℕ). Some (bytes ++ part)) (ap (drop (length bytes)) (sym (append-nil bytes)) ∙ drop_front bytes [])
    ∙ ap Some (append-nil bytes))

extends_by : (before now : Option (List ℕ)) (part : List ℕ) → now ≡ append_known before part → Extends before now
extends_by None now part is = is
extends_by (Some bytes) now part is = rw is (ap (λ (l : List ℕ). Some (bytes ++ l)) (sym (drop_front bytes part)))

-- another part was written
pub extends_more : (before mid now : Option (List ℕ)) (part : List ℕ) → Extends before mid → now ≡ append_known mid part → Extends before now
extends_more before mid now part was is =
    extends_by before now (part_since before mid ++ part) (is ∙ ap (λ known. append_known known part) was
    ∙ append_known-append before (part_since before mid) part)

-- ---- the bytes from a position on

-- n more bytes of the rest are given
pub given_more : {S : Type 0} (written : S → Option (List ℕ)) (faults : S → ℕ) (old now new : S) (bytes text : List ℕ) (place n : ℕ)
    → n ≤ length (drop place bytes)
    → Given written faults old now text (drop place bytes) → written new ≡ append_known (written now) (take n (drop place bytes)) → faults new ≡ faults now
    → Given written faults old new text (drop (place + n) bytes)
given_more written faults old now new bytes text place n few given more none =
    piece_given written faults old now new text (take n (drop place bytes)) (drop (place + n) bytes) (drop place bytes)
    (sym (take-append-drop n (drop place bytes)) ∙ ap (λ rest. take n (drop place bytes) ++ rest) (drop-drop n place bytes)) given more none

-- the given bytes and the rest are the whole text
pub given_whole : {S : Type 0} (written : S → Option (List ℕ)) (faults : S → ℕ) (old now : S) (text rest : List ℕ) → Given written faults old now text rest
    → append_known (written now) rest ≡ append_known (written old) text
given_whole written faults old now text rest given =
    ap (λ known. append_known known rest) given.appended ∙ append_known-append (written old) given.front rest
    ∙ ap (append_known (written old)) (sym given.whole)

-- the next call failed
pub given_failed : {S T E : Type 0} (written : S → Option (List ℕ)) (faults : S → ℕ) (old now new : S) (text rest : List ℕ) (result : Result T E) (fault : E)
    → result ≡ Err fault
    → Given written faults old now text rest → Rose (faults now) (faults new) → written new ≡ written now → faults now ≤ faults new
    → Gives written faults old new result text
given_failed written faults old now new text rest result fault is given rose kept counted =
    piece_failed written faults old now new text rest [] rest result fault is (sym (append-nil rest)) given rose
    (record { part = []; rest = rest; whole = refl; appended = kept ∙ sym (nothing_more (written now)) }) counted

pub given_kept : {S : Type 0} (written : S → Option (List ℕ)) (faults : S → ℕ) (old now new : S) (text rest : List ℕ) → Given written faults old now text rest
    → written new ≡ written now
    → append_known (written new) rest ≡ append_known (written old) text
given_kept written faults old now new text rest given kept = ap (λ known. append_known known rest) kept ∙ given_whole written faults old now text rest given

pub given_grew : {S : Type 0} (written : S → Option (List ℕ)) (faults : S → ℕ) (old now new : S) (text rest : List ℕ) (before : Option (List ℕ))
    → Given written faults old now text rest
    → written new ≡ written now → Extends before (written old) → Extends before (written new)
given_grew written faults old now new text rest before given kept was = extends_more before (written old) (written new) given.front was (kept ∙ given.appended)

-- the position is at the end
pub given_all : {S E : Type 0} (written : S → Option (List ℕ)) (faults : S → ℕ) (old now : S) (text bytes : List ℕ) (place : ℕ) (result : Result (Unit {0}) E)
    → length bytes ≤ place
    → result ≡ Ok tt → Given written faults old now text (drop place bytes) → Gives written faults old now result text
given_all written faults old now text bytes place result end ok given =
    all_given written faults old now text result tt ok (subst (λ (rest : List ℕ). Given written faults old now text rest) (drop_all place bytes end) given)

-- ---- a text printed into a buffer, and the gathered rest

-- the text is the part that was given and the part that is gathered
cut : (bytes : List ℕ) (now : Option (List ℕ)) (rest text : List ℕ) → Extends (Some bytes) now → append_known now rest ≡ Some (bytes ++ text)
    → text ≡ part_since (Some bytes) now ++ rest
cut bytes now rest text was is =
    let part = part_since (Some bytes) now in
    sym (same_rest bytes (part ++ rest) text (sym (append_assoc bytes part rest)
    ∙ same ((bytes ++ part) ++ rest) (bytes ++ text) (sym (ap (λ known. append_known known rest) was) ∙ is)))

untold : (old : Option (List ℕ)) (text : List ℕ) → old ≡ None → AppendsPrefix None old text
untold old text none = record { part = text; rest = []; whole = sym (append-nil text); appended = none }

-- a write of the gathered bytes failed
rest_prefix : (old mid new : Option (List ℕ)) (rest text : List ℕ) → Extends old mid → append_known mid rest ≡ append_known old text
    → AppendsPrefix mid new rest → AppendsPrefix old new text
rest_prefix None mid new rest text was is prefix = untold new text (prefix.appended ∙ ap (λ known. append_known known prefix.part) was)
rest_prefix (Some bytes) mid new rest text was is prefix =
    subst (λ (t : List ℕ). AppendsPrefix (Some bytes) new t) (sym (cut bytes mid rest text was is))
    (AppendsPrefix-after (Some bytes) mid new (part_since (Some bytes) mid) rest was prefix)

-- a write failed while the text was printed
gathered_prefix : (old mid : Option (List ℕ)) (rest text : List ℕ) → Extends old mid → AppendsPrefix old (append_known mid rest) text
    → AppendsPrefix old mid text
gathered_prefix None mid rest text was prefix = untold mid text was
gathered_prefix (Some bytes) mid rest text was prefix = record {
  part = part_since (Some bytes) mid;
  rest = rest ++ prefix.rest;
  whole = prefix.whole ∙ ap (λ t. t ++ prefix.rest) (cut bytes mid rest prefix.part was prefix.appended)
      ∙ append_assoc (part_since (Some bytes) mid) rest prefix.rest;
  appended = was;
}

-- The text was printed into a new buffer, and the gathered bytes were given, or that write failed:
-- the text was given, or a prefix of it.
pub through_given : {S T E : Type 0} (written : S → Option (List ℕ)) (faults : S → ℕ) (old before mid new : S) (start first : Option (List ℕ))
    (rest text : List ℕ) (result : Result T E)
    → before ≡ old → first ≡ written old → written old ≡ start → Extends start (written mid) → append_known (written mid) rest ≡ append_known first text
    → faults mid ≡ faults before
    → Gives written faults mid new result rest → Gives written faults old new result text
through_given written faults old before mid new start first rest text (Ok value) made none known_files was all calm gives = record {
  all = gives.all ∙ all ∙ ap (λ known. append_known known text) none;
  failed = tt;
  prefix = tt;
  faultless = gives.faultless ∙ calm ∙ ap faults made;
  counted = subst (λ count. count ≤ faults new) (calm ∙ ap faults made) gives.counted;
}
through_given written faults old before mid new start first rest text (Err fault) made none known_files was all calm gives = record {
  all = tt;
  failed = subst (λ count. Rose count (faults new)) (calm ∙ ap faults made) gives.failed;
  prefix = rest_prefix (written old) (written mid) (written new) rest text (subst (λ (known : Option (List ℕ)). Extends known (written mid)) (sym known_files)
      was)
      (all ∙ ap (λ known. append_known known text) none) gives.prefix;
  faultless = tt;
  counted = subst (λ count. count ≤ faults new) (calm ∙ ap faults made) gives.counted;
}

-- A write failed while the text was printed into a new buffer: a prefix of the text was given.
pub through_broken : {S : Type 0} (written : S → Option (List ℕ)) (old mid : S) (start first : Option (List ℕ)) (rest text : List ℕ)
    → first ≡ written old → written old ≡ start → Extends start (written mid) → AppendsPrefix first (append_known (written mid) rest) text
    → AppendsPrefix (written old) (written mid) text
through_broken written old mid start first rest text none known_files was prefix =
    gathered_prefix (written old) (written mid) rest text (subst (λ (known : Option (List ℕ)). Extends known (written mid)) (sym known_files) was)
    (subst (λ (known : Option (List ℕ)). AppendsPrefix known (append_known (written mid) rest) text) none prefix)

pub through_failed : {S T E : Type 0} (written : S → Option (List ℕ)) (faults : S → ℕ) (old before mid : S) (start first : Option (List ℕ)) (rest text : List ℕ)
    (result : Result T E) (fault : E)
    → result ≡ Err fault → before ≡ old → first ≡ written old → written old ≡ start → Extends start (written mid) → Rose (faults before) (faults mid)
    → AppendsPrefix first (append_known (written mid) rest) text → faults before ≤ faults mid → Gives written faults old mid result text
through_failed written faults old before mid start first rest text result fault is made none known_files was rose prefix counted = rw is (record {
  all = tt;
  failed = subst (λ count. Rose count (faults mid)) (ap faults made) rose;
  prefix = through_broken written old mid start first rest text none known_files was prefix;
  faultless = tt;
  counted = subst (λ count. count ≤ faults mid) (ap faults made) counted;
})

-- The text was printed into a new buffer, which was then finished: the one lemma that callers of
-- `finish` need.
pub through_result : {S : Type 0} (written : S → Option (List ℕ)) (faults : S → ℕ) (old before mid new : S) (start first : Option (List ℕ)) (rest text : List ℕ)
    (printed result : Result (Unit {0}) Failed)
    → before ≡ old → first ≡ written old → written old ≡ start → Extends start (written mid)
    → OnOk printed (append_known (written mid) rest ≡ append_known first text) → OnOk printed (faults mid ≡ faults before)
    → OnErr printed (Rose (faults before) (faults mid)) → OnErr printed (AppendsPrefix first (append_known (written mid) rest) text)
    → faults before ≤ faults mid
    → OnOk printed (Gives written faults mid new result rest) → OnErr printed ((new ≡ mid) × (result ≡ printed))
    → Gives written faults old new result text
through_result written faults old before mid new start first rest text (Ok value) result made none known_files was all calm rose prefix counted gives failed =
    through_given written faults old before mid new start first rest text result made none known_files was all calm gives
through_result written faults old before mid new start first rest text (Err fault) result made none known_files was all calm rose prefix counted gives failed =
    subst (λ now. Gives written faults old now result text) (sym failed.0)
    (through_failed written faults old before mid start first rest text result fault failed.1 made none known_files was rose prefix counted)
