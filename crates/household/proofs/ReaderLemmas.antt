-- The behaviour of a `csv` reader over bytes in memory.
use Rattle.std.proofs.Common.{Bor, ◌≡◌, ℕ, List, [], ◌∷◌, ◌++◌, ◌==◌, Option, Some, None, Bool, true, false, cond, drop, take, refl, sym, ap, subst, ◌∙◌, inl}
use Rattle.std.proofs.Common.{inr}
use Rattle.std.specs.Prelude.{option_map, not, ◌&&◌, Result, Ok, Err, OnOk, IfOk, IfErr, IsErr, MatchResult}
use Rattle.std.specs.declared.alloc.AllocError.{AllocError}
use Rattle.std.proofs.Math.Logic.{∥∥₁_elim}
use Rattle.std.proofs.Props.{props}
use Rattle.std.proofs.lemmas.Bool.{cases_Bool, cond-true, cond-false}
use Rattle.csv.specs.Machine.{Read, next_record}
use Rattle.csv.specs.Reading.{ExplainsRead, NextIs, ReadRecord, ReadsNext, Ready, buffered_of, default_config, error_kind, has_failed, is_flexible, pending_of}
use Rattle.csv.specs.Reading.{reader_trim, records_next, source_of, stops_reader, strip_bom, took_first, unread_of}
use Rattle.csv.specs.declared.error.Error.{Error}
use Rattle.csv.specs.declared.error.ErrorKind.{ErrorKind}
use Rattle.csv.specs.declared.error.ErrorKind.TheVariants as kind
use Rattle.csv.specs.declared.parser.Config.{Config}
use Rattle.csv.specs.declared.parser.State.{State}
use Rattle.csv.specs.declared.reader.Reader.{Reader}
use Rattle.csv.specs.declared.reader.Trim.TheVariants as trim
use Rattle.household.specs.Plain.{IsPlain, ReadsOn}
use Rattle.household.specs.Reader.{IsNext, left_from, records_from_state}
use Rattle.household.specs.declared.reader.Records.{Records}
use Rattle.household.proofs.LeftLemmas.{behind, next_and_behind}

abbrev pub Memory : Type 0
Memory = Reader (Bor (List ℕ))

abbrev pub reported : Bor (List ℕ) → Option (List ℕ)
reported bytes = Some bytes.now

-- ---- the bytes of a reader

either : (b : Bool) (xs ys : List ℕ) → (zs : List ℕ) × (cond b (Some xs) (Some ys) ≡ Some zs)
either true xs ys = (xs, refl)
either false xs ys = (ys, refl)

-- a reader that hasn't failed has known bytes
source_known : (reader : Memory) → has_failed reader ≡ false → (xs : List ℕ) × (source_of reported reader ≡ Some xs)
source_known reader going =
    let known = either (not reader.bom_checked && (reader.at == 0) && (reader.filled == 0)) (strip_bom reader.rdr.now)
    (drop reader.at (take reader.filled reader.buffer) ++ reader.rdr.now) in
    (known.0, cond-false (has_failed reader) None (unread_of reported reader) going ∙ known.1)

-- after the first read no byte order mark is dropped
source_after : (reader : Memory) → reader.bom_checked ≡ true → source_of reported reader ≡ pending_of (reported reader.rdr) reader
source_after reader checked =
    ap (λ b. cond (has_failed reader) None (cond (not b && (reader.at == 0) && (reader.filled == 0)) (option_map strip_bom (reported reader.rdr))
    (buffered_of (reported reader.rdr) reader))) checked

-- ---- the effect of a read

read_one : (s s2 : State) (xs : List ℕ) (new : Option (List ℕ)) (fields : List (List ℕ)) → ReadsNext default_config s (Some xs) new true fields s2
    → left_from s (Some xs) ≡ fields ∷ left_from s2 new
read_one s s2 xs None fields h = absurd h
read_one s s2 xs (Some ys) fields h = next_and_behind s [] [] xs ∙ by (next_record default_config s [] [] xs) h
  where
    by : (o : Option Read) → NextIs o true fields s2 ys → records_next behind o ≡ fields ∷ records_from_state s2 [] [] ys
    by None is = absurd (cc is)
    by (Some p) is = λ i. sym is.1 i ∷ records_from_state (sym is.2 i) [] [] (sym is.3 i)

read_none : (s s2 : State) (xs : List ℕ) (new : Option (List ℕ)) (fields : List (List ℕ)) → ReadsNext default_config s (Some xs) new false fields s2
    → left_from s (Some xs) ≡ []
read_none s s2 xs None fields h = absurd h
read_none s s2 xs (Some ys) fields h = next_and_behind s [] [] xs ∙ by (next_record default_config s [] [] xs) h
  where
    by : (o : Option Read) → NextIs o false fields s2 ys → records_next behind o ≡ []
    by None is = refl
    by (Some p) is = absurd (cc is.0)

-- the result of a read from known bytes
known_read : (old new : Memory) (found : Bool) (fields : List (List ℕ)) (xs : List ℕ) → IsPlain old → source_of reported old ≡ Some xs
    → ReadRecord reported old new found fields
    → ReadsNext default_config old.state (Some xs) (pending_of (reported new.rdr) new) found fields new.state
known_read old new found fields xs plain known read =
    subst (λ (o : Option (List ℕ)). ReadsNext default_config old.state o (pending_of (reported new.rdr) new) found fields new.state) known
    (subst (λ (c : Config). ReadsNext c old.state (source_of reported old) (pending_of (reported new.rdr) new) found fields new.state) plain.config read.0)

pub next_is_read : (old new : Records) (found : Bool) (fields : List (List ℕ)) → IsPlain old.reader → has_failed old.reader ≡ false
    → ReadRecord reported old.reader new.reader found fields → IsNext old found fields new
next_is_read old new true fields plain going read =
    let known = source_known old.reader going in
    ap (left_from old.reader.state) known.1
    ∙ read_one old.reader.state new.reader.state known.0 _ fields (known_read old.reader new.reader true fields known.0 plain known.1 read)
    ∙ ap (λ (o : Option (List ℕ)). fields ∷ left_from new.reader.state o) (sym (source_after new.reader read.1))
next_is_read old new false fields plain going read =
    let known = source_known old.reader going in
    ap (left_from old.reader.state) known.1
    ∙ read_none old.reader.state new.reader.state known.0 _ fields (known_read old.reader new.reader false fields known.0 plain known.1 read)

-- a reader that has failed returns no record
pub failed_is : (old new : Records) (found : Bool) (fields : List (List ℕ)) → has_failed old.reader ≡ true → found ≡ false → IsNext old found fields new
failed_is old new true fields failed none = absurd (cc none)
failed_is old new false fields failed none = ap (left_from old.reader.state) (cond-true (has_failed old.reader) None (unread_of reported old.reader) failed)

-- ---- the reader after a read

pub plain_after : (old new : Memory) (found : Bool) (fields : List (List ℕ)) → IsPlain old → ReadRecord reported old new found fields → took_first new ≡ true
    → is_flexible new ≡ is_flexible old → IsPlain new
plain_after old new found fields plain read took flexible = record {
  config = read.2 ∙ plain.config;
  trim = read.3 ∙ plain.trim;
  flexible = flexible
      ∙ plain.flexible;
  ready = inl took;
}

-- each error leaves the reader failed
pub stops : (old new : Memory) (why : ErrorKind) → IsPlain old → ExplainsRead reported old new false why → stops_reader why ≡ true
stops old new (kind.Io e) plain h = refl
stops old new kind.OutOfMemory plain h = refl
stops old new (kind.UnequalLengths pos expected len) plain h = absurd (cc (sym plain.flexible ∙ h.0))
stops old new (kind.Utf8 pos err) plain h = absurd (cc h.0)
stops old new (kind.Serialize text) plain h = absurd h
stops old new (kind.Deserialize pos err) plain h = absurd h

-- ---- one call

-- the reader after a read
pub on_after : (old new : Memory) (fields : List (List ℕ)) (read : Result Bool Error) → ReadsOn old → (has_failed old ≡ true → read ≡ Ok false)
    → OnOk read (has_failed new ≡ has_failed old) → IfErr read (λ e. has_failed new ≡ stops_reader (error_kind e))
    → IfErr read (λ e. Ready old → ExplainsRead reported old new false (error_kind e))
    → (reader_trim old ≡ trim.None → OnOk read (took_first new ≡ true)) → OnOk read (is_flexible new ≡ is_flexible old)
    → IfOk read (λ found. reader_trim old ≡ trim.None → Ready old → ReadRecord reported old new found fields) → ReadsOn new
on_after old new fields (Ok found) (inl failed) stopped goes fails why took flexible reads = inl (goes ∙ failed)
on_after old new fields (Ok found) (inr plain) stopped goes fails why took flexible reads = inr
    (plain_after old new found fields plain (reads plain.trim plain.ready) (took plain.trim) flexible)
on_after old new fields (Err e) (inl failed) stopped goes fails why took flexible reads = absurd (cc (stopped failed))
on_after old new fields (Err e) (inr plain) stopped goes fails why took flexible reads = inl (fails ∙ stops old new (error_kind e) plain (why plain.ready))

found_none : (read : Result Bool Error) (found : Bool) → read ≡ Ok false → read ≡ Ok found → found ≡ false
found_none read found none e = let same : Ok false ≡ Ok found = sym none ∙ e in cc

-- the result of a read without an error
pub next_stated : (old new : Records) (fields : List (List ℕ)) (read : Result Bool Error) (found : Bool) → ReadsOn old.reader
    → (has_failed old.reader ≡ true → read ≡ Ok false)
    → IfOk read (λ found. reader_trim old.reader ≡ trim.None → Ready old.reader → ReadRecord reported old.reader new.reader found fields) → read ≡ Ok found
    → IsNext old found fields new
next_stated old new fields read found (inl failed) stopped reads e = failed_is old new found fields failed (found_none read found (stopped failed) e)
next_stated old new fields read found (inr plain) stopped reads e = elim (cases_Bool (has_failed old.reader)) [
  | inl failed ↦ failed_is old new found fields failed (found_none read found (stopped failed) e)
  | inr going ↦
      next_is_read old new found fields plain going
      (subst (λ (r : Result Bool Error). IfOk r (λ found. reader_trim old.reader ≡ trim.None → Ready old.reader
      → ReadRecord reported old.reader new.reader found fields)) e reads plain.trim plain.ready)
]

next_prop : (old new : Records) (found : Bool) (fields : List (List ℕ)) → IsProp (IsNext old found fields new)
next_prop old new true fields = hlevel props
next_prop old new false fields = hlevel props

-- the same for a reader that may have failed before
pub next_reported : (old new : Records) (fields : List (List ℕ)) (read : Result Bool Error) (result : Result Bool AllocError)
    → (has_failed old.reader ≡ true → read ≡ Ok false)
    → IfOk read (λ found. reader_trim old.reader ≡ trim.None → Ready old.reader → ReadRecord reported old.reader new.reader found fields)
    → MatchResult result (λ found. read ≡ Ok found) (λ _. IsErr read) → IfOk result (λ found. IsNext old found fields new)
next_reported old new fields read (Ok found) stopped reads e = ∥∥₁_elim old.plain (next_prop old new found fields)
    (λ on. next_stated old new fields read found on stopped reads e)
next_reported old new fields read (Err full) stopped reads e = tt
