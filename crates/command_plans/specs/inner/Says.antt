-- The reader's result is the reading of the list file. No reader of the contracts needs this.
use Rattle.std.proofs.Common.{◌≡◌, ◌==◌, ℕ, ◌+◌, ◌≤◌, Bool, true, false, not, ◌&&◌, ◌||◌, List, [], ◌∷◌, ◌++◌, length, Option, Some, None, MatchOption}
use Rattle.std.proofs.Common.{MatchResult, nat_le, refl, sym, ap, ◌∙◌, subst, arith, inl, inr}
use Rattle.std.specs.List.{AllByRecursion, list_all}
use Rattle.std.specs.Str.{is_utf8}
use Rattle.std.proofs.lemmas.Bool.{and_from, and_parts, not-true, not_from_false, or_left, or_right, or_cases, le-leb, leb-true, eq-eqb, eqb-true, cases_Bool}
use Rattle.std.proofs.lemmas.Bool.{cases_lt, false_from_ne_true, lt-leb, both_ways}
use Rattle.std.proofs.lemmas.Str.{IsUtf8-from_is_utf8, is_utf8-from_IsUtf8}
use Rattle.m_places.specs.declared.limits.TheConstants.{FILE_NAME_BYTES, LIST_FILES}
use Rattle.m_text.specs.Bytes.{IsDigit, IsWordByte, is_digit}
use Rattle.m_text.specs.Lines.{lines_of}
use Rattle.m_text.specs.Words.{IsWord}
use Rattle.command_plans.specs.Files.{files_of}
use Rattle.command_plans.specs.Listing.{IsFileLine, IsFirstBad, missing, no_word, no_name, IsListing, IsListFault}
use Rattle.command_plans.specs.inner.Reading.{is_word_byte, is_word, is_file_line, first_bad_from, files_read, lines_read, list_of}

-- tests and the properties that they decide
all_test : (p : ℕ → Bool) (P : ℕ → Type 0) → ((b : ℕ) → P b → p b ≡ true) → (t : List ℕ) → AllByRecursion P t → list_all p t ≡ true
all_test p P f [] h = refl
all_test p P f (b ∷ t) h = and_from (p b) (list_all p t) (f b h.0) (all_test p P f t h.1)

test_all : (p : ℕ → Bool) (P : ℕ → Type 0) → ((b : ℕ) → p b ≡ true → P b) → (t : List ℕ) → list_all p t ≡ true → AllByRecursion P t
test_all p P f [] e = tt
test_all p P f (b ∷ t) e = let q = and_parts (p b) (list_all p t) e in (f b q.0, test_all p P f t q.1)

within_test : (low high b : ℕ) → low ≤ b → b ≤ high → (nat_le low b && nat_le b high) ≡ true
within_test low high b h k = and_from (nat_le low b) (nat_le b high) (le-leb low b h) (le-leb b high k)

test_within : (low high b : ℕ) → (nat_le low b && nat_le b high) ≡ true → (low ≤ b) × (b ≤ high)
test_within low high b e = let q = and_parts (nat_le low b) (nat_le b high) e in (leb-true low b q.0, leb-true b high q.1)

abbrev behind_letter : ℕ → Bool
behind_letter b = is_digit b || b == 95

abbrev behind_capital : ℕ → Bool
behind_capital b = (nat_le 97 b && nat_le b 122) || behind_letter b

word_byte_test : (b : ℕ) → IsWordByte b → is_word_byte b ≡ true
word_byte_test b (inl (inl h)) = or_left (nat_le 65 b && nat_le b 90) (behind_capital b) (within_test 65 90 b h.0 h.1)
word_byte_test b (inl (inr h)) = or_right (nat_le 65 b && nat_le b 90) (behind_capital b)
    (or_left (nat_le 97 b && nat_le b 122) (behind_letter b) (within_test 97 122 b h.0 h.1))
word_byte_test b (inr (inl h)) =
    or_right (nat_le 65 b && nat_le b 90) (behind_capital b)
    (or_right (nat_le 97 b && nat_le b 122) (behind_letter b) (or_left (is_digit b) (b == 95) (within_test 48 57 b h.0 h.1)))
word_byte_test b (inr (inr h)) =
    or_right (nat_le 65 b && nat_le b 90) (behind_capital b)
    (or_right (nat_le 97 b && nat_le b 122) (behind_letter b) (or_right (is_digit b) (b == 95) (eq-eqb b 95 h)))

test_word_byte : (b : ℕ) → is_word_byte b ≡ true → IsWordByte b
test_word_byte b e = elim (or_cases (nat_le 65 b && nat_le b 90) (behind_capital b) e) [
  | inl h ↦ inl (inl (test_within 65 90 b h))
  | inr h ↦ elim (or_cases (nat_le 97 b && nat_le b 122) (behind_letter b) h) [
    | inl k ↦ inl (inr (test_within 97 122 b k))
    | inr k ↦ elim (or_cases (is_digit b) (b == 95) k) [
      | inl l ↦ inr (inl (test_within 48 57 b l))
      | inr l ↦ inr (inr (eqb-true b 95 l))
    ]
  ]
]

pub word_test : (t : List ℕ) → IsWord t → is_word t ≡ true
word_test t h =
    and_from (list_all is_word_byte t) (not (list_all is_digit t)) (all_test is_word_byte IsWordByte word_byte_test t h.0)
    (not_from_false (list_all is_digit t) (false_from_ne_true (list_all is_digit t) (λ e. h.1 (test_all is_digit IsDigit (λ b. test_within 48 57 b) t e))))

pub test_word : (t : List ℕ) → is_word t ≡ true → IsWord t
test_word t e =
    let q = and_parts (list_all is_word_byte t) (not (list_all is_digit t)) e in
    let no_digits : list_all is_digit t ≡ false = not-true (list_all is_digit t) q.1 in
    (test_all is_word_byte IsWordByte test_word_byte t q.0, λ all. let digits = all_test is_digit IsDigit (λ b h. within_test 48 57 b h.0 h.1) t all in cc)

pub file_line_test : (line : List ℕ) → IsFileLine line → is_file_line line ≡ true
file_line_test line h = and_from (nat_le (length line) FILE_NAME_BYTES) (is_utf8 line) (le-leb (length line) FILE_NAME_BYTES h.0) (is_utf8-from_IsUtf8 line h.1)

pub test_file_line : (line : List ℕ) → is_file_line line ≡ true → IsFileLine line
test_file_line line e = let q = and_parts (nat_le (length line) FILE_NAME_BYTES) (is_utf8 line) e in
    (leb-true (length line) FILE_NAME_BYTES q.0, IsUtf8-from_is_utf8 line q.1)

-- the lines before the first malformed one, that line, and those after it
record FirstBadIn (number : ℕ) (lines : List (List ℕ)) (found : ℕ) : Type 0 where
  good : List (List ℕ)
  bad : List ℕ
  others : List (List ℕ)
  parts : lines ≡ good ++ bad ∷ others
  names : AllByRecursion IsFileLine good
  bad_name : IsFileLine bad → ⊥
  number_is : found ≡ number + length good

one_line_more : (number : ℕ) (line : List ℕ) (lines : List (List ℕ)) (found : Option ℕ) → IsFileLine line
    → MatchOption found (AllByRecursion IsFileLine lines) (FirstBadIn (number + 1) lines)
    → MatchOption found (AllByRecursion IsFileLine (line ∷ lines)) (FirstBadIn number (line ∷ lines))
one_line_more number line lines None h k = (h, k)
one_line_more number line lines (Some found) h k =
    let e = k.number_is in
    record {
      good = line ∷ k.good;
      bad = k.bad;
      others = k.others;
      parts = ap (λ x. line ∷ x) k.parts;
      names = (h, k.names);
      bad_name = k.bad_name;
      number_is = omega arith;
    }

first_bad_meaning : (number : ℕ) (lines : List (List ℕ)) → MatchOption (first_bad_from number lines) (AllByRecursion IsFileLine lines) (FirstBadIn number lines)
first_bad_meaning number [] = tt
first_bad_meaning number (line ∷ lines) = elim (cases_Bool (is_file_line line)) [
  | inl e ↦ rw e (one_line_more number line lines (first_bad_from (number + 1) lines) (test_file_line line e) (first_bad_meaning (number + 1) lines))
  | inr e ↦ rw e (record {
    good = [];
    bad = line;
    others = lines;
    parts = refl;
    names = tt;
    bad_name = λ h. both_ways (is_file_line line) e
        (file_line_test line h);
    number_is = omega arith;
  })
]

-- the reading of the lines after the application
files_meaning : (bytes application : List ℕ) (lines : List (List ℕ)) (found : Option ℕ) → lines_of bytes ≡ application ∷ lines → IsWord application
    → MatchOption found (AllByRecursion IsFileLine lines) (FirstBadIn 2 lines)
    → MatchResult (files_read application lines found) (IsListing bytes) (IsListFault bytes)
files_meaning bytes application lines (Some number) e w h = no_name application h.bad h.good h.others (record { parts = refl; word = w; names = h.names })
    h.bad_name (e ∙ ap (λ x. application ∷ x) h.parts) h.number_is
files_meaning bytes application lines None e w h = elim (cases_lt LIST_FILES (length (files_of lines))) [
  | inl many ↦ rw (lt-leb (length (files_of lines)) LIST_FILES many)
      (record { application = application; others = lines; good = record { parts = e; word = w; names = h }; many = many })
  | inr few ↦ rw (le-leb (length (files_of lines)) LIST_FILES few)
      (record { others = lines; good = record { parts = e; word = w; names = h }; files = refl; few = few })
]

lines_meaning : (bytes : List ℕ) (lines : List (List ℕ)) → lines_of bytes ≡ lines → MatchResult (lines_read lines) (IsListing bytes) (IsListFault bytes)
lines_meaning bytes [] e = subst (λ (ls : List (List ℕ)). IsFirstBad ls 1) (sym e) missing
lines_meaning bytes (application ∷ lines) e = elim (cases_Bool (is_word application)) [
  | inl w ↦ rw w (files_meaning bytes application lines (first_bad_from 2 lines) e (test_word application w) (first_bad_meaning 2 lines))
  | inr w ↦ rw w (subst (λ (ls : List (List ℕ)). IsFirstBad ls 1) (sym e) (no_word (λ h. both_ways (is_word application) w (word_test application h))))
]

pub list_meaning : (bytes : List ℕ) → MatchResult (list_of bytes) (IsListing bytes) (IsListFault bytes)
list_meaning bytes = lines_meaning bytes (lines_of bytes) refl
