-- A list has one reading, which is what the reader gives.
use Rattle.std.proofs.Common.{◌≡◌, ℕ, ◌+◌, ◌≤◌, Bool, true, false, List, [], ◌∷◌, ◌++◌, length, Some, None, Result, Ok, Err, refl, sym, ap, ◌∙◌, subst, arith}
use Rattle.std.specs.List.{AllByRecursion}
use Rattle.std.proofs.lemmas.Bool.{le-leb, false_from_ne_true, lt-leb}
use Rattle.m_places.specs.declared.limits.TheConstants.{LIST_FILES}
use Rattle.m_places.specs.Refusals.{Outcome, Says}
use Rattle.m_text.specs.Lines.{lines_of}
use Rattle.m_text.specs.Words.{IsWord}
use Rattle.command_plans.specs.declared.listing.Listing.{Listing}
use Rattle.command_plans.specs.declared.list_fault.ListFault.{ListFault}
use Rattle.command_plans.specs.declared.list_fault.ListFault.TheVariants.{BadLine, TooManyFiles, Memory}
use Rattle.command_plans.specs.Files.{files_of}
use Rattle.command_plans.specs.Listing.{IsFileLine, IsFirstBad, missing, no_word, no_name, IsListing, IsListFault, ReadsAs}
use Rattle.command_plans.specs.inner.Reading.{is_word, is_file_line, first_bad_from, files_read, lines_read, list_of}
use Rattle.command_plans.specs.inner.Says.{word_test, test_word, file_line_test, test_file_line, list_meaning}

-- the converse
no_bad : (number : ℕ) (lines : List (List ℕ)) → AllByRecursion IsFileLine lines → first_bad_from number lines ≡ None
no_bad number [] h = refl
no_bad number (line ∷ lines) h = rw (file_line_test line h.0) (no_bad (number + 1) lines h.1)

bad_behind : (number : ℕ) (good : List (List ℕ)) (bad : List ℕ) (others : List (List ℕ)) → AllByRecursion IsFileLine good → (IsFileLine bad → ⊥)
    → first_bad_from number (good ++ bad ∷ others) ≡ Some (number + length good)
bad_behind number [] bad others h b =
    let no : is_file_line bad ≡ false = false_from_ne_true (is_file_line bad) (λ e. b (test_file_line bad e)) in
    let same : number ≡ number + 0 = omega arith in
    rw no (ap Some same)
bad_behind number (line ∷ good) bad others h b =
    let same : number + 1 + length good ≡ number + length (line ∷ good) = omega arith in
    rw (file_line_test line h.0) (bad_behind (number + 1) good bad others h.1 b ∙ ap Some same)

pub listing_read : (bytes : List ℕ) (listing : Listing) → IsListing bytes listing → list_of bytes ≡ Ok listing
listing_read bytes listing h = ap lines_read h.good.parts ∙ good_read
  where
    good_read : lines_read (listing.application ∷ h.others) ≡ Ok listing
    good_read =
        let e = h.files in
        let few : length (files_of h.others) ≤ LIST_FILES = subst (λ (fs : List (List ℕ)). length fs ≤ LIST_FILES) h.files h.few in
        rw (word_test listing.application h.good.word, no_bad 2 h.others h.good.names, le-leb (length (files_of h.others)) LIST_FILES few)
        (ap (λ (fs : List (List ℕ)). Ok (record { application = listing.application; files = fs })) (sym e))

bad_read : (lines : List (List ℕ)) (number : ℕ) → IsFirstBad lines number → lines_read lines ≡ Err (BadLine number)
bad_read lines number missing = refl
bad_read lines number (no_word {line = line} w) = rw (false_from_ne_true (is_word line) (λ e. w (test_word line e))) refl
bad_read lines number (no_name application bad good others h b e n) =
    ap lines_read e ∙ rw (word_test application h.word) (ap (files_read application (good ++ bad ∷ others)) (bad_behind 2 good bad others h.names b)
    ∙ ap (λ k. Err (BadLine k)) (sym n))

pub fault_read : (bytes : List ℕ) (fault : ListFault) → IsListFault bytes fault → list_of bytes ≡ Err fault
fault_read bytes (BadLine number) h = bad_read (lines_of bytes) number h
fault_read bytes TooManyFiles h =
    ap lines_read h.good.parts
    ∙ rw (word_test h.application h.good.word, no_bad 2 h.others h.good.names, lt-leb (length (files_of h.others)) LIST_FILES h.many) refl
fault_read bytes Memory h = absurd h

-- the unique reading of a list is what the reader gives
reads_this : (bytes : List ℕ) (read : Result Listing ListFault) → ReadsAs bytes read → list_of bytes ≡ read
reads_this bytes (Ok listing) h = listing_read bytes listing h
reads_this bytes (Err fault) h = fault_read bytes fault h

pub reads_one : (bytes : List ℕ) (one other : Result Listing ListFault) → ReadsAs bytes one → ReadsAs bytes other → one ≡ other
reads_one bytes one other h k = sym (reads_this bytes one h) ∙ reads_this bytes other k

-- the result of the reader of lines
pub read_meaning : (bytes : List ℕ) (result : Result Listing ListFault) → Says Memory result (λ listing. listing) (list_of bytes)
    → Outcome Memory result (IsListing bytes) (IsListFault bytes)
read_meaning bytes (Ok listing) e = subst (ReadsAs bytes) e (list_meaning bytes)
read_meaning bytes (Err fault) k = λ other. subst (ReadsAs bytes) (k other) (list_meaning bytes)

-- the test, as the call gives it
pub test_is : (t : List ℕ) (r : Bool) → (r ≡ true → IsWord t) → (IsWord t → r ≡ true) → r ≡ is_word t
test_is t true f g = sym (word_test t (f refl))
test_is t false f g = sym (false_from_ne_true (is_word t) (λ e. let yes = g (test_word t e) in cc))
