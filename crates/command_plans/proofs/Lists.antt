-- How gathering continues after the list was fetched.
use Rattle.std.proofs.Common.{◌≡◌, ℕ, ◌≤◌, List, length, Result, Ok, Err, subst}
use Rattle.m_places.specs.declared.limits.TheConstants.{LIST_FILES}
use Rattle.command_plans.specs.Listing.{IsListing, IsListFault, ReadsAs}
use Rattle.command_plans.specs.Reads.{reading_of}
use Rattle.command_plans.proofs.Readings.{reads_one}
use Rattle.command_plans.specs.declared.listing.Listing.{Listing}
use Rattle.command_plans.specs.declared.list_fault.ListFault.{ListFault}
use Rattle.command_plans.specs.declared.list_fault.ListFault.TheVariants.{BadLine, TooManyFiles}
use Rattle.command_plans.specs.Trips.{GoesAlong}
use Rattle.command_plans.specs.Views.{FilesView}
use Rattle.command_plans.specs.declared.ending.Ending.TheVariants.{Refused}
use Rattle.command_plans.specs.declared.refusal.Refusal.TheVariants.{ListLine, TooManyFiles as TooMany}
use Rattle.command_plans.proofs.Trips.{along_done, along_refused}
use Rattle.command_plans.specs.Source.{listed}

-- the result of reading a list is its unique reading
reads : (bytes : List ℕ) (read : Result Listing ListFault) → ReadsAs bytes read → read ≡ (reading_of bytes).0
reads bytes read h = reads_one bytes read (reading_of bytes).0 h (reading_of bytes).1

pub listed_ok : (view : FilesView) (bytes : List ℕ) (listing : Listing) → IsListing bytes listing
    → GoesAlong (listed (reading_of bytes).0) view view (Ok listing)
listed_ok view bytes listing h = subst (λ (r : Result Listing ListFault). GoesAlong (listed r) view view (Ok listing)) (reads bytes (Ok listing) h)
    (along_done view listing)

pub listed_bad : (view : FilesView) (bytes : List ℕ) (fault : ListFault) (number : ℕ) → fault ≡ BadLine number → IsListFault bytes fault
    → GoesAlong (listed (reading_of bytes).0) view view (Err (Refused (ListLine number)))
listed_bad view bytes fault number is h =
    subst (λ (r : Result Listing ListFault). GoesAlong (listed r) view view (Err (Refused (ListLine number))))
    (reads bytes (Err (BadLine number)) (subst (IsListFault bytes) is h)) (along_refused view (ListLine number))

pub listed_many : (view : FilesView) (bytes : List ℕ) (fault : ListFault) → fault ≡ TooManyFiles → IsListFault bytes fault
    → GoesAlong (listed (reading_of bytes).0) view view (Err (Refused TooMany))
listed_many view bytes fault is h =
    subst (λ (r : Result Listing ListFault). GoesAlong (listed r) view view (Err (Refused TooMany)))
    (reads bytes (Err TooManyFiles) (subst (IsListFault bytes) is h)) (along_refused view TooMany)

-- a list's files don't exceed the limit
pub few_listed : (bytes : List ℕ) (listing : Listing) → IsListing bytes listing → length listing.files ≤ LIST_FILES
few_listed bytes listing h = h.few
