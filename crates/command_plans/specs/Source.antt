-- How a source is gathered: the list, the rule files that it names, the driver and the requests.
use Rattle.std.specs.Prelude.{ℕ, ◌-◌, ◌≤◌, Bool, List, [], ◌∷◌, length, min, Option, Some, None, Result, Ok, Err, if◌then◌else◌, codes}
use Rattle.std.specs.Str.{bytes_eq}
use Rattle.m_places.specs.declared.limits.TheConstants.{CODE_FILE_BYTES, FILE_BYTES, RULE_BYTES}
use Rattle.command_plans.specs.Reads.{reading_of}
use Rattle.command_plans.specs.declared.listing.Listing.{Listing}
use Rattle.command_plans.specs.declared.list_fault.ListFault.{ListFault}
use Rattle.command_plans.specs.declared.list_fault.ListFault.TheVariants.{BadLine, TooManyFiles, Memory}
use Rattle.command_plans.specs.Plan.{Plan, done, refuses, file_plan, and_then}
use Rattle.tax_print.specs.FaultLines.{list_line, too_many_files_line}
use Rattle.m_places.specs.declared.source.Source.{Source}
use Rattle.command_plans.specs.declared.source.SourceNames.{SourceNames}
use Rattle.m_places.specs.declared.source.Text.{Text}

-- `-` in place of a driver or of requests means that there is none
abbrev pub is_none : List ℕ → Bool
is_none name = bytes_eq name (codes "-")

-- the line of a list's error; none for out of memory, which no list has
abbrev pub list_fault_line : ListFault → List ℕ
list_fault_line (BadLine number) = list_line number
list_fault_line TooManyFiles = too_many_files_line
list_fault_line Memory = []

-- the listing, or the line of the list's error
abbrev pub listed : Result Listing ListFault → Plan Listing
listed (Ok listing) = done listing
listed (Err fault) = refuses (list_fault_line fault)

-- the list is fetched and read
abbrev pub list_plan : List ℕ → Plan Listing
list_plan name = and_then (file_plan name FILE_BYTES) (λ bytes. listed (reading_of bytes).0)

-- The rule files are fetched in order. Each may have as many bytes as any file, and at most what the files before it
-- leave of the limit for all of them.
abbrev pub rules_plan : (left : ℕ) → List (List ℕ) → Plan (List Text)
rules_plan left [] = done []
rules_plan left (name ∷ names) =
    and_then (file_plan name (min FILE_BYTES left))
    (λ bytes. and_then (rules_plan (left - length bytes) names) (λ texts. done (record { name = name; bytes = bytes } ∷ texts)))

-- a driver or requests, unless the name is `-`
abbrev pub optional_plan : List ℕ → Plan (Option (List ℕ))
optional_plan name = if is_none name then done None else and_then (file_plan name FILE_BYTES) (λ bytes. done (Some bytes))

-- after the rule files: the driver, then the requests
abbrev pub parts_plan : SourceNames → List ℕ → List Text → Plan Source
parts_plan names application texts =
    and_then (optional_plan names.driver) (λ driver. and_then (optional_plan names.requests)
    (λ requests. done (record { application = application; texts = texts; driver = driver; requests = requests })))

-- The order of a source's files: the list, its rule files, the driver, the requests.
abbrev pub source_plan : SourceNames → Plan Source
source_plan names =
    and_then (list_plan names.list) (λ listing. and_then (rules_plan RULE_BYTES listing.files) (λ texts. parts_plan names listing.application texts))

-- a source is gathered, and then one more file
abbrev pub source_file_plan : SourceNames → List ℕ → Plan (Source × List ℕ)
source_file_plan names name = and_then (source_plan names) (λ source. and_then (file_plan name FILE_BYTES) (λ bytes. done (source, bytes)))

-- a code file is gathered, and then one more file
abbrev pub code_file_plan : List ℕ → List ℕ → Plan (List ℕ × List ℕ)
code_file_plan code name = and_then (file_plan code CODE_FILE_BYTES) (λ bytes. and_then (file_plan name FILE_BYTES) (λ more. done (bytes, more)))
