-- The reading of a list file.
use Rattle.std.specs.Prelude.{ℕ, List, Result}
use Rattle.command_plans.specs.declared.listing.Listing.{Listing}
use Rattle.command_plans.specs.declared.list_fault.ListFault.{ListFault}
use Rattle.command_plans.specs.Listing.{ReadsAs}
use Rattle.command_plans.specs.inner.Reading.{list_of}
use Rattle.command_plans.specs.inner.Says.{list_meaning}

-- The reading of a list file. Contracts know its type alone; it is unique by the law `one_reading`.
pub reading_of : (bytes : List ℕ) → (read : Result Listing ListFault) × ReadsAs bytes read
reading_of bytes = (list_of bytes, list_meaning bytes)
