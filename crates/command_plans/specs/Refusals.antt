-- The line of each error that ends a command before its files are gathered.
use Rattle.std.specs.Prelude.{ℕ, List}
use Rattle.tax_print.specs.FaultLines.{list_line, too_many_files_line, too_long_line}
use Rattle.command_plans.specs.declared.refusal.Refusal.{Refusal}
use Rattle.command_plans.specs.declared.refusal.Refusal.TheVariants.{ListLine, TooManyFiles, FileTooLong}

-- the line of an error: where the file `a.m` is larger than its limit, `refused file too long a.m`
abbrev pub refusal_line : Refusal → List ℕ
refusal_line (ListLine line) = list_line line
refusal_line TooManyFiles = too_many_files_line
refusal_line (FileTooLong name) = too_long_line name
