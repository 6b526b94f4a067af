-- The message of each fault of a source.
use Rattle.std.specs.Prelude.{ℕ, List, ◌++◌, Option, Some, None, map, slice_index_or, [], codes, decimal}
use Rattle.m_places.specs.declared.place.Place.{Place}
use Rattle.m_places.specs.declared.source.Text.{Text}
use Rattle.m_lexer.specs.declared.fault.LexFault.{LexFault}
use Rattle.m_lexer.specs.declared.fault.LexFault.TheVariants as lex
use Rattle.m_items.specs.declared.fault.ParseFault.{ParseFault}
use Rattle.m_items.specs.declared.fault.ParseFault.TheVariants as parse
use Rattle.m_symbols.specs.declared.fault.DeclareFault.{DeclareFault}
use Rattle.m_symbols.specs.declared.fault.DeclareFault.TheVariants as declare
use Rattle.index_expand.specs.declared.fault.ExpandFault.{ExpandFault}
use Rattle.index_expand.specs.declared.fault.ExpandFault.TheVariants as expand
use Rattle.m_resolve.specs.declared.fault.ResolveFault.{ResolveFault}
use Rattle.m_resolve.specs.declared.fault.ResolveFault.TheVariants as resolve
use Rattle.rule_base.specs.declared.fault.RuleFault.{RuleFault}
use Rattle.rule_base.specs.declared.fault.RuleFault.TheVariants as rules
use Rattle.m_symbols.specs.declared.request_fault.RequestFault.{RequestFault}
use Rattle.m_symbols.specs.declared.request_fault.RequestFault.TheVariants as requests
use Rattle.mpp_lexer.specs.declared.fault.DriverFault.{DriverFault}
use Rattle.mpp_lexer.specs.declared.fault.DriverFault.TheVariants as driver
use Rattle.mpp_core.specs.declared.fault.CoreFault.{CoreFault}
use Rattle.mpp_core.specs.declared.fault.CoreFault.TheVariants as core
use Rattle.tax_print.specs.FaultLines.{at_line, at_place, cycle_line, input_line, recursion_line, words_line}
use Rattle.m_compile.specs.declared.fault.SourceFault.{SourceFault}
use Rattle.m_compile.specs.declared.fault.SourceFault.TheVariants as source

-- the name of the file of a place
abbrev pub file_of : List Text → Place → List ℕ
file_of texts place = slice_index_or (map (λ text. text.name) texts) place.file []

-- the line of an error at this place
abbrev pub placed : List Text → Place → (words : List ℕ) → Option (List ℕ)
placed texts p words = Some (at_place (file_of texts p) p words)

-- the line of an error in this line of the driver
abbrev pub driver_line : ℕ → (words : List ℕ) → Option (List ℕ)
driver_line line words = Some (at_line (codes "driver") line words)

abbrev pub lex_line : List Text → LexFault → Option (List ℕ)
lex_line texts (lex.BadByte p) = placed texts p (codes "bad byte")
lex_line texts (lex.OpenString p) = placed texts p (codes "open string")
lex_line texts (lex.NumberTooGreat p) = placed texts p (codes "number too great")
lex_line texts lex.Memory = None

abbrev pub parse_line : List Text → ParseFault → Option (List ℕ)
parse_line texts (parse.TooDeep p) = placed texts p (codes "too deep")
parse_line texts (parse.Syntax p) = placed texts p (codes "syntax")
parse_line texts parse.Memory = None

-- of two declarations the fault is that of the later one
abbrev pub declare_line : List Text → DeclareFault → Option (List ℕ)
declare_line texts (declare.DeclaredTwice name earlier p) = placed texts p (codes "declared twice " ++ name)
declare_line texts (declare.AliasTwice code earlier p) = placed texts p (codes "alias twice " ++ code)
declare_line texts (declare.TableSize p) = placed texts p (codes "table size")
declare_line texts (declare.TooManyCells p) = placed texts p (codes "too many cells")
declare_line texts declare.Memory = None

abbrev pub expand_line : List Text → ExpandFault → Option (List ℕ)
expand_line texts (expand.BadRange p) = placed texts p (codes "bad range")
expand_line texts (expand.LoopTooLarge p) = placed texts p (codes "loop too large")
expand_line texts (expand.UnboundIndex p) = placed texts p (codes "unbound index")
expand_line texts (expand.TooManyParts p) = placed texts p (codes "too many parts")
expand_line texts expand.Memory = None

abbrev pub resolve_line : List Text → ResolveFault → Option (List ℕ)
resolve_line texts (resolve.UnknownName name p) = placed texts p (codes "unknown name " ++ name)
resolve_line texts (resolve.NotATable name p) = placed texts p (codes "not a table " ++ name)
resolve_line texts (resolve.IsATable name p) = placed texts p (codes "is a table " ++ name)
resolve_line texts (resolve.BadTarget name p) = placed texts p (codes "bad target " ++ name)
resolve_line texts (resolve.DefinedTwice name p) = placed texts p (codes "defined twice " ++ name)
resolve_line texts (resolve.UnknownError name p) = placed texts p (codes "unknown error " ++ name)
resolve_line texts resolve.Memory = None

abbrev pub rule_line : List Text → RuleFault → Option (List ℕ)
rule_line texts (rules.Lex fault) = lex_line texts fault
rule_line texts (rules.Parse fault) = parse_line texts fault
rule_line texts (rules.Declare fault) = declare_line texts fault
rule_line texts (rules.Expand fault) = expand_line texts fault
rule_line texts (rules.Resolve fault) = resolve_line texts fault
rule_line texts (rules.Cycle names) = Some (cycle_line names)
rule_line texts rules.Memory = None

abbrev pub driver_fault_line : DriverFault → Option (List ℕ)
driver_fault_line (driver.DriverToken line) = driver_line line (codes "bad token")
driver_fault_line (driver.DriverTooDeep line) = driver_line line (codes "too deep")
driver_fault_line (driver.DriverSyntax line) = driver_line line (codes "syntax")
driver_fault_line driver.Memory = None

abbrev pub core_line : CoreFault → Option (List ℕ)
core_line (core.FunctionTwice name line) = driver_line line (codes "function twice " ++ name)
core_line core.NoMain = Some (input_line (codes "driver") (codes "no main"))
core_line (core.UnknownInDriver name line) = driver_line line (codes "unknown " ++ name)
core_line (core.BadTargetInDriver name line) = driver_line line (codes "bad target " ++ name)
core_line (core.DriverRecursion names) = Some (recursion_line names)
core_line core.Memory = None

abbrev pub request_fault_line : RequestFault → Option (List ℕ)
request_fault_line (requests.BadRequest line) = Some (words_line (codes "refused requests line " ++ decimal line))
request_fault_line requests.TooManyRequests = Some (words_line (codes "refused too many requests"))
request_fault_line requests.Memory = None

-- The line that reports a fault of a source with these rule files; none for running out of memory.
-- An unclosed text at byte 43 of the first file, `a.m`, is reported as `refused a.m line 1 byte 43:
-- open string`.
abbrev pub source_line : List Text → SourceFault → Option (List ℕ)
source_line texts (source.Rules fault) = rule_line texts fault
source_line texts (source.Driver fault) = driver_fault_line fault
source_line texts (source.Core fault) = core_line fault
source_line texts (source.Requests fault) = request_fault_line fault
source_line texts (source.DriverTooLarge weight) = Some (words_line (codes "refused driver too large " ++ decimal weight))
source_line texts source.Memory = None
