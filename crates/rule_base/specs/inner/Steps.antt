-- Maps the error of a step to that of rule files; running out of memory, in any step, is `Memory`.
use Rattle.rule_base.specs.declared.read_fault.ReadFault.{ReadFault}
use Rattle.rule_base.specs.declared.read_fault.ReadFault.TheVariants as read
use Rattle.m_symbols.specs.declared.fault.DeclareFault.{DeclareFault}
use Rattle.m_symbols.specs.declared.fault.DeclareFault.TheVariants as declare
use Rattle.index_expand.specs.declared.fault.ExpandFault.{ExpandFault}
use Rattle.index_expand.specs.declared.fault.ExpandFault.TheVariants as expand
use Rattle.m_resolve.specs.declared.fault.ResolveFault.{ResolveFault}
use Rattle.m_resolve.specs.declared.fault.ResolveFault.TheVariants as resolve
use Rattle.rule_base.specs.declared.fault.RuleFault.{RuleFault}
use Rattle.rule_base.specs.declared.fault.RuleFault.TheVariants.{Lex, Parse, Declare, Expand, Resolve, Memory}

abbrev pub read_step : ReadFault → RuleFault
read_step read.Memory = Memory
read_step (read.Lex fault) = Lex fault
read_step (read.Parse fault) = Parse fault

abbrev pub declare_step : DeclareFault → RuleFault
declare_step declare.Memory = Memory
declare_step fault = Declare fault

abbrev pub expand_step : ExpandFault → RuleFault
expand_step expand.Memory = Memory
expand_step fault = Expand fault

abbrev pub resolve_step : ResolveFault → RuleFault
resolve_step resolve.Memory = Memory
resolve_step fault = Resolve fault
