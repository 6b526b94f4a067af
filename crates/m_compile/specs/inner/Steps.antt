-- The fault of a source for the fault of a step. A step's running out of memory becomes `Memory`.
use Rattle.rule_base.specs.declared.fault.RuleFault.{RuleFault}
use Rattle.rule_base.specs.declared.fault.RuleFault.TheVariants as rules
use Rattle.m_symbols.specs.declared.request_fault.RequestFault.{RequestFault}
use Rattle.m_symbols.specs.declared.request_fault.RequestFault.TheVariants as requests
use Rattle.mpp_lexer.specs.declared.fault.DriverFault.{DriverFault}
use Rattle.mpp_lexer.specs.declared.fault.DriverFault.TheVariants as lines
use Rattle.mpp_core.specs.declared.fault.CoreFault.{CoreFault}
use Rattle.mpp_core.specs.declared.fault.CoreFault.TheVariants as core
use Rattle.mpp_inline.specs.declared.fault.InlineFault.{InlineFault}
use Rattle.mpp_inline.specs.declared.fault.InlineFault.TheVariants as inline
use Rattle.m_compile.specs.declared.fault.SourceFault.{SourceFault}
use Rattle.m_compile.specs.declared.fault.SourceFault.TheVariants.{Rules, Driver, Core, Requests, DriverTooLarge, Memory}

abbrev pub rule_step : RuleFault → SourceFault
rule_step rules.Memory = Memory
rule_step fault = Rules fault

abbrev pub driver_step : DriverFault → SourceFault
driver_step lines.Memory = Memory
driver_step fault = Driver fault

abbrev pub core_step : CoreFault → SourceFault
core_step core.Memory = Memory
core_step fault = Core fault

abbrev pub request_step : RequestFault → SourceFault
request_step requests.Memory = Memory
request_step fault = Requests fault

abbrev pub inline_step : InlineFault → SourceFault
inline_step (inline.DriverTooLarge weight) = DriverTooLarge weight
inline_step inline.Memory = Memory
