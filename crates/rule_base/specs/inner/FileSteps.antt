-- Running out of memory, in any step of reading a file, is `Memory`.
use Rattle.m_lexer.specs.declared.fault.LexFault.{LexFault}
use Rattle.m_lexer.specs.declared.fault.LexFault.TheVariants as lex
use Rattle.m_items.specs.declared.fault.ParseFault.{ParseFault}
use Rattle.m_items.specs.declared.fault.ParseFault.TheVariants as parse
use Rattle.rule_base.specs.declared.read_fault.ReadFault.{ReadFault}
use Rattle.rule_base.specs.declared.read_fault.ReadFault.TheVariants.{Lex, Parse, Memory}

abbrev pub lex_step : LexFault → ReadFault
lex_step lex.Memory = Memory
lex_step fault = Lex fault

abbrev pub parse_step : ParseFault → ReadFault
parse_step parse.Memory = Memory
parse_step fault = Parse fault
