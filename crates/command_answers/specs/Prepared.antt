-- The prepared code of a source.
use Rattle.m_places.specs.declared.source.Source.{Source}
use Rattle.reg_machine.specs.Machine.{machine_run}
use Rattle.code_file.specs.declared.loaded.Loaded.{Loaded}
use Rattle.m_compile.specs.Compiled.{IsCompiled}
use Rattle.code_answers.specs.Schemes.{Scheme}
use Rattle.command_answers.specs.Sources.{IsScheme}
use Rattle.code_answers.specs.Shown.{Shows}

-- The source compiles to this code, which shows the source's scheme.
pub record IsPreparedCode (source : Source) (loaded : Loaded) : Type 0 where
  pub compiled : IsCompiled source loaded
  pub scheme : Scheme
  pub valid : IsScheme source scheme
  pub shows : Shows scheme loaded.face (machine_run loaded.code)
