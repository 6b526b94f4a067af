-- The bytes of a name in rules without loops, whichever way it is kept.
use Rattle.std.specs.Prelude.{ℕ, List}
use Rattle.m_ast.specs.declared.plain_name.Form.{Form}
use Rattle.m_ast.specs.declared.plain_name.Form.TheVariants.{Whole, Instance}
use Rattle.m_ast.specs.PlainNames.{spelled}

abbrev pub bytes_of : Form → List ℕ
bytes_of (Whole name) = name
bytes_of (Instance instance) = spelled instance.value.values.items instance.value.word
