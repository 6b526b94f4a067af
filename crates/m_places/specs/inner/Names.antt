-- The bytes of a name, whichever way it keeps them.
use Rattle.std.specs.Prelude.{ℕ, List}
use Rattle.std.specs.Arc.{arc_value}
use Rattle.m_places.specs.declared.name.Form.{Form}
use Rattle.m_places.specs.declared.name.Form.TheVariants.{Short, Long}

abbrev pub bytes_of : Form → List ℕ
bytes_of (Short bytes) = bytes.items
bytes_of (Long bytes) = (arc_value bytes).items
