use Rattle.std.proofs.Common.{◌≡◌, ◌≤◌, List, [], ◌∷◌, length, None, refl, arith}
use Rattle.m_ast.specs.Syntax.{Syntax}
use Rattle.m_ast.specs.View.{terms_of}
use Rattle.m_ast.specs.Members.{only_amount}
use Rattle.m_ast.proofs.members.only_amount.Goals as goal

several : (arguments : List Syntax) → 2 ≤ length arguments → None ≡ only_amount (terms_of arguments)
several [] h = absurd (omega arith)
several (a ∷ []) h = absurd (omega arith)
several (a ∷ b ∷ rest) h = refl

pub returns-in-len2-up : goal.returns-in-len2-up
returns-in-len2-up c = several c.args.arguments.now c.in-len2-up.len_at_least
