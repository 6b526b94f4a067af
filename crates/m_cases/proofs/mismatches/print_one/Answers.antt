use Rattle.m_cases.proofs.Numbered.{has_output}
use Rattle.m_cases.proofs.mismatches.print_one.Goals as goal

pub got_of-got-requires : goal.got_of-got-requires
got_of-got-requires g c = has_output c.args.face.now c.args.answer.now _ c.requires.within c.requires.there
