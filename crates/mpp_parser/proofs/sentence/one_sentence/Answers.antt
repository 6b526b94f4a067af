use Rattle.mpp_parser.proofs.Sentences.{one_line}
use Rattle.mpp_parser.proofs.sentence.one_sentence.Goals as goal

pub returns : goal.returns
returns c = one_line
