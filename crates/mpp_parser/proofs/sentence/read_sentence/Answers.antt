use Rattle.mpp_parser.proofs.Sentences.{line_answer}
use Rattle.mpp_parser.proofs.sentence.read_sentence.Goals as goal

pub returns : goal.returns
returns c = record { outcome = line_answer c.args.tokens.now _ c.read_line.ensures }
