use Rattle.std.proofs.Common.{sym, arith}
use Rattle.code_file.proofs.VerifLemmas.{bytes-next, bytes-odd}
use Rattle.code_file.proofs.face_words.bytes_of.Goals as goal

pub loop-at-preserved : goal.loop-at-preserved
loop-at-preserved c = record {
  same = rw c.in_ok-push-in-Some.ensures.items (bytes-next c.args.hex.now c.loop-at.bytes.items c.loop-at.at c.in-Some.byte c.loop-at-test.true
      c.loop-at.invariant.same (sym c.in-Some.ensures));
  within = omega (arith, c.loop-at-test.true);
}

pub returns-else-at-hex : goal.returns-else-at-hex
returns-else-at-hex c = bytes-odd c.args.hex.now c.loop-at.bytes.items c.loop-at.at c.loop-at.invariant.within c.loop-at-test.false c.if-at-hex.false
    c.loop-at.invariant.same
