use Rattle.std.proofs.Common.{◌∙◌, sym, ap, not, bytes_eq}
use Rattle.code_file.proofs.VerifLemmas.{verif-none}
use Rattle.code_file.proofs.face_words.read_label.Goals as goal

pub returns-in-None-2 : goal.returns-in-None-2
returns-in-None-2 c =
    verif-none c.args.line.now c.in-Some.parts.0.now c.in-Some.parts.1.now c.in-Some.ensures
    (sym (c.eq.ensures ∙ ap (bytes_eq c.in-Some.parts.0.now) c.as_slice.ensures) ∙ c.if-eq.false)
    (sym (c.ne.ensures ∙ ap (λ l. not (bytes_eq c.in-Some.parts.0.now l)) c.as_slice-2.ensures) ∙ c.if-ne.false)
    (rw c.in-None-2.is at c.in_ok-read_verif.ensures)
