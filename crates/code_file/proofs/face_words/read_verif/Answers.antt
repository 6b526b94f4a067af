use Rattle.std.proofs.Common.{◌==◌, ◌∙◌, sym, ap, length, true≢false, rules}
use Rattle.code_file.specs.inner.Faces.{VerifWords, label_with}
use Rattle.code_file.proofs.VerifLemmas.{verif-error, verif-made}
use Rattle.code_file.proofs.face_words.read_verif.Goals as goal

pub returns-then-not-is_plain_name : goal.returns-then-not-is_plain_name
returns-then-not-is_plain_name c = λ x h r. let e = c.is_plain_name.ensures.1 (verif-error c.args.text.now _ x c.in-Some.ensures h r) in search rules

pub returns-in_ok-label-in-Some-2 : goal.returns-in_ok-label-in-Some-2
returns-in_ok-label-in-Some-2 c =
    let w : VerifWords = record { number = c.in-Some.words.0.now; error = c.in-Some.words.1.now; kind = c.in-Some.words.2; hex = c.in-Some.words.3.now } in
    verif-made c.args.text.now c.in-Some-2.bytes.items w c.in_ok-label-in-Some-2.label c.in-Some.ensures (rw c.in-Some-2.is at c.in_ok-bytes_of.ensures)
    (c.in_ok-label-in-Some-2.ensures ∙ ap (label_with w) c.deref.ensures.value)
    (c.are_few_digits.ensures.0 c.if-not-are_few_digits.false) (c.is_plain_name.ensures.0 c.if-not-is_plain_name.false)
    (λ e. true≢false (sym (c.is_empty.ensures ∙ ap (λ n. n == 0) (c.in-Some-2.bytes.ok.0 ∙ ap length e)) ∙ c.if-is_empty.false))
