use Rattle.std.proofs.Common.{◌≡◌, suc, ◌+◌, ◌++◌, ◌∙◌, ap, append_assoc, arith}
use Rattle.m_large.specs.Large.{declaration, declarations}
use Rattle.m_large.proofs.base.append_declarations.Goals as goal

pub loop-k-preserved : goal.loop-k-preserved
loop-k-preserved c =
    let digits = c.as_bytes-number.ensures.value ∙ c.format.ensures.text in
    let next : suc c.loop-k.k ≡ c.loop-k.k + 1 = omega arith in
    (rw digits at c.in_ok-append_pieces.ensures)
    ∙ ap (λ text. text ++ declaration c.loop-k.k) c.loop-k.invariant
    ∙ append_assoc c.args.text.now.items (declarations c.loop-k.k) (declaration c.loop-k.k)
    ∙ ap (λ k. c.args.text.now.items ++ declarations k) next
