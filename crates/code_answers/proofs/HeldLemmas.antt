-- A text printed into an empty buffer is what it holds, and writing the buffer writes that text.
use Rattle.std.proofs.Common.{◌≡◌, ℕ, List, [], Option, Some, Result, ◌∙◌, ap, subst}
use Rattle.std.specs.Io.KnownBytes.{append_known}
use Rattle.m_ports.specs.Giving.{Gives}

same : (one other : List ℕ) → Some one ≡ Some other → one ≡ other
same one other is = cc is

-- the buffer holds the whole text
pub held_whole : (before after text given : List ℕ) → before ≡ [] → Some after ≡ append_known (Some before) text → given ≡ after → given ≡ text
held_whole before after text given none all is = is ∙ same after text (all ∙ ap (λ front. append_known (Some front) text) none)

-- the text is written
pub gives_whole : {S T E : Type 0} (written : S → Option (List ℕ)) (faults : S → ℕ) (old new : S) (result : Result T E) (given text : List ℕ) → given ≡ text
    → Gives written faults old new result given → Gives written faults old new result text
gives_whole written faults old new result given text is gave = subst (Gives written faults old new result) is gave
