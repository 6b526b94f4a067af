-- A source has one scheme, and no fault if it has one; and one answer.
use Rattle.std.proofs.Common.{◌≡◌, ℕ, List, Option, Result, Ok, sym, ◌∙◌, subst}
use Rattle.m_places.specs.declared.source.Source.{Source}
use Rattle.m_compile.specs.Faults.{IsSourceFault}
use Rattle.m_compile.specs.declared.fault.SourceFault.{SourceFault}
use Rattle.m_compile.proofs.LineLaws.{AreOneLine, one_line}
use Rattle.m_compile.proofs.OneLaws.{no_valid_and_fault, one_fault, one_validity}
use Rattle.command_plans.specs.Status.{IsComplete}
use Rattle.command_plans.specs.declared.status.Status.{Status}
use Rattle.command_plans.specs.declared.status.Status.TheVariants.{Refused}
use Rattle.code_answers.specs.Replies.{FileReplies, HasGiven, is_answered, is_refused}
use Rattle.code_answers.proofs.OneLaws.{file_complete}
use Rattle.code_answers.specs.Schemes.{Scheme}
use Rattle.command_answers.specs.Sources.{IsScheme, SourceReplies, source_scheme}

-- a source has one scheme
pub one_scheme : (source : Source) (one other : Scheme) → IsScheme source one → IsScheme source other → one ≡ other
one_scheme source one other a b =
    let same = one_validity source a.declared b.declared a.base b.base a.written b.written a.requests b.requests a.valid b.valid in
    a.stated ∙ (λ i. source_scheme (same.0 i) (same.1 i) (same.2 i) (same.3 i)) ∙ sym b.stated

-- a source that has a scheme has no fault
pub no_scheme_and_fault : (source : Source) (scheme : Scheme) (fault : SourceFault) → IsScheme source scheme → IsSourceFault source fault → ⊥
no_scheme_and_fault source scheme fault v is = no_valid_and_fault source v.declared v.base v.written v.requests fault v.valid is

-- a source has one answer, where its scheme has one
pub one_source : (One : List ℕ → Status → List ℕ → Status → Type 0) (source : Source) (Replies : Scheme → List ℕ → Status → Type 0) (t u : List ℕ)
    (s r : Status) → ((x y : List ℕ) → AreOneLine x y → One x Refused y Refused)
    → ((scheme : Scheme) → Replies scheme t s → Replies scheme u r → One t s u r)
    → SourceReplies source Replies t s → SourceReplies source Replies u r → One t s u r
one_source One source Replies t u s r same one (is_refused a) (is_refused b) =
    same t u (one_line source.texts a.0 b.0 t u (one_fault source a.0 b.0 a.1 b.1) a.2 b.2)
one_source One source Replies t u s r same one (is_refused a) (is_answered scheme v b) = absurd (no_scheme_and_fault source scheme a.0 v a.1)
one_source One source Replies t u s r same one (is_answered scheme v a) (is_refused b) = absurd (no_scheme_and_fault source scheme b.0 v b.1)
one_source One source Replies t u s r same one (is_answered scheme v a) (is_answered other w b) =
    one other (subst (λ (x : Scheme). Replies x t s) (one_scheme source scheme other v w) a) b

-- a valid source, and a file without a fault for its scheme, aren't rejected
pub source_complete : {Given Fault : Type 0} (source : Source) (stated : Scheme → Result Given Fault) (line_of : Fault → Option (List ℕ))
    (text_of : Scheme → Given → List ℕ) (status_of : Scheme → Given → Status) (text : List ℕ) (status : Status)
    → ((scheme : Scheme) (given : Given) → IsComplete (status_of scheme given)) → HasGiven (IsScheme source) stated
    → SourceReplies source (λ scheme. FileReplies (stated scheme) line_of (text_of scheme) (status_of scheme)) text status → IsComplete status
source_complete source stated line_of text_of status_of text status ends h (is_refused a) = absurd (no_scheme_and_fault source h.own a.0 h.has a.1)
source_complete source stated line_of text_of status_of text status ends h (is_answered scheme v a) =
    file_complete (stated scheme) line_of (text_of scheme) (status_of scheme) h.given text status
    (subst (λ (x : Scheme). stated x ≡ Ok h.given) (one_scheme source h.own scheme h.has v) h.is_given) (ends scheme) a
