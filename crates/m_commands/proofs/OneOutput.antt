-- The same words, files and input have one output.
use Rattle.std.proofs.Common.{◌≡◌, ◌<◌, ℕ, ℤ, List, ◌++◌, length, Option, Result, Ok, refl, sym, ap, ◌∙◌, subst, arith, length-append}
use Rattle.std.proofs.Common.{take}
use Rattle.std.proofs.lemmas.List.{take-append-le, take_all}
use Rattle.m_places.specs.declared.source.Source.{Source}
use Rattle.tax_print.specs.FaultLines.{input_too_long_line, usage_line}
use Rattle.household.specs.Household.{household_of}
use Rattle.household.specs.Table.{table_of}
use Rattle.m_large.specs.Large.{household_text}
use Rattle.m_places.specs.declared.limits.TheConstants.{INPUT_BYTES}
use Rattle.large_validity.specs.Sources.{large_source}
use Rattle.command_plans.specs.Views.{Disk}
use Rattle.command_plans.specs.declared.status.Status.{Status}
use Rattle.command_plans.specs.declared.status.Status.TheVariants.{Done, Refused}
use Rattle.command_plans.proofs.ValidLemmas.{one_output as one}
use Rattle.why_session.specs.Explains.{Explaining}
use Rattle.tax_print.specs.Lines.{observation_lines}
use Rattle.command_answers.specs.Runs.{RunReplies}
use Rattle.code_answers.specs.Cases.{ComparedReplies, cases_count, cases_fault_line, cases_text, count_status}
use Rattle.code_answers.specs.Households.{household_fault_line, observation_status}
use Rattle.code_answers.specs.Replies.{FileReplies}
use Rattle.code_answers.specs.Shown.{TableReplies}
use Rattle.code_answers.proofs.OneLaws.{one_file}
use Rattle.m_cases.specs.Cases.{cases_of}
use Rattle.m_cases.specs.declared.cases.Cases.{Cases as CaseTable}
use Rattle.command_answers.specs.LargeAnswers as large
use Rattle.code_answers.specs.Larges.{large_line}
use Rattle.code_answers.specs.Schemes.{Scheme, observation_for}
use Rattle.command_answers.specs.Serves.{IsSession}
use Rattle.command_answers.specs.Serves as serve
use Rattle.command_answers.specs.Sessions.{ended_replies, session_replies}
use Rattle.command_answers.specs.Sources.{IsScheme, SourceReplies}
use Rattle.code_answers.specs.Tables.{rows_lines}
use Rattle.m_commands.specs.Answer.{Replies}
use Rattle.m_commands.specs.Command.{command_of, plan_of}
use Rattle.m_commands.specs.Output.{Output, AreOneOutput, both_served, both_too_long, the_same}
use Rattle.m_commands.specs.declared.work.Work.{Work}
use Rattle.m_commands.specs.declared.work.Work.TheVariants.{Run, Serve, Batch, Large, Compile, Exec, Check, Lint, Cases}
use Rattle.m_commands.proofs.Checks.{one_check}
use Rattle.m_commands.proofs.Codes.{one_compile, one_exec}
use Rattle.m_commands.proofs.Lints.{one_lint}
use Rattle.command_answers.proofs.SchemeLaws.{one_scheme, one_source}
use Rattle.m_commands.proofs.Completes.{run_complete}
use Rattle.m_commands.proofs.Schemes.{of_lines}

-- ---- runs and tables

-- a source has one answer, where a file has one by its scheme
one_of_source : {Given Fault : Type 0} (source : Source) (stated : Scheme → Result Given Fault) (line_of : Fault → Option (List ℕ))
    (text_of : Scheme → Given → List ℕ) (status_of : Scheme → Given → Status) (t u : List ℕ) (s r : Status)
    → SourceReplies source (λ scheme. FileReplies (stated scheme) line_of (text_of scheme) (status_of scheme)) t s
    → SourceReplies source (λ scheme. FileReplies (stated scheme) line_of (text_of scheme) (status_of scheme)) u r → AreOneOutput t s u r
one_of_source source stated line_of text_of status_of t u s r a b =
    one_source AreOneOutput source (λ scheme. FileReplies (stated scheme) line_of (text_of scheme) (status_of scheme)) t u s r of_lines
    (λ scheme x y. let same = one_file (stated scheme) (stated scheme) line_of (text_of scheme) (text_of scheme) (status_of scheme) (status_of scheme) t u s r
    refl (λ given g. (refl, refl)) x y in the_same same.0 same.1) a b

one_run : (source : Source) (rows t u : List ℕ) (s r : Status) → RunReplies source rows t s → RunReplies source rows u r → AreOneOutput t s u r
one_run source rows t u s r a b =
    one_of_source source (λ (scheme : Scheme). household_of scheme.inputs rows) household_fault_line
    (λ (scheme : Scheme) pairs. observation_lines scheme.names (observation_for scheme pairs)) (λ scheme pairs. observation_status (observation_for scheme
    pairs))
    t u s r a b

one_batch : (source : Source) (table t u : List ℕ) (s r : Status) → SourceReplies source (λ scheme. TableReplies scheme table) t s
    → SourceReplies source (λ scheme. TableReplies scheme table) u r → AreOneOutput t s u r
one_batch source table t u s r a b =
    one_of_source source (λ (scheme : Scheme). table_of scheme.inputs table) household_fault_line rows_lines (λ scheme rows. Done) t u s r a b

one_cases : (source : Source) (table t u : List ℕ) (s r : Status) → SourceReplies source (λ scheme. ComparedReplies scheme table) t s
    → SourceReplies source (λ scheme. ComparedReplies scheme table) u r → AreOneOutput t s u r
one_cases source table t u s r a b =
    one_of_source source (λ (scheme : Scheme). cases_of scheme.inputs scheme.names table) cases_fault_line cases_text
    (λ scheme (cases : CaseTable). count_status (cases_count scheme cases.rows cases.expected)) t u s r a b

-- ---- `large N`

-- the pairs of a household are the same for two schemes of a source
one_pairs : (source : Source) (rows : List ℕ) (one other : Scheme) (pairs given : List (ℕ × ℤ)) → IsScheme source one → IsScheme source other
    → household_of one.inputs rows ≡ Ok pairs → household_of other.inputs rows ≡ Ok given → pairs ≡ given
one_pairs source rows one other pairs given a b p q =
    let c = subst (λ (s : Scheme). household_of s.inputs rows ≡ Ok pairs) (one_scheme source one other a b) p in
    cc (c, q)

one_large : (n : ℕ) (t u : List ℕ) (s r : Status) → large.LargeReplies n t s → large.LargeReplies n u r → AreOneOutput t s u r
one_large n t u s r (large.is_reported one pairs v g) (large.is_reported other given w h) =
    let e = one_scheme (large_source n) one other v w in
    let p = one_pairs (large_source n) (household_text n) one other pairs given v w g h in
    the_same (λ i. large_line n ++ observation_lines (e i).names (observation_for (e i) (p i))) (λ i. observation_status (observation_for (e i) (p i)))

-- ---- sessions

-- an input isn't both below the limit and at least as long
not_both_lengths : (typed taken rest : List ℕ) → length typed < INPUT_BYTES → typed ≡ taken ++ rest → length taken ≡ INPUT_BYTES → ⊥
not_both_lengths typed taken rest few e full = omega (arith, few, ap length e, length-append taken rest, full)

-- two prefixes of equal length
one_front : (one other rest left : List ℕ) → one ++ rest ≡ other ++ left → length one ≡ length other → one ≡ other
one_front one other rest left e same = sym (take-append-le (length one) one rest (omega arith) ∙ take_all (length one) one (omega arith))
    ∙ ap (take (length one)) e ∙ ap (λ n. take n (other ++ left)) same ∙ take-append-le (length other) other left (omega arith)
    ∙ take_all (length other) other (omega arith)

-- a household without a fault isn't refused
not_refused : (source : Source) (rows line : List ℕ) (scheme : Scheme) (pairs : List (ℕ × ℤ)) → IsScheme source scheme → household_of scheme.inputs rows ≡ Ok
    pairs
    → RunReplies source rows line Refused → ⊥
not_refused source rows line scheme pairs v g a = run_complete source rows line Refused (record { own = scheme; has = v; given = pairs; is_given = g }) a

-- the same session, possibly with other reasons
same_session : (source : Source) (rows : List ℕ) (one other : Scheme) (explains reasons : Explaining) (pairs given : List (ℕ × ℤ))
    → IsSession source rows one explains pairs → IsSession source rows other reasons given
    → (one ≡ other) × (pairs ≡ given)
same_session source rows one other explains reasons pairs given v w =
    (one_scheme source one other v.valid w.valid, one_pairs source rows one other pairs given v.valid w.valid v.given w.given)

one_serve : (source : Source) (rows typed t u : List ℕ) (s r : Status) → serve.ServeReplies source rows typed t s → serve.ServeReplies source rows typed u r
    → AreOneOutput t s u r
one_serve source rows typed t u s r (serve.is_refused a) (serve.is_refused b) = one_run source rows t u Refused Refused a b
one_serve source rows typed t u s r (serve.is_refused a) (serve.is_served scheme explains pairs v few) = absurd
    (not_refused source rows t scheme pairs v.valid v.given a)
one_serve source rows typed t u s r (serve.is_refused a) (serve.is_too_long scheme explains pairs taken rest v e full) = absurd
    (not_refused source rows t scheme pairs v.valid v.given a)
one_serve source rows typed t u s r (serve.is_served scheme explains pairs v few) (serve.is_refused b) = absurd
    (not_refused source rows u scheme pairs v.valid v.given b)
one_serve source rows typed t u s r (serve.is_served one explains pairs v few) (serve.is_served other reasons given w also) =
    let same = same_session source rows one other explains reasons pairs given v w in
    let text : session_replies other reasons given typed ≡ session_replies one reasons pairs typed = sym
    (λ i. session_replies (same.0 i) reasons (same.1 i) typed) in
    subst (λ (x : List ℕ). AreOneOutput (session_replies one explains pairs typed) Done x Done) (sym text)
    (both_served source one explains reasons pairs typed v.valid v.explained w.explained)
one_serve source rows typed t u s r (serve.is_served one explains pairs v few) (serve.is_too_long other reasons given taken rest w e full) = absurd
    (not_both_lengths typed taken rest few e full)
one_serve source rows typed t u s r (serve.is_too_long scheme explains pairs taken rest v e full) (serve.is_refused b) = absurd
    (not_refused source rows u scheme pairs v.valid v.given b)
one_serve source rows typed t u s r (serve.is_too_long one explains pairs taken rest v e full) (serve.is_served other reasons given w few) = absurd
    (not_both_lengths typed taken rest few e full)
one_serve source rows typed t u s r (serve.is_too_long one explains pairs taken rest v e full) (serve.is_too_long other reasons given also left w f most) =
    let same = same_session source rows one other explains reasons pairs given v w in
    let q = one_front taken also rest left (sym e ∙ f) (full ∙ sym most) in
    let text : ended_replies other reasons given also ++ input_too_long_line ≡ ended_replies one reasons pairs taken ++ input_too_long_line =
    sym (λ i. ended_replies (same.0 i) reasons (same.1 i) (q i) ++ input_too_long_line) in
    subst (λ (x : List ℕ). AreOneOutput (ended_replies one explains pairs taken ++ input_too_long_line) Refused x Refused) (sym text)
    (both_too_long source one explains reasons pairs taken v.valid v.explained w.explained)

-- a command has one answer to what it gathered
one_reply : (work : Work) (typed t u : List ℕ) (s r : Status) → Replies work typed t s → Replies work typed u r → AreOneOutput t s u r
one_reply (Run source rows) typed t u s r a b = one_run source rows t u s r a b
one_reply (Serve source rows) typed t u s r a b = one_serve source rows typed t u s r a b
one_reply (Batch source table) typed t u s r a b = one_batch source table t u s r a b
one_reply (Large n) typed t u s r a b = one_large n t u s r a b
one_reply (Compile source) typed t u s r a b = one_compile source t u s r a b
one_reply (Exec code rows) typed t u s r a b = one_exec code rows t u s r a b
one_reply (Check source rows report) typed t u s r a b = one_check source rows report t u s r a b
one_reply (Lint source) typed t u s r a b = one_lint source t u s r a b
one_reply (Cases source table) typed t u s r a b = one_cases source table t u s r a b

-- The same words, files and input have one output.
pub one_output : (words : List (List ℕ)) (disk : Disk) (typed t u : List ℕ) (s r : Status) → Output words disk typed t s → Output words disk typed u r
    → AreOneOutput t s u r
one_output words disk typed t u s r a b =
    one plan_of (λ work. Replies work typed) usage_line AreOneOutput (command_of words) disk t u s r (λ text other status outcome e f. the_same e f)
    (λ work text other status outcome x y. one_reply work typed text other status outcome x y) a b
