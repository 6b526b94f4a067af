-- The same words and files have one output.
use Rattle.std.proofs.Common.{◌≡◌, ℕ, length, List, [], ◌∷◌, ◌++◌, Option, Some, Result, Ok, Err, refl, sym, ap, ◌∙◌, subst}
use Rattle.std.specs.List.{AllByRecursion}
use Rattle.m_fixed.specs.declared.amount.Value.{Value}
use Rattle.m_places.specs.declared.source.Source.{Source}
use Rattle.m_places.specs.declared.source.Text.{Text}
use Rattle.observables.specs.Inputs.{AreValuesOf}
use Rattle.observables.specs.declared.answer.Answer.{Answer}
use Rattle.observables.specs.declared.face.Face.{Face}
use Rattle.household.specs.Household.{values_of}
use Rattle.household.specs.Table.{table_of}
use Rattle.household.specs.declared.fault.HouseholdFault.{HouseholdFault}
use Rattle.household.specs.declared.table.Row.{Row}
use Rattle.household.proofs.GivenLemmas.{table_gives}
use Rattle.m_compile.specs.Faults.{AreOneSourceFault}
use Rattle.m_compile.specs.Lines.{source_line}
use Rattle.m_compile.specs.declared.fault.SourceFault.{SourceFault}
use Rattle.m_compile.specs.Compiled.{IsProgramOf}
use Rattle.m_compile.specs.declared.compiling.Program.{Program}
use Rattle.m_compile.proofs.LineLaws.{AreOneLine}
use Rattle.m_compile.proofs.LineLaws as line_laws
use Rattle.m_compile.proofs.OneLaws.{one_fault, one_rules}
use Rattle.definedness.specs.Facts.{Possible}
use Rattle.m_facts.specs.Lines.{facts_text}
use Rattle.survey_commands.specs.Facts.{FactsReplies, facts_are_found, given_by, ranges_are_refused, ranges_fault_line}
use Rattle.survey_commands.specs.Facts as facts
use Rattle.m_compile.proofs.ProgramLaws.{no_program_and_fault, same_inputs}
use Rattle.command_plans.specs.Views.{Disk}
use Rattle.command_plans.specs.declared.status.Status.{Status}
use Rattle.command_plans.specs.declared.status.Status.TheVariants.{Done, Refused}
use Rattle.command_plans.proofs.ValidLemmas.{one_output as one}
use Rattle.code_answers.specs.Households.{household_fault_line}
use Rattle.code_answers.specs.Schemes.{Scheme, observation_for}
use Rattle.code_answers.specs.Shown.{Shows}
use Rattle.survey_commands.specs.Answer.{Replies}
use Rattle.survey_commands.specs.Command.{command_of, plan_of}
use Rattle.survey_commands.specs.Csv.{field_text}
use Rattle.survey_commands.specs.Lines.{usage_line}
use Rattle.survey_commands.specs.Output.{Output, AreOneOutput, both_cycles, both_found, both_recursions, the_same}
use Rattle.survey_commands.specs.Records.{header, rows_records, table_text, observation_fields}
use Rattle.survey_commands.specs.Tables.{SchemeReplies}
use Rattle.survey_commands.specs.declared.work.Work.{Work}
use Rattle.survey_commands.specs.declared.work.Work.TheVariants.{Table, Facts, CodeTable, Version}
use Rattle.code_answers.proofs.OneLaws.{one_code, one_file, one_inputs}
use Rattle.command_plans.proofs.PrintedLemmas.{one_line as one_line_of}
use Rattle.command_answers.proofs.SchemeLaws.{one_source}

-- ---- two error lines

of_lines : (t u : List ℕ) → AreOneLine t u → AreOneOutput t Refused u Refused
of_lines _ _ (line_laws.the_same e) = the_same e refl
of_lines _ _ (line_laws.both_cycles names others) = both_cycles names others
of_lines _ _ (line_laws.both_rings names others) = both_recursions names others

one_line : (texts : List Text) (fault other : SourceFault) (t u : List ℕ) → AreOneSourceFault fault other → source_line texts fault ≡ Some t
    → source_line texts other ≡ Some u → AreOneOutput t Refused u Refused
one_line texts fault other t u same a b = of_lines t u (line_laws.one_line texts fault other t u same a b)

-- ---- tables

-- rows give values of the types of a scheme's inputs
abbrev AreGiven : Scheme → List Row → Type 0
AreGiven scheme rows = AllByRecursion (λ row. AreValuesOf scheme.inputs (values_of row.household.pairs (length scheme.inputs))) rows

-- two schemes of one program observe the same for a row
row_same : (face : Face) (runs : List Value → Answer) (one other : Scheme) (row : Row) → Shows one face runs → Shows other face runs
    → AreValuesOf one.inputs (values_of row.household.pairs (length one.inputs))
    → AreValuesOf other.inputs (values_of row.household.pairs (length other.inputs))
    → observation_for one row.household.pairs ≡ observation_for other row.household.pairs
row_same face runs one other row a b g h =
    let n : length one.inputs ≡ length other.inputs = ap length (one_inputs face runs one other a b) in
    let x = a.answers (values_of row.household.pairs (length one.inputs)) g in
    let y = b.answers (values_of row.household.pairs (length other.inputs)) h in
    cc (n, x, y)

rows_same : (face : Face) (runs : List Value → Answer) (one other : Scheme) (rows : List Row) → Shows one face runs → Shows other face runs → AreGiven one rows
    → AreGiven other rows
    → rows_records one rows ≡ rows_records other rows
rows_same face runs one other [] a b g h = refl
rows_same face runs one other (row ∷ rows) a b g h =
    let names : one.names ≡ other.names = sym a.names ∙ b.names in
    let reported = row_same face runs one other row a b g.0 h.0 in
    let rest = rows_same face runs one other rows a b g.1 h.1 in
    λ i. (field_text row.label ++ observation_fields (names i) (reported i)) ++ rest i

text_same : (face : Face) (runs : List Value → Answer) (one other : Scheme) (rows : List Row) → Shows one face runs → Shows other face runs → AreGiven one rows
    → AreGiven other rows
    → table_text one rows ≡ table_text other rows
text_same face runs one other rows a b g h =
    let names : one.names ≡ other.names = sym a.names ∙ b.names in
    let rest = rows_same face runs one other rows a b g h in
    λ i. header (names i) ++ rest i

-- a table has one answer by the schemes that a program shows
one_answer : (table t u : List ℕ) (s r : Status) (face : Face) (runs : List Value → Answer) (one other : Scheme) → Shows one face runs → Shows other face runs
    → SchemeReplies one table t s → SchemeReplies other table u r → AreOneOutput t s u r
one_answer table t u s r face runs one other a b x y =
    let inputs = one_inputs face runs one other a b in
    let same = one_file (table_of one.inputs table) (table_of other.inputs table) household_fault_line (table_text one) (table_text other) (λ rows. Done)
    (λ rows. Done) t u s r (ap (λ inputs. table_of inputs table) inputs)
    (λ rows g. (
      text_same face runs one other rows a b (table_gives one.inputs table rows g)
          (table_gives other.inputs table rows (subst (λ inputs. table_of inputs table ≡ Ok rows) inputs g)),
      refl,
    )) x y in
    the_same same.0 same.1

-- a scheme has one answer to a table
one_reply_of : (table t u : List ℕ) (s r : Status) (scheme : Scheme) → SchemeReplies scheme table t s → SchemeReplies scheme table u r → AreOneOutput t s u r
one_reply_of table t u s r scheme x y =
    let same = one_file (table_of scheme.inputs table) (table_of scheme.inputs table) household_fault_line (table_text scheme) (table_text scheme) (λ rows.
    Done)
    (λ rows. Done) t u s r refl (λ rows g. (refl, refl)) x y in
    the_same same.0 same.1

-- ranges give the same facts for two compilations of a source
given_again : (source : Source) (ranges : Option (List ℕ)) (one other : Program) (stated : Result (List Possible) HouseholdFault) → IsProgramOf source one
    → IsProgramOf source other
    → given_by one.face.inputs ranges ≡ stated → given_by other.face.inputs ranges ≡ stated
given_again source ranges one other stated is was h = subst (λ inputs. given_by inputs ranges ≡ stated) (same_inputs source one other is was) h

one_facts : (source : Source) (ranges : Option (List ℕ)) (t u : List ℕ) (s r : Status) → FactsReplies source ranges t s → FactsReplies source ranges u r
    → AreOneOutput t s u r
one_facts source ranges t u s r (facts.source_is_refused fault f k) (facts.source_is_refused other g l) = one_line source.texts fault other t u
    (one_fault source fault other f g) k l
one_facts source ranges t u s r (facts.source_is_refused fault f k) (ranges_are_refused program other is g l) = absurd
    (no_program_and_fault source program fault is f)
one_facts source ranges t u s r (facts.source_is_refused fault f k) (facts_are_found declared base program given rules is g) = absurd
    (no_program_and_fault source program fault is f)
one_facts source ranges t u s r (ranges_are_refused program other is g l) (facts.source_is_refused fault f k) = absurd
    (no_program_and_fault source program fault is f)
one_facts source ranges t u s r (ranges_are_refused one fault is f k) (ranges_are_refused two other was g l) =
    let e : fault ≡ other = cc (given_again source ranges one two (Err fault) is was f, g) in
    the_same (one_line_of ranges_fault_line fault other t u e k l) refl
one_facts source ranges t u s r (ranges_are_refused one fault is f k) (facts_are_found declared base two given rules was g) =
    let e = given_again source ranges one two (Err fault) is was f in
    cc (e, g)
one_facts source ranges t u s r (facts_are_found declared base program given rules is g) (facts.source_is_refused fault f k) = absurd
    (no_program_and_fault source program fault is f)
one_facts source ranges t u s r (facts_are_found declared base one given rules is g) (ranges_are_refused two fault was f k) =
    let e = given_again source ranges one two (Ok given) is was g in
    cc (e, f)
one_facts source ranges t u s r (facts_are_found declared base one given rules is g) (facts_are_found others other two possible also was f) =
    let bases = (one_rules source declared others base other rules also).1 in
    let e : given ≡ possible = cc (given_again source ranges one two (Ok given) is was g, f) in
    let q : facts_text base two.tidy two.face given ≡ facts_text other two.tidy two.face possible = λ i. facts_text (bases i) two.tidy two.face (e i) in
    subst (λ (x : List ℕ). AreOneOutput (facts_text base one.tidy one.face given) Done x Done) q (both_found source declared base one two given rules is was)

-- a command has one answer to what it gathered
one_reply : (work : Work) (t u : List ℕ) (s r : Status) → Replies work t s → Replies work u r → AreOneOutput t s u r
one_reply (Table source table) t u s r a b = one_source AreOneOutput source (λ scheme. SchemeReplies scheme table) t u s r of_lines (one_reply_of table t u s r)
    a b
one_reply (Facts source ranges) t u s r a b = one_facts source ranges t u s r a b
one_reply (CodeTable code table) t u s r a b = one_code AreOneOutput code (λ scheme. SchemeReplies scheme table) t u s r (λ x y e. the_same e refl)
    (one_answer table t u s r) a b
one_reply Version t u s r a b = the_same (a.0 ∙ sym b.0) (a.1 ∙ sym b.1)

-- The same words and files have one output.
pub one_output : (words : List (List ℕ)) (disk : Disk) (t u : List ℕ) (s r : Status) → Output words disk t s → Output words disk u r → AreOneOutput t s u r
one_output words disk t u s r a b =
    one plan_of Replies usage_line AreOneOutput (command_of words) disk t u s r (λ text other status outcome e f. the_same e f)
    (λ work text other status outcome x y. one_reply work text other status outcome x y) a b
