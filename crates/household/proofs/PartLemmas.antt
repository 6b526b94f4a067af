-- The rows of all parts are those of the table, and so is the first fault.
use Rattle.std.proofs.Common.{◌≡◌, ◌≢◌, ℕ, zero, suc, ◌+◌, ◌*◌, ◌/◌, ◌<◌, ◌≤◌, arith, get_or, take, drop, List, [], ◌∷◌, ◌++◌, length, length-append, Result}
use Rattle.std.proofs.Common.{Ok, Err, Vec, leb, Bool, true, false, refl, sym, ap, ◌∙◌, subst, append_assoc}
use Rattle.std.specs.declared.alloc.Global.{Global}
use Rattle.std.proofs.lemmas.List.{append-nil, drop-drop, drop_all, get_or-drop, get_or-take, length-drop, length-take}
use Rattle.std.proofs.lemmas.Bool.{cond-false, cond-true, le-leb}
use Rattle.std.proofs.lemmas.Bool.Decides.{nat_tests}
use Rattle.std.specs.Prelude.{IsErrAnd}
use Rattle.std.specs.Vec.{vec_len}
use Rattle.m_places.specs.Refusals.{Outcome}
use Rattle.m_places.specs.declared.limits.TheConstants.{ROWS}
use Rattle.observables.specs.declared.inputs.Coded.{Coded}
use Rattle.household.specs.declared.cuts.TheConstants.{BETWEEN}
use Rattle.household.specs.declared.fault.HouseholdFault.{HouseholdFault}
use Rattle.household.specs.declared.fault.HouseholdFault.TheVariants.{Memory, TooManyRows}
use Rattle.household.specs.declared.table.Row.{Row}
use Rattle.household.specs.declared.reader.Records.{Records}
use Rattle.household.specs.Household.{line_behind}
use Rattle.household.specs.Reader.{IsNext, left_of}
use Rattle.household.specs.InTurn.{if_read, in_turn}
use Rattle.household.specs.Table.{labelled, row_behind, table_row}
use Rattle.household.specs.inner.Parts.{AreCutsFrom, SaysPart, table_row_behind}
use Rattle.household.specs.inner.Cuts.{IsCutAfter}
use Rattle.workers.specs.Parts.{IsPart, all_items, behind, joined}
use Rattle.workers.proofs.PartLemmas.{of_parts, stated_of_parts}
use Rattle.household.proofs.LawLemmas.{no_room}

abbrev pub Record : Type 0
Record = List (List ℕ)

abbrev pub Given : Type 0
Given = Result (Vec Row Global) HouseholdFault

-- ---- reading a list in two parts

-- the first part has a fault
front_fails : {A B F : Type 0} (read : List B → A → Result B F) (size : ℕ) (before : List B) (things : List A) (fault : F)
    → in_turn read before (take size things) ≡ Err fault → in_turn read before things ≡ Err fault
front_fails read zero before things fault e = absurd (cc)
front_fails read (suc size) before [] fault e = e
front_fails {A} {B} {F} read (suc size) before (x ∷ xs) fault e = by (read before x) (λ value h. front_fails read size (before ++ value ∷ []) xs fault h) e
  where
    by : (r : Result B F) → ((value : B) → in_turn read (before ++ value ∷ []) (take size xs) ≡ Err fault → in_turn read (before ++ value ∷ []) xs ≡ Err fault)
        → if_read (λ value. in_turn read (before ++ value ∷ []) (take size xs)) r ≡ Err fault
        → if_read (λ value. in_turn read (before ++ value ∷ []) xs) r ≡ Err fault
    by (Ok value) more h = more value h
    by (Err other) more h = h

-- the first part is read as these values, and the second continues after them
front_meaning : {A B F : Type 0} (read : List B → A → Result B F) (size : ℕ) (before stated : List B) (things : List A)
    → in_turn read before (take size things) ≡ Ok stated
    → in_turn read before things ≡ in_turn read stated (drop size things)
front_meaning read zero before stated things e = (let same : before ≡ stated = cc in ap (λ b. in_turn read b things) same)
front_meaning read (suc size) before stated [] e = e
front_meaning {A} {B} {F} read (suc size) before stated (x ∷ xs) e = by (read before x) (λ value h. front_meaning read size (before ++ value ∷ []) stated xs h)
    e
  where
    by : (r : Result B F) → ((value : B) → in_turn read (before ++ value ∷ []) (take size xs) ≡ Ok stated
        → in_turn read (before ++ value ∷ []) xs ≡ in_turn read stated (drop size xs))
        → if_read (λ value. in_turn read (before ++ value ∷ []) (take size xs)) r ≡ Ok stated
        → if_read (λ value. in_turn read (before ++ value ∷ []) xs) r ≡ in_turn read stated (drop size xs)
    by (Ok value) more h = more value h
    by (Err other) more h = absurd (cc)

-- there are as many values as elements
as_many : {A B F : Type 0} (read : List B → A → Result B F) (before stated : List B) (things : List A) → in_turn read before things ≡ Ok stated
    → length stated ≡ length before + length things
as_many read before stated [] e = (let same : before ≡ stated = cc in let long = ap length same in omega (arith, long))
as_many {A} {B} {F} read before stated (x ∷ xs) e = by (read before x) (λ value h. as_many read (before ++ value ∷ []) stated xs h) e
  where
    by : (r : Result B F) → ((value : B) → in_turn read (before ++ value ∷ []) xs ≡ Ok stated → length stated ≡ length (before ++ value ∷ []) + length xs)
        → if_read (λ value. in_turn read (before ++ value ∷ []) xs) r ≡ Ok stated → length stated ≡ length before + length (x ∷ xs)
    by (Ok value) more h = let many = more value h in let long = length-append before (value ∷ []) in omega (arith, many, long)
    by (Err other) more h = absurd (cc)

-- ---- rows after rows

-- the meaning of a row depends only on the number of rows before it
same_row : (inputs : List Coded) (columns : List ℕ) (number more : ℕ) (rows before : List Row) (fields : Record) → more ≡ number + length rows
    → table_row_behind inputs columns number (rows ++ before) fields ≡ table_row_behind inputs columns more before fields
same_row inputs columns number more rows before fields m =
    let long = length-append rows before in
    let same : number + length (rows ++ before) ≡ more + length before = omega (arith, m, long) in
    ap (λ k. row_behind inputs columns k fields) same

-- the rows of a table, after no rows
from_first : (inputs : List Coded) (columns : List ℕ) (before : List Row) (records : List Record)
    → in_turn (table_row_behind inputs columns 0) before records ≡ in_turn (table_row inputs columns) before records
from_first inputs columns before [] = refl
from_first inputs columns before (fields ∷ records) =
    let same : 0 + length before ≡ length before = omega arith in
    ap (λ k. if_read (λ value. in_turn (table_row_behind inputs columns 0) (before ++ value ∷ []) records) (row_behind inputs columns k fields)) same
    ∙ by (row_behind inputs columns (length before) fields) (λ value. from_first inputs columns (before ++ value ∷ []) records)
  where
    by : (r : Result Row HouseholdFault) → ((value : Row) → in_turn (table_row_behind inputs columns 0) (before ++ value ∷ []) records ≡ in_turn
        (table_row inputs columns) (before ++ value ∷ []) records)
        → if_read (λ value. in_turn (table_row_behind inputs columns 0) (before ++ value ∷ []) records) r ≡ if_read
        (λ value. in_turn (table_row inputs columns) (before ++ value ∷ []) records) r
    by (Ok value) go = go value
    by (Err fault) go = refl

-- rows after others are the same as rows alone, at their numbers
behind_rows : (inputs : List Coded) (columns : List ℕ) (number more : ℕ) (rows before : List Row) (records : List Record) → more ≡ number + length rows
    → in_turn (table_row_behind inputs columns number) (rows ++ before) records ≡ behind rows (in_turn (table_row_behind inputs columns more) before records)
behind_rows inputs columns number more rows before [] m = refl
behind_rows inputs columns number more rows before (fields ∷ records) m =
    ap (if_read (λ value. in_turn (table_row_behind inputs columns number) ((rows ++ before) ++ value ∷ []) records))
    (same_row inputs columns number more rows before fields m)
    ∙ by (table_row_behind inputs columns more before fields) (λ value. behind_rows inputs columns number more rows (before ++ value ∷ []) records m)
  where
    by : (r : Result Row HouseholdFault)
        → ((value : Row) → in_turn (table_row_behind inputs columns number) (rows ++ (before ++ value ∷ [])) records ≡ behind rows
        (in_turn (table_row_behind inputs columns more) (before ++ value ∷ []) records))
        → if_read (λ value. in_turn (table_row_behind inputs columns number) ((rows ++ before) ++ value ∷ []) records) r
        ≡ behind rows (if_read (λ value. in_turn (table_row_behind inputs columns more) (before ++ value ∷ []) records) r)
    by (Ok value) go = ap (λ l. in_turn (table_row_behind inputs columns number) l records) (append_assoc rows before (value ∷ [])) ∙ go value
    by (Err fault) go = refl

-- a part that isn't full is the last
nothing_behind : (inputs : List Coded) (columns : List ℕ) (number other size : ℕ) (rows : List Row) (records : List Record) → length records ≤ size
    → in_turn (table_row_behind inputs columns number) rows (drop size records) ≡ behind rows
    (in_turn (table_row_behind inputs columns other) [] (drop size records))
nothing_behind inputs columns number other size rows records short =
    let none : drop size records ≡ [] = drop_all size records short in
    ap (in_turn (table_row_behind inputs columns number) rows) none ∙ ap Ok (sym (append-nil rows))
    ∙ ap (λ l. behind rows (in_turn (table_row_behind inputs columns other) [] l)) (sym none)

-- the rows of a part, then those of the rest
part_and_behind : (inputs : List Coded) (columns : List ℕ) (number size : ℕ) (rows : List Row) (records : List Record)
    → in_turn (table_row_behind inputs columns number) [] (take size records) ≡ Ok rows
    → in_turn (table_row_behind inputs columns number) [] records ≡ behind rows
    (in_turn (table_row_behind inputs columns (number + size)) [] (drop size records))
part_and_behind inputs columns number size rows records e =
    front_meaning (table_row_behind inputs columns number) size [] rows records e
    ∙ by (leb size (length records)) refl
  where
    by : (b : Bool) → leb size (length records) ≡ b → in_turn (table_row_behind inputs columns number) rows (drop size records)
        ≡ behind rows (in_turn (table_row_behind inputs columns (number + size)) [] (drop size records))
    by false short = nothing_behind inputs columns number (number + size) size rows records (grind (arith, nat_tests, short))
    by true far =
        let long : size ≤ length records = grind (arith, nat_tests, far) in
        let many = as_many (table_row_behind inputs columns number) [] rows (take size records) e in
        let taken = length-take size records in
        ap (λ l. in_turn (table_row_behind inputs columns number) l (drop size records)) (sym (append-nil rows))
        ∙ behind_rows inputs columns number (number + size) rows [] (drop size records) (omega (arith, many, taken, long))

-- ---- all parts

-- the rows of the records after this many cuts
abbrev pub left_from : List Coded → List ℕ → List Record → ℕ → Result (List Row) HouseholdFault
left_from inputs columns records at = in_turn (table_row_behind inputs columns (at * BETWEEN)) [] (drop (at * BETWEEN) records)

-- the results after this many cuts are those rows, if the remaining cuts reach the end
abbrev pub SaysLeft : List Coded → List ℕ → List Record → ℕ → List ℕ → Result (List Row) HouseholdFault → Type 0
SaysLeft inputs columns records at cuts all = length records ≤ (at + length cuts) * BETWEEN
    → Outcome Memory all (λ rows. left_from inputs columns records at ≡ Ok rows) (λ fault. left_from inputs columns records at ≡ Err fault)

-- one part, then the rest
goes : (inputs : List Coded) (columns : List ℕ) (records : List Record) (many at : ℕ) (cuts : List ℕ) (part : Vec Row Global)
    (rest : Result (List Row) HouseholdFault)
    → in_turn (table_row_behind inputs columns (at * BETWEEN)) [] (take (many * BETWEEN) (drop (at * BETWEEN) records)) ≡ Ok part.items
    → SaysLeft inputs columns records (at + many) (drop many cuts) rest → SaysLeft inputs columns records at cuts (behind part.items rest)
goes inputs columns records many at cuts part rest gave is = λ far.
    let number : at * BETWEEN + many * BETWEEN ≡ (at + many) * BETWEEN = omega arith in
    let long = length-drop many cuts in
    let shift : in_turn (table_row_behind inputs columns (at * BETWEEN + many * BETWEEN)) [] (drop (many * BETWEEN) (drop (at * BETWEEN) records)) ≡ left_from
    inputs columns records (at + many) =
    λ i. in_turn (table_row_behind inputs columns (number i)) [] ((drop-drop (many * BETWEEN) (at * BETWEEN) records ∙ ap (λ k. drop k records) number) i) in
    let whole = part_and_behind inputs columns (at * BETWEEN) (many * BETWEEN) part.items (drop (at * BETWEEN) records) gave ∙ ap (behind part.items) shift in
    by rest whole (is (omega (arith, far, long)))
  where
    by : (rest : Result (List Row) HouseholdFault) → left_from inputs columns records at ≡ behind part.items (left_from inputs columns records (at + many))
        → Outcome Memory rest (λ rows. left_from inputs columns records (at + many) ≡ Ok rows)
        (λ fault. left_from inputs columns records (at + many) ≡ Err fault)
        → Outcome Memory (behind part.items rest) (λ rows. left_from inputs columns records at ≡ Ok rows)
        (λ fault. left_from inputs columns records at ≡ Err fault)
    by (Ok more) whole h = whole ∙ ap (behind part.items) h
    by (Err fault) whole h = λ n. whole ∙ ap (behind part.items) (h n)

-- the results of the workers, joined, are the rows of the records
pub parsed_rows : (inputs : List Coded) (columns : List ℕ) (records : List Record) (many : ℕ) (cuts : List ℕ) (parts : List Given)
    → ((n : ℕ) (d : Given) → n < length parts → SaysPart inputs columns (drop (n * many * BETWEEN) records) (n * many * BETWEEN) (many * BETWEEN)
    (get_or parts n d))
    → ((n : ℕ) → n < length parts → n * many < length cuts) → length cuts ≤ length parts * many → length records ≤ length cuts * BETWEEN
    → Outcome Memory (joined parts) (λ rows. in_turn (table_row inputs columns) [] records ≡ Ok rows)
    (λ fault. in_turn (table_row inputs columns) [] records ≡ Err fault)
parsed_rows inputs columns records many cuts parts each inside reach far =
    let gives : ℕ → List ℕ → Given → Type 0 = λ at part given. SaysPart inputs columns (drop (at * BETWEEN) records) (at * BETWEEN) (many * BETWEEN) given in
    let stated = stated_of_parts gives many (SaysLeft inputs columns records)
    (λ at far. ap (in_turn (table_row_behind inputs columns (at * BETWEEN)) []) (drop_all (at * BETWEEN) records (omega (arith, far))))
    (λ at cuts fault some gave. λ far n. front_fails (table_row_behind inputs columns (at * BETWEEN)) (many * BETWEEN) [] (drop (at * BETWEEN) records) fault
    (gave n))
    (λ at cuts part rest some gave is. goes inputs columns records many at cuts part rest gave is) 0 cuts parts
    (of_parts gives many cuts parts each inside reach) (omega (arith, far)) in
    subst (λ reported. Outcome Memory (joined parts) (λ rows. reported ≡ Ok rows) (λ fault. reported ≡ Err fault)) (from_first inputs columns [] records) stated

-- the cuts of one part
pub cuts_in_part : (bytes : List ℕ) (records : List Record) (cuts : List ℕ) (size at : ℕ) (part : List ℕ)
    → ((n d : ℕ) → n < length cuts → IsCutAfter bytes records (n * BETWEEN) (get_or cuts n d))
    → IsPart cuts size at part → AreCutsFrom bytes records at part
cuts_in_part bytes records cuts size at part each is = λ n d h.
    let taken = length-take size (drop at cuts) in
    let same_part = ap length is.value in
    let same : get_or part n d ≡ get_or cuts (at + n) d =
    ap (λ (l : List ℕ). get_or l n d) is.value ∙ get_or-take size (drop at cuts) n d (omega (arith, h, taken, same_part)) ∙ get_or-drop at cuts n d in
    subst (IsCutAfter bytes records ((at + n) * BETWEEN)) (sym same) (each (at + n) d (let within = is.within in omega (arith, within, h)))

-- an error with this fault
pub reported : {T E : Type 0} (memory : E) (good : T → Type 0) (bad : E → Type 0) (result : Result T E) (fault : E) → IsErrAnd result (λ x. x ≡ fault)
    → (fault ≢ memory → bad fault)
    → Outcome memory result good bad
reported memory good bad (Ok value) fault h k = absurd h
reported memory good bad (Err other) fault h k = λ n. subst bad (sym h) (k (λ e. n (h ∙ e)))

-- ---- a worker's rows

-- a record was read
pub next_is : (found : Bool) (old new : Records) (fields : Record) → IsNext old found fields new → found ≡ true → left_of old ≡ fields ∷ left_of new
next_is true old new fields is e = is
next_is false old new fields is e = absurd (cc)

-- one more row is below the end of this many cuts
below_end : (many rows : ℕ) → rows / BETWEEN < many → rows < many * BETWEEN
below_end many rows h = omega (arith, h)

-- the next row belongs to the part, at this record number
pub has_room : (start many first second line : ℕ) (rows : Vec Row Global) → first ≡ vec_len rows → second ≡ vec_len rows → first / BETWEEN < many
    → (start * BETWEEN + second < ROWS) × (line ≡ line_behind (start * BETWEEN + second))
    → (length rows.items < many * BETWEEN) × (start * BETWEEN + length rows.items < ROWS) × (line ≡ line_behind (start * BETWEEN + length rows.items))
has_room start many first second line rows f s some at =
    let counted : first ≡ length rows.items = omega (arith, f, rows.ok) in
    let same : second ≡ length rows.items = omega (arith, s, rows.ok) in
    let below = below_end many first some in
    (omega (arith, below, counted), subst (λ k. start * BETWEEN + k < ROWS) same at.0, subst (λ k. line ≡ line_behind (start * BETWEEN + k)) same at.1)

-- the next row belongs to the part, and exceeds the limit
pub is_full : (start many first second : ℕ) (rows : Vec Row Global) → first ≡ vec_len rows → second ≡ vec_len rows → first / BETWEEN < many
    → ROWS ≤ start * BETWEEN + second
    → (length rows.items < many * BETWEEN) × (ROWS ≤ start * BETWEEN + length rows.items)
is_full start many first second rows f s some far =
    let counted : first ≡ length rows.items = omega (arith, f, rows.ok) in
    let same : second ≡ length rows.items = omega (arith, s, rows.ok) in
    let below = below_end many first some in
    (omega (arith, below, counted), subst (λ k. ROWS ≤ start * BETWEEN + k) same far)

pub too_many : (inputs : List Coded) (columns : List ℕ) (more n : ℕ) (rows : List Row) (left rest : List Record) (fields : Record) → left ≡ fields ∷ rest
    → 0 < n → ROWS ≤ more + length rows
    → in_turn (table_row_behind inputs columns more) rows (take n left) ≡ Err TooManyRows
too_many inputs columns more zero rows left rest fields e some far = absurd (omega (arith, some))
too_many inputs columns more (suc n) rows left rest fields e some far =
    ap (λ (ls : List Record). in_turn (table_row_behind inputs columns more) rows (take (suc n) ls)) e
    ∙ ap (if_read (λ value. in_turn (table_row_behind inputs columns more) (rows ++ value ∷ []) (take n rest)))
    (cond-true (leb ROWS (more + length rows)) (Err TooManyRows) (labelled inputs (line_behind (more + length rows)) columns fields)
    (le-leb ROWS (more + length rows) far))

-- the next row, below the limit
here_meaning : (inputs : List Coded) (columns : List ℕ) (more line : ℕ) (rows : List Row) (fields : Record) → more + length rows < ROWS
    → line ≡ line_behind (more + length rows)
    → table_row_behind inputs columns more rows fields ≡ labelled inputs line columns fields
here_meaning inputs columns more line rows fields few l =
    cond-false (leb ROWS (more + length rows)) (Err TooManyRows) (labelled inputs (line_behind (more + length rows)) columns fields)
    (no_room ROWS (more + length rows) few)
    ∙ ap (λ k. labelled inputs k columns fields) (sym l)

pub row_fails : (inputs : List Coded) (columns : List ℕ) (more line n : ℕ) (rows : List Row) (left rest : List Record) (fields : Record)
    (fault : HouseholdFault)
    → left ≡ fields ∷ rest → 0 < n → more + length rows < ROWS → line ≡ line_behind (more + length rows) → labelled inputs line columns fields ≡ Err fault
    → in_turn (table_row_behind inputs columns more) rows (take n left) ≡ Err fault
row_fails inputs columns more line zero rows left rest fields fault e some few l h = absurd (omega (arith, some))
row_fails inputs columns more line (suc n) rows left rest fields fault e some few l h =
    ap (λ (ls : List Record). in_turn (table_row_behind inputs columns more) rows (take (suc n) ls)) e
    ∙ ap (if_read (λ value. in_turn (table_row_behind inputs columns more) (rows ++ value ∷ []) (take n rest)))
    (here_meaning inputs columns more line rows fields few l ∙ h)

pub row_meaning : (inputs : List Coded) (columns : List ℕ) (more line n next : ℕ) (rows new : List Row) (left rest : List Record) (fields : Record) (row : Row)
    → left ≡ fields ∷ rest → n ≡ suc next → more + length rows < ROWS → line ≡ line_behind (more + length rows) → labelled inputs line columns fields ≡ Ok row
    → new ≡ rows ++ row ∷ []
    → in_turn (table_row_behind inputs columns more) rows (take n left) ≡ in_turn (table_row_behind inputs columns more) new (take next rest)
row_meaning inputs columns more line n next rows new left rest fields row e m few l h w =
    ap (λ k. in_turn (table_row_behind inputs columns more) rows (take k left)) m
    ∙ ap (λ (ls : List Record). in_turn (table_row_behind inputs columns more) rows (take (suc next) ls)) e
    ∙ ap (if_read (λ value. in_turn (table_row_behind inputs columns more) (rows ++ value ∷ []) (take next rest)))
    (here_meaning inputs columns more line rows fields few l ∙ h)
    ∙ ap (λ b. in_turn (table_row_behind inputs columns more) b (take next rest)) (sym w)

-- a property of the rows of a list is one of the list
pub by_rows : (reported : Result (List Row) HouseholdFault) (given : Given)
    → Outcome Memory (all_items given) (λ rows. reported ≡ Ok rows) (λ fault. reported ≡ Err fault)
    → Outcome Memory given (λ rows. reported ≡ Ok rows.items) (λ fault. reported ≡ Err fault)
by_rows reported (Ok rows) h = h
by_rows reported (Err fault) h = h
