-- The clause of a call that may fail, in one form for all crates.
use Rattle.std.specs.Prelude.{◌≡◌, ◌≢◌, Option, Result, Ok, Err, Some, None, MatchResult, MatchOption}

-- At `Ok` the fact `good` of the value, and at an error the fact `bad` of the error. Nothing is
-- stated of the error `memory`, the variant for running out of memory: it may occur at any call. So
-- a parser of bytes has the clause
-- `Outcome Memory result (λ value. Spells value bytes.now) (λ fault. IsFirstFault bytes.now fault)`.
abbrev pub Outcome : {T E : Type 0} → E → Result T E → (T → Type 0) → (E → Type 0) → Type 0
Outcome memory result good bad = MatchResult result good (λ fault. fault ≢ memory → bad fault)

-- The same, where one function gives both the value and the error: the call returns what `stated`
-- gives. So a parser of tables has the clause
-- `Says Memory result (λ rows. rows.items) (table_of bytes.now)`. A loop that returns its list
-- unchanged uses `Outcome`: its proof search is faster.
abbrev pub Says : {T E V : Type 0} → E → Result T E → (T → V) → Result V E → Type 0
Says memory result view stated = Outcome memory result (λ value. stated ≡ Ok (view value)) (λ fault. stated ≡ Err fault)

-- A cursor that takes the first item of what is left, if there is one: `stated` is that item with
-- the rest after it. If there is none, what is left is unchanged. So a cursor over words has the
-- clause `Takes result (λ w. w.now) (word_at self.old) self.old self.new`.
abbrev pub Takes : {T V L : Type 0} → Option T → (T → V) → Option (V × L) → L → L → Type 0
Takes result view stated before after = MatchOption result ((after ≡ before) × (stated ≡ None)) (λ value. stated ≡ Some (view value, after))
