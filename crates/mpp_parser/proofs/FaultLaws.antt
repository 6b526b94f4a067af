-- Bytes parse to at most one driver, and have no error if they parse.
use Rattle.std.proofs.Common.{◌≡◌, ℕ, List, [], ◌∷◌, Result, Ok, Err, refl, sym, ap, ◌∙◌, subst, arith}
use Rattle.m_places.specs.Refusals.{Outcome}
use Rattle.m_text.specs.Lines.{lines_of}
use Rattle.mpp_lexer.specs.declared.piece.Line.{Line}
use Rattle.mpp_lexer.specs.declared.fault.DriverFault.{DriverFault}
use Rattle.mpp_lexer.specs.declared.fault.DriverFault.TheVariants.{DriverToken, DriverTooDeep, DriverSyntax, Memory}
use Rattle.mpp_lexer.proofs.OneReading.{one_list, lines_or_fault, one_first_fault}
use Rattle.mpp_parser.specs.declared.command.Driver.{Driver}
use Rattle.mpp_parser.specs.declared.command.Function.{Function}
use Rattle.mpp_parser.specs.Depths.{FirstTooDeep, here, later, Shallow, none, next}
use Rattle.mpp_parser.specs.Drivers.{SpellsDriver, IsLongest}
use Rattle.mpp_parser.specs.Faults.{HasLines, IsDriver, StopsAt, IsLineFault, IsFault}
use Rattle.mpp_parser.specs.inner.Blocks.{functions_at}
use Rattle.mpp_parser.proofs.DriverLaws.{one_driver, driver_read, driver_longest, one_rest}

-- the result of parsing lines
pub read_all : (ls : List Line) (fs : List Function) (rest : List Line) → functions_at ls ≡ (fs, rest) → rest ≡ []
    → SpellsDriver (record { functions = fs }) ls []
read_all ls fs rest e f = subst (λ r. SpellsDriver (record { functions = fs }) ls r) f
    (subst (λ (x : List Function × List Line). SpellsDriver (record { functions = x.0 }) ls x.1) e (driver_read ls))

pub read_stops : (ls : List Line) (fs : List Function) (rest : List Line) (l : Line) (others : List Line) → functions_at ls ≡ (fs, rest) → rest ≡ l ∷ others
    → StopsAt ls l.number
read_stops ls fs rest l others e f = record {
  driver = record { functions = fs };
  line = l;
  others = others;
  spelled = subst (λ r. SpellsDriver (record { functions = fs }) ls r) f
      (subst (λ (x : List Function × List Line). SpellsDriver (record { functions = x.0 }) ls x.1) e (driver_read ls));
  longest = subst (λ r. IsLongest ls r) f (subst (λ (x : List Function × List Line). IsLongest ls x.1) e (driver_longest ls));
  numbered = refl;
}

pub one_driver_of : (bytes : List ℕ) (d e : Driver) → IsDriver bytes d → IsDriver bytes e → d ≡ e
one_driver_of bytes d e a b =
    let same = one_list 1 (lines_of bytes) b.lines a.lines b.lexed a.lexed in
    one_driver a.lines [] d e a.spelled (subst (λ ls. SpellsDriver e ls []) same b.spelled) (λ x r m. omega arith)

shallow_or_deep : {earlier ls : List Line} {n : ℕ} → Shallow earlier ls → FirstTooDeep earlier ls n → ⊥
shallow_or_deep none d = elim d [ ]
shallow_or_deep (next e s) (here f) = cc
shallow_or_deep (next e s) (later f d) = shallow_or_deep s d

pub driver_or_fault : (bytes : List ℕ) (d : Driver) (fault : DriverFault) → IsDriver bytes d → IsFault bytes fault → ⊥
driver_or_fault bytes d (DriverToken n) a f = lines_or_fault 1 (lines_of bytes) a.lines n a.lexed f
driver_or_fault bytes d (DriverTooDeep n) a f =
    let same = one_list 1 (lines_of bytes) a.lines f.0 a.lexed f.1 in
    shallow_or_deep (subst (Shallow []) same a.shallow) f.2
driver_or_fault bytes d (DriverSyntax n) a f =
    let same = one_list 1 (lines_of bytes) a.lines f.0 a.lexed f.1 in
    let stop = f.3 in
    let short = stop.longest d [] (subst (λ ls. SpellsDriver d ls []) same a.spelled) in
    omega arith
driver_or_fault bytes d Memory a f = f

-- One error.
one_deep : {earlier ls : List Line} {m n : ℕ} → FirstTooDeep earlier ls m → FirstTooDeep earlier ls n → m ≡ n
one_deep (here e) (here f) = refl
one_deep (here e) (later f d) = absurd (cc)
one_deep (later e d) (here f) = absurd (cc)
one_deep (later e d) (later f c) = one_deep d c

one_stop : (ls : List Line) (m n : ℕ) → StopsAt ls m → StopsAt ls n → m ≡ n
one_stop ls m n a b =
    let e : (a.line ∷ a.others) ≡ (b.line ∷ b.others) = sym (one_rest ls (a.line ∷ a.others) a.driver a.spelled a.longest)
    ∙ one_rest ls (b.line ∷ b.others) b.driver b.spelled b.longest in
    let f : a.line ≡ b.line = cc in
    a.numbered ∙ (ap (λ (l : Line). l.number) f ∙ sym b.numbered)

pub one_fault : (bytes : List ℕ) (fault other : DriverFault) → IsFault bytes fault → IsFault bytes other → fault ≡ other
one_fault bytes (DriverToken m) (DriverToken n) a b = ap DriverToken (one_first_fault 1 (lines_of bytes) m n a b)
one_fault bytes (DriverToken m) (DriverTooDeep n) a b = absurd (lines_or_fault 1 (lines_of bytes) b.0 m b.1 a)
one_fault bytes (DriverToken m) (DriverSyntax n) a b = absurd (lines_or_fault 1 (lines_of bytes) b.0 m b.1 a)
one_fault bytes (DriverTooDeep m) (DriverToken n) a b = absurd (lines_or_fault 1 (lines_of bytes) a.0 n a.1 b)
one_fault bytes (DriverTooDeep m) (DriverTooDeep n) a b =
    let same = one_list 1 (lines_of bytes) a.0 b.0 a.1 b.1 in
    ap DriverTooDeep (one_deep (subst (λ ls. FirstTooDeep [] ls m) same a.2) b.2)
one_fault bytes (DriverTooDeep m) (DriverSyntax n) a b =
    let same = one_list 1 (lines_of bytes) a.0 b.0 a.1 b.1 in
    absurd (shallow_or_deep b.2 (subst (λ ls. FirstTooDeep [] ls m) same a.2))
one_fault bytes (DriverSyntax m) (DriverToken n) a b = absurd (lines_or_fault 1 (lines_of bytes) a.0 n a.1 b)
one_fault bytes (DriverSyntax m) (DriverTooDeep n) a b =
    let same = one_list 1 (lines_of bytes) b.0 a.0 b.1 a.1 in
    absurd (shallow_or_deep a.2 (subst (λ ls. FirstTooDeep [] ls n) same b.2))
one_fault bytes (DriverSyntax m) (DriverSyntax n) a b =
    let same = one_list 1 (lines_of bytes) a.0 b.0 a.1 b.1 in
    ap DriverSyntax (one_stop b.0 m n (subst (λ ls. StopsAt ls m) same a.3) b.3)
one_fault bytes Memory other a b = absurd a
one_fault bytes fault Memory a b = absurd b

-- the result for the lines of bytes is the result for the bytes
pub of_bytes : (bytes : List ℕ) (ls : List Line) (result : Result Driver DriverFault) → HasLines bytes ls
    → Outcome Memory result (λ driver. Shallow [] ls × SpellsDriver driver ls []) (IsLineFault ls) → Outcome Memory result (IsDriver bytes) (IsFault bytes)
of_bytes bytes ls (Ok d) h o = record { lines = ls; lexed = h; shallow = o.0; spelled = o.1 }
of_bytes bytes ls (Err (DriverToken n)) h o = λ ne. absurd (o ne)
of_bytes bytes ls (Err (DriverTooDeep n)) h o = λ ne. (ls, h, o ne)
of_bytes bytes ls (Err (DriverSyntax n)) h o = λ ne. (ls, h, (o ne).0, (o ne).1)
of_bytes bytes ls (Err Memory) h o = λ ne. ne refl
