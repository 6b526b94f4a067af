-- Each instruction is parsed from its line.
use Rattle.std.proofs.Common.{◌≡◌, ◌<◌, ◌≤◌, ◌^◌, ◌==◌, ℕ, suc, ℤ, pos, negsuc, Bool, false, true, not, cond, IsTrue, List, [], ◌∷◌, ◌++◌, Some, codes, decimal}
use Rattle.std.proofs.Common.{refl, sym, ap, ◌∙◌, subst, arith}
use Rattle.std.specs.Str.{bytes_eq}
use Rattle.std.specs.Option.{option_and_then, option_map}
use Rattle.std.proofs.lemmas.Int.{ints}
use Rattle.std.proofs.lemmas.Bool.{and_from, and_parts, eqb-true, false_from_ne_true, true≢false}
use Rattle.std.proofs.lemmas.List.Folds.{list_all-append}
use Rattle.std.proofs.lemmas.Slice.Eq.{bytes_eq-Decides}
use Rattle.reg_machine.proofs.TableLemmas.{none≢some}
use Rattle.m_fixed.specs.declared.operator.Op.{Op}
use Rattle.m_fixed.specs.declared.operator.Op.TheVariants.{Add}
use Rattle.m_fixed.specs.Operators.{arity_of}
use Rattle.m_fixed.specs.Amounts.{most}
use Rattle.m_fixed.specs.declared.amount.Value.{Value}
use Rattle.m_fixed.specs.declared.amount.Value.TheVariants.{Undef, Num, Over}
use Rattle.reg_machine.specs.declared.instr.Instr.{Instr}
use Rattle.reg_machine.specs.declared.instr.Instr.TheVariants.{Take, Lit, Do, Store, Load, Check, Output}
use Rattle.reg_machine.specs.Flow.{repeats_first}
use Rattle.code_file.specs.Text.{op_word, instr_line, literal_word}
use Rattle.code_file.specs.Reading.{IsInstr, IsLiteral, IsShort}
use Rattle.code_file.specs.inner.Spelled.{cut, both, all_three, number, register, short, literal, millionths, below_zero, arguments, done_by, operation, check}
use Rattle.code_file.specs.inner.Spelled.{instr_by, instr_of}
use Rattle.code_file.proofs.OptionLemmas.{both-is, three-is}
use Rattle.code_file.proofs.CutLemmas.{lacks, not-true, cut-at}
use Rattle.code_file.proofs.NumberLemmas.{number-complete, decimal-lacks}
use Rattle.code_file.proofs.OpLemmas.{op-known}
use Rattle.code_file.proofs.InstrLemmas.{onto-last, line-two, Spaced, written, args, reps, do-text}

-- the line of an instruction, without its line feed, is parsed as it
pub record Complete (i : Instr) : Type 0 where
  pub line : List ℕ
  pub text : instr_line i ≡ line ++ 10 ∷ []
  pub free : lacks 10 line ≡ true
  pub reads : instr_of line ≡ Some i

pub lacks-append : (mark : ℕ) (x y : List ℕ) → lacks mark x ≡ true → lacks mark y ≡ true → lacks mark (x ++ y) ≡ true
lacks-append mark x y a b = list_all-append (λ c. not (c == mark)) x y ∙ and_from (lacks mark x) (lacks mark y) a b

-- a line of three words
words-two : (w x y : List ℕ) → lacks 32 w ≡ true → lacks 32 x ≡ true → instr_of (Spaced w x y) ≡ instr_by w (x, y)
words-two w x y a b =
    ap (option_and_then (λ p. option_and_then (instr_by p.0) (cut 32 p.1))) (cut-at 32 w (x ++ 32 ∷ y) a)
    ∙ ap (option_and_then (instr_by w)) (cut-at 32 x y b)

free-two : (w x y : List ℕ) → lacks 10 w ≡ true → lacks 10 x ≡ true → lacks 10 y ≡ true → lacks 10 (Spaced w x y) ≡ true
free-two w x y a b c = lacks-append 10 w (32 ∷ (x ++ 32 ∷ y)) a (lacks-append 10 x (32 ∷ y) b c)

register-lacks : (mark r : ℕ) → (48 ≤ mark → mark ≤ 57 → ⊥) → r < 16 → lacks mark (decimal r) ≡ true
register-lacks mark r other small = decimal-lacks mark r other (omega arith)

pub short-lacks : (mark n : ℕ) → (48 ≤ mark → mark ≤ 57 → ⊥) → IsShort n → lacks mark (decimal n) ≡ true
short-lacks mark n other small = decimal-lacks mark n other (omega arith)

pub space : 48 ≤ 32 → 32 ≤ 57 → ⊥
space a b = omega arith

pub feed : 48 ≤ 10 → 10 ≤ 57 → ⊥
feed a b = omega arith

pub register-is : (r : ℕ) → r < 16 → register (decimal r) ≡ Some r
register-is r small = number-complete 16 r small (omega arith)

pub short-is : (n : ℕ) → IsShort n → short (decimal n) ≡ Some n
short-is n small = number-complete 4_294_967_296 n small (omega arith)

-- a text without this byte differs from a word that has it
word-other : (mark : ℕ) (text word : List ℕ) → lacks mark text ≡ true → lacks mark word ≡ false → bytes_eq text word ≡ false
word-other mark text word a b = false_from_ne_true (bytes_eq text word) (λ e. true≢false (sym a ∙ ap (lacks mark) ((bytes_eq-Decides text word).0 e) ∙ b))

amount-literal : (text : List ℕ) (z : ℤ) → lacks 117 text ≡ true → lacks 118 text ≡ true → millionths text ≡ Some z → literal text ≡ Some (Num z)
amount-literal text z a b h =
    ap (λ t. cond t (Some Undef) (cond (bytes_eq text (codes "over")) (Some Over) (option_map Num (millionths text))))
    (word-other 117 text (codes "undef") a refl)
    ∙ ap (λ t. cond t (Some Over) (option_map Num (millionths text))) (word-other 118 text (codes "over") b refl)
    ∙ ap (option_map Num) h

plain-millionths : (text : List ℕ) (n : ℕ) → lacks 45 text ≡ true → number (suc most) text ≡ Some n → millionths text ≡ Some (pos n)
plain-millionths [] n a h = absurd (none≢some n h)
plain-millionths (b ∷ bs) n a h =
    ap (λ t. cond t (option_and_then below_zero (number (suc most) bs)) (option_map pos (number (suc most) (b ∷ bs))))
    (not-true (b == 45) (and_parts (not (b == 45)) (lacks 45 bs) a).0)
    ∙ ap (option_map pos) h

minus-millionths : (n : ℕ) → suc n < suc most → millionths (45 ∷ decimal (suc n)) ≡ Some (negsuc n)
minus-millionths n small = ap (option_and_then below_zero) (number-complete (suc most) (suc n) small (omega arith))

minus : 48 ≤ 45 → 45 ≤ 57 → ⊥
minus a b = omega arith

letter-u : 48 ≤ 117 → 117 ≤ 57 → ⊥
letter-u a b = omega arith

letter-v : 48 ≤ 118 → 118 ≤ 57 → ⊥
letter-v a b = omega arith

literal-is : (v : Value) → IsLiteral v → literal (literal_word v) ≡ Some v
literal-is Undef h = refl
literal-is Over h = refl
literal-is (Num (pos n)) h =
    let small : n < suc most = omega (arith, ints, h.high) in
    let fits : n < 2 ^ 64 = omega arith in
    amount-literal (decimal n) (pos n) (decimal-lacks 117 n letter-u fits) (decimal-lacks 118 n letter-v fits)
    (plain-millionths (decimal n) n (decimal-lacks 45 n minus fits) (number-complete (suc most) n small (omega arith)))
literal-is (Num (negsuc n)) h =
    let small : suc n < suc most = omega (arith, ints, h.low) in
    let fits : suc n < 2 ^ 64 = omega arith in
    amount-literal (45 ∷ decimal (suc n)) (negsuc n) (decimal-lacks 117 (suc n) letter-u fits) (decimal-lacks 118 (suc n) letter-v fits)
    (minus-millionths n small)

literal-lacks : (v : Value) → IsLiteral v → lacks 10 (literal_word v) ≡ true
literal-lacks Undef h = refl
literal-lacks Over h = refl
literal-lacks (Num (pos n)) h = decimal-lacks 10 n feed (omega (arith, ints, h.high))
literal-lacks (Num (negsuc n)) h = decimal-lacks 10 (suc n) feed (omega (arith, ints, h.low))

op-one-word : (op : Op) → lacks 32 (op_word op) ≡ true
op-one-word Add = refl
op-one-word op = refl

op-one-line : (op : Op) → lacks 10 (op_word op) ≡ true
op-one-line Add = refl
op-one-line op = refl

args-complete : (op : Op) (n r a b c : ℕ) (s t : Bool) → (n == 1) ≡ s → (n == 2) ≡ t → reps n a b c ≡ true → a < 16 → b < 16 → c < 16
    → args s t op r (written s t a b c) ≡ Some (Do op r a b c)
args-complete op n r a b c true t e f h x y z =
    let k = and_parts (b == a) (c == a) (subst (λ m. reps m a b c ≡ true) (eqb-true n 1 e) h) in
    ap (option_map (λ a. Do op r a a a)) (register-is a x) ∙ (λ j. Some (Do op r a (sym (eqb-true b a k.0) j) (sym (eqb-true c a k.1) j)))
args-complete op n r a b c false true e f h x y z =
    let k : (c == a) ≡ true = subst (λ m. reps m a b c ≡ true) (eqb-true n 2 f) h in
    ap (option_and_then (λ p. both (λ a b. Do op r a b a) (register p.0) (register p.1))) (cut-at 32 (decimal a) (decimal b) (register-lacks 32 a space x))
    ∙ both-is (λ a b. Do op r a b a) (register (decimal a)) (register (decimal b)) a b (register-is a x) (register-is b y)
    ∙ (λ j. Some (Do op r a b (sym (eqb-true c a k) j)))
args-complete op n r a b c false false e f h x y z =
    ap (option_and_then (λ p. option_and_then (λ q. all_three (Do op r) (register p.0) (register q.0) (register q.1)) (cut 32 p.1)))
    (cut-at 32 (decimal a) (decimal b ++ 32 ∷ decimal c) (register-lacks 32 a space x))
    ∙ ap (option_and_then (λ q. all_three (Do op r) (register (decimal a)) (register q.0) (register q.1)))
    (cut-at 32 (decimal b) (decimal c) (register-lacks 32 b space y))
    ∙ three-is (Do op r) (register (decimal a)) (register (decimal b)) (register (decimal c)) a b c (register-is a x) (register-is b y) (register-is c z)

written-free : (s t : Bool) (a b c : ℕ) → a < 16 → b < 16 → c < 16 → lacks 10 (written s t a b c) ≡ true
written-free true t a b c x y z = register-lacks 10 a feed x
written-free false true a b c x y z = lacks-append 10 (decimal a) (32 ∷ decimal b) (register-lacks 10 a feed x) (register-lacks 10 b feed y)
written-free false false a b c x y z = free-two (decimal a) (decimal b) (decimal c) (register-lacks 10 a feed x) (register-lacks 10 b feed y)
    (register-lacks 10 c feed z)

two-complete : (i : Instr) (w x y : List ℕ) → instr_line i ≡ w ++ 32 ∷ (x ++ 32 ∷ (y ++ 10 ∷ [])) → lacks 32 w ≡ true → lacks 32 x ≡ true → lacks 10 w ≡ true
    → lacks 10 x ≡ true → lacks 10 y ≡ true → instr_by w (x, y) ≡ Some i → Complete i
two-complete i w x y e a b c d f h = record {
  line = Spaced w x y;
  text = e ∙ sym (line-two w x y);
  free = free-two w x y c d f;
  reads = words-two w x y a b
      ∙ h;
}

check-is : (over_only : Bool) (g c label : ℕ) → g < 16 → c < 16 → IsShort label
    → check over_only (decimal g) (decimal c ++ 32 ∷ decimal label) ≡ Some (Check g c over_only label)
check-is over_only g c label x y z =
    ap (option_and_then (λ p. all_three (λ g c label. Check g c over_only label) (register (decimal g)) (register p.0) (short p.1)))
    (cut-at 32 (decimal c) (decimal label) (register-lacks 32 c space y))
    ∙ three-is (λ g c label. Check g c over_only label) (register (decimal g)) (register (decimal c)) (short (decimal label)) g c label (register-is g x)
    (register-is c y) (short-is label z)

check-complete : (w : List ℕ) (over_only : Bool) (g c label : ℕ) → g < 16 → c < 16 → IsShort label
    → instr_line (Check g c over_only label) ≡ w ++ 32 ∷ (decimal g ++ 32 ∷ (decimal c ++ 32 ∷ (decimal label ++ 10 ∷ [])))
    → lacks 32 w ≡ true → lacks 10 w ≡ true → instr_by w (decimal g, decimal c ++ 32 ∷ decimal label) ≡ check over_only (decimal g)
    (decimal c ++ 32 ∷ decimal label) → Complete (Check g c over_only label)
check-complete w over_only g c label x y z e a b h =
    two-complete (Check g c over_only label) w (decimal g) (decimal c ++ 32 ∷ decimal label)
    (e ∙ ap (λ t. w ++ 32 ∷ (decimal g ++ 32 ∷ t)) (sym (onto-last (decimal c) (decimal label))))
    a (register-lacks 32 g space x) b (register-lacks 10 g feed x) (lacks-append 10 (decimal c) (32 ∷ decimal label) (register-lacks 10 c feed y)
    (short-lacks 10 label feed z))
    (h ∙ check-is over_only g c label x y z)

operation-is : (op : Op) (r a b c : ℕ) → r < 16 → a < 16 → b < 16 → c < 16 → IsTrue (repeats_first op a b c)
    → operation (decimal r, op_word op ++ 32 ∷ written (arity_of op == 1) (arity_of op == 2) a b c) ≡ Some (Do op r a b c)
operation-is op r a b c u x y z h =
    let text = written (arity_of op == 1) (arity_of op == 2) a b c in
    ap (option_and_then (λ r. option_and_then (done_by r) (cut 32 (op_word op ++ 32 ∷ text)))) (register-is r u)
    ∙ ap (option_and_then (done_by r)) (cut-at 32 (op_word op) text (op-one-word op))
    ∙ ap (option_and_then (λ op. arguments op (arity_of op) r text)) (op-known op)
    ∙ args-complete op (arity_of op) r a b c (arity_of op == 1) (arity_of op == 2) refl refl h x y z

operation-complete : (op : Op) (r a b c : ℕ) → IsInstr (Do op r a b c) → Complete (Do op r a b c)
operation-complete op r a b c h =
    let text = written (arity_of op == 1) (arity_of op == 2) a b c in
    two-complete (Do op r a b c) (codes "do") (decimal r) (op_word op ++ 32 ∷ text)
    (do-text op r a b c ∙ line-two (codes "do") (decimal r) (op_word op ++ 32 ∷ text))
    refl (register-lacks 32 r space h.0) refl (register-lacks 10 r feed h.0)
    (lacks-append 10 (op_word op) (32 ∷ text) (op-one-line op) (written-free (arity_of op == 1) (arity_of op == 2) a b c h.1 h.2 h.3))
    (operation-is op r a b c h.0 h.1 h.2 h.3 h.4)

pub instr-complete : (i : Instr) → IsInstr i → Complete i
instr-complete (Take r n) h =
    two-complete (Take r n) (codes "in") (decimal r) (decimal n) refl refl (register-lacks 32 r space h.0) refl (register-lacks 10 r feed h.0)
    (short-lacks 10 n feed h.1)
    (both-is Take (register (decimal r)) (short (decimal n)) r n (register-is r h.0) (short-is n h.1))
instr-complete (Lit r v) h =
    two-complete (Lit r v) (codes "lit") (decimal r) (literal_word v) refl refl (register-lacks 32 r space h.0) refl
    (register-lacks 10 r feed h.0) (literal-lacks v h.1)
    (both-is Lit (register (decimal r)) (literal (literal_word v)) r v (register-is r h.0) (literal-is v h.1))
instr-complete (Do op r a b c) h = operation-complete op r a b c h
instr-complete (Store k r) h =
    two-complete (Store k r) (codes "st") (decimal k) (decimal r) refl refl (short-lacks 32 k space h.0) refl (short-lacks 10 k feed h.0)
    (register-lacks 10 r feed h.1)
    (both-is Store (short (decimal k)) (register (decimal r)) k r (short-is k h.0) (register-is r h.1))
instr-complete (Load r k) h =
    two-complete (Load r k) (codes "ld") (decimal r) (decimal k) refl refl (register-lacks 32 r space h.0) refl (register-lacks 10 r feed h.0)
    (short-lacks 10 k feed h.1)
    (both-is Load (register (decimal r)) (short (decimal k)) r k (register-is r h.0) (short-is k h.1))
instr-complete (Check g c false label) h = check-complete (codes "ck") false g c label h.0 h.1 h.2 refl refl refl refl
instr-complete (Check g c true label) h = check-complete (codes "co") true g c label h.0 h.1 h.2 refl refl refl refl
instr-complete (Output k r) h =
    two-complete (Output k r) (codes "out") (decimal k) (decimal r) refl refl (short-lacks 32 k space h.0) refl (short-lacks 10 k feed h.0)
    (register-lacks 10 r feed h.1)
    (both-is Output (short (decimal k)) (register (decimal r)) k r (short-is k h.0) (register-is r h.1))
