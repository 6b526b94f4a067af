-- Instructions and the lines they are parsed from.
use Rattle.std.proofs.Common.{◌≡◌, ◌<◌, ◌≤◌, ◌^◌, ◌==◌, ◌&&◌, ◌||◌, ℕ, zero, suc, ℤ, pos, negsuc, Bool, false, true, cond, nat_le, List, [], ◌∷◌, ◌++◌, Option}
use Rattle.std.proofs.Common.{Some, None, codes, decimal, map, take, refl, sym, ap, ◌∙◌, subst, arith, append_assoc}
use Rattle.std.specs.Fmt.{signed_decimal}
use Rattle.std.specs.Str.{bytes_eq}
use Rattle.std.specs.Option.{option_and_then, option_map}
use Rattle.std.proofs.lemmas.Int.{ints}
use Rattle.std.proofs.lemmas.Bool.{and_from, or_left, or_right, eqb-true, eq-eqb, true≢false}
use Rattle.std.proofs.lemmas.Slice.Eq.{bytes_eq-Decides}
use Rattle.reg_machine.proofs.TableLemmas.{none≢some, some-is}
use Rattle.m_fixed.specs.declared.operator.Op.{Op}
use Rattle.m_fixed.specs.declared.operator.Op.TheVariants.{Add, Sub, Mul, Div, Neg, Eq, Ne, Lt, Le, Gt, Ge, And, Or, Not, Present, Abs, Positive}
use Rattle.m_fixed.specs.declared.operator.Op.TheVariants.{PositiveOrNull, Null, Arr, Inf, Max, Min, Truth as TruthOf, Choose, At}
use Rattle.m_fixed.specs.Operators.{arity_of}
use Rattle.m_fixed.specs.Amounts.{IsAmount, most}
use Rattle.m_fixed.specs.declared.amount.Value.{Value}
use Rattle.m_fixed.specs.declared.amount.Value.TheVariants.{Undef, Num, Over}
use Rattle.reg_machine.specs.declared.instr.Instr.{Instr}
use Rattle.reg_machine.specs.declared.instr.Instr.TheVariants.{Take, Lit, Do, Store, Load, Check, Output}
use Rattle.code_file.specs.Text.{op_word, instr_line, operands, check_word, literal_word}
use Rattle.code_file.specs.Reading.{IsInstr, IsLiteral, IsShort}
use Rattle.code_file.specs.inner.Spelled.{cut, both, all_three, number, register, short, literal, millionths, below_zero, op_among, operators, arguments}
use Rattle.code_file.specs.inner.Spelled.{done_by, operation, check, plain, instr_by, instr_of}
use Rattle.code_file.proofs.OptionLemmas.{then-some, map-some, both-some, three-some}
use Rattle.code_file.proofs.CutLemmas.{cut-parts}
use Rattle.code_file.proofs.NumberLemmas.{number-sound}
use Rattle.code_file.proofs.OpLemmas.{op-found}

-- ---- lines of words

-- the line feed is after the last word
pub onto-last : (x t : List ℕ) → (x ++ 32 ∷ t) ++ 10 ∷ [] ≡ x ++ 32 ∷ (t ++ 10 ∷ [])
onto-last x t = append_assoc x (32 ∷ t) (10 ∷ [])

pub line-two : (w x y : List ℕ) → (w ++ 32 ∷ (x ++ 32 ∷ y)) ++ 10 ∷ [] ≡ w ++ 32 ∷ (x ++ 32 ∷ (y ++ 10 ∷ []))
line-two w x y = onto-last w (x ++ 32 ∷ y) ∙ ap (λ t. w ++ 32 ∷ t) (onto-last x y)

pub line-three : (w x y z : List ℕ) → (w ++ 32 ∷ (x ++ 32 ∷ (y ++ 32 ∷ z))) ++ 10 ∷ [] ≡ w ++ 32 ∷ (x ++ 32 ∷ (y ++ 32 ∷ (z ++ 10 ∷ [])))
line-three w x y z = onto-last w (x ++ 32 ∷ (y ++ 32 ∷ z)) ∙ ap (λ t. w ++ 32 ∷ t) (line-two x y z)

pub line-four : (w x y z u : List ℕ) → (w ++ 32 ∷ (x ++ 32 ∷ (y ++ 32 ∷ (z ++ 32 ∷ u)))) ++ 10 ∷ [] ≡ w
    ++ 32 ∷ (x ++ 32 ∷ (y ++ 32 ∷ (z ++ 32 ∷ (u ++ 10 ∷ []))))
line-four w x y z u = onto-last w (x ++ 32 ∷ (y ++ 32 ∷ (z ++ 32 ∷ u))) ∙ ap (λ t. w ++ 32 ∷ t) (line-three x y z u)

pub line-five : (w x y z u v : List ℕ) → (w ++ 32 ∷ (x ++ 32 ∷ (y ++ 32 ∷ (z ++ 32 ∷ (u ++ 32 ∷ v))))) ++ 10 ∷ [] ≡ w
    ++ 32 ∷ (x ++ 32 ∷ (y ++ 32 ∷ (z ++ 32 ∷ (u ++ 32 ∷ (v ++ 10 ∷ [])))))
line-five w x y z u v = onto-last w (x ++ 32 ∷ (y ++ 32 ∷ (z ++ 32 ∷ (u ++ 32 ∷ v)))) ∙ ap (λ t. w ++ 32 ∷ t) (line-four x y z u v)

-- ---- a line that is parsed is the line of its instruction

-- an instruction parsed from a line has that line, with its line feed
pub record Sound (i : Instr) (line : List ℕ) : Type 0 where
  pub right : IsInstr i
  pub text : instr_line i ≡ line ++ 10 ∷ []

pub small-16 : 16 ≤ 2 ^ 64
small-16 = omega arith

pub register-sound : (text : List ℕ) (r : ℕ) → register text ≡ Some r → (text ≡ decimal r) × (r < 16)
register-sound text r h = number-sound 16 r text (omega arith) (omega arith) h

pub short-sound : (text : List ℕ) (n : ℕ) → short text ≡ Some n → (text ≡ decimal n) × IsShort n
short-sound text n h = number-sound 4_294_967_296 n text (omega arith) (omega arith) h

pub most-sound : (text : List ℕ) (n : ℕ) → number (suc most) text ≡ Some n → (text ≡ decimal n) × (n < suc most)
most-sound text n h = number-sound (suc most) n text (omega arith) (omega arith) h

pub below-sound : (n : ℕ) (z : ℤ) → n < suc most → below_zero n ≡ Some z → IsAmount z × (signed_decimal z ≡ 45 ∷ decimal n)
below-sound zero z small h = absurd (none≢some z h)
below-sound (suc n) z small h = subst (λ y. IsAmount y × (signed_decimal y ≡ 45 ∷ decimal (suc n))) (some-is (negsuc n) z h)
    (record { low = omega (arith, ints); high = omega (arith, ints) }, refl)

pub above-sound : (n : ℕ) → n < suc most → IsAmount (pos n)
above-sound n small = record { low = omega (arith, ints); high = omega (arith, ints) }

pub millionths-by : (b : ℕ) (bs : List ℕ) (z : ℤ) (t : Bool) → (b == 45) ≡ t
    → cond t (option_and_then below_zero (number (suc most) bs)) (option_map pos (number (suc most) (b ∷ bs))) ≡ Some z
    → IsAmount z × (signed_decimal z ≡ b ∷ bs)
millionths-by b bs z true e h =
    let k = then-some below_zero (number (suc most) bs) z h in
    let n = most-sound bs k.0 k.1 in
    let s = below-sound k.0 z n.1 k.2 in
    (s.0, s.1 ∙ (λ i. sym (eqb-true b 45 e) i ∷ sym n.0 i))
millionths-by b bs z false e h =
    let k = map-some pos (number (suc most) (b ∷ bs)) z h in
    let n = most-sound (b ∷ bs) k.0 k.1 in
    subst (λ y. IsAmount y × (signed_decimal y ≡ b ∷ bs)) k.2 (above-sound k.0 n.1, sym n.0)

pub millionths-sound : (text : List ℕ) (z : ℤ) → millionths text ≡ Some z → IsAmount z × (signed_decimal z ≡ text)
millionths-sound [] z h = absurd (none≢some z h)
millionths-sound (b ∷ bs) z h = millionths-by b bs z (b == 45) refl h

pub literal-by : (text : List ℕ) (v : Value) (s t : Bool) → bytes_eq text (codes "undef") ≡ s → bytes_eq text (codes "over") ≡ t
    → cond s (Some Undef) (cond t (Some Over) (option_map Num (millionths text))) ≡ Some v → IsLiteral v × (literal_word v ≡ text)
literal-by text v true t e f h = subst (λ y. IsLiteral y × (literal_word y ≡ text)) (some-is Undef v h) (tt, sym ((bytes_eq-Decides text (codes "undef")).0 e))
literal-by text v false true e f h = subst (λ y. IsLiteral y × (literal_word y ≡ text)) (some-is Over v h)
    (tt, sym ((bytes_eq-Decides text (codes "over")).0 f))
literal-by text v false false e f h =
    let k = map-some Num (millionths text) v h in
    subst (λ y. IsLiteral y × (literal_word y ≡ text)) k.2 (millionths-sound text k.0 k.1)

pub literal-sound : (text : List ℕ) (v : Value) → literal text ≡ Some v → IsLiteral v × (literal_word v ≡ text)
literal-sound text v h = literal-by text v (bytes_eq text (codes "undef")) (bytes_eq text (codes "over")) refl refl h

-- three words with spaces between them
abbrev pub Spaced : List ℕ → List ℕ → List ℕ → List ℕ
Spaced w x y = w ++ 32 ∷ (x ++ 32 ∷ y)

pub take-sound : (x y : List ℕ) (i : Instr) → both Take (register x) (short y) ≡ Some i → Sound i (Spaced (codes "in") x y)
take-sound x y i h =
    let k = both-some Take (register x) (short y) i h in
    let a = register-sound x k.0 k.2 in
    let b = short-sound y k.1 k.3 in
    subst (λ j. Sound j (Spaced (codes "in") x y)) k.4 (record {
      right = (a.1, b.1);
      text = (λ j. codes "in" ++ 32 ∷ (sym a.0 j ++ 32 ∷ (sym b.0 j ++ 10 ∷ [])))
          ∙ sym (line-two (codes "in") x y);
    })

pub load-sound : (x y : List ℕ) (i : Instr) → both Load (register x) (short y) ≡ Some i → Sound i (Spaced (codes "ld") x y)
load-sound x y i h =
    let k = both-some Load (register x) (short y) i h in
    let a = register-sound x k.0 k.2 in
    let b = short-sound y k.1 k.3 in
    subst (λ j. Sound j (Spaced (codes "ld") x y)) k.4 (record {
      right = (a.1, b.1);
      text = (λ j. codes "ld" ++ 32 ∷ (sym a.0 j ++ 32 ∷ (sym b.0 j ++ 10 ∷ [])))
          ∙ sym (line-two (codes "ld") x y);
    })

pub store-sound : (x y : List ℕ) (i : Instr) → both Store (short x) (register y) ≡ Some i → Sound i (Spaced (codes "st") x y)
store-sound x y i h =
    let k = both-some Store (short x) (register y) i h in
    let a = short-sound x k.0 k.2 in
    let b = register-sound y k.1 k.3 in
    subst (λ j. Sound j (Spaced (codes "st") x y)) k.4 (record {
      right = (a.1, b.1);
      text = (λ j. codes "st" ++ 32 ∷ (sym a.0 j ++ 32 ∷ (sym b.0 j ++ 10 ∷ [])))
          ∙ sym (line-two (codes "st") x y);
    })

pub output-sound : (x y : List ℕ) (i : Instr) → both Output (short x) (register y) ≡ Some i → Sound i (Spaced (codes "out") x y)
output-sound x y i h =
    let k = both-some Output (short x) (register y) i h in
    let a = short-sound x k.0 k.2 in
    let b = register-sound y k.1 k.3 in
    subst (λ j. Sound j (Spaced (codes "out") x y)) k.4
    (record { right = (a.1, b.1); text = (λ j. codes "out" ++ 32 ∷ (sym a.0 j ++ 32 ∷ (sym b.0 j ++ 10 ∷ []))) ∙ sym (line-two (codes "out") x y) })

pub lit-sound : (x y : List ℕ) (i : Instr) → both Lit (register x) (literal y) ≡ Some i → Sound i (Spaced (codes "lit") x y)
lit-sound x y i h =
    let k = both-some Lit (register x) (literal y) i h in
    let a = register-sound x k.0 k.2 in
    let b = literal-sound y k.1 k.3 in
    subst (λ j. Sound j (Spaced (codes "lit") x y)) k.4 (record {
      right = (a.1, b.0);
      text = (λ j. codes "lit" ++ 32 ∷ (sym a.0 j ++ 32 ∷ (b.1 j ++ 10 ∷ []))) ∙ sym (line-two (codes "lit") x y);
    })

pub check-sound : (over_only : Bool) (x y : List ℕ) (i : Instr) → check over_only x y ≡ Some i → Sound i (Spaced (check_word over_only) x y)
check-sound over_only x y i h =
    let p = then-some (λ p. all_three (λ g c label. Check g c over_only label) (register x) (register p.0) (short p.1)) (cut 32 y) i h in
    let q = cut-parts 32 y p.0 p.1 in
    let k = three-some (λ g c label. Check g c over_only label) (register x) (register p.0.0) (short p.0.1) i p.2 in
    let a = register-sound x k.0 k.3 in
    let b = register-sound p.0.0 k.1 k.4 in
    let c = short-sound p.0.1 k.2 k.5 in
    subst (λ j. Sound j (Spaced (check_word over_only) x y)) k.6 (record {
      right = (a.1, b.1, c.1);
      text = (λ j. check_word over_only ++ 32 ∷ (sym a.0 j ++ 32 ∷ (sym b.0 j ++ 32 ∷ (sym c.0 j ++ 10 ∷ []))))
          ∙ sym (line-three (check_word over_only) x p.0.0 p.0.1)
          ∙ ap (λ t. (check_word over_only ++ 32 ∷ (x ++ 32 ∷ t)) ++ 10 ∷ []) (sym q.whole);
    })

pub plain-by : (w x y : List ℕ) (i : Instr) (t0 t1 t2 t3 t4 t5 t6 : Bool) → bytes_eq w (codes "in") ≡ t0 → bytes_eq w (codes "lit") ≡ t1
    → bytes_eq w (codes "st") ≡ t2 → bytes_eq w (codes "ld") ≡ t3 → bytes_eq w (codes "out") ≡ t4 → bytes_eq w (codes "ck") ≡ t5 → bytes_eq w (codes "co") ≡ t6
    → cond t0 (both Take (register x) (short y))
    (cond t1 (both Lit (register x) (literal y))
    (cond t2 (both Store (short x) (register y))
    (cond t3 (both Load (register x) (short y))
    (cond t4 (both Output (short x) (register y)) (cond t5 (check false x y) (cond t6 (check true x y) None)))))) ≡ Some i → Sound i (Spaced w x y)
plain-by w x y i true t1 t2 t3 t4 t5 t6 e0 e1 e2 e3 e4 e5 e6 h = subst (λ v. Sound i (Spaced v x y)) (sym ((bytes_eq-Decides w (codes "in")).0 e0))
    (take-sound x y i h)
plain-by w x y i false true t2 t3 t4 t5 t6 e0 e1 e2 e3 e4 e5 e6 h = subst (λ v. Sound i (Spaced v x y)) (sym ((bytes_eq-Decides w (codes "lit")).0 e1))
    (lit-sound x y i h)
plain-by w x y i false false true t3 t4 t5 t6 e0 e1 e2 e3 e4 e5 e6 h = subst (λ v. Sound i (Spaced v x y)) (sym ((bytes_eq-Decides w (codes "st")).0 e2))
    (store-sound x y i h)
plain-by w x y i false false false true t4 t5 t6 e0 e1 e2 e3 e4 e5 e6 h = subst (λ v. Sound i (Spaced v x y)) (sym ((bytes_eq-Decides w (codes "ld")).0 e3))
    (load-sound x y i h)
plain-by w x y i false false false false true t5 t6 e0 e1 e2 e3 e4 e5 e6 h = subst (λ v. Sound i (Spaced v x y)) (sym ((bytes_eq-Decides w (codes "out")).0 e4))
    (output-sound x y i h)
plain-by w x y i false false false false false true t6 e0 e1 e2 e3 e4 e5 e6 h = subst (λ v. Sound i (Spaced v x y))
    (sym ((bytes_eq-Decides w (codes "ck")).0 e5)) (check-sound false x y i h)
plain-by w x y i false false false false false false true e0 e1 e2 e3 e4 e5 e6 h = subst (λ v. Sound i (Spaced v x y))
    (sym ((bytes_eq-Decides w (codes "co")).0 e6)) (check-sound true x y i h)
plain-by w x y i false false false false false false false e0 e1 e2 e3 e4 e5 e6 h = absurd (none≢some i h)

pub plain-sound : (w x y : List ℕ) (i : Instr) → plain w x y ≡ Some i → Sound i (Spaced w x y)
plain-sound w x y i h = plain-by w x y i (bytes_eq w (codes "in")) (bytes_eq w (codes "lit")) (bytes_eq w (codes "st")) (bytes_eq w (codes "ld"))
    (bytes_eq w (codes "out")) (bytes_eq w (codes "ck")) (bytes_eq w (codes "co")) refl refl refl refl refl refl refl h

-- ---- operators

-- the line of an operator after `do`, by its arguments
abbrev pub Done : ℕ → Op → List ℕ → List ℕ
Done r op args = codes "do" ++ 32 ∷ (decimal r ++ 32 ∷ (op_word op ++ 32 ∷ args))

-- how arguments are printed; the tests are whether the arity is one, and whether it is two
abbrev pub written : Bool → Bool → ℕ → ℕ → ℕ → List ℕ
written s t a b c = cond s (decimal a) (cond t (decimal a ++ 32 ∷ decimal b) (decimal a ++ 32 ∷ (decimal b ++ 32 ∷ decimal c)))

-- how arguments are parsed
abbrev pub args : Bool → Bool → Op → ℕ → List ℕ → Option Instr
args s t op r text =
    cond s (option_map (λ a. Do op r a a a) (register text))
    (option_and_then (λ p. cond t (both (λ a b. Do op r a b a) (register p.0) (register p.1))
    (option_and_then (λ q. all_three (Do op r) (register p.0) (register q.0) (register q.1)) (cut 32 p.1))) (cut 32 text))

-- arguments past the arity repeat the first
abbrev pub reps : ℕ → ℕ → ℕ → ℕ → Bool
reps n a b c = (nat_le 2 n || (b == a)) && (nat_le 3 n || (c == a))

-- an arity that is neither one nor two
pub three-args : (op : Op) → (arity_of op == 1) ≡ false → (arity_of op == 2) ≡ false → arity_of op ≡ 3
three-args Neg e f = absurd (true≢false e)
three-args Not e f = absurd (true≢false e)
three-args Present e f = absurd (true≢false e)
three-args Abs e f = absurd (true≢false e)
three-args Positive e f = absurd (true≢false e)
three-args PositiveOrNull e f = absurd (true≢false e)
three-args Null e f = absurd (true≢false e)
three-args Arr e f = absurd (true≢false e)
three-args Inf e f = absurd (true≢false e)
three-args TruthOf e f = absurd (true≢false e)
three-args Add e f = absurd (true≢false f)
three-args Sub e f = absurd (true≢false f)
three-args Mul e f = absurd (true≢false f)
three-args Div e f = absurd (true≢false f)
three-args Eq e f = absurd (true≢false f)
three-args Ne e f = absurd (true≢false f)
three-args Lt e f = absurd (true≢false f)
three-args Le e f = absurd (true≢false f)
three-args Gt e f = absurd (true≢false f)
three-args Ge e f = absurd (true≢false f)
three-args And e f = absurd (true≢false f)
three-args Or e f = absurd (true≢false f)
three-args Max e f = absurd (true≢false f)
three-args Min e f = absurd (true≢false f)
three-args At e f = absurd (true≢false f)
three-args Choose e f = refl

-- the line of an operator with n arguments, as it is written
abbrev pub OfCount : ℕ → Op → ℕ → ℕ → ℕ → ℕ → List ℕ
OfCount n op r a b c = codes "do" ++ operands (decimal r ∷ op_word op ∷ map decimal (take n (a ∷ b ∷ c ∷ [])))

done-by : (s t : Bool) (n : ℕ) (op : Op) (r a b c : ℕ) → (n == 1) ≡ s → (n == 2) ≡ t → ((n == 1) ≡ false → (n == 2) ≡ false → n ≡ 3)
    → OfCount n op r a b c ≡ Done r op (written s t a b c) ++ 10 ∷ []
done-by true t n op r a b c e f three = ap (λ k. OfCount k op r a b c) (eqb-true n 1 e) ∙ sym (line-three (codes "do") (decimal r) (op_word op) (decimal a))
done-by false true n op r a b c e f three =
    ap (λ k. OfCount k op r a b c) (eqb-true n 2 f) ∙ sym (line-four (codes "do") (decimal r) (op_word op) (decimal a) (decimal b))
done-by false false n op r a b c e f three =
    ap (λ k. OfCount k op r a b c) (three e f) ∙ sym (line-five (codes "do") (decimal r) (op_word op) (decimal a) (decimal b) (decimal c))

pub do-text : (op : Op) (r a b c : ℕ) → instr_line (Do op r a b c) ≡ Done r op (written (arity_of op == 1) (arity_of op == 2) a b c) ++ 10 ∷ []
do-text op r a b c = done-by (arity_of op == 1) (arity_of op == 2) (arity_of op) op r a b c refl refl (three-args op)

-- parsed arguments are printed as the text
pub record Arguments (op : Op) (n r : ℕ) (s t : Bool) (text : List ℕ) (i : Instr) : Type 0 where
  pub a : ℕ
  pub b : ℕ
  pub c : ℕ
  pub is : Do op r a b c ≡ i
  pub first : a < 16
  pub second : b < 16
  pub third : c < 16
  pub repeats : reps n a b c ≡ true
  pub text_is : text ≡ written s t a b c

pub args-sound : (op : Op) (n r : ℕ) (s t : Bool) (text : List ℕ) (i : Instr) → (n == 1) ≡ s → (n == 2) ≡ t → (s ≡ false → t ≡ false → n ≡ 3)
    → args s t op r text ≡ Some i → Arguments op n r s t text i
args-sound op n r true t text i e f three h =
    let k = map-some (λ a. Do op r a a a) (register text) i h in
    let a = register-sound text k.0 k.1 in
    let same : (k.0 == k.0) ≡ true = eq-eqb k.0 k.0 refl in
    record {
      a = k.0;
      b = k.0;
      c = k.0;
      is = k.2;
      first = a.1;
      second = a.1;
      third = a.1;
      repeats = and_from _ _ (or_right (nat_le 2 n) (k.0 == k.0) same)
          (or_right (nat_le 3 n) (k.0 == k.0) same);
      text_is = a.0;
    }
args-sound op n r false true text i e f three h =
    let p = then-some (λ p. both (λ a b. Do op r a b a) (register p.0) (register p.1)) (cut 32 text) i h in
    let q = cut-parts 32 text p.0 p.1 in
    let k = both-some (λ a b. Do op r a b a) (register p.0.0) (register p.0.1) i p.2 in
    let a = register-sound p.0.0 k.0 k.2 in
    let b = register-sound p.0.1 k.1 k.3 in
    let two : nat_le 2 n ≡ true = subst (λ m. nat_le 2 m ≡ true) (sym (eqb-true n 2 f)) refl in
    record {
      a = k.0;
      b = k.1;
      c = k.0;
      is = k.4;
      first = a.1;
      second = b.1;
      third = a.1;
      repeats = and_from _ _ (or_left (nat_le 2 n) (k.1 == k.0) two) (or_right (nat_le 3 n) (k.0 == k.0) (eq-eqb k.0 k.0 refl));
      text_is = q.whole ∙ (λ j. a.0 j ++ 32 ∷ b.0 j);
    }
args-sound op n r false false text i e f three h =
    let p = then-some (λ p. option_and_then (λ q. all_three (Do op r) (register p.0) (register q.0) (register q.1)) (cut 32 p.1)) (cut 32 text) i h in
    let q = cut-parts 32 text p.0 p.1 in
    let u = then-some (λ q. all_three (Do op r) (register p.0.0) (register q.0) (register q.1)) (cut 32 p.0.1) i p.2 in
    let v = cut-parts 32 p.0.1 u.0 u.1 in
    let k = three-some (Do op r) (register p.0.0) (register u.0.0) (register u.0.1) i u.2 in
    let a = register-sound p.0.0 k.0 k.3 in
    let b = register-sound u.0.0 k.1 k.4 in
    let c = register-sound u.0.1 k.2 k.5 in
    let is_three = three refl refl in
    record {
      a = k.0;
      b = k.1;
      c = k.2;
      is = k.6;
      first = a.1;
      second = b.1;
      third = c.1;
      repeats = subst (λ m. reps m k.0 k.1 k.2 ≡ true) (sym is_three) refl;
      text_is = q.whole ∙ (λ j. a.0 j ++ 32 ∷ v.whole j) ∙ (λ j. decimal k.0 ++ 32 ∷ (b.0 j ++ 32 ∷ c.0 j));
    }

pub operation-sound : (x y : List ℕ) (i : Instr) → operation (x, y) ≡ Some i → Sound i (Spaced (codes "do") x y)
operation-sound x y i h =
    let k = then-some (λ r. option_and_then (done_by r) (cut 32 y)) (register x) i h in
    let a = register-sound x k.0 k.1 in
    let p = then-some (done_by k.0) (cut 32 y) i k.2 in
    let q = cut-parts 32 y p.0 p.1 in
    let o = then-some (λ op. arguments op (arity_of op) k.0 p.0.1) (op_among operators p.0.0) i p.2 in
    let w = op-found operators p.0.0 o.0 o.1 in
    let g = args-sound o.0 (arity_of o.0) k.0 (arity_of o.0 == 1) (arity_of o.0 == 2) p.0.1 i refl refl (three-args o.0) o.2 in
    subst (λ j. Sound j (Spaced (codes "do") x y)) g.is (record {
      right = (a.1, g.first, g.second, g.third, g.repeats);
      text = do-text o.0 k.0 g.a g.b g.c ∙ (λ j. (codes "do" ++ 32 ∷ (sym a.0 j ++ 32 ∷ (sym w j ++ 32 ∷ sym g.text_is j))) ++ 10 ∷ [])
          ∙ ap (λ l. (codes "do" ++ 32 ∷ (x ++ 32 ∷ l)) ++ 10 ∷ []) (sym q.whole);
    })

pub instr-by-sound : (w : List ℕ) (q : List ℕ × List ℕ) (i : Instr) (t : Bool) → bytes_eq w (codes "do") ≡ t → cond t (operation q) (plain w q.0 q.1) ≡ Some i
    → Sound i (Spaced w q.0 q.1)
instr-by-sound w q i true e h = subst (λ v. Sound i (Spaced v q.0 q.1)) (sym ((bytes_eq-Decides w (codes "do")).0 e)) (operation-sound q.0 q.1 i h)
instr-by-sound w q i false e h = plain-sound w q.0 q.1 i h

-- the instruction of a line has this line
pub instr-sound : (line : List ℕ) (i : Instr) → instr_of line ≡ Some i → Sound i line
instr-sound line i h =
    let p = then-some (λ p. option_and_then (instr_by p.0) (cut 32 p.1)) (cut 32 line) i h in
    let u = cut-parts 32 line p.0 p.1 in
    let q = then-some (instr_by p.0.0) (cut 32 p.0.1) i p.2 in
    let v = cut-parts 32 p.0.1 q.0 q.1 in
    subst (Sound i) (sym (u.whole ∙ (λ j. p.0.0 ++ 32 ∷ v.whole j))) (instr-by-sound p.0.0 q.0 i (bytes_eq p.0.0 (codes "do")) refl q.2)
