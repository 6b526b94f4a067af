-- Terms as nodes: operators, folds and arguments.
use Rattle.std.proofs.Common.{◌≡◌, ℕ, zero, suc, ◌+◌, ◌*◌, ◌<◌, ◌≤◌, List, [], ◌∷◌, length, get_or, refl, sym, ap, ◌∙◌, subst, arith}
use Rattle.m_fixed.specs.declared.amount.Value.{Value}
use Rattle.m_fixed.specs.declared.amount.Value.TheVariants.{Undef, Num}
use Rattle.m_fixed.specs.declared.operator.Op.{Op}
use Rattle.m_fixed.specs.declared.operator.Op.TheVariants.{Present}
use Rattle.m_fixed.specs.Operators.{op_value}
use Rattle.std.specs.Prelude.{Some, pos}
use Rattle.micro_m.specs.Trees.{TreeOf, Tree, lit, cell, pick, apply, chain}
use Rattle.micro_m.specs.Leaves.{written, all_written, literal_in}
use Rattle.micro_m.specs.Views.{trees_of}
use Rattle.micro_m.specs.Values.{Environment, environment, term_value, argument_values, applied}
use Rattle.driver_core.specs.Leaves.{any_present}
use Rattle.flat_code.specs.declared.program.Node.TheVariants.{Do}
use Rattle.mpp_inline.specs.declared.builder.Builder.{Builder}
use Rattle.mpp_inline.specs.inner.Growth.{at, denoted, IsUsable, Sane, Known, Pushed, Along, Gives, TermStep}
use Rattle.mpp_inline.proofs.UsableLemmas.{usable-on}
use Rattle.mpp_inline.proofs.GrowthLemmas.{grows-none, grows-then, longer-then, known-on, denoted-on, pushed-within, pushed-value, pushed-grows}
use Rattle.mpp_inline.proofs.CheckGrowth.{gives-pushed}

-- an operator on nodes
pub do-step : {b c : Builder} {op : Op} {i j k n : ℕ} → Pushed b c (Do op i j k) n → IsUsable b i → IsUsable b j → IsUsable b k → Sane b
    → Gives b c (λ inputs. op_value op (at b inputs i) (at b inputs j) (at b inputs k)) n
do-step {b} {c} {op} {i} {j} {k} p hi hj hk s = gives-pushed (λ inputs. op_value op (at b inputs i) (at b inputs j) (at b inputs k)) p (hi, hj, hk) (λ t. t) s
    (λ inputs. refl)

pub applied-step : {b b1 b2 b3 c : Builder} {env : List ℕ} {i j k n : ℕ} (op : Op) (values : Environment → List Value)
    → (Sane b → Known b env → TermStep b b1 env (λ e. get_or (values e) 0 Undef) i)
    → (Sane b1 → Known b1 env → TermStep b1 b2 env (λ e. get_or (values e) 1 Undef) j)
    → (Sane b2 → Known b2 env → TermStep b2 b3 env (λ e. get_or (values e) 2 Undef) k) → Pushed b3 c (Do op i j k) n → Sane b → Known b env
    → TermStep b c env (λ e. applied op (values e)) n
applied-step {b} {b1} {b2} {b3} {c} {env} {i} {j} {k} {n} op values f1 f2 f3 p s kn =
    let s1 = f1 s kn in
    let l1 = s1.grows.base in
    let s2 = f2 l1.sane (known-on l1 kn) in
    let l2 = longer-then l1 s2.grows.base in
    let s3 = f3 l2.sane (known-on l2 kn) in
    let l23 = longer-then s2.grows.base s3.grows.base in
    let h1 : IsUsable b3 i = usable-on l23 s1.within in
    let h2 : IsUsable b3 j = usable-on s3.grows.base s2.within in
    record {
      grows = grows-then (grows-then s1.grows (grows-then s2.grows s3.grows)) (pushed-grows p (h1, h2, s3.within) s3.grows.base.sane);
      within = pushed-within p (λ t. t);
      value = λ inputs.
          pushed-value p inputs
          ∙ (λ d. op_value op
          ((l23.keeps inputs i s1.within ∙ s1.value inputs) d)
          ((s3.grows.base.keeps inputs j s2.within ∙ s2.value inputs ∙ ap (λ e. get_or (values (environment e)) 1 Undef) (denoted-on inputs l1 kn)) d)
          ((s3.value inputs ∙ ap (λ e. get_or (values (environment e)) 2 Undef) (denoted-on inputs l2 kn)) d));
    }

-- the node of a missing argument
pub undef-step : {b : Builder} (value : List Value → Value) → ((inputs : List Value) → Undef ≡ value inputs) → Sane b → Gives b b value 0
undef-step value e s = record { grows = grows-none s; within = s.literal 0 (omega arith); value = λ inputs. s.undef inputs ∙ e inputs }

-- node 1 has the value of `present` of nothing, which is 0
no-presence : Num (pos 0) ≡ op_value Present Undef Undef Undef
unfolding op_value
no-presence = refl

pub zero-step : {b : Builder} (env : List ℕ) (cs : List ℕ) → cs ≡ [] → Sane b → TermStep b b env (λ y. term_value y (any_present cs)) 1
zero-step {b} env cs e s = subst (λ l. TermStep b b env (λ y. term_value y (any_present l)) 1) (sym e)
    (record { grows = grows-none s; within = s.literal 1 (omega arith); value = λ inputs. s.zero inputs ∙ no-presence })

-- folds
pub fold-first : {b : Builder} (rest : List Value → Value → Value) (k : ℕ) → Sane b → IsUsable b k → Along b b rest (λ inputs. rest inputs (at b inputs k)) k
fold-first rest k s h = record { grows = grows-none s; within = h; value = λ inputs. refl }

pub fold-next : {b c d e : Builder} {env : List ℕ} {x k n : ℕ} {op : Op} {whole : List Value → Value} (t : Environment → Value) (rest : List Value → Value
    → Value) → Along b c (λ inputs v. rest inputs (op_value op v (t (environment (denoted b inputs env))) Undef)) whole x
    → (Sane c → Known c env → TermStep c d env t k) → Pushed d e (Do op x k 0) n → Known b env → Along b e rest whole n
fold-next {b} {c} {d} {e} {env} {x} {k} {n} {op} {whole} t rest a step p kn =
    let l = a.grows.base in
    let s = step l.sane (known-on l kn) in
    let ld = s.grows.base in
    let g = pushed-grows p (usable-on ld a.within, s.within, ld.sane.literal 0 (omega arith)) ld.sane in
    record {
      grows = grows-then a.grows (grows-then s.grows g);
      within = pushed-within p (λ t. t);
      value = λ inputs.
          ap (rest inputs) (pushed-value p inputs
          ∙ (λ i. op_value op (ld.keeps inputs x a.within i) ((s.value inputs ∙ ap (λ y. t (environment y)) (denoted-on inputs l kn)) i)
          (ld.sane.undef inputs i)))
          ∙ a.value inputs;
    }

pub pushed-right : {b c : Builder} {op : Op} {i y z k : ℕ} → y ≡ z → Pushed b c (Do op i y 0) k → Pushed b c (Do op i z 0) k
pushed-right {b} {c} {op} {i} {y} {z} {k} e p = subst (λ x. Pushed b c (Do op i x 0) k) e p

-- the last step, whose right operand has no meaning
pub fold-last : {b c d : Builder} {x k : ℕ} {op : Op} {whole : List Value → Value} → Along b c (λ inputs v. op_value op v Undef Undef) whole x
    → Pushed c d (Do op x 0 0) k → Gives b d whole k
fold-last {b} {c} {d} {x} {k} {op} {whole} a p =
    let s = a.grows.base.sane in
    let z = s.literal 0 (omega arith) in
    record {
      grows = grows-then a.grows (pushed-grows p (a.within, z, z) s);
      within = pushed-within p (λ t. t);
      value = λ inputs. pushed-value p inputs ∙ (λ i. op_value op (at c inputs x) (s.undef inputs i) (s.undef inputs i)) ∙ a.value inputs;
    }

-- continuations of a term's node
pub chain-step : {b c d : Builder} {env : List ℕ} {x k : ℕ} (t : Environment → Value) (f : Environment → Value → Value)
    → (Sane b → Known b env → TermStep b c env t x)
    → (Sane c → Known c env → IsUsable c x → Gives c d (λ inputs. f (environment (denoted c inputs env)) (at c inputs x)) k) → Sane b → Known b env
    → TermStep b d env (λ e. f e (t e)) k
chain-step {b} {c} {d} {env} {x} {k} t f first next s kn =
    let a = first s kn in
    let l = a.grows.base in
    let n = next l.sane (known-on l kn) a.within in
    record {
      grows = grows-then a.grows n.grows;
      within = n.within;
      value = λ inputs. n.value inputs ∙ (λ i. f (environment (denoted-on inputs l kn i)) (a.value inputs i));
    }

-- the arguments of an operator, and a constant
pub argument-at : {L : Type 0} (leaf : L → Tree) (values : Environment) (all : List (TreeOf L)) (place : ℕ) (x : TreeOf L) → place < length all
    → x ≡ get_or all place x → term_value values (written leaf x) ≡ get_or (argument_values values (all_written leaf (trees_of all))) place Undef
argument-at leaf values [] place x h e = absurd (omega arith)
argument-at leaf values (a ∷ all) zero x h e = ap (λ y. term_value values (written leaf y)) e
argument-at leaf values (a ∷ all) (suc place) x h e = argument-at leaf values all place x (omega arith) e

pub argument-past : {L : Type 0} (leaf : L → Tree) (values : Environment) (all : List (TreeOf L)) (place : ℕ) → length all ≤ place
    → Undef ≡ get_or (argument_values values (all_written leaf (trees_of all))) place Undef
argument-past leaf values [] place h = refl
argument-past leaf values (a ∷ all) zero h = absurd (omega arith)
argument-past leaf values (a ∷ all) (suc place) h = argument-past leaf values all place (omega arith)

pub literal-is : {L : Type 0} (t : TreeOf L) (v : Value) → literal_in t ≡ Some v → t ≡ lit v
literal-is (lit w) v e = let same : w ≡ v = cc in ap lit same
literal-is (cell l) v e = absurd (cc)
literal-is (pick f s i) v e = absurd (cc)
literal-is (apply o all) v e = absurd (cc)
literal-is (chain a ss) v e = absurd (cc)
