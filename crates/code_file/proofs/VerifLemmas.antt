-- Verifications and their words; bytes and their hexadecimal digits.
use Rattle.std.proofs.Common.{◌≡◌, ◌≢◌, ◌<◌, ◌≤◌, ◌+◌, ◌-◌, ◌*◌, ◌/◌, ◌%◌, ◌&&◌, ℕ, Bool, false, true, not, cond, nat_le, List, [], ◌∷◌, ◌++◌, length, drop}
use Rattle.std.proofs.Common.{get_or, Option, Some, None, codes, refl, sym, ap, ◌∙◌, subst, arith, leb, ltb, append_assoc, append-nil}
use Rattle.std.specs.Str.{bytes_eq}
use Rattle.std.proofs.lemmas.List.{drop_more, drop_all}
use Rattle.observables.specs.declared.face.FaceLabel.TheVariants.{Verif, DriverLine}
use Rattle.std.specs.List.{AllByRecursion}
use Rattle.std.specs.Option.{option_and_then, option_map}
use Rattle.std.proofs.lemmas.Bool.{and_parts, and_from, leb-true, le-leb, lt-leb, ltb-true, ltb-false, lt-ltb, le-ltb, not-false}
use Rattle.m_text.specs.Words.{AreDigits}
use Rattle.m_places.specs.declared.verification.Label.{Label}
use Rattle.reg_machine.proofs.TableLemmas.{none≢some, some-is}
use Rattle.code_file.specs.Text.{hex_of, hex_digit}
use Rattle.code_file.specs.Printable.{IsPlainName}
use Rattle.code_file.specs.inner.Faces.{IsRead, IsRightVerif, IsRightLabel, label_words, label_kind, label_of, hex_value, hex_byte, bytes_of, VerifWords}
use Rattle.code_file.specs.inner.Faces.{verif_words, verif_with, verif_of, label_with}
use Rattle.code_file.specs.inner.Spelled.{short}
use Rattle.code_file.proofs.OptionLemmas.{then-some, map-some}

-- ---- digits

-- a digit and its value
pub record Digit (c v : ℕ) : Type 0 where
  pub small : v < 16
  pub same : hex_digit v ≡ c

digit-by : (c v : ℕ) (s t : Bool) → (nat_le 48 c && nat_le c 57) ≡ s → (nat_le 97 c && nat_le c 102) ≡ t
    → cond s (Some (c - 48)) (cond t (Some (c - 87)) None) ≡ Some v → Digit c v
digit-by c v true t e f h =
    let k = and_parts (leb 48 c) (leb c 57) e in
    let a = leb-true 48 c k.0 in
    let b = leb-true c 57 k.1 in
    let is = some-is (c - 48) v h in
    record { small = omega arith; same = ap (λ x. cond x (48 + v) (87 + v)) (lt-ltb v 10 (omega arith)) ∙ omega arith }
digit-by c v false true e f h =
    let k = and_parts (leb 97 c) (leb c 102) f in
    let a = leb-true 97 c k.0 in
    let b = leb-true c 102 k.1 in
    let is = some-is (c - 87) v h in
    record { small = omega arith; same = ap (λ x. cond x (48 + v) (87 + v)) (le-ltb v 10 (omega arith)) ∙ omega arith }
digit-by c v false false e f h = absurd (none≢some v h)

digit-sound : (c v : ℕ) → hex_value c ≡ Some v → Digit c v
digit-sound c v h = digit-by c v (nat_le 48 c && nat_le c 57) (nat_le 97 c && nat_le c 102) refl refl h

low-value : (v : ℕ) → v < 10 → hex_value (48 + v) ≡ Some v
low-value v small =
    ap (λ t. cond t (Some (48 + v - 48)) (cond (nat_le 97 (48 + v) && nat_le (48 + v) 102) (Some (48 + v - 87)) None))
    (and_from (leb 48 (48 + v)) (leb (48 + v) 57) (le-leb 48 (48 + v) (omega arith)) (le-leb (48 + v) 57 (omega arith)))
    ∙ ap Some (omega arith)

high-value : (v : ℕ) → 10 ≤ v → v < 16 → hex_value (87 + v) ≡ Some v
high-value v low small =
    ap (λ t. cond t (Some (87 + v - 48)) (cond (nat_le 97 (87 + v) && nat_le (87 + v) 102) (Some (87 + v - 87)) None))
    (and-right-false (leb 48 (87 + v)) (leb (87 + v) 57) (lt-leb (87 + v) 57 (omega arith)))
    ∙ ap (λ t. cond t (Some (87 + v - 87)) None) (and_from (leb 97 (87 + v)) (leb (87 + v) 102) (le-leb 97 (87 + v) (omega arith))
    (le-leb (87 + v) 102 (omega arith)))
    ∙ ap Some (omega arith)
  where
    and-right-false : (a b : Bool) → b ≡ false → (a && b) ≡ false
    and-right-false true b e = e
    and-right-false false b e = refl

digit-value-by : (v : ℕ) (t : Bool) → ltb v 10 ≡ t → v < 16 → hex_value (cond t (48 + v) (87 + v)) ≡ Some v
digit-value-by v true e small = low-value v (ltb-true v 10 e)
digit-value-by v false e small = high-value v (ltb-false v 10 e) small

digit-value : (v : ℕ) → v < 16 → hex_value (hex_digit v) ≡ Some v
digit-value v small = digit-value-by v (ltb v 10) refl small

-- ---- bytes

-- a byte and its two digits
pub record Two (a b byte : ℕ) : Type 0 where
  pub small : byte < 256
  pub high : hex_digit (byte / 16) ≡ a
  pub low : hex_digit (byte % 16) ≡ b

byte-sound : (a b byte : ℕ) → hex_byte a b ≡ Some byte → Two a b byte
byte-sound a b byte h =
    let k = then-some (λ x. option_map (λ y. x * 16 + y) (hex_value b)) (hex_value a) byte h in
    let l = map-some (λ y. k.0 * 16 + y) (hex_value b) byte k.2 in
    let x = digit-sound a k.0 k.1 in
    let y = digit-sound b l.0 l.1 in
    let xs = x.small in
    let ys = y.small in
    let is = l.2 in
    let hi : byte / 16 ≡ k.0 = omega arith in
    let lo : byte % 16 ≡ l.0 = omega arith in
    record { small = omega arith; high = ap hex_digit hi ∙ x.same; low = ap hex_digit lo ∙ y.same }

byte-value : (byte : ℕ) → byte < 256 → hex_byte (hex_digit (byte / 16)) (hex_digit (byte % 16)) ≡ Some byte
byte-value byte small =
    let hi : byte / 16 < 16 = omega arith in
    let lo : byte % 16 < 16 = omega arith in
    ap (option_and_then (λ x. option_map (λ y. x * 16 + y) (hex_value (hex_digit (byte % 16))))) (digit-value (byte / 16) hi)
    ∙ ap (option_map (λ y. byte / 16 * 16 + y)) (digit-value (byte % 16) lo) ∙ ap Some (omega arith)

-- bytes parsed from digits are printed as those digits
pub bytes-sound : (hex bytes : List ℕ) → bytes_of hex ≡ Some bytes → (hex_of bytes ≡ hex) × AllByRecursion (λ b. b < 256) bytes
bytes-sound [] bytes h = subst (λ l. (hex_of l ≡ []) × AllByRecursion (λ b. b < 256) l) (some-is [] bytes h) (refl, tt)
bytes-sound (a ∷ []) bytes h = absurd (none≢some bytes h)
bytes-sound (a ∷ b ∷ hex) bytes h =
    let k = then-some (λ byte. option_map (λ bytes. byte ∷ bytes) (bytes_of hex)) (hex_byte a b) bytes h in
    let l = map-some (λ bytes. k.0 ∷ bytes) (bytes_of hex) bytes k.2 in
    let t = byte-sound a b k.0 k.1 in
    let r = bytes-sound hex l.0 l.1 in
    subst (λ l. (hex_of l ≡ a ∷ b ∷ hex) × AllByRecursion (λ b. b < 256) l) l.2 ((λ j. t.high j ∷ t.low j ∷ r.0 j), (t.small, r.1))

pub bytes-complete : (bytes : List ℕ) → AllByRecursion (λ b. b < 256) bytes → bytes_of (hex_of bytes) ≡ Some bytes
bytes-complete [] h = refl
bytes-complete (b ∷ bytes) h =
    ap (option_and_then (λ byte. option_map (λ l. byte ∷ l) (bytes_of (hex_of bytes)))) (byte-value b h.0)
    ∙ ap (option_map (λ l. b ∷ l)) (bytes-complete bytes h.1)

-- ---- a loop over digits

-- bytes parsed so far, and the digits that are left, are the whole
abbrev pub BytesFrom : List ℕ → List ℕ → ℕ → Type 0
BytesFrom hex so_far at = bytes_of hex ≡ option_map (λ more. so_far ++ more) (bytes_of (drop at hex))

bytes-onto : (so_far : List ℕ) (byte : ℕ) (o : Option (List ℕ)) → option_map (λ more. so_far ++ more) (option_map (λ bytes. byte ∷ bytes) o) ≡ option_map
    (λ more. (so_far ++ byte ∷ []) ++ more) o
bytes-onto so_far byte None = refl
bytes-onto so_far byte (Some l) = ap Some (sym (append_assoc so_far (byte ∷ []) l))

two-more : (hex : List ℕ) (at : ℕ) → at + 1 < length hex → drop at hex ≡ get_or hex at 0 ∷ get_or hex (at + 1) 0 ∷ drop (at + 2) hex
two-more hex at lt =
    let two : at + 1 + 1 ≡ at + 2 = omega arith in
    drop_more hex at 0 (omega arith) ∙ ap (λ l. get_or hex at 0 ∷ l) (drop_more hex (at + 1) 0 lt)
    ∙ ap (λ k. get_or hex at 0 ∷ get_or hex (at + 1) 0 ∷ drop k hex) two

pub bytes-next : (hex so_far : List ℕ) (at byte : ℕ) → at + 1 < length hex → BytesFrom hex so_far at
    → hex_byte (get_or hex at 0) (get_or hex (at + 1) 0) ≡ Some byte → BytesFrom hex (so_far ++ byte ∷ []) (at + 2)
bytes-next hex so_far at byte lt h e =
    h ∙ ap (λ l. option_map (λ more. so_far ++ more) (bytes_of l)) (two-more hex at lt)
    ∙ ap (λ o. option_map (λ more. so_far ++ more) (option_and_then (λ byte. option_map (λ bytes. byte ∷ bytes) (bytes_of (drop (at + 2) hex))) o)) e
    ∙ bytes-onto so_far byte (bytes_of (drop (at + 2) hex))

pub bytes-other : (hex so_far : List ℕ) (at : ℕ) → at + 1 < length hex → BytesFrom hex so_far at → hex_byte (get_or hex at 0) (get_or hex (at + 1) 0) ≡ None
    → bytes_of hex ≡ None
bytes-other hex so_far at lt h e =
    h ∙ ap (λ l. option_map (λ more. so_far ++ more) (bytes_of l)) (two-more hex at lt)
    ∙ ap (λ o. option_map (λ more. so_far ++ more) (option_and_then (λ byte. option_map (λ bytes. byte ∷ bytes) (bytes_of (drop (at + 2) hex))) o)) e

pub bytes-whole : (hex so_far : List ℕ) (at : ℕ) → at ≡ length hex → BytesFrom hex so_far at → bytes_of hex ≡ Some so_far
bytes-whole hex so_far at e h = h ∙ ap (λ l. option_map (λ more. so_far ++ more) (bytes_of l)) (drop_all at hex (omega (arith, e)))
    ∙ ap Some (append-nil so_far)

pub bytes-odd : (hex so_far : List ℕ) (at : ℕ) → at ≤ length hex → length hex ≤ at + 1 → (at ≡ length hex → ⊥) → BytesFrom hex so_far at → bytes_of hex ≡ None
bytes-odd hex so_far at within most other h =
    let lt : at < length hex = omega (arith, within, other) in
    h ∙ ap (λ l. option_map (λ more. so_far ++ more) (bytes_of l)) (drop_more hex at 0 lt
    ∙ ap (λ l. get_or hex at 0 ∷ l) (drop_all (at + 1) hex (omega (arith, most))))

-- ---- labels of verifications

pub verif-parts : (text : List ℕ) (w : VerifWords) (x : Label) → verif_words text ≡ Some w → verif_of text ≡ Some x → (bs : List ℕ) × (bytes_of w.hex ≡ Some bs)
    × (label_with w bs ≡ x)
verif-parts text w x e h = map-some (label_with w) (bytes_of w.hex) x (sym (ap (option_and_then verif_with) e) ∙ h)

pub verif-number : (text : List ℕ) (w : VerifWords) (x : Label) → verif_words text ≡ Some w → verif_of text ≡ Some x → IsRightVerif x
    → AreDigits w.number × (length w.number ≤ 9)
verif-number text w x e h r =
    let k = verif-parts text w x e h in
    let r' = subst IsRightVerif (sym k.2) r in
    (r'.0.0, r'.0.1)

pub verif-error : (text : List ℕ) (w : VerifWords) (x : Label) → verif_words text ≡ Some w → verif_of text ≡ Some x → IsRightVerif x → IsPlainName w.error
verif-error text w x e h r =
    let k = verif-parts text w x e h in
    let r' = subst IsRightVerif (sym k.2) r in
    r'.0.2

pub verif-bytes : (text : List ℕ) (w : VerifWords) (x : Label) → verif_words text ≡ Some w → verif_of text ≡ Some x → IsRightVerif x
    → (bs : List ℕ) × (bytes_of w.hex ≡ Some bs) × (bs ≢ [])
verif-bytes text w x e h r =
    let k = verif-parts text w x e h in
    let r' = subst IsRightVerif (sym k.2) r in
    (k.0, k.1, r'.0.3)

pub verif-made : (text bs : List ℕ) (w : VerifWords) (x : Label) → verif_words text ≡ Some w → bytes_of w.hex ≡ Some bs → x ≡ label_with w bs
    → AreDigits w.number × (length w.number ≤ 9) → IsPlainName w.error → bs ≢ [] → (verif_of text ≡ Some x) × IsRightVerif x
verif-made text bs w x e f is number error some =
    subst (λ l. (verif_of text ≡ Some l) × IsRightVerif l) (sym is)
    (ap (option_and_then verif_with) e ∙ ap (option_map (label_with w)) f, ((number.0, number.1, error, some), (bytes-sound w.hex bs f).1))

-- a label after `verif` that isn't a verification's is no label
pub verif-none : (line kind text : List ℕ) → label_words line ≡ Some (kind, text) → bytes_eq kind (codes "driver") ≡ false
    → not (bytes_eq kind (codes "verif")) ≡ false → IsRead verif_of IsRightVerif text None → IsRead label_of IsRightLabel line None
verif-none line kind text e d v other x h r =
    let is : bytes_eq kind (codes "verif") ≡ true = not-false (bytes_eq kind (codes "verif")) v in
    let same : label_of line ≡ option_map Verif (verif_of text) =
    ap (option_and_then label_kind) e
    ∙ ap (λ t. cond t (option_map DriverLine (short text)) (cond (bytes_eq kind (codes "verif")) (option_map Verif (verif_of text)) None)) d
    ∙ ap (λ t. cond t (option_map Verif (verif_of text)) None) is in
    let k = map-some Verif (verif_of text) x (sym same ∙ h) in
    other k.0 k.1 (subst IsRightLabel (sym k.2) r)
