-- The words of a line, from its start.
use Rattle.std.proofs.Common.{◌≡◌, ◌≢◌, ℕ, ◌+◌, ◌-◌, ◌<◌, ◌≤◌, zero, suc, true, false, not, eqb, List, [], ◌∷◌, length, take, drop, get_or, refl, sym, ap, ◌∙◌}
use Rattle.std.proofs.Common.{inl, inr, arith}
use Rattle.std.proofs.lemmas.Bool.{ne_eqb, cases_eq}
use Rattle.std.proofs.lemmas.List.{drop_more, take_rest}
use Rattle.m_text.specs.Bytes.{RunsTo, space}
use Rattle.m_text.specs.Lines.{onto_first}
use Rattle.household_session.specs.Commands.{starts_word, line_words}

-- a leading space isn't part of a word
at_space : (byte : ℕ) (bytes : List ℕ) → byte ≡ 32 → line_words (byte ∷ bytes) ≡ line_words bytes
at_space byte bytes e = rw e refl

pub space_more : (bytes : List ℕ) (i : ℕ) → i < length bytes → get_or bytes i 0 ≡ 32 → line_words (drop i bytes) ≡ line_words (drop (i + 1) bytes)
space_more bytes i h e = ap line_words (drop_more bytes i 0 h) ∙ at_space (get_or bytes i 0) (drop (i + 1) bytes) e

-- another byte begins a word
pub starts_here : (bytes : List ℕ) (i : ℕ) → i < length bytes → get_or bytes i 0 ≢ 32 → starts_word (drop i bytes) ≡ true
starts_here bytes i h other = ap starts_word (drop_more bytes i 0 h) ∙ ap not (ne_eqb (get_or bytes i 0) 32 other)

-- a byte within a word, and the last byte of one
before_more : (byte : ℕ) (bytes : List ℕ) → byte ≢ 32 → starts_word bytes ≡ true → line_words (byte ∷ bytes) ≡ onto_first byte (line_words bytes)
before_more byte bytes other more = rw (ne_eqb byte 32 other, more) refl

at_last : (byte : ℕ) (bytes : List ℕ) → byte ≢ 32 → starts_word bytes ≡ false → line_words (byte ∷ bytes) ≡ (byte ∷ []) ∷ line_words bytes
at_last byte bytes other more = rw (ne_eqb byte 32 other, more) refl

none_starts : (bytes : List ℕ) → (0 < length bytes → get_or bytes 0 0 ≡ 32) → starts_word bytes ≡ false
none_starts [] ends = refl
none_starts (byte ∷ bytes) ends = rw (ends (omega arith)) refl

-- a line that begins with a word has it up to the next space
pub word_cut : (bytes : List ℕ) (n : ℕ) → 0 < n → n ≤ length bytes → ((k : ℕ) → k < n → get_or bytes k 0 ≢ 32)
    → (n < length bytes → get_or bytes n 0 ≡ 32) → line_words bytes ≡ take n bytes ∷ line_words (drop n bytes)
word_cut [] n some within each ends = absurd (omega arith)
word_cut (byte ∷ bytes) zero some within each ends = absurd (omega arith)
word_cut (byte ∷ bytes) (suc zero) some within each ends =
    at_last byte bytes (each 0 (omega arith)) (none_starts bytes (λ h. ends (omega arith)))
word_cut (byte ∷ bytes) (suc (suc n)) some within each ends =
    let behind = word_cut bytes (suc n) (omega arith) (omega arith) (λ k h. each (suc k) (omega arith)) (λ h. ends (omega arith)) in
    before_more byte bytes (each 0 (omega arith)) (starts_here bytes 0 (omega arith) (each 1 (omega arith))) ∙ ap (onto_first byte) behind

-- bytes that begin with a word aren't empty, and the word isn't either
word_end_positive : (bytes : List ℕ) (n : ℕ) → starts_word bytes ≡ true → RunsTo (λ b. b ≢ space) bytes 0 n → 0 < n
word_end_positive [] n starts runs = absurd (cc starts)
word_end_positive (byte ∷ bytes) (suc n) starts runs = omega arith
word_end_positive (byte ∷ bytes) zero starts runs =
    absurd (runs.stops (omega arith) (λ same. absurd (cc (sym starts ∙ ap (λ b. not (eqb b 32)) same))))

-- the first word of a line, as the code splits it
pub first_word : (line bytes : List ℕ) (n : ℕ) → line_words bytes ≡ line_words line → starts_word bytes ≡ true → RunsTo (λ b. b ≢ space) bytes 0 n
    → line_words line ≡ take n bytes ∷ line_words (take (length bytes - n) (drop n bytes))
first_word line bytes n same starts runs =
    let some = word_end_positive bytes n starts runs in
    let ends : n < length bytes → get_or bytes n 0 ≡ 32 = λ h. elim (cases_eq (get_or bytes n 0) 32) [ inl e ↦ e | inr other ↦ absurd (runs.stops h other) ] in
    sym same ∙ word_cut bytes n some runs.within (λ k h. runs.each k (omega arith) h) ends
    ∙ ap (λ rest. take n bytes ∷ line_words rest) (sym (take_rest bytes n))
