-- Successive writes are one write of all their bytes, also if the last one failed.
use Rattle.std.proofs.Common.{◌≡◌, ℕ, ◌+◌, ◌-◌, length, arith, length-drop, List, ◌++◌, Option, None, Some, take, drop, refl, sym, ◌∙◌, ap, append_assoc}
use Rattle.std.specs.Io.KnownBytes.{append_known}
use Rattle.std.proofs.lemmas.List.{take-append-drop, take_all}
use Rattle.std.proofs.Math.Seq.{take-add}
use Rattle.m_ports.specs.Sink.{AppendsPrefix}

-- one write after another
pub append_known-append : (old : Option (List ℕ)) (a b : List ℕ) → append_known (append_known old a) b ≡ append_known old (a ++ b)
append_known-append None a b = refl
append_known-append (Some bytes) a b = ap Some (append_assoc bytes a b)

-- the first i bytes, and then n more of the rest
pub append_known-take : (old mid new : Option (List ℕ)) (bytes : List ℕ) (i n : ℕ)
    → mid ≡ append_known old (take i bytes) → new ≡ append_known mid (take n (drop i bytes))
    → new ≡ append_known old (take (i + n) bytes)
append_known-take old mid new bytes i n first second =
    second ∙ ap (λ known. append_known known (take n (drop i bytes))) first
    ∙ append_known-append old (take i bytes) (take n (drop i bytes))
    ∙ ap (append_known old) (sym (take-add i n bytes))

-- the rest of a slice from i on, as a range
pub rest_from : (bytes : List ℕ) (i : ℕ) → take (length bytes - i) (drop i bytes) ≡ drop i bytes
rest_from bytes i = take_all (length bytes - i) (drop i bytes) (omega (arith, length-drop i bytes))

-- what was written of the bytes is a prefix of them
pub AppendsPrefix-take : (old new : Option (List ℕ)) (bytes : List ℕ) (i : ℕ) → new ≡ append_known old (take i bytes) → AppendsPrefix old new bytes
AppendsPrefix-take old new bytes i appended = record {
  part = take i bytes;
  rest = drop i bytes;
  whole = sym (take-append-drop i bytes);
  appended = appended;
}

-- a text, and then a prefix of another
pub AppendsPrefix-after : (old mid new : Option (List ℕ)) (first second : List ℕ)
    → mid ≡ append_known old first → AppendsPrefix mid new second → AppendsPrefix old new (first ++ second)
AppendsPrefix-after old mid new first second before prefix = record {
  part = first ++ prefix.part;
  rest = prefix.rest;
  whole = ap (λ text. first ++ text) prefix.whole ∙ sym (append_assoc first prefix.part prefix.rest);
  appended = prefix.appended ∙ ap (λ known. append_known known prefix.part) before
      ∙ append_known-append old first prefix.part;
}

-- a prefix of a text is a prefix of a longer text
pub AppendsPrefix-before : (old new : Option (List ℕ)) (first second : List ℕ) → AppendsPrefix old new first → AppendsPrefix old new (first ++ second)
AppendsPrefix-before old new first second prefix = record {
  part = prefix.part;
  rest = prefix.rest ++ second;
  whole = ap (λ text. text ++ second) prefix.whole ∙ append_assoc prefix.part prefix.rest second;
  appended = prefix.appended;
}
