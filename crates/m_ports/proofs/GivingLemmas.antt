-- A text given by successive calls: the fact between two calls, and the fact after the last.
-- `Gives` composes.
use Rattle.std.proofs.Common.{◌≡◌, ◌≤◌, ℕ, ◌+◌, ◌<◌, length, get_or, drop, Bor, List, [], ◌++◌, Option, None, Some, Result, Ok, Err, refl, sym, ◌∙◌, ap, subst}
use Rattle.std.proofs.Common.{append_assoc, append-nil, arith}
use Rattle.std.specs.Io.KnownBytes.{append_known}
use Rattle.std.proofs.lemmas.List.{drop_more}
use Rattle.m_ports.specs.Counts.{Rose}
use Rattle.m_ports.specs.Sink.{AppendsPrefix}
use Rattle.m_ports.proofs.SinkLemmas.{append_known-append}
use Rattle.m_ports.specs.Giving.{Gives}
use Rattle.m_text.specs.Pieces.{text_of}

-- all of the text except `rest` was appended, and no fault was counted
pub record Given {S : Type 0} (written : S → Option (List ℕ)) (faults : S → ℕ) (old now : S) (text rest : List ℕ) : Type 0 where
  pub front : List ℕ
  pub whole : text ≡ front ++ rest
  pub appended : written now ≡ append_known (written old) front
  pub faultless : faults now ≡ faults old

nothing_more : (known : Option (List ℕ)) → known ≡ append_known known []
nothing_more None = refl
nothing_more (Some bytes) = ap Some (sym (append-nil bytes))

-- before the first call
pub none_given : {S : Type 0} (written : S → Option (List ℕ)) (faults : S → ℕ) (old : S) (text : List ℕ) → Given written faults old old text text
none_given written faults old text = record { front = []; whole = refl; appended = nothing_more (written old); faultless = refl }

-- a call gave the next piece
pub piece_given : {S : Type 0} (written : S → Option (List ℕ)) (faults : S → ℕ) (old now new : S) (text piece rest left : List ℕ)
    → left ≡ piece ++ rest → Given written faults old now text left
    → written new ≡ append_known (written now) piece → faults new ≡ faults now → Given written faults old new text rest
piece_given written faults old now new text piece rest left is given more none = record {
  front = given.front ++ piece;
  whole = given.whole ∙ ap (λ bytes. given.front ++ bytes) is ∙ sym (append_assoc given.front piece rest);
  appended = more ∙ ap (λ known. append_known known piece) given.appended ∙ append_known-append (written old) given.front piece;
  faultless = none ∙ given.faultless;
}

-- a prefix of the next piece, after the pieces given, is a prefix of the text
prefix_given : (old now new : Option (List ℕ)) (text front piece rest left : List ℕ) → left ≡ piece ++ rest
    → text ≡ front ++ left → now ≡ append_known old front → AppendsPrefix now new piece → AppendsPrefix old new text
prefix_given old now new text front piece rest left is whole appended prefix = record {
  part = front ++ prefix.part;
  rest = prefix.rest ++ rest;
  whole = whole ∙ ap (λ bytes. front ++ bytes) (is ∙ ap (λ bytes. bytes ++ rest) prefix.whole ∙ append_assoc prefix.part prefix.rest rest)
      ∙ sym (append_assoc front prefix.part (prefix.rest ++ rest));
  appended = prefix.appended ∙ ap (λ known. append_known known prefix.part) appended
      ∙ append_known-append old front prefix.part;
}

-- the call for the next piece failed, and with it the whole
pub piece_failed : {S T E : Type 0} (written : S → Option (List ℕ)) (faults : S → ℕ) (old now new : S) (text piece rest left : List ℕ)
    (result : Result T E) (fault : E) → result ≡ Err fault → left ≡ piece ++ rest → Given written faults old now text left
    → Rose (faults now) (faults new) → AppendsPrefix (written now) (written new) piece → faults now ≤ faults new
    → Gives written faults old new result text
piece_failed written faults old now new text piece rest left result fault failed is given rose prefix counted = rw failed (record {
  all = tt;
  failed = subst (λ count. Rose count (faults new)) given.faultless rose;
  prefix = prefix_given (written old) (written now) (written new) text given.front piece rest left is given.whole given.appended prefix;
  faultless = tt;
  counted = subst (λ count. count ≤ faults new) given.faultless counted;
})

-- after the last piece the whole text is given
pub all_given : {S T E : Type 0} (written : S → Option (List ℕ)) (faults : S → ℕ) (old now : S) (text : List ℕ)
    (result : Result T E) (value : T) → result ≡ Ok value → Given written faults old now text [] → Gives written faults old now result text
all_given written faults old now text result value ok given = rw ok (record {
  all = given.appended ∙ ap (append_known (written old)) (sym (append-nil given.front) ∙ sym given.whole);
  failed = tt;
  prefix = tt;
  faultless = given.faultless;
  counted = omega (arith, given.faultless);
})

-- the last call's result is the result for the whole text
pub last_given : {S T E : Type 0} (written : S → Option (List ℕ)) (faults : S → ℕ) (old now new : S) (text left : List ℕ)
    (result : Result T E) → Given written faults old now text left → Gives written faults now new result left → Gives written faults old new result text
last_given written faults old now new text left (Ok value) given last =
    all_given written faults old new text (Ok value) value refl
    (piece_given written faults old now new text left [] left (sym (append-nil left)) given last.all last.faultless)
last_given written faults old now new text left (Err fault) given last =
    piece_failed written faults old now new text left [] left (Err fault) fault refl (sym (append-nil left)) given last.failed last.prefix last.counted

-- the pieces from an index on begin with the piece at that index
pub piece_at : (pieces : List (Bor (List ℕ))) (i : ℕ) (d : Bor (List ℕ)) → i < length pieces
    → text_of (drop i pieces) ≡ (get_or pieces i d).now ++ text_of (drop (i + 1) pieces)
piece_at pieces i d h = ap text_of (drop_more pieces i d h)
