-- Rule texts with one more appended.
use Rattle.std.proofs.Common.{◌≡◌, ◌≤◌, ◌+◌, List, [], ◌∷◌, ◌++◌, length, length-append, ap, ◌∙◌, subst, sym, arith}
use Rattle.m_places.specs.declared.limits.TheConstants.{FILE_BYTES}
use Rattle.m_places.specs.SourceLimits.{EachIsWithin, all_bytes}
use Rattle.m_places.specs.declared.source.Text.{Text}

within_one : (texts : List Text) (text : Text) → EachIsWithin texts → length text.bytes ≤ FILE_BYTES → EachIsWithin (texts ++ text ∷ [])
within_one [] text w l = (l, tt)
within_one (one ∷ texts) text w l = (w.0, within_one texts text w.1 l)

pub within_push : (texts new : List Text) (text : Text) → new ≡ texts ++ text ∷ [] → EachIsWithin texts → length text.bytes ≤ FILE_BYTES → EachIsWithin new
within_push texts new text e w l = subst EachIsWithin (sym e) (within_one texts text w l)

bytes_one : (texts : List Text) (text : Text) → all_bytes (texts ++ text ∷ []) ≡ all_bytes texts + length text.bytes
bytes_one [] text = omega arith
bytes_one (one ∷ texts) text = omega (arith, bytes_one texts text)

pub bytes_push : (texts new : List Text) (text : Text) → new ≡ texts ++ text ∷ [] → all_bytes new ≡ all_bytes texts + length text.bytes
bytes_push texts new text e = ap all_bytes e ∙ bytes_one texts text

pub count_push : (texts new : List Text) (text : Text) → new ≡ texts ++ text ∷ [] → length new ≡ length texts + 1
count_push texts new text e = ap length e ∙ length-append texts (text ∷ [])
