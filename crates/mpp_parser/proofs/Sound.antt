-- A sign that is parsed is spelled so.
use Rattle.std.proofs.Common.{◌≡◌, Bool, true, false, cond, List, [], ◌∷◌, Some, None, refl, ap}
use denote.Enum.Bare.{sameb, same_true}
use Rattle.mpp_lexer.specs.contracts.piece.DriverSign.{the_type}
use Rattle.mpp_lexer.specs.declared.piece.DriverPiece.{DriverPiece}
use Rattle.mpp_lexer.specs.declared.piece.DriverPiece.TheVariants.{Word, Number, Sign}
use Rattle.mpp_lexer.specs.declared.piece.DriverSign.{DriverSign}
use Rattle.m_lexer.specs.inner.Chains.{choose}
use Rattle.m_lexer.proofs.ChainSound.{Each, absent, here}
use Rattle.mpp_parser.specs.inner.Reading.{sign_at}

pub sign_each : (s : DriverSign) (ts : List DriverPiece) → Each (λ (o : Unit {0} × List DriverPiece). ts ≡ Sign s ∷ o.1) (sign_at s ts)
sign_each s [] = absent
sign_each s (Word w ∷ ts) = absent
sign_each s (Number z u ∷ ts) = absent
sign_each s (Sign t ∷ ts) = go (sameb the_type t s) refl
  where
    go : (b : Bool) → sameb the_type t s ≡ b
        → Each (λ (o : Unit {0} × List DriverPiece). Sign t ∷ ts ≡ Sign s ∷ o.1) (choose (cond b (Some tt) None) None (λ b. Some (b, ts)))
    go true e = here (ap (λ x. Sign x ∷ ts) (same_true the_type tt t s e))
    go false e = absent
