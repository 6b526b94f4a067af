-- A driver has no more functions than bytes.
use Rattle.std.proofs.Common.{◌≡◌, ℕ, ◌+◌, ◌<◌, ◌≤◌, ◌^◌, ◌==◌, ◌&&◌, suc, Bool, true, false, cond, List, [], ◌∷◌, length, arith}
use Rattle.m_places.specs.declared.limits.TheConstants.{DRIVER_LEVEL, FILE_BYTES}
use Rattle.m_text.specs.Bytes.{line_feed, carriage_return}
use Rattle.m_text.specs.Lines.{lines_of, lines_from, onto_first, begins_with_feed}
use Rattle.mpp_lexer.specs.declared.piece.Line.{Line}
use Rattle.mpp_lexer.specs.Lines.{Lexes, end, without, with as having}
use Rattle.mpp_parser.specs.declared.command.Function.{Function}
use Rattle.mpp_parser.specs.declared.command.Driver.{Driver}
use Rattle.mpp_parser.specs.Drivers.{Many, no_more, one_more, SpellsFunction, function}
use Rattle.mpp_parser.specs.Faults.{IsDriver}
use Rattle.mpp_parser.proofs.DriverLaws.{blocks}

functions_few : {fs : List Function} {ls r : List Line} → Many SpellsFunction fs ls r → length fs + length r ≤ length ls
functions_few no_more = omega arith
functions_few (one_more (function h d) more) = omega (arith, (blocks DRIVER_LEVEL).shrinks 0 _ _ _ d, functions_few more)

lines_few : {n : ℕ} {texts : List (List ℕ)} {lines : List Line} → Lexes n texts lines → length lines ≤ length texts
lines_few end = omega arith
lines_few (without t more) = omega (arith, lines_few more)
lines_few (having t more) = omega (arith, lines_few more)

either : (b : Bool) (n : ℕ) (xs ys : List (List ℕ)) → length xs ≤ n → length ys ≤ n → length (cond b xs ys) ≤ n
either true n xs ys h k = h
either false n xs ys h k = k

onto_few : (byte : ℕ) (lines : List (List ℕ)) → length (onto_first byte lines) ≤ length lines + 1
onto_few byte [] = omega arith
onto_few byte (line ∷ lines) = omega arith

texts_few : (bytes : List ℕ) → length (lines_of bytes) ≤ length bytes
texts_few [] = omega arith
texts_few (byte ∷ bytes) =
    let more = texts_few bytes in
    either (byte == line_feed) (suc (length bytes)) _ _ (omega (arith, more))
    (either (byte == carriage_return && begins_with_feed bytes) (suc (length bytes)) _ _ (omega (arith, more))
    (omega (arith, more, onto_few byte (lines_of bytes))))

-- the number of a driver's functions
pub functions_counted : (bytes : List ℕ) (driver : Driver) → IsDriver bytes driver → length bytes ≤ FILE_BYTES → length driver.functions < 2 ^ 32
functions_counted bytes driver d within = omega (arith, functions_few d.spelled, lines_few d.lexed, texts_few bytes, within)
