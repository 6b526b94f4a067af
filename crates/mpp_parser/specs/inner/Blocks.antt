-- Parsing lines as a function: as many commands as the lines at the start spell, and the lines
-- after them.
use Rattle.std.specs.Prelude.{◌≡◌, ℕ, zero, suc, ◌==◌, ◌&&◌, nat_lt, Bool, false, cond, List, [], ◌∷◌, ◌++◌, length, Option, Some, None, Result, Ok, Err}
use Rattle.std.specs.Prelude.{is_some}
use Rattle.std.specs.declared.alloc.AllocError.{AllocError}
use Rattle.m_places.specs.declared.limits.TheConstants.{DRIVER_LEVEL}
use Rattle.mpp_lexer.specs.declared.piece.Line.{Line}
use Rattle.mpp_lexer.specs.declared.piece.DriverPiece.{DriverPiece}
use Rattle.mpp_lexer.specs.declared.piece.DriverPiece.TheVariants.{Word, Sign}
use Rattle.mpp_lexer.specs.declared.piece.DriverSign.TheVariants.{Colon}
use Rattle.mpp_parser.specs.declared.keyword.Keyword.TheVariants as keys
use Rattle.mpp_parser.specs.declared.command.Function.{Function}
use Rattle.mpp_parser.specs.declared.sentence.Sentence.{Sentence}
use Rattle.mpp_parser.specs.declared.sentence.Sentence.TheVariants as sentences
use Rattle.mpp_parser.specs.Keywords.{keyword_of}
use Rattle.mpp_parser.specs.Grammar.{found}
use Rattle.mpp_parser.specs.Commands.{Act, set, del, when, partition, call}
use Rattle.mpp_parser.specs.CommandView.{block_of}
use Rattle.m_lexer.specs.inner.Chains.{◌>>=◌, choose}
use Rattle.mpp_parser.specs.inner.Reading.{line_at}

-- at most n more, appended to those that are done: as many as parse
unfoldable pub many_at : {A : Type 0} → (List Line → Option (A × List Line)) → ℕ → List A → List Line → List A × List Line
many_at p zero done ls = (done, ls)
many_at p (suc n) done ls = choose (p ls) (done, ls) (λ x. many_at p n (done ++ x.0 ∷ []) x.1)

-- whether a line is `else:`
unfoldable pub is_else : List DriverPiece → Bool
is_else (Word w ∷ Sign Colon ∷ []) = is_some (found keys.Else (keyword_of w))
is_else _ = false

-- after an `else:` at the indentation i
unfoldable pub else_at : ℕ → List Line → Option (List Line)
else_at i [] = None
else_at i (l ∷ ls) = cond ((l.indent == i) && is_else l.tokens) (Some ls) None

-- the block of an `else`, empty if there is no whole one
unfoldable pub otherwise_at : (ℕ → List Line → Option (List Act × List Line)) → ℕ → List Line → List Act × List Line
otherwise_at b i ls = choose (else_at i ls) ([], ls) (λ rest. choose (b i rest) ([], ls) (λ y. y))

-- the command whose first line is this sentence, on line n
unfoldable pub stated_at : (ℕ → List Line → Option (List Act × List Line)) → ℕ → ℕ → Sentence → List Line → Option (Act × List Line)
stated_at b i n (sentences.Set c t) ls = Some (set n c t, ls)
stated_at b i n (sentences.Del c) ls = Some (del n c, ls)
stated_at b i n (sentences.Call cs f) ls = Some (call n cs f, ls)
stated_at b i n (sentences.Partition k) ls = b i ls >>= λ x. Some (partition n k (block_of x.0), x.1)
stated_at b i n (sentences.If t) ls = b i ls >>= λ x. Some (when n t (block_of x.0) (block_of (otherwise_at b i x.1).0), (otherwise_at b i x.1).1)
stated_at b i n _ ls = None

unfoldable pub command_at : (ℕ → List Line → Option (List Act × List Line)) → ℕ → List Line → Option (Act × List Line)
command_at b i [] = None
command_at b i (l ∷ ls) = cond (l.indent == i) (line_at l.tokens >>= λ s. stated_at b i l.number s ls) None

abbrev pub commands_at : (ℕ → List Line → Option (List Act × List Line)) → ℕ → List Line → List Act × List Line
commands_at b i ls = many_at (command_at b i) (length ls) [] ls

abbrev pub some_of : List Act → List Line → Option (List Act × List Line)
some_of [] ls = None
some_of (a ∷ acts) ls = Some (a ∷ acts, ls)

unfoldable pub block_at : ℕ → ℕ → List Line → Option (List Act × List Line)
block_at zero i ls = None
block_at (suc d) i [] = None
block_at (suc d) i (l ∷ ls) = cond (nat_lt i l.indent) (some_of (commands_at (block_at d) l.indent (l ∷ ls)).0 (commands_at (block_at d) l.indent (l ∷ ls)).1)
    None

unfoldable pub headed_at : ℕ → Sentence → List Line → Option (Function × List Line)
headed_at n (sentences.Function name) ls = block_at DRIVER_LEVEL 0 ls >>= λ b. Some (record { name = name; line = n; body = b.0 }, b.1)
headed_at n _ ls = None

unfoldable pub function_at : List Line → Option (Function × List Line)
function_at [] = None
function_at (l ∷ ls) = cond (l.indent == 0) (line_at l.tokens >>= λ s. headed_at l.number s ls) None

unfoldable pub functions_at : List Line → List Function × List Line
functions_at ls = many_at function_at (length ls) [] ls

-- The code's result is that of the parsing function, unless memory ran out.
abbrev pub GivesOne : {A B : Type 0} → (A → B) → Result (Option A) AllocError → Option (B × List Line) → List Line → Type 0
GivesOne view (Ok (Some x)) read rest = read ≡ Some (view x, rest)
GivesOne view (Ok None) read rest = read ≡ None
GivesOne view (Err e) read rest = Unit {0}
