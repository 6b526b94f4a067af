-- The grammar of lines: blocks, commands, functions and whole drivers.
--
-- In each relation the last two arguments are lists of lines. `SpellsCommand B i c ls rest`: the
-- lines ls begin with a spelling of the command c at the indentation i, and rest are the lines
-- after it. B is the grammar of blocks.
use Rattle.std.specs.Prelude.{◌≡◌, ℕ, zero, suc, ◌<◌, ◌≤◌, List, [], ◌∷◌, length}
use Rattle.m_places.specs.declared.limits.TheConstants.{DRIVER_LEVEL}
use Rattle.mpp_lexer.specs.declared.piece.Line.{Line}
use Rattle.mpp_parser.specs.declared.command.Function.{Function}
use Rattle.mpp_parser.specs.declared.command.Driver.{Driver}
use Rattle.mpp_parser.specs.declared.term.CellName.{CellName}
use Rattle.mpp_parser.specs.declared.term.Kind.{Kind}
use Rattle.mpp_parser.specs.declared.sentence.Sentence.{Sentence}
use Rattle.mpp_parser.specs.declared.sentence.Sentence.TheVariants as sentences
use Rattle.mpp_parser.specs.Trees.{Term}
use Rattle.mpp_parser.specs.Commands.{Act, set, del, when, partition, call, no_acts}
use Rattle.mpp_parser.specs.CommandView.{block_of}
use Rattle.mpp_parser.specs.Grammar.{SpellsSentence}

-- a line with this indentation that spells this sentence
pub record Says (i : ℕ) (s : Sentence) (l : Line) : Type 0 where
  pub at : l.indent ≡ i
  pub says : SpellsSentence s l.tokens []

-- { R }
pub data Many {A : Type 0} (R : A → List Line → List Line → Type 0) : List A → List Line → List Line → Type 0 where
  no_more : {ls : List Line} → Many R [] ls ls
  one_more : {x : A} {xs : List A} {ls mid rest : List Line}
      → R x ls mid → Many R xs mid rest →
      Many R (x ∷ xs) ls rest

-- A command at the indentation i: a line, and after a condition, an `else` or a partition a block.
-- An `else` comes directly after the block of its `if`, and has its indentation.
pub data SpellsCommand (B : ℕ → List Act → List Line → List Line → Type 0) (i : ℕ) : Act → List Line → List Line → Type 0 where
  sets : {l : Line} {c : CellName} {t : Term} {rest : List Line} → Says i (sentences.Set c t) l →
      SpellsCommand B i (set l.number c t) (l ∷ rest) rest
  deletes : {l : Line} {c : CellName} {rest : List Line} → Says i (sentences.Del c) l →
      SpellsCommand B i (del l.number c) (l ∷ rest) rest
  calls : {l : Line} {cs : List CellName} {f : List ℕ} {rest : List Line} → Says i (sentences.Call cs f) l →
      SpellsCommand B i (call l.number cs f) (l ∷ rest) rest
  partitions : {l : Line} {k : Kind} {b : List Act} {ls rest : List Line} → Says i (sentences.Partition k) l → B i b ls rest →
      SpellsCommand B i (partition l.number k (block_of b)) (l ∷ ls) rest
  only : {l : Line} {t : Term} {b : List Act} {ls rest : List Line} → Says i (sentences.If t) l → B i b ls rest →
      SpellsCommand B i (when l.number t (block_of b) no_acts) (l ∷ ls) rest
  either : {l m : Line} {t : Term} {a b : List Act} {ls ms rest : List Line} → Says i (sentences.If t) l → B i a ls (m ∷ ms) →
      Says i sentences.Else m → B i b ms rest →
      SpellsCommand B i (when l.number t (block_of a) (block_of b)) (l ∷ ls) rest

-- The block under a line with the indentation i: at least one command, all at one indentation
-- greater than i.
pub data SpellsBlock (B : ℕ → List Act → List Line → List Line → Type 0) (i : ℕ) : List Act → List Line → List Line → Type 0 where
  block : {l : Line} {a : Act} {acts : List Act} {ls rest : List Line} → i < l.indent → Many (SpellsCommand B l.indent) (a ∷ acts) (l ∷ ls) rest →
      SpellsBlock B i (a ∷ acts) (l ∷ ls) rest

-- a block in which blocks are nested at most d - 1 deep
unfoldable pub SpellsInnerBlock : ℕ → ℕ → List Act → List Line → List Line → Type 0
SpellsInnerBlock zero i = λ b ls rest. ⊥
SpellsInnerBlock (suc d) i = SpellsBlock (SpellsInnerBlock d) i

-- A function; its first line has no indentation. Lines nested deeper than 64 are rejected earlier.
pub data SpellsFunction : Function → List Line → List Line → Type 0 where
  function : {l : Line} {name : List ℕ} {body : List Act} {ls rest : List Line} → Says 0 (sentences.Function name) l
      → SpellsInnerBlock DRIVER_LEVEL 0 body ls rest →
      SpellsFunction (record { name = name; line = l.number; body = body }) (l ∷ ls) rest

-- The lines begin with a driver, which is any number of functions, followed by rest.
abbrev pub SpellsDriver : Driver → List Line → List Line → Type 0
SpellsDriver d = Many SpellsFunction d.functions

-- no longer prefix of the lines is a driver
abbrev pub IsLongest : List Line → List Line → Type 0
IsLongest ls rest = (d : Driver) (r : List Line) → SpellsDriver d ls r → length rest ≤ length r
