-- The results of the workers, one for each run of files, make the result for all files.
use Rattle.std.proofs.Common.{◌≡◌, ◌≢◌, ℕ, ◌+◌, ◌*◌, ◌<◌, ◌≤◌, get_or, take, drop, List, length, Result, Ok, Err, Vec}
use Rattle.std.specs.declared.alloc.Global.{Global}
use Rattle.m_places.specs.Refusals.{Outcome}
use Rattle.m_places.specs.declared.source.Text.{Text}
use Rattle.m_ast.specs.declared.item.Item.{Item}
use Rattle.workers.specs.Parts.{behind, joined, part_at}
use Rattle.workers.proofs.PartLemmas.{of_parts, stated_of_parts}
use Rattle.rule_base.specs.declared.read_fault.ReadFault.{ReadFault}
use Rattle.rule_base.specs.declared.read_fault.ReadFault.TheVariants.{Memory}
use Rattle.rule_base.specs.Files.{SayEach, none_each, IsFirstFileFault}
use Rattle.rule_base.proofs.Rows.{both_each, front_fault, behind_fault}

-- the result of a worker: the items of its files, or an error
abbrev pub Given : Type 0
Given = Result (Vec (List Item) Global) ReadFault

-- the result is that of files, of which the first has this number
abbrev pub SaysFiles : ℕ → List Text → Result (List (List Item)) ReadFault → Type 0
SaysFiles number texts (Ok files) = SayEach number texts files
SaysFiles number texts (Err fault) = fault ≢ Memory → IsFirstFileFault number texts fault

goes : (size number : ℕ) (texts : List Text) (part : Vec (List Item) Global) (rest : Result (List (List Item)) ReadFault)
    → SayEach number (take size texts) part.items
    → SaysFiles (number + size) (drop size texts) rest → SaysFiles number texts (behind part.items rest)
goes size number texts part (Ok rest) gave is = both_each size number texts part.items rest gave is
goes size number texts part (Err fault) gave is = λ n. behind_fault size number texts part.items fault gave (is n)

-- the result is that of a worker's files, of which the first has this number
abbrev pub IsGiven : ℕ → List Text → Given → Type 0
IsGiven number texts given = Outcome Memory given (λ stated. SayEach number texts stated.items) (IsFirstFileFault number texts)

pub parsed_files : (size : ℕ) (texts : List Text) (parts : List Given)
    → ((n : ℕ) (d : Given) → n < length parts → IsGiven (n * size) (part_at texts size (n * size)) (get_or parts n d))
    → ((n : ℕ) → n < length parts → n * size < length texts) → length texts ≤ length parts * size → SaysFiles 0 texts (joined parts)
parsed_files size texts parts each inside reach =
    stated_of_parts IsGiven size SaysFiles (λ at. none_each)
    (λ at items fault some gave. λ n. front_fault size at items fault (gave n))
    (λ at items part rest some gave is. goes size at items part rest gave is) 0 texts parts (of_parts IsGiven size texts parts each inside reach)
