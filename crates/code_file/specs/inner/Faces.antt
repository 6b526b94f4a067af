-- The parser of the lines of a face, from left to right. Lines are without their line feed here.
use Rattle.std.specs.Prelude.{◌≡◌, ℕ, ◌+◌, ◌-◌, ◌*◌, ◌==◌, ◌<◌, nat_lt, nat_le, Bool, true, false, ◌&&◌, ◌||◌, List, [], ◌∷◌, ◌++◌, length, codes, take}
use Rattle.std.specs.Prelude.{slice_index_or, not, Option, Some, None, is_some, if◌then◌else◌}
use Rattle.std.specs.Option.{option_and_then, option_map}
use Rattle.std.specs.List.{AllByRecursion, flat_map}
use Rattle.std.specs.Str.{bytes_eq}
use Rattle.m_places.specs.declared.verification.ErrorKind.{ErrorKind}
use Rattle.m_places.specs.declared.verification.ErrorKind.TheVariants.{Anomalie, Discordance, Informative}
use Rattle.m_places.specs.declared.verification.Label.{Label}
use Rattle.observables.specs.declared.inputs.Coded.{Coded}
use Rattle.observables.specs.declared.inputs.InputType.{InputType}
use Rattle.observables.specs.declared.inputs.InputType.TheVariants.{Any, Whole, Truth}
use Rattle.observables.specs.declared.face.FaceLabel.{FaceLabel}
use Rattle.observables.specs.declared.face.FaceLabel.TheVariants.{Verif, DriverLine}
use Rattle.observables.specs.declared.face.FaceOutput.{FaceOutput}
use Rattle.observables.specs.declared.face.FaceOutput.TheVariants.{Named, Noted}
use Rattle.m_names.specs.Names.{has, AreDistinct}
use Rattle.observables.specs.Outputs.{notes_stand_first, verif_at}
use Rattle.code_file.specs.Text.{output_line}
use Rattle.code_file.specs.Printable.{IsFreeWord, IsPrintableVerif, IsPrintableLabel, IsPrintableOutput}
use Rattle.code_file.specs.Reading.{IsFittingLabel, IsFittingOutput}
use Rattle.code_file.specs.inner.Spelled.{cut, number, short}

-- ---- results of parsing

-- the result of parsing a line: the element, if it is valid; nothing if the line denotes none that
-- is
abbrev pub IsRead : {X : Type 0} → (List ℕ → Option X) → (X → Type 0) → List ℕ → Option X → Type 0
IsRead of Is line None = (x : _) → of line ≡ Some x → Is x → ⊥
IsRead of Is line (Some x) = (of line ≡ Some x) × Is x

-- no valid element has its line at the start of the text
abbrev pub IsNoFront : {X : Type 0} → (X → List ℕ) → (X → Type 0) → List ℕ → Type 0
IsNoFront line Is text = (x : _) (behind : List ℕ) → Is x → text ≡ line x ++ behind → ⊥

-- the valid element whose line is at the start of the text, and the bytes after that line
abbrev pub IsFront : {X : Type 0} → (X → List ℕ) → (X → Type 0) → List ℕ → X → List ℕ → Type 0
IsFront line Is text x behind = (text ≡ line x ++ behind) × Is x

-- an input, a label and an output that are valid in a code file
abbrev pub IsRightInput : Coded → Type 0
IsRightInput input = IsFreeWord input.code

abbrev pub IsRightVerif : Label → Type 0
IsRightVerif label = IsPrintableVerif label × AllByRecursion (λ b. b < 256) label.text

abbrev pub IsRightLabel : FaceLabel → Type 0
IsRightLabel label = IsPrintableLabel label × IsFittingLabel label

abbrev pub IsRightOutput : FaceOutput → Type 0
IsRightOutput output = IsPrintableOutput output × IsFittingOutput output

-- ---- slots and inputs

-- the slot count
abbrev pub slots_by : List ℕ × List ℕ → Option ℕ
slots_by p = if bytes_eq p.0 (codes "slots") then short p.1 else None

abbrev pub slots_of : List ℕ → Option ℕ
slots_of line = option_and_then slots_by (cut 32 line)

-- the type for the word after a code
abbrev pub kind_named : List ℕ → Option InputType
kind_named word = if bytes_eq word (codes "whole") then Some Whole else if bytes_eq word (codes "truth") then Some Truth else None

-- an input with this code and type
abbrev pub coded : List ℕ → InputType → Coded
coded code kind = record { code = code; kind = kind }

abbrev pub coded_by : List ℕ → Option (List ℕ × List ℕ) → Option Coded
coded_by text None = Some (coded text Any)
coded_by text (Some p) = option_map (coded p.0) (kind_named p.1)

abbrev pub input_by : List ℕ × List ℕ → Option Coded
input_by p = if bytes_eq p.0 (codes "input") then coded_by p.1 (cut 32 p.1) else None

abbrev pub input_of : List ℕ → Option Coded
input_of line = option_and_then input_by (cut 32 line)

-- ---- labels

-- a hexadecimal digit
abbrev pub hex_value : ℕ → Option ℕ
hex_value c = if nat_le 48 c && nat_le c 57 then Some (c - 48) else if nat_le 97 c && nat_le c 102 then Some (c - 87) else None

-- a byte of two digits
abbrev pub hex_byte : ℕ → ℕ → Option ℕ
hex_byte a b = option_and_then (λ x. option_map (λ y. x * 16 + y) (hex_value b)) (hex_value a)

-- bytes of two digits each
abbrev pub bytes_of : List ℕ → Option (List ℕ)
bytes_of [] = Some []
bytes_of (a ∷ []) = None
bytes_of (a ∷ b ∷ digits) = option_and_then (λ byte. option_map (λ bytes. byte ∷ bytes) (bytes_of digits)) (hex_byte a b)

-- an error's kind by its word
abbrev pub error_kind : List ℕ → Option ErrorKind
error_kind word = if bytes_eq word (codes "anomalie") then Some Anomalie else if bytes_eq word (codes "discordance") then Some Discordance else if bytes_eq word
    (codes "informative") then Some Informative else None

-- the fields of a verification's label: its number, its error's name and kind, and the error's text
-- in hexadecimal
pub record VerifWords : Type 0 where
  pub number : List ℕ
  pub error : List ℕ
  pub kind : ErrorKind
  pub hex : List ℕ

abbrev pub words_by : List ℕ → List ℕ → List ℕ × List ℕ → Option VerifWords
words_by number error p = option_map (λ kind. record { number = number; error = error; kind = kind; hex = p.1 }) (error_kind p.0)

abbrev pub verif_words : List ℕ → Option VerifWords
verif_words text = option_and_then (λ p. option_and_then (λ q. option_and_then (words_by p.0 q.0) (cut 32 q.1)) (cut 32 p.1)) (cut 32 text)

-- the label of these fields with this text
abbrev pub label_with : VerifWords → List ℕ → Label
label_with words text = record { verif = words.number; error = words.error; kind = words.kind; text = text }

abbrev pub verif_with : VerifWords → Option Label
verif_with words = option_map (label_with words) (bytes_of words.hex)

abbrev pub verif_of : List ℕ → Option Label
verif_of text = option_and_then verif_with (verif_words text)

abbrev pub label_kind : List ℕ × List ℕ → Option FaceLabel
label_kind p = if bytes_eq p.0 (codes "driver") then option_map DriverLine (short p.1) else if bytes_eq p.0 (codes "verif") then option_map Verif (verif_of p.1)
    else None

-- after `label`: the next word and the rest
abbrev pub behind_label : List ℕ × List ℕ → Option (List ℕ × List ℕ)
behind_label p = if bytes_eq p.0 (codes "label") then cut 32 p.1 else None

abbrev pub label_words : List ℕ → Option (List ℕ × List ℕ)
label_words line = option_and_then behind_label (cut 32 line)

abbrev pub label_of : List ℕ → Option FaceLabel
label_of line = option_and_then label_kind (label_words line)

-- ---- outputs

abbrev pub output_by : List ℕ × List ℕ → Option FaceOutput
output_by p = if bytes_eq p.0 (codes "output") then Some (Named p.1) else if bytes_eq p.0 (codes "note") then option_map Noted (short p.1) else None

abbrev pub output_of : List ℕ → Option FaceOutput
output_of line = option_and_then output_by (cut 32 line)

-- whether a byte is no letter from a to z
abbrev pub is_no_small : ℕ → Bool
is_no_small b = nat_lt b 97 || nat_lt 122 b

-- whether a text can follow `[` in the name of a table's cell: `12]`
abbrev pub index_by : Option (List ℕ × List ℕ) → Bool
index_by None = false
index_by (Some p) = (length p.1 == 0) && is_some (number 1024 p.0)

abbrev pub is_index : List ℕ → Bool
is_index text = index_by (cut 93 text)

-- ---- runs of lines

-- The longest run of lines of valid elements at the start of a text, and the bytes after it.
pub record IsRun {X : Type 0} (line : X → List ℕ) (Is : X → Type 0) (text : List ℕ) (xs : List X) (behind : List ℕ) : Type 0 where
  pub whole : text ≡ flat_map line xs ++ behind
  pub right : AllByRecursion Is xs
  pub ends : IsNoFront line Is behind

-- whether an output may follow others; the Bool is whether one of them has a name
abbrev pub may_follow : List FaceLabel → Bool → FaceOutput → Bool
may_follow labels named (Named name) = true
may_follow labels named (Noted number) = not named && is_some (verif_at labels number)

-- whether an output has a name
abbrev pub is_name : FaceOutput → Bool
is_name (Named name) = true
is_name (Noted number) = false

-- whether the last output has a name
abbrev pub ends_named : List FaceOutput → Bool
ends_named [] = false
ends_named (output ∷ []) = is_name output
ends_named (output ∷ next ∷ outputs) = ends_named (next ∷ outputs)

-- The longest valid run of lines of outputs at the start of a text.
pub record AreOutputs (labels : List FaceLabel) (text : List ℕ) (outputs : List FaceOutput) (behind : List ℕ) : Type 0 where
  pub whole : text ≡ flat_map output_line outputs ++ behind
  pub right : AllByRecursion IsRightOutput outputs
  pub first : notes_stand_first labels outputs ≡ true
  pub ends : IsNoFront output_line (λ output. IsRightOutput output × (notes_stand_first labels (outputs ++ output ∷ []) ≡ true)) behind

-- k is the first input whose code an earlier one has
pub record IsAgain (codes : List (List ℕ)) (k : ℕ) : Type 0 where
  pub within : k < length codes
  pub distinct : AreDistinct (take k codes)
  pub again : has (slice_index_or codes k []) (take k codes) ≡ true
