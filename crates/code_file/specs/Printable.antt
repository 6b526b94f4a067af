-- Faces that a code file can represent.
use Rattle.std.specs.Prelude.{◌≡◌, ◌≢◌, ◌⊎◌, ℕ, ◌<◌, ◌≤◌, List, [], ◌∷◌, length, codes, decimal, slice_index_or}
use Rattle.std.specs.List.{AllByRecursion}
use Rattle.m_text.specs.Words.{IsWord, AreDigits}
use Rattle.m_lexer.specs.declared.token.Key.{Key}
use Rattle.m_lexer.specs.Spellings.{key_spelling}
use Rattle.m_places.specs.declared.verification.Label.{Label}
use Rattle.observables.specs.declared.face.FaceLabel.{FaceLabel}
use Rattle.observables.specs.declared.face.FaceLabel.TheVariants.{Verif, DriverLine}
use Rattle.observables.specs.declared.face.FaceOutput.{FaceOutput}
use Rattle.observables.specs.declared.face.FaceOutput.TheVariants.{Named, Noted}
use Rattle.observables.specs.declared.face.Face.{Face}
use Rattle.observables.specs.Inputs.{codes_of}
use Rattle.m_text.specs.Pieces.{joined}

-- a byte that is no letter from a to z
abbrev pub IsNoSmallLetter : ℕ → Type 0
IsNoSmallLetter b = (b < 97) ⊎ (122 < b)

-- a word of M that isn't reserved
abbrev pub IsFreeWord : List ℕ → Type 0
IsFreeWord t = IsWord t × ((k : Key) → t ≢ key_spelling k)

-- a name: a word that isn't reserved, without a letter from a to z
abbrev pub IsPlainName : List ℕ → Type 0
IsPlainName t = IsFreeWord t × AllByRecursion IsNoSmallLetter t

-- the name of a cell: a plain name, or one with an index below 1024, as `T[1]`
abbrev pub IsCellName : List ℕ → Type 0
IsCellName t = IsPlainName t ⊎ ((name : List ℕ) × (k : ℕ) × IsPlainName name × (k < 1024) × (t ≡ joined (name ∷ codes "[" ∷ decimal k ∷ codes "]" ∷ [])))

-- all elements are different
abbrev pub AreApart : List (List ℕ) → Type 0
AreApart names = (i j : ℕ) → i < length names → j < length names → slice_index_or names i [] ≡ slice_index_or names j [] → i ≡ j

-- a number of one to nine digits, an error with a plain name, and a text that isn't empty
abbrev pub IsPrintableVerif : Label → Type 0
IsPrintableVerif label = AreDigits label.verif × (length label.verif ≤ 9) × IsPlainName label.error × (label.text ≢ [])

abbrev pub IsPrintableLabel : FaceLabel → Type 0
IsPrintableLabel (Verif label) = IsPrintableVerif label
IsPrintableLabel (DriverLine line) = Unit {0}

abbrev pub IsPrintableOutput : FaceOutput → Type 0
IsPrintableOutput (Named name) = IsCellName name
IsPrintableOutput (Noted number) = Unit {0}

-- A face is printable if the codes of its inputs are distinct free words, its verifications have
-- numbers of one to nine digits, plain names of errors and texts, and its outputs have names of
-- cells.
pub record IsPrintable (face : Face) : Type 0 where
  pub inputs : AllByRecursion IsFreeWord (codes_of face.inputs)
  pub apart : AreApart (codes_of face.inputs)
  pub labels : AllByRecursion IsPrintableLabel face.labels
  pub outputs : AllByRecursion IsPrintableOutput face.outputs
