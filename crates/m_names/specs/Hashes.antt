-- How a name is hashed: its bytes go to SipHash in words of seven. The last word has the rest, if
-- any. A 1 before the bytes of a word tells how many they are, so different names give different
-- words: `AB` gives 0x1_41_42, and no byte gives 1.
use Rattle.std.specs.Prelude.{ℕ, ◌*◌, ◌%◌, ◌^◌, List, [], ◌∷◌, fold, bit_or, nat_lt, if◌then◌else◌}
use Rattle.std.specs.Hash as fed
use Rattle.std.specs.Hash.DefaultHasher as sip
use Rattle.std.specs.declared.hash.DefaultHasher.{DefaultHasher}
use Rattle.m_names.specs.declared.hasher.NameHasher.{NameHasher}

-- the state in which a name begins, under this state of SipHash
abbrev pub started : DefaultHasher → NameHasher
started sip = record { sip = sip; word = 1 }

-- a word with one more byte
abbrev pub word_with : ℕ → ℕ → ℕ
word_with word byte = bit_or ((word * 2 ^ 8) % 2 ^ 64) byte

-- The state with this word: a full word goes to SipHash, and the next one begins.
abbrev pub with_word : NameHasher → ℕ → NameHasher
with_word s word =
    if nat_lt word 72_057_594_037_927_936 then record { sip = s.sip; word = word } else record { sip = fold sip.write s.sip (fed.u64 word); word = 1 }

-- the state after one more byte
abbrev pub with_byte : NameHasher → ℕ → NameHasher
with_byte s byte = with_word s (word_with s.word byte)

-- The state after a write: of one byte, or of anything else, which is left out.
abbrev pub written : NameHasher → List ℕ → NameHasher
written s [] = s
written s (byte ∷ []) = with_byte s byte
written s (byte ∷ more ∷ rest) = s

-- the hash: that of the words, the last of which may be short
abbrev pub finished : NameHasher → ℕ
finished s = sip.finish (fold sip.write s.sip (fed.u64 s.word))
