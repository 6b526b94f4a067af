-- Sets of numbers as 64-bit words with summaries.
use Rattle.std.specs.Prelude.{◌≡◌, ℕ, ◌*◌, ◌/◌, ◌%◌, ◌^◌, ◌<◌, ◌≤◌, ◌==◌, Bool, false, not, List, length, map, slice_set, slice_index_or, bit_and, bit_or}
use Rattle.std.specs.List.{range_with_len}
use Rattle.std.specs.Int.{bit_at, bit_not, w64}

abbrev pub is_one : ℕ → ℕ → Bool
is_one word i = bit_at word i == 1

abbrev pub word_at : List ℕ → ℕ → ℕ
word_at words w = slice_index_or words w 0

-- whether the bit of a number is set
abbrev pub has : List ℕ → ℕ → Bool
has words k = is_one (word_at words (k / 64)) (k % 64)

-- the bits of the numbers below n
abbrev pub members : List ℕ → ℕ → List Bool
members words n = map (has words) (range_with_len 0 n)

abbrev pub with_bit : List ℕ → ℕ → List ℕ
with_bit words k = slice_set words (k / 64) (bit_or (word_at words (k / 64)) (1 * 2 ^ (k % 64) % 2 ^ 64))

abbrev pub without_bit : List ℕ → ℕ → List ℕ
without_bit words k = slice_set words (k / 64) (bit_and (word_at words (k / 64)) (bit_not w64 (1 * 2 ^ (k % 64) % 2 ^ 64)))

-- Words for the numbers below n, and their summary: a bit for each word, set if the word isn't 0.
pub record IsSummed (words summary : List ℕ) (n : ℕ) : Type 0 where
  pub room : n ≤ 64 * length words
  pub top : length words ≤ 64 * length summary
  pub few : length words ≤ n
  pub short : length summary ≤ length words
  pub within : n < 2 ^ 32
  pub clean : (k : ℕ) → n ≤ k → has words k ≡ false
  pub summed : (w : ℕ) → has summary w ≡ not (word_at words w == 0)

-- Words with two levels of summaries: `top` is the summary of `summary`.
pub record IsLayered (words summary top : List ℕ) (n : ℕ) : Type 0 where
  pub lower : IsSummed words summary n
  pub upper : IsSummed summary top (length words)
