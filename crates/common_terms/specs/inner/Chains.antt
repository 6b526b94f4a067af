-- The hash table of nodes. The nodes of a bucket form a linked list, its chain, from the newest to
-- the oldest.
use Rattle.std.specs.Prelude.{◌≡◌, ℕ, zero, suc, ◌+◌, ◌*◌, ◌%◌, ◌<◌, ◌≤◌, nat_eq, List, ◌++◌, length, slice_index_or, fold, if◌then◌else◌, unsigned_abs}
use Rattle.std.specs.Int.{is_negative}
use Rattle.std.specs.Hash as fed
use Rattle.std.specs.Hash.DefaultHasher as sip
use Rattle.m_fixed.specs.declared.amount.Value.{Value}
use Rattle.m_fixed.specs.declared.amount.Value.TheVariants.{Undef, Num, Over}
use Rattle.flat_code.specs.declared.program.Node.{Node}
use Rattle.flat_code.specs.Entries.{node_at}
use Rattle.flat_code.specs.declared.program.Node.TheVariants.{Input, Lit, Do}
use Rattle.flat_code.specs.inner.Hashing.{place_of}
use Rattle.common_terms.specs.declared.key.Key.{Key}
use Rattle.common_terms.specs.declared.chains.Link.{Link}

-- the hash of the fed data under a key
abbrev pub hash_after : Key → List (List ℕ) → ℕ
hash_after key fed = sip.finish (fold sip.write key.start fed) % 4_294_967_296

-- two words that tell values apart
abbrev pub value_words : Value → ℕ × ℕ
value_words Undef = (1, 0)
value_words Over = (2, 0)
value_words (Num z) = (if is_negative z then 4 else 3, unsigned_abs z)

-- two words that tell nodes apart
abbrev pub node_words : Node → ℕ × ℕ
node_words (Input n) = (0, n)
node_words (Lit v) = value_words v
node_words (Do op a b c) = (5 + place_of op + 4_294_967_296 * a, b + 4_294_967_296 * c)

-- the hash of a node under a key
abbrev pub node_hash : Key → Node → ℕ
node_hash key node = let words = node_words node in hash_after key (fed.u64 words.0 ++ fed.u64 words.1)

-- the link of node i
abbrev pub link_at : List Link → ℕ → Link
link_at links i = slice_index_or links i (record { hash = 0; next = 0 })

-- the bucket of node i, of m buckets
abbrev pub bucket_of : List Link → ℕ → ℕ → ℕ
bucket_of links m i = (link_at links i).hash % m

-- One more than the greatest number below n in bucket b, or 0 if there is none; f gives the bucket
-- of each number.
abbrev pub last_in : (ℕ → ℕ) → ℕ → ℕ → ℕ
last_in f b zero = 0
last_in f b (suc n) = if nat_eq (f n) b then suc n else last_in f b n

-- The chains of the first n nodes are right: each link names the previous node of its bucket, and
-- each head the last one.
pub record AreChained (links : List Link) (heads : List ℕ) (n : ℕ) : Type 0 where
  pub next : (i : ℕ) → i < n → (link_at links i).next ≡ last_in (bucket_of links (length heads)) (bucket_of links (length heads) i) i
  pub head : (b : ℕ) → b < length heads → slice_index_or heads b 0 ≡ last_in (bucket_of links (length heads)) b n

-- The invariant of the table: the nodes are chained by their hashes under the key, and there are at
-- least as many buckets as nodes.
pub record IsTable (key : Key) (nodes : List Node) (links : List Link) (heads : List ℕ) : Type 0 where
  pub linked : length nodes ≤ length links
  pub room : length nodes ≤ length heads
  pub hashed : (i : ℕ) → i < length nodes → (link_at links i).hash ≡ node_hash key (node_at nodes i)
  pub chained : AreChained links heads (length nodes)
