-- Nodes in chains.
use Rattle.std.proofs.Common.{◌≡◌, ◌≢◌, ℕ, zero, suc, ◌+◌, ◌%◌, ◌<◌, ◌≤◌, Bool, true, false, eqb, List, [], ◌∷◌, ◌++◌, length, take, get_or, set, refl, ap, sym}
use Rattle.std.proofs.Common.{◌∙◌, subst, ⊎_elim, arith}
use Rattle.std.specs.Prelude.{if◌then◌else◌}
use Rattle.std.proofs.lemmas.Bool.{cases_lt, eqb-true, eqb-false, eq-eqb}
use Rattle.std.proofs.lemmas.List.{length_push, get_or_append_left, get_or_push, get_or-take, length-take-le, get_or-set_same, get_or-set_other, length-set}
use Rattle.flat_code.specs.declared.program.Node.{Node}
use Rattle.flat_code.specs.Entries.{node_at}
use Rattle.flat_code.proofs.ReadLemmas.{node-push, node-last}
use Rattle.common_terms.specs.declared.key.Key.{Key}
use Rattle.common_terms.specs.declared.chains.Link.{Link}
use Rattle.common_terms.specs.Numbers.{IsAbsent}
use Rattle.common_terms.specs.inner.Chains.{node_hash, link_at, bucket_of, last_in, AreChained, IsTable}

-- ---- the last one in a bucket

last-le : (f : ℕ → ℕ) (b n : ℕ) → last_in f b n ≤ n
last-le f b zero = omega arith
last-le f b (suc n) = go (eqb (f n) b) (last-le f b n)
  where
    go : (d : Bool) → last_in f b n ≤ n → (if d then suc n else last_in f b n) ≤ suc n
    go true h = omega arith
    go false h = omega arith

last-after : (f : ℕ → ℕ) (b n j : ℕ) → j < n → f j ≡ b → j < last_in f b n
last-after f b zero j lt e = absurd (omega arith)
last-after f b (suc n) j lt e = go (eqb (f n) b) refl (λ l. last-after f b n j l e)
  where
    go : (d : Bool) → eqb (f n) b ≡ d → (j < n → j < last_in f b n) → j < (if d then suc n else last_in f b n)
    go true d h = omega arith
    go false d h = ⊎_elim
        (λ (l : j < n). h l)
        (λ (g : n ≤ j). let q : n ≡ j = omega arith in absurd (eqb-false (f n) b d (ap f q ∙ e)))
        (cases_lt j n)

last-is : (f : ℕ → ℕ) (b n i : ℕ) → last_in f b n ≡ suc i → f i ≡ b
last-is f b zero i e = absurd (omega arith)
last-is f b (suc n) i e = go (eqb (f n) b) refl e (λ e. last-is f b n i e)
  where
    go : (d : Bool) → eqb (f n) b ≡ d → (if d then suc n else last_in f b n) ≡ suc i → (last_in f b n ≡ suc i → f i ≡ b) → f i ≡ b
    go true d e h = let q : i ≡ n = omega arith in ap f q ∙ eqb-true (f n) b d
    go false d e h = h e

last-same : (f g : ℕ → ℕ) (b n : ℕ) → ((i : ℕ) → i < n → f i ≡ g i) → last_in f b n ≡ last_in g b n
last-same f g b zero h = refl
last-same f g b (suc n) h =
    ap (λ x. if eqb x b then suc n else last_in f b n) (h n (omega arith))
    ∙ ap (λ x. if eqb (g n) b then suc n else x) (last-same f g b n (λ i lt. h i (omega arith)))

last-here : (f : ℕ → ℕ) (b n : ℕ) → f n ≡ b → last_in f b (suc n) ≡ suc n
last-here f b n e = ap (λ d. if d then suc n else last_in f b n) (eq-eqb (f n) b e)

last-other : (f : ℕ → ℕ) (b n : ℕ) → eqb (f n) b ≡ false → last_in f b (suc n) ≡ last_in f b n
last-other f b n e = ap (λ d. if d then suc n else last_in f b n) e

-- ---- chains

pub chained-none : (links : List Link) (heads : List ℕ) → ((b : ℕ) → b < length heads → get_or heads b 0 ≡ 0) → AreChained links heads 0
chained-none links heads empty = record { next = λ i lt. absurd (omega arith); head = λ b lt. empty b lt }

pub chained-same : (links links' : List Link) (heads : List ℕ) (n : ℕ) → ((j : ℕ) → j < n → link_at links' j ≡ link_at links j) → AreChained links heads n
    → AreChained links' heads n
chained-same links links' heads n same h =
    let m = length heads in
    let f = bucket_of links m in
    let f' = bucket_of links' m in
    let bucket : (j : ℕ) → j < n → f j ≡ f' j = λ j lt. ap (λ (l : Link). l.hash % m) (sym (same j lt)) in
    record {
      next = λ i lt. ap (λ (l : Link). l.next) (same i lt) ∙ h.next i lt ∙ ap (λ b. last_in f b i) (bucket i lt)
          ∙ last-same f f' (f' i) i (λ j l. bucket j (omega arith));
      head = λ b lt. h.head b lt ∙ last-same f f' b n bucket;
    }

-- one more node is linked into its chain
pub chained-step : (links links' : List Link) (heads heads' : List ℕ) (i place : ℕ)
    → ((j : ℕ) → (link_at links' j).hash ≡ (link_at links j).hash)
    → ((j : ℕ) → j < i → (link_at links' j).next ≡ (link_at links j).next)
    → (link_at links' i).next ≡ get_or heads place 0
    → length heads' ≡ length heads → place < length heads → place ≡ bucket_of links (length heads) i
    → get_or heads' place 0 ≡ i + 1
    → ((b : ℕ) → b ≢ place → get_or heads' b 0 ≡ get_or heads b 0)
    → AreChained links heads i → AreChained links' heads' (i + 1)
chained-step links links' heads heads' i place hashes below here size within bucket put others h =
    let m = length heads in
    let f = bucket_of links m in
    let f' = bucket_of links' (length heads') in
    let same : (j : ℕ) → f j ≡ f' j = λ j. ap (λ x. x % m) (sym (hashes j)) ∙ ap (λ m. (link_at links' j).hash % m) (sym size) in
    let moved : (b n : ℕ) → last_in f b n ≡ last_in f' b n = λ b n. last-same f f' b n (λ j lt. same j) in
    let s : i + 1 ≡ suc i = omega arith in
    record {
      next = λ j lt. ⊎_elim
          (λ (l : j < i). below j l ∙ h.next j l ∙ ap (λ b. last_in f b j) (same j) ∙ moved (f' j) j)
          (λ (g : i ≤ j).
          let q : j ≡ i = omega arith in
          subst (λ j. (link_at links' j).next ≡ last_in f' (f' j) j) (sym q)
          (here ∙ h.head place within ∙ ap (λ b. last_in f b i) (bucket ∙ same i) ∙ moved (f' i) i))
          (cases_lt j i);
      head = λ b lt. go b (omega (arith, size)) (eqb (f' i) b) refl ∙ ap (last_in f' b) (sym s);
    }
  where
    go : (b : ℕ) → b < length heads → (d : Bool) → eqb (bucket_of links' (length heads') i) b ≡ d
        → get_or heads' b 0 ≡ last_in (bucket_of links' (length heads')) b (suc i)
    go b lt true d =
        let f' = bucket_of links' (length heads') in
        let same : bucket_of links (length heads) i ≡ f' i = ap (λ x. x % length heads) (sym (hashes i)) ∙ ap (λ m. (link_at links' i).hash % m) (sym size) in
        let e : f' i ≡ b = eqb-true (f' i) b d in
        let s : i + 1 ≡ suc i = omega arith in
        ap (λ b. get_or heads' b 0) (sym (bucket ∙ same ∙ e)) ∙ put ∙ s ∙ sym (last-here f' b i e)
    go b lt false d =
        let f = bucket_of links (length heads) in
        let f' = bucket_of links' (length heads') in
        let same : (j : ℕ) → f j ≡ f' j = λ j. ap (λ x. x % length heads) (sym (hashes j)) ∙ ap (λ m. (link_at links' j).hash % m) (sym size) in
        others b (λ e. eqb-false (f' i) b d (sym (same i) ∙ sym bucket ∙ sym e)) ∙ h.head b lt ∙ last-same f f' b i (λ j lt. same j) ∙ sym (last-other f' b i d)

abbrev pub no-link : Link
no-link = record { hash = 0; next = 0 }

pub hashes-set : (links : List Link) (i : ℕ) (link : Link) → i < length links → link.hash ≡ (link_at links i).hash → (j : ℕ)
    → (link_at (set links i link) j).hash ≡ (link_at links j).hash
hashes-set links i link lt same j = go (eqb j i) refl
  where
    go : (d : Bool) → eqb j i ≡ d → (link_at (set links i link) j).hash ≡ (link_at links j).hash
    go true d =
        let e : j ≡ i = eqb-true j i d in
        ap (λ j. (link_at (set links i link) j).hash) e ∙ ap (λ (l : Link). l.hash) (get_or-set_same links i link no-link lt) ∙ same
        ∙ ap (λ j. (link_at links j).hash) (sym e)
    go false d = ap (λ (l : Link). l.hash) (get_or-set_other links i j link no-link (eqb-false j i d))

-- the same, for the list operations of the code
pub chained-set : (links : List Link) (heads : List ℕ) (i place : ℕ) (link : Link) → i < length links → place < length heads
    → place ≡ bucket_of links (length heads) i → link.hash ≡ (link_at links i).hash → link.next ≡ get_or heads place 0 → AreChained links heads i
    → AreChained (set links i link) (set heads place (i + 1)) (i + 1)
chained-set links heads i place link lt within bucket same next h =
    chained-step links (set links i link) heads (set heads place (i + 1)) i place (hashes-set links i link lt same)
    (λ j l. ap (λ (l : Link). l.next) (get_or-set_other links i j link no-link (λ (e : j ≡ i). absurd (omega arith))))
    (ap (λ (l : Link). l.next) (get_or-set_same links i link no-link lt) ∙ next)
    (length-set heads place (i + 1)) within bucket
    (get_or-set_same heads place (i + 1) 0 within)
    (λ b other. get_or-set_other heads place b (i + 1) 0 other)
    h

-- ---- the table

pub table-none : (key : Key) → IsTable key [] [] []
table-none key = record {
  linked = omega arith;
  room = omega arith;
  hashed = λ i lt. absurd (omega arith);
  chained = record { next = λ i lt. absurd (omega arith); head = λ b lt. absurd (omega arith) };
}

-- with other links past those of the nodes
pub table-same : (key : Key) (nodes : List Node) (links links' : List Link) (heads : List ℕ) → length nodes ≤ length links'
    → ((j : ℕ) → j < length nodes → link_at links' j ≡ link_at links j) → IsTable key nodes links heads → IsTable key nodes links' heads
table-same key nodes links links' heads linked same h = record {
  linked = linked;
  room = h.room;
  hashed = λ i lt. ap (λ (l : Link). l.hash) (same i lt) ∙ h.hashed i lt;
  chained = chained-same links links' heads (length nodes) same h.chained;
}

-- with other buckets
pub table-again : (key : Key) (nodes : List Node) (links links' : List Link) (heads heads' : List ℕ) → length links' ≡ length links
    → length nodes ≤ length heads' → ((j : ℕ) → (link_at links' j).hash ≡ (link_at links j).hash) → AreChained links' heads' (length nodes)
    → IsTable key nodes links heads → IsTable key nodes links' heads'
table-again key nodes links links' heads heads' size room hashes chained h =
    let linked : length nodes ≤ length links = h.linked in
    record {
      linked = omega arith;
      room = room;
      hashed = λ i lt. hashes i ∙ h.hashed i lt;
      chained = chained;
    }

-- the links of the nodes, and one more
pub cut-same : (links : List Link) (link : Link) (n j : ℕ) → n ≤ length links → j < n → link_at (take n links ++ link ∷ []) j ≡ link_at links j
cut-same links link n j le lt =
    let size : length (take n links) ≡ n = length-take-le n links le in
    get_or_append_left (take n links) (link ∷ []) (record { hash = 0; next = 0 }) j (omega arith) ∙ get_or-take n links j (record { hash = 0; next = 0 }) lt

pub cut-last : (links : List Link) (link : Link) (n : ℕ) → n ≤ length links → link_at (take n links ++ link ∷ []) n ≡ link
cut-last links link n le = let size : length (take n links) ≡ n = length-take-le n links le in get_or_push (take n links) link (record { hash = 0; next = 0 }) n
    size

pub cut-length : (links : List Link) (link : Link) (n : ℕ) → n ≤ length links → length (take n links ++ link ∷ []) ≡ n + 1
cut-length links link n le = let size : length (take n links) ≡ n = length-take-le n links le in omega (arith, length_push (take n links) link)

-- one more node
pub table-push : (key : Key) (nodes : List Node) (node : Node) (links links' : List Link) (heads heads' : List ℕ) → length links' ≡ length nodes + 1
    → length nodes < length heads → length heads' ≡ length heads → ((j : ℕ) → j < length nodes → (link_at links' j).hash ≡ (link_at links j).hash)
    → (link_at links' (length nodes)).hash ≡ node_hash key node → AreChained links' heads' (length nodes + 1) → IsTable key nodes links heads
    → IsTable key (nodes ++ node ∷ []) links' heads'
table-push key nodes node links links' heads heads' size room size' hashes here chained h =
    let more : length (nodes ++ node ∷ []) ≡ length nodes + 1 = length_push nodes node in
    record {
      linked = omega arith;
      room = omega arith;
      hashed = λ i lt. ⊎_elim
          (λ (l : i < length nodes). hashes i l ∙ h.hashed i l ∙ ap (node_hash key) (sym (node-push nodes node i l)))
          (λ (g : length nodes ≤ i).
          let q : i ≡ length nodes = omega arith in
          ap (λ i. (link_at links' i).hash) q ∙ here ∙ ap (node_hash key) (sym (node-last nodes node i q)))
          (cases_lt i (length nodes));
      chained = subst (AreChained links' heads') (sym more) chained;
    }

-- ---- a node is added: its link is put after those of the nodes, and then into its chain

-- the link of a hash, in no chain yet
abbrev link-of : ℕ → Link
link-of hash = record { hash = hash; next = 0 }

pub cut-table : (key : Key) (nodes : List Node) (links links' : List Link) (heads : List ℕ) (n : ℕ) → n ≡ length nodes → links' ≡ take n links
    → IsTable key nodes links heads → IsTable key nodes links' heads
cut-table key nodes links links' heads n e cut h =
    let linked : length nodes ≤ length links = h.linked in
    let size : length (take n links) ≡ n = length-take-le n links (omega arith) in
    subst (λ xs. IsTable key nodes xs heads) (sym cut)
    (table-same key nodes links (take n links) heads (omega arith) (λ j lt. get_or-take n links j no-link (omega arith)) h)

pub longer-table : (key : Key) (nodes : List Node) (links links' links'' : List Link) (heads : List ℕ) (n hash : ℕ) → n ≡ length nodes → links' ≡ take n links
    → links'' ≡ links' ++ link-of hash ∷ [] → IsTable key nodes links heads → IsTable key nodes links'' heads
longer-table key nodes links links' links'' heads n hash e cut more h =
    let linked : length nodes ≤ length links = h.linked in
    let le : n ≤ length links = omega arith in
    subst (λ xs. IsTable key nodes xs heads) (sym (more ∙ ap (λ xs. xs ++ link-of hash ∷ []) cut))
    (table-same key nodes links (take n links ++ link-of hash ∷ []) heads (omega (arith, cut-length links (link-of hash) n le))
    (λ j lt. cut-same links (link-of hash) n j le (omega arith)) h)

pub longer-length : (nodes : List Node) (links links' links'' : List Link) (n hash : ℕ) → n ≡ length nodes → length nodes ≤ length links → links' ≡ take n links
    → links'' ≡ links' ++ link-of hash ∷ [] → length links'' ≡ n + 1
longer-length nodes links links' links'' n hash e linked cut more = ap length (more ∙ ap (λ xs. xs ++ link-of hash ∷ []) cut)
    ∙ cut-length links (link-of hash) n (omega arith)

pub table-added : (key : Key) (nodes : List Node) (node : Node) (links links' links'' new : List Link) (heads heads' : List ℕ) (n hash : ℕ) → n ≡ length nodes
    → links' ≡ take n links → links'' ≡ links' ++ link-of hash ∷ [] → hash ≡ node_hash key node → length nodes < length heads → length new ≡ length links''
    → length heads' ≡ length heads → ((j : ℕ) → (link_at new j).hash ≡ (link_at links'' j).hash) → AreChained new heads' (n + 1) → IsTable key nodes links heads
    → IsTable key (nodes ++ node ∷ []) new heads'
table-added key nodes node links links' links'' new heads heads' n hash e cut more is room size size' hashes chained h =
    let linked : length nodes ≤ length links = h.linked in
    let le : n ≤ length links = omega arith in
    let long : length links'' ≡ n + 1 = longer-length nodes links links' links'' n hash e linked cut more in
    let whole : links'' ≡ take n links ++ link-of hash ∷ [] = more ∙ ap (λ xs. xs ++ link-of hash ∷ []) cut in
    let count : n + 1 ≡ length nodes + 1 = omega arith in
    table-push key nodes node links new heads heads' (omega arith) room size'
    (λ j lt. hashes j ∙ ap (λ xs. (link_at xs j).hash) whole ∙ ap (λ (l : Link). l.hash) (cut-same links (link-of hash) n j le (omega arith)))
    (ap (λ k. (link_at new k).hash) (sym e) ∙ hashes n ∙ ap (λ xs. (link_at xs n).hash) whole ∙ ap (λ (l : Link). l.hash) (cut-last links (link-of hash) n le)
    ∙ is)
    (subst (AreChained new heads') count chained) h

-- ---- the search

-- The loop invariant of the search: the node isn't among those from `left` on, and `left` is one
-- more than the next candidate.
pub record IsSearch (nodes : List Node) (links : List Link) (heads : List ℕ) (node : Node) (b left : ℕ) : Type 0 where
  pub within : left ≤ length nodes
  pub chain : (i : ℕ) → left ≡ suc i → bucket_of links (length heads) i ≡ b
  pub above : (j : ℕ) → left ≤ j → j < length nodes → node_at nodes j ≡ node → ⊥

in-bucket : (key : Key) (nodes : List Node) (links : List Link) (heads : List ℕ) (node : Node) (b j : ℕ) → IsTable key nodes links heads
    → b ≡ node_hash key node % length heads → j < length nodes → node_at nodes j ≡ node → bucket_of links (length heads) j ≡ b
in-bucket key nodes links heads node b j h e lt is = ap (λ x. x % length heads) (h.hashed j lt ∙ ap (node_hash key) is) ∙ sym e

pub search-start : (key : Key) (nodes : List Node) (links : List Link) (heads : List ℕ) (node : Node) (b left : ℕ) → IsTable key nodes links heads
    → b ≡ node_hash key node % length heads → b < length heads → left ≡ get_or heads b 0 → IsSearch nodes links heads node b left
search-start key nodes links heads node b left h e within is =
    let f = bucket_of links (length heads) in
    let n = length nodes in
    let last : left ≡ last_in f b n = is ∙ h.chained.head b within in
    record {
      within = omega (arith, last-le f b n);
      chain = λ i d. last-is f b n i (sym last ∙ d);
      above = λ j le lt d. let l : j < last_in f b n = last-after f b n j lt (in-bucket key nodes links heads node b j h e lt d) in absurd (omega arith);
    }

pub search-next : (key : Key) (nodes : List Node) (links : List Link) (heads : List ℕ) (node : Node) (b left i left' : ℕ) → IsTable key nodes links heads
    → b ≡ node_hash key node % length heads → left ≡ suc i → (node_at nodes i ≡ node → ⊥) → left' ≡ (link_at links i).next
    → IsSearch nodes links heads node b left → IsSearch nodes links heads node b left' × (left' < left)
search-next key nodes links heads node b left i left' h e d other is s =
    let f = bucket_of links (length heads) in
    let within : left ≤ length nodes = s.within in
    let lt : i < length nodes = omega arith in
    let last : left' ≡ last_in f b i = is ∙ h.chained.next i lt ∙ ap (λ b. last_in f b i) (s.chain i d) in
    let le = last-le f b i in (
      record {
        within = omega arith;
        chain = λ k q. last-is f b i k (sym last ∙ q);
        above = λ j from l is. ⊎_elim
            (λ (m : j < i). let z : j < last_in f b i = last-after f b i j m (in-bucket key nodes links heads node b j h e l is) in absurd (omega arith))
            (λ (g : i ≤ j). ⊎_elim
            (λ (m : j < left). let q : j ≡ i = omega arith in absurd (other (ap (node_at nodes) (sym q) ∙ is)))
            (λ (g : left ≤ j). absurd (s.above j g l is))
            (cases_lt j left))
            (cases_lt j i);
      },
      omega arith,
    )

pub search-none : (nodes : List Node) (links : List Link) (heads : List ℕ) (node : Node) (b left : ℕ) → IsSearch nodes links heads node b left → left ≡ 0
    → IsAbsent nodes node
search-none nodes links heads node b left s e j lt is = s.above j (omega arith) lt is
