-- A list of files, split in two.
use Rattle.std.proofs.Common.{◌≡◌, ◌≢◌, ℕ, zero, suc, ◌+◌, ◌<◌, ◌≤◌, arith, get_or, take, drop, List, [], ◌∷◌, ◌++◌, length, sym, ◌∙◌, subst, append_assoc}
use Rattle.std.proofs.Math.Seq.{drop-cons}
use Rattle.std.proofs.lemmas.List.{append-nil, drop_all}
use Rattle.m_places.specs.declared.limits.TheConstants.{FILE_BYTES}
use Rattle.m_places.specs.declared.source.Text.{Text}
use Rattle.m_places.specs.SourceLimits.{EachIsWithin}
use Rattle.m_ast.specs.declared.item.Item.{Item}
use Rattle.rule_base.specs.declared.read_fault.ReadFault.{ReadFault}
use Rattle.rule_base.specs.Files.{SaysItems, IsFileFault, SayEach, none_each, one_each, IsFirstFileFault, here, later}

-- the first files and those after them
pub both_each : (size number : ℕ) (texts : List Text) (files others : List (List Item)) → SayEach number (take size texts) files
    → SayEach (number + size) (drop size texts) others
    → SayEach number texts (files ++ others)
both_each zero number texts _ others none_each h = subst (λ n. SayEach n texts others) (let e : number + 0 ≡ number = omega arith in e) h
both_each (suc size) number [] _ others none_each none_each = none_each
both_each (suc size) number (text ∷ texts) _ others (one_each {others = files} s k) h =
    one_each s (both_each size (number + 1) texts files others k
    (subst (λ n. SayEach n (drop size texts) others) (let e : number + suc size ≡ number + 1 + size = omega arith in e) h))

-- an error of the first files is that of all
pub front_fault : (size number : ℕ) (texts : List Text) (fault : ReadFault) → IsFirstFileFault number (take size texts) fault
    → IsFirstFileFault number texts fault
front_fault zero number texts fault f = elim f [ ]
front_fault (suc size) number [] fault f = elim f [ ]
front_fault (suc size) number (text ∷ texts) fault (here f) = here f
front_fault (suc size) number (text ∷ texts) fault (later s k) = later s (front_fault size (number + 1) texts fault k)

-- an error after files that parse
pub behind_fault : (size number : ℕ) (texts : List Text) (files : List (List Item)) (fault : ReadFault) → SayEach number (take size texts) files
    → IsFirstFileFault (number + size) (drop size texts) fault
    → IsFirstFileFault number texts fault
behind_fault zero number texts _ fault none_each h = subst (λ n. IsFirstFileFault n texts fault) (let e : number + 0 ≡ number = omega arith in e) h
behind_fault (suc size) number [] _ fault none_each h = elim h [ ]
behind_fault (suc size) number (text ∷ texts) _ fault (one_each {others = files} s k) h =
    later s (behind_fault size (number + 1) texts files fault k
    (subst (λ n. IsFirstFileFault n (drop size texts) fault) (let e : number + suc size ≡ number + 1 + size = omega arith in e) h))

-- some of the files are within the limit
pub within_drop : (n : ℕ) (texts : List Text) → EachIsWithin texts → EachIsWithin (drop n texts)
within_drop zero texts w = w
within_drop (suc n) [] w = tt
within_drop (suc n) (text ∷ texts) w = within_drop n texts w.1

pub within_take : (n : ℕ) (texts : List Text) → EachIsWithin texts → EachIsWithin (take n texts)
within_take zero texts w = tt
within_take (suc n) [] w = tt
within_take (suc n) (text ∷ texts) w = (w.0, within_take n texts w.1)

-- If the files that are left parse, all files parse, with the items so far as a prefix; and an
-- error of theirs is one of all.
pub record Goes (start : ℕ) (texts left : List Text) (number : ℕ) (files : List (List Item)) : Type 0 where
  pub good : (more : List (List Item)) → SayEach number left more → SayEach start texts (files ++ more)
  pub bad : (fault : ReadFault) → IsFirstFileFault number left fault → IsFirstFileFault start texts fault
  pub within : EachIsWithin left

pub goes_first : (start number : ℕ) (texts : List Text) (files : List (List Item)) → number ≡ start → files ≡ [] → EachIsWithin texts
    → Goes start texts texts number files
goes_first start number texts files n e w = record {
  good = λ more s. subst (λ (l : List (List Item)). SayEach start texts (l ++ more)) (sym e) (subst (λ k. SayEach k texts more) n s);
  bad = λ fault f. subst (λ k. IsFirstFileFault k texts fault) n f;
  within = w;
}

-- the elements from i on are the one at i and those after it
drop_next : {A : Type 0} (xs : List A) (i : ℕ) (x : A) → i < length xs → x ≡ get_or xs i x → drop i xs ≡ x ∷ drop (i + 1) xs
drop_next xs i x h e = let one : suc i ≡ i + 1 = omega arith in drop-cons xs i x h ∙ (λ k. sym e k ∷ drop (one k) xs)

pub goes_at : (start : ℕ) (texts : List Text) (i number : ℕ) (text : Text) (files : List (List Item)) → i < length texts → text ≡ get_or texts i text
    → Goes start texts (drop i texts) number files
    → Goes start texts (text ∷ drop (i + 1) texts) number files
goes_at start texts i number text files h e g = subst (λ (l : List Text). Goes start texts l number files) (drop_next texts i text h e) g

-- one more file was read
pub goes_next : (start : ℕ) (texts behind : List Text) (number next : ℕ) (text : Text) (files new : List (List Item)) (items : List Item) → next ≡ number + 1
    → new ≡ files ++ items ∷ []
    → Goes start texts (text ∷ behind) number files → SaysItems number text items → Goes start texts behind next new
goes_next start texts behind number next text files new items n e g s = record {
  good = λ more o. subst (λ (l : List (List Item)). SayEach start texts (l ++ more)) (sym e)
      (subst (λ (l : List (List Item)). SayEach start texts l) (sym (append_assoc files (items ∷ []) more))
      (g.good (items ∷ more) (one_each s (subst (λ k. SayEach k behind more) n o))));
  bad = λ fault f. g.bad fault (later s (subst (λ k. IsFirstFileFault k behind fault) n f));
  within = g.within.1;
}

-- all files were read
pub goes_through : (start : ℕ) (texts : List Text) (i number : ℕ) (files : List (List Item)) → length texts ≤ i → Goes start texts (drop i texts) number files
    → SayEach start texts files
goes_through start texts i number files e g =
    subst (λ (l : List (List Item)). SayEach start texts l) (append-nil files)
    (g.good [] (subst (λ (l : List Text). SayEach number l []) (sym (drop_all i texts e)) none_each))
