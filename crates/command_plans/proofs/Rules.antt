-- How the rule files are gathered one after another.
use Rattle.std.proofs.Common.{◌≡◌, ◌≤◌, ◌<◌, ◌+◌, ℕ, suc, ◌-◌, arith, get_or, drop, List, [], ◌∷◌, ◌++◌, length, min, Result, Ok, Err, sym, ◌∙◌, subst}
use Rattle.std.proofs.Common.{append_assoc}
use Rattle.std.proofs.Math.Seq.{drop-cons}
use Rattle.std.proofs.lemmas.List.{append-nil, drop_all}
use Rattle.std.specs.Prelude.{IsErrAnd}
use Rattle.m_places.specs.declared.limits.TheConstants.{FILE_BYTES}
use Rattle.command_plans.specs.Plan.{Plan, file_plan}
use Rattle.command_plans.specs.Trips.{GoesAlong}
use Rattle.command_plans.specs.Views.{FilesView}
use Rattle.command_plans.specs.declared.ending.Ending.{Ending}
use Rattle.command_plans.specs.declared.ending.Ending.TheVariants.{Memory}
use Rattle.command_plans.proofs.Trips.{along_then, along_ended, along_done, along_without_memory}
use Rattle.command_plans.specs.Source.{rules_plan}
use Rattle.m_places.specs.declared.source.Text.{Text}

-- gathered texts, before the result of the rest
abbrev pub behind : List Text → Result (List Text) Ending → Result (List Text) Ending
behind texts (Ok more) = Ok (texts ++ more)
behind texts (Err ending) = Err ending

-- a call along the plan of the rest is, with the texts gathered before, one along the whole plan
abbrev pub Resumes : Plan (List Text) → FilesView → Plan (List Text) → FilesView → List Text → Type 0
Resumes whole before rest now texts = (after : FilesView) (result : Result (List Text) Ending) → GoesAlong rest now after result
    → GoesAlong whole before after (behind texts result)

pub resumes_first : (whole : Plan (List Text)) (view : FilesView) (texts : List Text) → texts ≡ [] → Resumes whole view whole view texts
resumes_first whole view texts e after (Ok more) g = subst (λ (l : List Text). GoesAlong whole view after (Ok (l ++ more))) (sym e) g
resumes_first whole view texts e after (Err ending) g = g

-- one more file was fetched
pub resumes_next : (whole : Plan (List Text)) (before now mid : FilesView) (texts : List Text) (left : ℕ) (name copy bytes : List ℕ) (names : List (List ℕ))
    → copy ≡ name → Resumes whole before (rules_plan left (name ∷ names)) now texts → GoesAlong (file_plan name (min FILE_BYTES left)) now mid (Ok bytes)
    → Resumes whole before (rules_plan (left - length bytes) names) mid (texts ++ record { name = copy; bytes = bytes } ∷ [])
resumes_next whole before now mid texts left name copy bytes names same r f after (Ok more) g =
    subst (λ (n : List ℕ). GoesAlong whole before after (Ok ((texts ++ record { name = n; bytes = bytes } ∷ []) ++ more))) (sym same)
    (subst (λ (l : List Text). GoesAlong whole before after (Ok l)) (sym (append_assoc texts (record { name = name; bytes = bytes } ∷ []) more))
    (r after (Ok (record { name = name; bytes = bytes } ∷ more)) (along_then (file_plan name (min FILE_BYTES left)) _ now mid after bytes _ f
    (along_then (rules_plan (left - length bytes) names) _ mid after after more _ g (along_done after (record { name = name; bytes = bytes } ∷ more))))))
resumes_next whole before now mid texts left name copy bytes names same r f after (Err ending) g =
    r after (Err ending) (along_then (file_plan name (min FILE_BYTES left)) _ now mid after bytes (Err ending) f
    (along_ended (rules_plan (left - length bytes) names) _ mid after ending g))

-- the elements from i on are the element at i and those after it
drop_next : {A : Type 0} (xs : List A) (i : ℕ) (x : A) → i < length xs → x ≡ get_or xs i x → drop i xs ≡ x ∷ drop (i + 1) xs
drop_next xs i x h e = let one : suc i ≡ i + 1 = omega arith in drop-cons xs i x h ∙ (λ k. sym e k ∷ drop (one k) xs)

-- at the file with this number: the invariant on the remaining files, for this file and those after it
at_file : (names : List (List ℕ)) (i : ℕ) (name : List ℕ) (whole : Plan (List Text)) (before now : FilesView) (texts : List Text) (left : ℕ)
    → i < length names → name ≡ get_or names i name → Resumes whole before (rules_plan left (drop i names)) now texts
    → Resumes whole before (rules_plan left (name ∷ drop (i + 1) names)) now texts
at_file names i name whole before now texts left h e r = subst (λ (l : List (List ℕ)). Resumes whole before (rules_plan left l) now texts)
    (drop_next names i name h e) r

-- one turn of the loop
pub rules_turn : (names : List (List ℕ)) (i : ℕ) (name copy bytes read : List ℕ) (whole : Plan (List Text)) (before now mid : FilesView) (texts new : List Text)
    (left limit : ℕ)
    → i < length names → name ≡ get_or names i name → limit ≡ min FILE_BYTES left → copy ≡ name → read ≡ bytes
    → new ≡ texts ++ record { name = copy; bytes = bytes } ∷ []
    → Resumes whole before (rules_plan left (drop i names)) now texts → GoesAlong (file_plan name limit) now mid (Ok bytes)
    → Resumes whole before (rules_plan (left - length read) (drop (i + 1) names)) mid new
rules_turn names i name copy bytes read whole before now mid texts new left limit h e l c d n r f =
    subst (λ (t : List Text). Resumes whole before (rules_plan (left - length read) (drop (i + 1) names)) mid t) (sym n)
    (subst (λ (b : List ℕ). Resumes whole before (rules_plan (left - length b) (drop (i + 1) names)) mid (texts ++ record { name = copy; bytes = bytes } ∷ []))
    (sym d)
    (resumes_next whole before now mid texts left name copy bytes (drop (i + 1) names) c (at_file names i name whole before now texts left h e r)
    (subst (λ (m : ℕ). GoesAlong (file_plan name m) now mid (Ok bytes)) l f)))

-- a file that can't be fetched ends the loop
pub rules_end : (names : List (List ℕ)) (i : ℕ) (name : List ℕ) (whole : Plan (List Text)) (before now mid : FilesView) (texts : List Text) (left limit : ℕ)
    (ending : Ending) (result : Result (List Text) Ending)
    → i < length names → name ≡ get_or names i name → limit ≡ min FILE_BYTES left → Resumes whole before (rules_plan left (drop i names)) now texts
    → GoesAlong (file_plan name limit) now mid (Err ending) → IsErrAnd result (λ x. x ≡ ending) → GoesAlong whole before mid result
rules_end names i name whole before now mid texts left limit ending (Ok all) h e l r f g = absurd g
rules_end names i name whole before now mid texts left limit ending (Err other) h e l r f g =
    subst (λ x. GoesAlong whole before mid (Err x)) (sym g)
    (at_file names i name whole before now texts left h e r mid (Err ending)
    (along_ended (file_plan name (min FILE_BYTES left)) _ now mid ending (subst (λ (m : ℕ). GoesAlong (file_plan name m) now mid (Err ending)) l f)))

-- out of memory after a file was fetched
pub rules_stop : (names : List (List ℕ)) (i : ℕ) (name bytes : List ℕ) (whole : Plan (List Text)) (before now mid : FilesView) (texts : List Text)
    (left limit : ℕ) (result : Result (List Text) Ending)
    → i < length names → name ≡ get_or names i name → limit ≡ min FILE_BYTES left → Resumes whole before (rules_plan left (drop i names)) now texts
    → GoesAlong (file_plan name limit) now mid (Ok bytes) → IsErrAnd result (λ x. x ≡ Memory) → GoesAlong whole before mid result
rules_stop names i name bytes whole before now mid texts left limit (Ok all) h e l r f g = absurd g
rules_stop names i name bytes whole before now mid texts left limit (Err other) h e l r f g =
    subst (λ x. GoesAlong whole before mid (Err x)) (sym g)
    (at_file names i name whole before now texts left h e r mid (Err Memory)
    (along_then (file_plan name (min FILE_BYTES left)) _ now mid mid bytes (Err Memory) (subst (λ (m : ℕ). GoesAlong (file_plan name m) now mid (Ok bytes)) l f)
    (along_without_memory _ mid)))

-- all files were fetched
pub rules_whole : (names : List (List ℕ)) (i : ℕ) (whole : Plan (List Text)) (before now : FilesView) (texts all : List Text) (left : ℕ)
    → length names ≤ i → all ≡ texts → Resumes whole before (rules_plan left (drop i names)) now texts → GoesAlong whole before now (Ok all)
rules_whole names i whole before now texts all left h e r =
    subst (λ (l : List Text). GoesAlong whole before now (Ok l)) (append-nil texts ∙ sym e)
    (subst (λ (l : List (List ℕ)). Resumes whole before (rules_plan left l) now texts) (drop_all i names h) r now (Ok []) (along_done now []))
