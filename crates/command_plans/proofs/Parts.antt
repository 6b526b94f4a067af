-- How gathering continues after the rule files, with and without a driver or requests.
use Rattle.std.proofs.Common.{◌≡◌, ℕ, true, false, List, Option, Some, None, Result, Ok, sym, subst, cond}
use Rattle.m_places.specs.declared.limits.TheConstants.{FILE_BYTES}
use Rattle.command_plans.specs.Plan.{Plan, done, file_plan, and_then}
use Rattle.command_plans.specs.Trips.{GoesAlong}
use Rattle.command_plans.specs.Views.{FilesView}
use Rattle.command_plans.specs.declared.ending.Ending.{Ending}
use Rattle.command_plans.proofs.Trips.{along_done}
use Rattle.command_plans.specs.Source.{is_none, optional_plan}

-- the plan of a file whose name isn't `-`
abbrev pub present : List ℕ → Plan (Option (List ℕ))
present name = and_then (file_plan name FILE_BYTES) (λ bytes. done (Some bytes))

pub absent : (view : FilesView) (name : List ℕ) → is_none name ≡ true → GoesAlong (optional_plan name) view view (Ok None)
absent view name e = subst (λ b. GoesAlong (cond b (done None) (present name)) view view (Ok None)) (sym e) (along_done view None)

pub there : (before after : FilesView) (name : List ℕ) (result : Result (Option (List ℕ)) Ending) → is_none name ≡ false
    → GoesAlong (present name) before after result → GoesAlong (optional_plan name) before after result
there before after name result e a = subst (λ b. GoesAlong (cond b (done None) (present name)) before after result) (sym e) a
