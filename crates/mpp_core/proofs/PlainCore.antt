-- The driver of a source without one is valid.
use Rattle.std.proofs.Common.{◌≡◌, ◌<◌, ℕ, zero, suc, inl, inr, List, [], ◌∷◌, length, All, Result, Ok, Err, refl, sym, subst, arith, not}
use Rattle.std.specs.Prelude.{IfOk}
use Rattle.std.proofs.lemmas.List.Elements.{All-nil, All-cons, All-filter}
use Rattle.m_symbols.specs.Declarations.{Declared, owners_from}
use Rattle.micro_m.specs.Reads.{IsCycle}
use Rattle.driver_core.specs.declared.program.Core.{Core}
use Rattle.driver_core.specs.Actions.{Action, solve}
use Rattle.driver_core.specs.ActionView.{block_of}
use Rattle.driver_core.specs.Valid.{body_among, BlockCalls, BlockIsWithin, Calls, IsValidCore}
use Rattle.m_symbols.specs.Cells.{owner_of}
use Rattle.mpp_core.specs.Cores.{plain_core, received_cells}
use Rattle.mpp_core.specs.Names.{is_a_constant}

abbrev received_alone : List ℕ → Action
received_alone cells = solve 1 (length cells) cells

no_calls : (received : List ℕ) (f g : ℕ) → BlockCalls (body_among ((received_alone received ∷ []) ∷ []) f) g → ⊥
no_calls received zero g (inl e) = e
no_calls received zero g (inr e) = e
no_calls received (suc f) g e = e

no_ring : (requests : List ℕ) (d : Declared) (functions : List ℕ) → IsCycle (Calls (plain_core requests d)) functions → ⊥
no_ring requests d [] r = r
no_ring requests d (f ∷ []) r = no_calls (received_cells requests d) f f r.1
no_ring requests d (f ∷ g ∷ rest) r = no_calls (received_cells requests d) f g r.1.0

plain_valid : (requests : List ℕ) (d : Declared) → All (λ c. c < length (owners_from 0 d.variables)) requests → IsValidCore (plain_core requests d)
plain_valid requests d h =
    let all = length (owners_from 0 d.variables) in
    let known = All-filter (λ cell. not (is_a_constant (owner_of d cell))) (λ c. c < all) requests h in
    record {
      in_range = record {
        names = refl;
        main = omega arith;
        bodies = All-cons (λ (commands : List Action). BlockIsWithin all 1 (block_of commands)) (received_alone (received_cells requests d) ∷ []) [] (known, tt)
            (All-nil (λ (commands : List Action). BlockIsWithin all 1 (block_of commands)));
      };
      no_ring = no_ring requests d;
    }

pub valid_plain : {E : Type 0} (requests : List ℕ) (d : Declared) (result : Result Core E) → All (λ c. c < length (owners_from 0 d.variables)) requests
    → IfOk result (λ core. core ≡ plain_core requests d) → IfOk result IsValidCore
valid_plain requests d (Ok core) h e = subst IsValidCore (sym e) (plain_valid requests d h)
valid_plain requests d (Err error) h e = tt
