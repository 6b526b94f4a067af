-- A source, or rule files alone, is valid in one way or has one fault, never both.
use Rattle.std.proofs.Common.{◌≡◌, ◌<◌, ℕ, List, Option, Some, Result, Ok, Err, refl, ap, ◌∙◌, subst, arith}
use Rattle.m_places.specs.declared.limits.TheConstants.{DRIVER_WEIGHT}
use Rattle.m_places.specs.declared.source.Source.{Source}
use Rattle.m_places.specs.declared.source.Text.{Text}
use Rattle.m_symbols.specs.Declarations.{Declared}
use Rattle.micro_m.specs.declared.base.Base.{Base}
use Rattle.micro_m.specs.Reads.{HasNoCycle}
use Rattle.driver_core.specs.declared.program.Core.{Core}
use Rattle.driver_core.specs.Weights.{weight_of}
use Rattle.m_symbols.specs.declared.request_fault.RequestFault.{RequestFault}
use Rattle.m_symbols.specs.Requests.{parsed_requests}
use Rattle.mpp_lexer.specs.declared.fault.DriverFault.{DriverFault}
use Rattle.mpp_parser.specs.declared.command.Driver.{Driver}
use Rattle.mpp_parser.specs.Faults.{IsDriver, IsFault}
use Rattle.mpp_parser.proofs.FaultLaws.{one_driver_of, driver_or_fault, one_fault as one_line_fault}
use Rattle.mpp_core.specs.declared.fault.CoreFault.{CoreFault}
use Rattle.mpp_core.specs.Cores.{IsCore, IsCoreFault, AreOneCoreFault, the_same as the_same_core, both_rings as both_core_rings}
use Rattle.mpp_core.proofs.OneLaws.{one_core, no_core_and_fault, one_fault as one_core_fault}
use Rattle.rule_base.specs.Base.{IsBaseOf}
use Rattle.rule_base.specs.declared.fault.RuleFault.{RuleFault}
use Rattle.rule_base.specs.Faults.{IsRuleFault, AreOneRuleFault, the_same as the_same_rules, both_cycles as both_rule_cycles}
use Rattle.rule_base.proofs.OneLaws.{one_base, no_base_and_fault, one_fault as one_rule_fault}
use Rattle.m_compile.specs.declared.fault.SourceFault.{SourceFault}
use Rattle.m_compile.specs.declared.fault.SourceFault.TheVariants.{Rules, Driver as DriverIs, Core as CoreIs, Requests, DriverTooLarge}
use Rattle.m_compile.specs.Sources.{HasRules, IsWritten, without, by_driver, running, IsValid}
use Rattle.m_compile.specs.Faults.{observation_weight, IsBaseFault, of_files, IsSourceFault, of_rules, of_driver, of_core, of_requests, of_weight}
use Rattle.m_compile.specs.Faults.{AreOneSourceFault, the_same, both_cycles, both_rings}

some_one : {A : Type 0} {o : Option A} {x y : A} → o ≡ Some x → o ≡ Some y → x ≡ y
some_one e f = cc

ok_one : {A E : Type 0} {r : Result A E} {x y : A} → r ≡ Ok x → r ≡ Ok y → x ≡ y
ok_one e f = cc

err_one : {A E : Type 0} {r : Result A E} {x y : E} → r ≡ Err x → r ≡ Err y → x ≡ y
err_one e f = cc

ok_or_err : {A E : Type 0} {r : Result A E} {x : A} {y : E} → r ≡ Ok x → r ≡ Err y → ⊥
ok_or_err e f = cc

-- The rules.
rules_one : (source : Source) {declared others : Declared} {base other : Base} → HasRules source declared base → HasRules source others other
    → (declared ≡ others) × (base ≡ other)
rules_one source {declared} {others} {base} {other} a b = one_base source.texts source.application declared others base other a.made b.made

rules_or_fault : (source : Source) {declared : Declared} {base : Base} {fault : RuleFault} → HasRules source declared base
    → IsRuleFault source.texts source.application fault → ⊥
rules_or_fault source {declared} {base} {fault} a f = no_base_and_fault source.texts source.application declared base fault a.made a.no_cycle f

-- The driver.
core_moved : (driver other : Driver) (declared others : Declared) (core : Core) → driver ≡ other → declared ≡ others → IsCore driver declared core
    → IsCore other others core
core_moved driver other declared others core e f c = subst (λ (k : Declared). IsCore other k core) f (subst (λ (d : Driver). IsCore d declared core) e c)

written_one : (declared : Declared) (driver : Option (List ℕ)) (written another : Option Core) → IsWritten declared driver written
    → IsWritten declared driver another → written ≡ another
written_one declared _ _ _ without without = refl
written_one declared _ _ _ (by_driver {bytes = bs} {core = c} d s k) (by_driver {core = c'} d' s' k') =
    let e = one_driver_of bs d d' s s' in
    ap Some (one_core d' declared c c' (subst (λ (x : Driver). IsCore x declared c) e k) k')

-- a driver parses, and its names resolve over the declarations
written_spells : (declared : Declared) (driver : Option (List ℕ)) (written : Option Core) (bytes : List ℕ) → driver ≡ Some bytes
    → IsWritten declared driver written
    → (spelled : Driver) × (core : Core) × IsDriver bytes spelled × IsCore spelled declared core
written_spells declared _ _ bytes e without = absurd (cc)
written_spells declared _ _ bytes e (by_driver {bytes = bs} {core = c} d s k) = let f : bs ≡ bytes = cc in (d, c, subst (λ (b : List ℕ). IsDriver b d) f s, k)

lines_well : (declared : Declared) (driver : Option (List ℕ)) (written : Option Core) (bytes : List ℕ) (fault : DriverFault) → driver ≡ Some bytes
    → IsWritten declared driver written → IsFault bytes fault → ⊥
lines_well declared driver written bytes fault e w f = let p = written_spells declared driver written bytes e w in driver_or_fault bytes p.0 fault p.2 f

names_well : (declared others : Declared) (driver : Option (List ℕ)) (written : Option Core) (bytes : List ℕ) (spelled : Driver) (fault : CoreFault)
    → declared ≡ others → driver ≡ Some bytes → IsWritten declared driver written
    → IsDriver bytes spelled → IsCoreFault spelled others fault → ⊥
names_well declared others driver written bytes spelled fault s e w d f =
    let p = written_spells declared driver written bytes e w in
    no_core_and_fault spelled others p.1 fault (core_moved p.0 spelled declared others p.1 (one_driver_of bytes p.0 spelled p.2 d) s p.3) f

written_at : (source : Source) {declared others : Declared} {written : Option Core} → declared ≡ others → IsWritten declared source.driver written
    → IsWritten others source.driver written
written_at source {written = written} s w = subst (λ (k : Declared). IsWritten k source.driver written) s w

-- The requests.
requests_one : (source : Source) {declared others : Declared} → declared ≡ others → parsed_requests source.requests declared ≡ parsed_requests source.requests
    others
requests_one source s = ap (parsed_requests source.requests) s

pub one_validity : (source : Source) (declared others : Declared) (base other : Base) (written another : Option Core) (requests wanted : List ℕ)
    → IsValid source declared base written requests → IsValid source others other another wanted
    → (declared ≡ others) × (base ≡ other) × (written ≡ another) × (requests ≡ wanted)
one_validity source declared others base other written another requests wanted a b =
    let r = rules_one source a.rules b.rules in (
      r.0,
      r.1,
      written_one others source.driver written another (written_at source r.0 a.driven) b.driven,
      ok_one a.requested (requests_one source r.0
          ∙ b.requested),
    )

-- a source whose weight exceeds the limit isn't valid
weight_same : {declared others : Declared} {base other : Base} {written another : Option Core} {requests wanted : List ℕ} → declared ≡ others → base ≡ other
    → written ≡ another → requests ≡ wanted
    → weight_of (running written requests declared) base ≡ weight_of (running another wanted others) other
weight_same d b w r = λ i. weight_of (running (w i) (r i) (d i)) (b i)

pub no_valid_and_fault : (source : Source) (declared : Declared) (base : Base) (written : Option Core) (requests : List ℕ) (fault : SourceFault)
    → IsValid source declared base written requests → IsSourceFault source fault → ⊥
no_valid_and_fault source declared base written requests _ v (of_rules f) = rules_or_fault source v.rules f
no_valid_and_fault source declared base written requests _ v (of_driver {bytes = bs} {fault = g} h e f) = lines_well declared source.driver written bs g e
    v.driven f
no_valid_and_fault source declared base written requests _ v (of_core {declared = others} {bytes = bs} {fault = g} driver h e d f) =
    names_well declared others source.driver written bs driver g (rules_one source v.rules h).0 e v.driven d f
no_valid_and_fault source declared base written requests _ v (of_requests h w e) = ok_or_err v.requested (requests_one source (rules_one source v.rules h).0
    ∙ e)
no_valid_and_fault source declared base written requests _ v (of_weight {declared = others} {base = other} {written = another} {requests = wanted} h w r less) =
    let s = rules_one source v.rules h in
    let same = weight_same s.0 s.1 (written_one others source.driver written another (written_at source s.0 v.driven) w)
    (ok_one v.requested (requests_one source s.0 ∙ r)) in
    let light = v.light in
    absurd (omega (arith, light, less, same))

-- A fault of an earlier step excludes one of a later step.
one_of_rules : {fault other : RuleFault} → AreOneRuleFault fault other → AreOneSourceFault (Rules fault) (Rules other)
one_of_rules (the_same_rules e) = the_same (ap Rules e)
one_of_rules both_rule_cycles = both_cycles

one_of_core : {fault other : CoreFault} → AreOneCoreFault fault other → AreOneSourceFault (CoreIs fault) (CoreIs other)
one_of_core (the_same_core e) = the_same (ap CoreIs e)
one_of_core both_core_rings = both_rings

by_rules : (source : Source) (fault : RuleFault) (other : SourceFault) → IsRuleFault source.texts source.application fault → IsSourceFault source other
    → AreOneSourceFault (Rules fault) other
by_rules source fault _ f (of_rules {fault = g} k) = one_of_rules (one_rule_fault source.texts source.application fault g f k)
by_rules source fault _ f (of_driver h e k) = absurd (rules_or_fault source h f)
by_rules source fault _ f (of_core driver h e d k) = absurd (rules_or_fault source h f)
by_rules source fault _ f (of_requests h w e) = absurd (rules_or_fault source h f)
by_rules source fault _ f (of_weight h w r less) = absurd (rules_or_fault source h f)

by_lines : (source : Source) (declared : Declared) (base : Base) (bytes : List ℕ) (fault : DriverFault) (other : SourceFault) → HasRules source declared base
    → source.driver ≡ Some bytes → IsFault bytes fault
    → IsSourceFault source other → AreOneSourceFault (DriverIs fault) other
by_lines source declared base bytes fault _ a e f (of_rules k) = absurd (rules_or_fault source a k)
by_lines source declared base bytes fault _ a e f (of_driver {bytes = bs} {fault = g} h i k) =
    the_same (ap DriverIs (one_line_fault bs fault g (subst (λ (b : List ℕ). IsFault b fault) (some_one e i) f) k))
by_lines source declared base bytes fault _ a e f (of_core driver h i d k) = absurd
    (driver_or_fault bytes driver fault (subst (λ (b : List ℕ). IsDriver b driver) (some_one i e) d) f)
by_lines source declared base bytes fault _ a e f (of_requests {declared = others} {written = w} h x i) = absurd
    (lines_well others source.driver w bytes fault e x f)
by_lines source declared base bytes fault _ a e f (of_weight {declared = others} {written = w} h x r less) = absurd
    (lines_well others source.driver w bytes fault e x f)

by_names : (source : Source) (declared : Declared) (base : Base) (bytes : List ℕ) (spelled : Driver) (fault : CoreFault) (other : SourceFault)
    → HasRules source declared base → source.driver ≡ Some bytes → IsDriver bytes spelled
    → IsCoreFault spelled declared fault → IsSourceFault source other → AreOneSourceFault (CoreIs fault) other
by_names source declared base bytes spelled fault _ a e d f (of_rules k) = absurd (rules_or_fault source a k)
by_names source declared base bytes spelled fault _ a e d f (of_driver {fault = g} h i k) = absurd
    (driver_or_fault bytes spelled g d (subst (λ (b : List ℕ). IsFault b g) (some_one i e) k))
by_names source declared base bytes spelled fault _ a e d f (of_core {declared = others} {bytes = bs} {fault = g} driver h i c k) =
    let s = (rules_one source a h).0 in
    let same = one_driver_of bs spelled driver (subst (λ (b : List ℕ). IsDriver b spelled) (some_one e i) d) c in
    one_of_core (one_core_fault driver others fault g
    (subst (λ (k : Declared). IsCoreFault driver k fault) s (subst (λ (x : Driver). IsCoreFault x declared fault) same f)) k)
by_names source declared base bytes spelled fault _ a e d f (of_requests {declared = others} {written = w} h x i) = absurd
    (names_well others declared source.driver w bytes spelled fault (rules_one source h a).0 e x d f)
by_names source declared base bytes spelled fault _ a e d f (of_weight {declared = others} {written = w} h x r less) = absurd
    (names_well others declared source.driver w bytes spelled fault (rules_one source h a).0 e x d f)

by_requests : (source : Source) (declared : Declared) (base : Base) (written : Option Core) (fault : RequestFault) (other : SourceFault)
    → HasRules source declared base → IsWritten declared source.driver written
    → parsed_requests source.requests declared ≡ Err fault → IsSourceFault source other → AreOneSourceFault (Requests fault) other
by_requests source declared base written fault _ a w e (of_rules k) = absurd (rules_or_fault source a k)
by_requests source declared base written fault _ a w e (of_driver {bytes = bs} {fault = g} h i k) = absurd
    (lines_well declared source.driver written bs g i w k)
by_requests source declared base written fault _ a w e (of_core {declared = others} {bytes = bs} {fault = g} driver h i d k) = absurd
    (names_well declared others source.driver written bs driver g (rules_one source a h).0 i w d k)
by_requests source declared base written fault _ a w e (of_requests h x i) = the_same
    (ap Requests (err_one e (requests_one source (rules_one source a h).0 ∙ i)))
by_requests source declared base written fault _ a w e (of_weight h x r less) = absurd (ok_or_err r (requests_one source (rules_one source h a).0 ∙ e))

by_weight : (source : Source) (declared : Declared) (base : Base) (written : Option Core) (requests : List ℕ) (other : SourceFault)
    → HasRules source declared base → IsWritten declared source.driver written
    → parsed_requests source.requests declared ≡ Ok requests → DRIVER_WEIGHT < weight_of (running written requests declared) base → IsSourceFault source other
    → AreOneSourceFault (DriverTooLarge (observation_weight (running written requests declared) base)) other
by_weight source declared base written requests _ a w e less (of_rules k) = absurd (rules_or_fault source a k)
by_weight source declared base written requests _ a w e less (of_driver {bytes = bs} {fault = g} h i k) = absurd
    (lines_well declared source.driver written bs g i w k)
by_weight source declared base written requests _ a w e less (of_core {declared = others} {bytes = bs} {fault = g} driver h i d k) =
    absurd (names_well declared others source.driver written bs driver g (rules_one source a h).0 i w d k)
by_weight source declared base written requests _ a w e less (of_requests h x i) = absurd (ok_or_err e (requests_one source (rules_one source a h).0 ∙ i))
by_weight source declared base written requests _ a w e less (of_weight {declared = others} {base = other} {written = another} {requests = wanted} h x r more) =
    let s = rules_one source a h in
    let q = written_one others source.driver written another (written_at source s.0 w) x in
    let p = ok_one e (requests_one source s.0 ∙ r) in
    the_same (λ i. DriverTooLarge (observation_weight (running (q i) (p i) (s.0 i)) (s.1 i)))

pub one_fault : (source : Source) (fault other : SourceFault) → IsSourceFault source fault → IsSourceFault source other → AreOneSourceFault fault other
one_fault source _ other (of_rules {fault = f} k) h = by_rules source f other k h
one_fault source _ other (of_driver {declared = d} {base = b} {bytes = bs} {fault = f} a e k) h = by_lines source d b bs f other a e k h
one_fault source _ other (of_core {declared = d} {base = b} {bytes = bs} {fault = f} driver a e s k) h = by_names source d b bs driver f other a e s k h
one_fault source _ other (of_requests {declared = d} {base = b} {written = w} {fault = f} a x e) h = by_requests source d b w f other a x e h
one_fault source _ other (of_weight {declared = d} {base = b} {written = w} {requests = r} a x e less) h = by_weight source d b w r other a x e less h

-- ---- rule files alone

pub one_rules : (source : Source) (declared others : Declared) (base other : Base) → HasRules source declared base → HasRules source others other
    → (declared ≡ others) × (base ≡ other)
one_rules source declared others base other a b = rules_one source a b

pub no_base_and_base_fault : (texts : List Text) (application : List ℕ) (declared : Declared) (base : Base) (fault : SourceFault)
    → IsBaseOf texts application declared base → HasNoCycle base → IsBaseFault texts application fault → ⊥
no_base_and_base_fault texts application declared base _ made free (of_files {fault = f} k) = no_base_and_fault texts application declared base f made free k

pub one_base_fault : (texts : List Text) (application : List ℕ) (fault other : SourceFault) → IsBaseFault texts application fault
    → IsBaseFault texts application other → AreOneSourceFault fault other
one_base_fault texts application _ _ (of_files {fault = f} k) (of_files {fault = g} l) = one_of_rules (one_rule_fault texts application f g k l)

pub base_fault_of_source : (source : Source) (fault : SourceFault) → IsBaseFault source.texts source.application fault → IsSourceFault source fault
base_fault_of_source source _ (of_files k) = of_rules k
