-- A spelling takes at least one token.
use Rattle.std.proofs.Common.{ℕ, Bool, List}
use Rattle.m_places.specs.declared.limits.TheConstants.{BRACKET_DEPTH}
use Rattle.m_lexer.specs.declared.token.Token.{Token}
use Rattle.m_lexer.specs.declared.token.Key.{Key as AKey}
use Rattle.m_ast.specs.declared.header.Header.{Header}
use Rattle.m_ast.specs.declared.item.Slot.{Slot}
use Rattle.m_lexer.specs.Chains.{First, ended, further}
use Rattle.m_terms.specs.Grammar.{SpellsInner}
use Rattle.m_terms.specs.Terms.{SpellsTerm}
use Rattle.m_terms.proofs.Passes.{Behind, over, next, Passes, first_passes}
use Rattle.m_terms.proofs.HeaderLaws.{header_passes}
use Rattle.m_terms.proofs.TermCompletes.{inner_passes, expr_passes}
use Rattle.m_items.specs.Tokens.{word}
use Rattle.m_items.proofs.DeclarationPassLaws.{applications_passes}
use Rattle.m_items.specs.Many.{Many, no_more, one_more, OneOrMore, one}
use Rattle.m_items.specs.RuleGrammar.{SpellsHead, head, SpellsLoop, loop, SpellsLoops, SpellsSlot, no_index, every_cell, one_cell, SpellsFormula, formula}
use Rattle.m_items.specs.RuleGrammar.{SpellsChaining, unchained, chained, SpellsRule, rule, SpellsCheck, check, SpellsVerification, verification}

term_passes : Passes SpellsTerm
term_passes = expr_passes (SpellsInner BRACKET_DEPTH) (inner_passes BRACKET_DEPTH)

-- Optional parts, after others.
pub many_on : {A : Type 0} (R : A → List Token → List Token → Type 0) → Passes R → {xs : List A} {ts mid rest : List Token} → Behind mid ts → Many R xs mid rest
    → Behind rest ts
many_on R passes b no_more = b
many_on R passes b (one_more d e) = many_on R passes (over b (passes _ _ _ d)) e

words_on : {words : List (List ℕ)} {ts mid rest : List Token} → Behind mid ts → Many (First word) words mid rest → Behind rest ts
words_on = many_on (First word) (λ _ _ _ d. first_passes d)

slot_on : {s : Slot} {ts mid rest : List Token} → Behind mid ts → SpellsSlot s mid rest → Behind rest ts
slot_on b no_index = b
slot_on b (every_cell o k c) = over b (over (first_passes o) (over (first_passes k) (first_passes c)))
slot_on b (one_cell o d c) = over b (over (first_passes o) (over (first_passes d) (first_passes c)))

chaining_on : {c : Bool} {ts mid rest : List Token} → Behind mid ts → SpellsChaining c mid rest → Behind rest ts
chaining_on b unchained = b
chaining_on b (chained k s d e) = over b (over (first_passes k) (over (first_passes s) (over (first_passes d) (first_passes e))))

one_or_more_passes : {A : Type 0} (R : A → List Token → List Token → Type 0) → Passes R → Passes (OneOrMore R)
one_or_more_passes R passes _ _ _ (one d e) = many_on R passes (passes _ _ _ d) e

-- Wholes.
head_passes : (k : AKey) → Passes (SpellsHead k)
head_passes k _ _ _ (head d w e s f g) = over (words_on (first_passes d) w)
    (over (first_passes e) (over (first_passes s) (over (applications_passes _ _ _ f) (first_passes g))))

pub loop_passes : Passes SpellsLoop
loop_passes _ _ _ (loop d s) = over (header_passes _ _ _ d) (first_passes s)

loops_then : {hs : List Header} {ts mid rest : List Token} → SpellsLoops hs ts mid → Behind rest mid → Behind rest ts
loops_then ended b = b
loops_then (further o d c) b = over (over next (loop_passes _ _ _ d)) (loops_then c b)

pub formula_passes : Passes SpellsFormula
formula_passes _ _ _ (formula l d e s f g) = loops_then l
    (over (slot_on (first_passes d) e) (over (first_passes s) (over (term_passes _ _ _ f) (first_passes g))))

pub rule_passes : Passes SpellsRule
rule_passes _ _ _ (rule d e f) = over (chaining_on (head_passes _ _ _ _ d) e) (one_or_more_passes SpellsFormula formula_passes _ _ _ f)

pub check_passes : Passes SpellsCheck
check_passes _ _ _ (check d e f g h w s) = over (first_passes d)
    (over (term_passes _ _ _ e) (over (first_passes f) (over (first_passes g) (over (words_on (first_passes h) w) (first_passes s)))))

pub verification_passes : Passes SpellsVerification
verification_passes _ _ _ (verification d e) = over (head_passes _ _ _ _ d) (one_or_more_passes SpellsCheck check_passes _ _ _ e)
