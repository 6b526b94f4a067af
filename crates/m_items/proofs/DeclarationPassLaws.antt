-- A spelling takes at least one token.
use Rattle.std.proofs.Common.{ℕ, ℤ, List, Option}
use Rattle.m_lexer.specs.declared.token.Token.{Token}
use Rattle.m_lexer.specs.declared.token.Sign.TheVariants as signs
use Rattle.m_lexer.specs.Chains.{First, Chain, ended, further}
use Rattle.m_terms.specs.Tokens.{is_sign}
use Rattle.m_terms.proofs.Passes.{Behind, over, skip, Passes, first_passes, joined_passes}
use Rattle.m_items.specs.Tokens.{word, text}
use Rattle.m_items.specs.DeclarationGrammar.{Attribute, attribute, Attributes, SpellsAmount, positive, negative, SpellsNumber, without, with_one}
use Rattle.m_items.specs.DeclarationGrammar.{SpellsAttributes, attributes, SpellsType, no_type, a_type, SpellsEnd, ending, SpellsSize, no_table, table, input}
use Rattle.m_items.specs.DeclarationGrammar.{computed, constant, error, SpellsApplications, applications, SpellsDeclaration, a_variable, an_error}
use Rattle.m_items.specs.DeclarationGrammar.{an_application, a_chaining}

amount_passes : Passes SpellsAmount
amount_passes _ _ _ (positive d) = first_passes d
amount_passes _ _ _ (negative s d) = over (first_passes s) (first_passes d)

-- Optional parts, after others.
pub number_on : {z : Option ℤ} {ts mid rest : List Token} → Behind mid ts → SpellsNumber z mid rest → Behind rest ts
number_on b without = b
number_on b (with_one s d) = over b (over (first_passes s) (amount_passes _ _ _ d))

chain_on : {xs : List Attribute} {ts mid rest : List Token} → Behind mid ts → Chain word attribute SpellsNumber xs mid rest → Behind rest ts
chain_on b ended = b
chain_on b (further o d c) = chain_on (number_on (skip b) d) c

attributes_on : {l : Attributes} {ts mid rest : List Token} → Behind mid ts → SpellsAttributes l mid rest → Behind rest ts
attributes_on b (attributes c) = chain_on b c

type_on : {w : Option (List ℕ)} {ts mid rest : List Token} → Behind mid ts → SpellsType w mid rest → Behind rest ts
type_on b no_type = b
type_on b (a_type k d) = over b (over (first_passes k) (first_passes d))

size_on : {n : Option ℕ} {ts mid rest : List Token} → Behind mid ts → SpellsSize n mid rest → Behind rest ts
size_on b no_table = b
size_on b (table k s d e) = over b (over (first_passes k) (over (first_passes s) (over (first_passes d) (first_passes e))))

end_passes : Passes SpellsEnd
end_passes _ _ _ (ending s d e f) = over (type_on (over (first_passes s) (first_passes d)) e) (first_passes f)

-- Items.
pub applications_passes : Passes SpellsApplications
applications_passes _ _ _ (applications k s d) = over (first_passes k)
    (over (first_passes s) (joined_passes (is_sign signs.Comma) (First word) (λ _ _ _ e. first_passes e) _ _ _ d))

pub declaration_passes : Passes SpellsDeclaration
declaration_passes _ _ _ (a_variable (input d s k e j f g)) = over (attributes_on (over (first_passes d) (over (first_passes s) (first_passes k))) e)
    (over (first_passes j) (over (first_passes f) (end_passes _ _ _ g)))
declaration_passes _ _ _ (a_variable (computed d s e j f g)) = over (attributes_on (over (size_on (over (first_passes d) (first_passes s)) e) (first_passes j))
    f) (end_passes _ _ _ g)
declaration_passes _ _ _ (a_variable (constant d s k f g h)) = over (first_passes d)
    (over (first_passes s) (over (first_passes k) (over (first_passes f) (over (amount_passes _ _ _ g) (first_passes h)))))
declaration_passes _ _ _ (an_error (error d s e f g count h)) = over (first_passes d)
    (over (first_passes s) (over (first_passes e)
    (over (first_passes f) (over (joined_passes (is_sign signs.Colon) (First text) (λ _ _ _ e. first_passes e) _ _ _ g) (first_passes h)))))
declaration_passes _ _ _ (an_application k d s) = over (first_passes k) (over (first_passes d) (first_passes s))
declaration_passes _ _ _ (a_chaining k d e s) = over (first_passes k) (over (first_passes d) (over (applications_passes _ _ _ e) (first_passes s)))
