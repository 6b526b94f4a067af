-- Errors of loops and letters, and which of several is reported.
use Rattle.std.specs.Prelude.{ℕ, Bool, true, false, ◌&&◌, ◌||◌, ◌==◌, List, [], ◌∷◌, ◌++◌, Option, None, Some, replicate, nat_lt, not, slice_set}
use Rattle.std.specs.Prelude.{slice_index_or, if◌then◌else◌}
use Rattle.std.specs.Char.{is_ascii_lowercase}
use Rattle.std.specs.List.{flat_map, list_any}
use Rattle.m_places.specs.declared.place.Place.{Place}
use Rattle.m_ast.specs.declared.header.Header.{Header}
use Rattle.m_ast.specs.declared.header.Index.{Index}
use Rattle.m_ast.specs.declared.item.Formula.{Formula}
use Rattle.m_ast.specs.declared.item.CheckItem.{CheckItem}
use Rattle.m_ast.specs.declared.item.Item.{Item}
use Rattle.m_ast.specs.declared.item.Item.TheVariants.{Rule, Verif}
use Rattle.m_ast.specs.Syntax.{Syntax, lit, named, the_x, cell, apply, chain, among, loop, Terms, no_terms, a_term, Links, no_links, a_link, Members}
use Rattle.m_ast.specs.Syntax.{no_members, a_member}
use Rattle.loop_values.specs.Headers.{instance_count, all_indexes, is_bad_index}
use Rattle.loop_values.specs.Values.{is_nothing}
use Rattle.index_expand.specs.declared.fault.ExpandFault.{ExpandFault}
use Rattle.index_expand.specs.declared.fault.ExpandFault.TheVariants.{BadRange, LoopTooLarge, UnboundIndex, TooManyParts, Memory}

-- for each byte whether an enclosing loop binds the letter
abbrev pub Scope : Type 0
Scope = List Bool

-- the scope outside of all loops
abbrev pub no_scope : Scope
no_scope = replicate 256 false

-- the scope within a loop over these indexes
abbrev pub scope_within : List Index → Scope → Scope
scope_within [] scope = scope
scope_within (index ∷ rest) scope = scope_within rest (slice_set scope index.letter true)

-- a letter from a to z that no loop binds
abbrev pub is_unbound_letter : Scope → ℕ → Bool
is_unbound_letter scope byte = is_ascii_lowercase byte && not (slice_index_or scope byte false)

-- a word with such a letter has a fault, at the word
abbrev pub word_faults : Scope → List ℕ → Place → List ExpandFault
word_faults scope word place = if list_any (is_unbound_letter scope) word then UnboundIndex place ∷ [] else []

-- the faulty indexes of a header
abbrev pub bad_ranges : List Index → List Index → List ExpandFault
bad_ranges header [] = []
bad_ranges header (index ∷ rest) = if is_bad_index header index then BadRange index.place ∷ bad_ranges header rest else bad_ranges header rest

-- a header without faulty indexes and with more than 10,000 instances is too large
abbrev pub too_large : Header → List ExpandFault
too_large header = if nat_lt 10000 (instance_count header.indexes) then LoopTooLarge header.place ∷ [] else []

abbrev pub header_faults : Header → List ExpandFault
header_faults header =
    if is_nothing (bad_ranges header.indexes header.indexes) then too_large header else bad_ranges header.indexes header.indexes

abbrev mutual
  pub term_faults : Scope → Syntax → List ExpandFault
  term_faults scope (lit v) = []
  term_faults scope (named word place) = word_faults scope word place
  term_faults scope (the_x place) = []
  term_faults scope (cell word index place) = word_faults scope word place ++ term_faults scope index
  term_faults scope (apply op all) = terms_faults scope all
  term_faults scope (chain a all) = term_faults scope a ++ links_faults scope all
  term_faults scope (among negated a all) = term_faults scope a ++ members_faults scope all
  term_faults scope (loop header a) = header_faults header ++ term_faults (scope_within header.indexes scope) a

  pub terms_faults : Scope → Terms → List ExpandFault
  terms_faults scope no_terms = []
  terms_faults scope (a_term a rest) = term_faults scope a ++ terms_faults scope rest

  pub links_faults : Scope → Links → List ExpandFault
  links_faults scope no_links = []
  links_faults scope (a_link op a rest) = term_faults scope a ++ links_faults scope rest

  pub members_faults : Scope → Members → List ExpandFault
  members_faults scope no_members = []
  members_faults scope (a_member a b rest) = term_faults scope a ++ (term_faults scope b ++ members_faults scope rest)

-- the scope within all loops of a formula
abbrev pub formula_scope : Formula → Scope
formula_scope formula = scope_within (all_indexes formula.loops) no_scope

-- the faults of a formula's headers, then of its target, then of its term
abbrev pub formula_faults : Formula → List ExpandFault
formula_faults formula =
    flat_map header_faults formula.loops
    ++ (word_faults (formula_scope formula) formula.target formula.place ++ term_faults (formula_scope formula) formula.term)

abbrev pub check_faults : CheckItem → List ExpandFault
check_faults check = term_faults no_scope check.condition

abbrev pub item_faults : Item → List ExpandFault
item_faults (Rule r) = flat_map formula_faults r.formulas
item_faults (Verif v) = flat_map check_faults v.checks
item_faults _ = []

-- ---- the reported fault

abbrev pub place_of : ExpandFault → Place
place_of (BadRange place) = place
place_of (LoopTooLarge place) = place
place_of (UnboundIndex place) = place
place_of (TooManyParts place) = place
place_of Memory = record { file = 0; byte = 0; line = 0 }

-- a place in an earlier file, or at an earlier byte of the same file
abbrev pub is_before : Place → Place → Bool
is_before p q = nat_lt p.file q.file || (p.file == q.file && nat_lt p.byte q.byte)

-- the fault with the lesser place; the first may be missing
abbrev pub earlier : Option ExpandFault → ExpandFault → Option ExpandFault
earlier None fault = Some fault
earlier (Some first) fault = if is_before (place_of fault) (place_of first) then Some fault else Some first

-- the fault with the least place
abbrev pub least : Option ExpandFault → List ExpandFault → Option ExpandFault
least first [] = first
least first (fault ∷ faults) = least (earlier first fault) faults
