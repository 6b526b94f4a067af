-- The source of `large N` is valid.
use Rattle.std.proofs.Common.{ℕ, ◌+◌, ◌-◌, ◌≤◌, [], ◌∷◌, None, sym, ap, ◌∙◌, subst, append-nil}
use Rattle.m_places.specs.declared.source.Text.{Text}
use Rattle.m_lexer.specs.Tokens.{start_of}
use Rattle.m_places.specs.declared.place.Place.{Place}
use Rattle.rule_base.specs.Files.{SaysItems, SayAll, no_files, a_file}
use Rattle.m_resolve.specs.Bases.{resolved}
use Rattle.m_compile.specs.Sources.{without, IsValid}
use Rattle.m_large.specs.Large.{base_name, base_text}
use Rattle.large_validity.specs.Sources.{large_source}
use Rattle.large_validity.specs.Valid.{IsLargeValid}
use Rattle.large_validity.proofs.Given.{parsed_household, pairs}
use Rattle.large_validity.proofs.Lines.{base_tokens, base_lexes, base_shallow}
use Rattle.large_validity.proofs.Items.{base_items, base_spelled}
use Rattle.large_validity.proofs.Variables.{declared, base_declares}
use Rattle.large_validity.proofs.Faultless.{base_free}
use Rattle.large_validity.proofs.Rules.{base_expands, base_expansion}
use Rattle.large_validity.proofs.Base.{base_of, base_resolved}
use Rattle.large_validity.proofs.Order.{base_acyclic}
use Rattle.large_validity.proofs.RequestLemmas.{base_requested, base_light}

-- the place where the only rule file begins
abbrev pub start : Place
start = start_of 0

abbrev pub the_text : ℕ → Text
the_text n = record { name = base_name; bytes = base_text n }

text_meaning : (n : ℕ) → 1 ≤ n → n ≤ 100000 → SaysItems 0 (the_text n) (base_items start n)
text_meaning n some few = record {
  tokens = base_tokens start n;
  lexed = base_lexes n some few start;
  shallow = base_shallow n start;
  spelled = base_spelled n
      some few start;
}

texts_mean : (n : ℕ) → 1 ≤ n → n ≤ 100000 → SayAll 0 (the_text n ∷ []) (base_items start n)
texts_mean n some few = subst (SayAll 0 (the_text n ∷ [])) (append-nil (base_items start n)) (a_file (text_meaning n some few) no_files)

-- The source of `large N` is valid.
pub source_valid : (n : ℕ) → 1 ≤ n → n ≤ 100000 → IsValid (large_source n) (declared start n) (base_of start n) None ((n - 1 + (n - 1) + 1) ∷ [])
source_valid n some few = record {
  rules = record {
    made = record {
      items = base_items start n;
      declares = record { stated = texts_mean n some few; faultless = base_free start n some few };
      symbols = sym (base_declares start n);
      expands = base_expands start n (declared start n) some few;
      resolves = ap (resolved (declared start n)) (base_expansion start n (declared start n)) ∙ base_resolved start n some few;
    };
    no_cycle = base_acyclic start n;
  };
  driven = without;
  requested = base_requested start n some few;
  light = base_light start n few ((n - 1 + (n - 1) + 1) ∷ []);
}

-- The generated source and household have no fault.
pub is_valid : (n : ℕ) → 1 ≤ n → n ≤ 100000 → IsLargeValid n
is_valid n some few = record {
  declared = declared start n;
  base = base_of start n;
  requests = (n - 1 + (n - 1) + 1) ∷ [];
  valid = source_valid n some few;
  pairs = pairs n;
  given = parsed_household start n few;
}
