-- A measure for recursion over terms that counts the indexes of loops too.
use Rattle.std.proofs.Common.{ℕ, ◌+◌, ◌*◌, length}
use Rattle.m_ast.specs.Syntax.{Syntax, lit, named, the_x, cell, apply, chain, among, loop, Terms, no_terms, a_term, Links, no_links, a_link, Members}
use Rattle.m_ast.specs.Syntax.{no_members, a_member}

abbrev mutual
  pub load : Syntax → ℕ
  load (lit v) = 1
  load (named n p) = 1
  load (the_x p) = 1
  load (cell n a p) = load a + 2
  load (apply op all) = terms_load all + 2
  load (chain a all) = load a + links_load all + 2
  load (among negated a all) = load a + members_load all + 2
  load (loop h a) = load a + 3 * length h.indexes + 3

  pub terms_load : Terms → ℕ
  terms_load no_terms = 0
  terms_load (a_term a rest) = load a + terms_load rest + 1

  pub links_load : Links → ℕ
  links_load no_links = 0
  links_load (a_link op a rest) = load a + links_load rest + 1

  pub members_load : Members → ℕ
  members_load no_members = 0
  members_load (a_member a b rest) = load a + load b + members_load rest + 1
