use Rattle.std.proofs.Common.{◌≡◌, [], ◌∷◌, ◌++◌, length, refl, sym, ap, ◌∙◌, length-append, arith}
use Rattle.m_ast.specs.declared.item.ErrorItem.{ErrorItem}
use Rattle.m_symbols.specs.Declarations.{error_names_of}
use Rattle.m_symbols.specs.inner.Tables.{declared_in}
use Rattle.m_symbols.proofs.Faultless.{new_error}
use Rattle.m_symbols.proofs.Indexed.{name_added}
use Rattle.m_symbols.proofs.declaring.add_error.Goals as goal

pub returns-clause-indexed : goal.returns-clause-indexed
returns-clause-indexed c =
    let t = c.args.tables.now in
    let x = c.requires.indexed in
    let e = c.args.error.now in
    let pushed : c.push.new.self.items ≡ t.errors.items ++ e ∷ [] = c.in_ok-push.ensures.items
    ∙ ap (λ (y : ErrorItem). t.errors.items ++ y ∷ []) c.in_ok-copy.ensures in
    record {
      names = x.names;
      longest = x.longest;
      codes = x.codes;
      owners = x.owners;
      inputs = x.inputs;
      error_names = name_added (λ (y : ErrorItem). y.name) t.error_names c.add.new.self c.in_ok-add.field-0 t.errors.items e x.error_names
          (new_error (declared_in t) e c.requires.good) (rw c.bytes.ensures at c.in_ok-add.ensures.fresh) (rw c.bytes.ensures at c.in_ok-add.ensures.added)
          ∙ ap error_names_of (sym pushed);
      few = x.few;
      few_variables = x.few_variables;
      few_errors = omega (arith, c.requires.room.1, ap length pushed, length-append t.errors.items (e ∷ []));
    }
