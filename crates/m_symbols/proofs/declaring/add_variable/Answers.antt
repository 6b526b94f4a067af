use Rattle.std.proofs.Common.{◌≡◌, ◌≤◌, ◌+◌, ◌-◌, take, replicate, vec_len, None, List, ◌∷◌, [], ◌++◌, cond, length, refl, sym, ap, ◌∙◌, length-append, subst}
use Rattle.std.proofs.Common.{arith}
use Rattle.std.specs.Prelude.{All}
use Rattle.std.specs.List.{cons_option}
use Rattle.m_ast.specs.declared.variable.VariableItem.{VariableItem}
use Rattle.m_ast.specs.Items.{code_in, is_input}
use Rattle.m_symbols.specs.declared.variable.Variable.{Variable}
use Rattle.m_symbols.specs.Declarations.{name_of, names_of, codes_of, inputs_from, owners_from}
use Rattle.m_symbols.specs.Faults.{variable_fault}
use Rattle.m_symbols.specs.inner.Tables.{declared_in}
use Rattle.m_symbols.proofs.Added.{codes-push, inputs-push, length-names}
use Rattle.m_symbols.proofs.Faultless.{new_name, new_code, few_cells}
use Rattle.m_symbols.proofs.Indexed.{name_added, longest_added, cells_added}
use Rattle.m_symbols.proofs.declaring.add_variable.Goals as goal

pub add_code-requires : goal.add_code-requires
add_code-requires c =
    let fresh = new_code (declared_in c.args.tables.now) c.args.variable.now c.requires.good in rw (c.in_ok-item.ensures, c.requires.indexed.codes) fresh

pub returns-clause-indexed : goal.returns-clause-indexed
returns-clause-indexed c =
    let t = c.args.tables.now in
    let x = c.requires.indexed in
    let vs : List Variable = t.variables.items in
    let v : VariableItem = c.in_ok-item.item in
    let good : variable_fault (declared_in t) v ≡ None = rw c.in_ok-item.ensures c.requires.good in
    let placed : Variable = record { item = v; first_cell = c.len-first_cell.result; cells = c.cells_of-cells.result } in
    let pushed : c.push.new.self.items ≡ vs ++ placed ∷ [] = c.in_ok-push.ensures.items in
    let number : c.len-number.result ≡ length vs = c.len-number.ensures ∙ ap length x.names ∙ length-names vs in
    let counted : vec_len t.owners ≡ length t.owners.items = omega (arith, c.len-first_cell.ensures) in
    let all : c.len-first_cell.result + c.cells_of-cells.result ≡ length t.owners.items + c.cells_of-cells.result = omega (arith, c.len-first_cell.ensures) in
    let filled = c.in_ok-resize.ensures.items
    ∙ ap (λ n. take (c.len-first_cell.result + c.cells_of-cells.result) t.owners.items ++ replicate ((c.len-first_cell.result + c.cells_of-cells.result) - n)
    c.len-number.result) counted in
    let cells = cells_added t.owners.items c.resize.new.self.items vs placed c.len-number.result (c.len-first_cell.result + c.cells_of-cells.result) x.owners
    number all filled in
    record {
      names = name_added name_of t.names c.add.new.self c.in_ok-add.field-0 vs placed x.names (new_name (declared_in t) v good)
          (rw c.bytes-name.ensures at c.in_ok-add.ensures.fresh) (rw c.bytes-name.ensures at c.in_ok-add.ensures.added) ∙ ap names_of (sym pushed);
      longest = subst (All (λ w. length w.item.name ≤ c.longer-tables.result)) (sym pushed)
          (longest_added vs placed t.longest c.longer-tables.result x.longest c.longer-tables.ensures.as_long
          (rw c.bytes-name.ensures at c.longer-tables.ensures.name));
      codes = c.in_ok-add_code.ensures.codes ∙ ap (λ l. l ++ cons_option (code_in v.role) []) x.codes ∙ sym (codes-push vs placed) ∙ ap codes_of (sym pushed);
      owners = cells.0 ∙ ap (owners_from 0) (sym pushed);
      inputs = c.in_ok-add_code.ensures.inputs ∙ ap (λ l. l ++ cond (is_input v.role) (c.len-number.result ∷ []) []) x.inputs
          ∙ sym (inputs-push 0 vs placed c.len-number.result (omega arith)) ∙ ap (inputs_from 0) (sym pushed);
      error_names = x.error_names;
      few = omega (arith, cells.1, c.cells_of-cells.ensures, few_cells (declared_in t) c.args.variable.now c.requires.good, ap length x.owners);
      few_variables = omega (arith, c.requires.room.0, ap length pushed, length-append vs (placed ∷ []));
      few_errors = x.few_errors;
    }
