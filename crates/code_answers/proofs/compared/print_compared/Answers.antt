use Rattle.std.proofs.Common.{◌≡◌, ◌≤◌, ◌<◌, ◌∙◌, refl, arith}
use Rattle.code_answers.proofs.CaseLemmas.{cases_may, counted_whole, misses_few}
use Rattle.code_answers.proofs.compared.print_compared.Goals as goal

pub print_batch-requires-clause-may : goal.print_batch-requires-clause-may
print_batch-requires-clause-may g c = λ κs held. cases_may c.args.loaded.now c.args.expected.now 0 c.args.rows.now c.args.expected.now refl c.requires.many
    c.requires.expected

pub returns-clause-count : goal.returns-clause-count
returns-clause-count g c =
    counted_whole c.print_batch.result _
    (let few = misses_few c.args.loaded.now.face c.args.expected.now 0 c.args.rows.now _
    (cases_may c.args.loaded.now c.args.expected.now 0 c.args.rows.now c.args.expected.now refl c.requires.many c.requires.expected) in
    let rows = c.requires.few in omega (arith, few, rows))
    c.print_batch.ensures.count
