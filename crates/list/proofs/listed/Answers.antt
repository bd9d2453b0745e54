-- `listed` prints what compile answers, and that is what the definition shows.
use Rattle.list.proofs.Lists.{front_listable, table_listed, refusal_listed}
use Rattle.list.proofs.listed.Goals as goal

pub print_table-requires : goal.print_table-requires
print_table-requires c = front_listable c.requires c.in-Ok.ensures

pub returns-in-Ok : goal.returns-in-Ok
returns-in-Ok c = table_listed c.requires c.in-Ok.ensures c.print_table.ensures

pub returns-in-Err : goal.returns-in-Err
returns-in-Err c = refusal_listed c.requires c.in-Err.ensures (rw c.from.ensures at c.print_refusal.ensures)
