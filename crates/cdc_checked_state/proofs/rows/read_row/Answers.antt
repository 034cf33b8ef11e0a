use Rattle.std.proofs.Common.{arith}
use Rattle.cdc_checked_state.proofs.RowLemmas.{no_row}
use Rattle.cdc_checked_state.proofs.rows.read_row.Goals as goal

pub returns-in_default-clause-reads : goal.returns-in_default-clause-reads
returns-in_default-clause-reads c row rest fits whole =
    no_row c.first.result c.args.text.now row rest c.first.ensures whole (λ e. omega arith) (λ e. omega arith)
    (λ e. omega arith)
