use Rattle.std.proofs.Common.{arith}
use Rattle.cdc_audit_state.proofs.RowLemmas.{drop_less}
use Rattle.cdc_checked_state.specs.Rows.{account_byte}
use Rattle.cdc_checked_state.proofs.RowLemmas.{account_reads}
use Rattle.cdc_checked_state.proofs.rows.account_row.Goals as goal

pub returns-clause-reads : goal.returns-clause-reads
returns-clause-reads c = account_reads c.args.text.now _ _ c.requires c.read_account.ensures.reads

pub returns-clause-shorter : goal.returns-clause-shorter
returns-clause-shorter c =
    omega (
      arith,
      c.read_account.ensures.shorter,
      drop_less 7 account_byte c.args.text.now c.requires (omega arith) (omega arith),
    )
