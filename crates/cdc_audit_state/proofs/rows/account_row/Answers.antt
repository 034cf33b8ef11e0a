use Rattle.cdc_audit_state.proofs.Words.{account_byte, arith}
use Rattle.cdc_audit_state.proofs.RowLemmas.{account_reads, drop_less}
use Rattle.cdc_audit_state.proofs.rows.account_row.Goals as goal

pub returns-clause-reads : goal.returns-clause-reads
returns-clause-reads c = account_reads c.args.text.now _ _ c.requires c.read_account.ensures.reads

pub returns-clause-shorter : goal.returns-clause-shorter
returns-clause-shorter c =
    omega (
      arith,
      c.read_account.ensures.shorter,
      drop_less 7 account_byte c.args.text.now c.requires (omega arith) (omega arith),
    )
