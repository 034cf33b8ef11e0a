use Rattle.cdc_audit_state.proofs.Words.{ReadsNumber, ap, arith, length, subst, time_byte, ◌^◌}
use Rattle.cdc_audit_state.proofs.RowLemmas.{drop_less, time_reads}
use Rattle.cdc_audit_state.proofs.rows.time_row.Goals as goal

pub returns-clause-reads : goal.returns-clause-reads
returns-clause-reads c =
    time_reads c.args.text.now _ _ _ c.requires
    (subst (λ t. ReadsNumber (2 ^ 64) t c.number_64-timestamp.result.0 c.number_64-timestamp.result.1.now)
    c.skip.ensures.rest
    c.number_64-timestamp.ensures.reads)
    c.skip-2.ensures.rest

pub returns-clause-shorter : goal.returns-clause-shorter
returns-clause-shorter c =
    omega (
      arith,
      ap length c.skip.ensures.rest,
      drop_less 4 time_byte c.args.text.now c.requires (omega arith) (omega arith),
    )
