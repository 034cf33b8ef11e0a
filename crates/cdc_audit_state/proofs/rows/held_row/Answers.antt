use Rattle.cdc_audit_state.proofs.Words.{ReadsNumber, ap, arith, length, pending_byte, subst, ◌^◌}
use Rattle.cdc_audit_state.proofs.RowLemmas.{drop_less, held_reads}
use Rattle.cdc_audit_state.proofs.rows.held_row.Goals as goal

pub returns-clause-reads : goal.returns-clause-reads
returns-clause-reads c =
    held_reads c.args.text.now _ _ _ _ _ c.requires
    (subst (λ t. ReadsNumber (2 ^ 128) t c.number-id.result.0 c.number-id.result.1.now) c.skip.ensures.rest
    c.number-id.ensures.reads)
    c.number-amount.ensures.reads c.skip-2.ensures.rest

pub returns-clause-shorter : goal.returns-clause-shorter
returns-clause-shorter c =
    omega (
      arith,
      ap length c.skip.ensures.rest,
      drop_less 4 pending_byte c.args.text.now c.requires (omega arith) (omega arith),
    )
