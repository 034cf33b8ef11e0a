use Rattle.std.proofs.Common.{ap, arith, length, subst, ◌^◌}
use Rattle.cdc_codec.specs.ReadBack.{ReadsNumber}
use Rattle.cdc_audit_state.proofs.RowLemmas.{drop_less}
use Rattle.cdc_checked_state.specs.Rows.{known_byte}
use Rattle.cdc_checked_state.proofs.RowLemmas.{known_reads}
use Rattle.cdc_checked_state.proofs.rows.known_row.Goals as goal

pub returns-clause-reads : goal.returns-clause-reads
returns-clause-reads c =
    known_reads c.args.text.now _ _ _ _ c.requires
    (subst (λ t. ReadsNumber (2 ^ 128) t c.number-id.result.0 c.number-id.result.1.now) c.skip.ensures.rest
    c.number-id.ensures.reads)
    c.read_known.ensures.reads

pub returns-clause-shorter : goal.returns-clause-shorter
returns-clause-shorter c =
    omega (
      arith,
      ap length c.skip.ensures.rest,
      drop_less 5 known_byte c.args.text.now c.requires (omega arith) (omega arith),
    )
