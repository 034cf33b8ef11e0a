use Rattle.std.specs.Prelude.{string_bytes}
use Rattle.cdc_streams.proofs.SavingLemmas.{part_of_all}
use Rattle.cdc_chain_command.proofs.RunLemmas.{on_err, whole_write}
use Rattle.cdc_chain_command.proofs.printing.save.Goals as goal

pub returns-in_err-keep-clause-err : goal.returns-in_err-keep-clause-err
returns-in_err-keep-clause-err g c =
    on_err c.from_residual-in_err-keep.result (
      part_of_all (string_bytes c.args.lines.now) _ _
          (whole_write c.in_ok-write_lines.field-0 _ _ _ (string_bytes c.write_lines.new.lines)
          c.in_ok-write_lines.ensures.writes c.in_ok-write_lines.ensures.none),
      c.in_err-keep.ensures.refused,
    )
