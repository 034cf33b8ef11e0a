use Rattle.cdc_audit_state.proofs.Words.{codes, on_ok_weaker, spaced, ◌++◌}
use Rattle.cdc_audit_state.proofs.PrintingLemmas.{pieces}
use Rattle.cdc_audit_state.proofs.printing.push_fields.Goals as goal

pub returns : goal.returns
returns c =
    let f = c.args.fields.now in
    on_ok_weaker c.write_text.result (λ end.
    pieces _ c.write_named.new.writer.items _ (codes "fields" ++ spaced c.args.id) _ c.in_ok-write_named.ensures
    (pieces _ c.write_spaced.new.writer.items _ (spaced f.user_data_128) _ c.in_ok-write_spaced.ensures
    (pieces _ c.write_spaced-2.new.writer.items _ (spaced f.user_data_64) _ c.in_ok-write_spaced-2.ensures
    (pieces _ c.write_spaced-3.new.writer.items _ (spaced f.user_data_32) _ c.in_ok-write_spaced-3.ensures
    (pieces _ c.write_spaced-4.new.writer.items _ (spaced f.ledger) _ c.in_ok-write_spaced-4.ensures
    (pieces _ c.write_spaced-5.new.writer.items _ (spaced f.code) _ c.in_ok-write_spaced-5.ensures
    (pieces _ c.write_spaced-6.new.writer.items _ (spaced f.flags) _ c.in_ok-write_spaced-6.ensures
    (pieces _ c.write_spaced-7.new.writer.items _ (spaced f.timestamp) _ c.in_ok-write_spaced-7.ensures end))))))))
    c.write_text.ensures
