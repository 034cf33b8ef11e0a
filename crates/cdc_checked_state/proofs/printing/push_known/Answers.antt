use Rattle.std.proofs.Common.{◌++◌}
use Rattle.std.proofs.lemmas.Result.{on_ok_weaker}
use Rattle.std.specs.Prelude.{codes}
use Rattle.cdc_codec.specs.Texts.{spaced}
use Rattle.cdc_audit_state.proofs.PrintingLemmas.{pieces}
use Rattle.cdc_checked_state.proofs.printing.push_known.Goals as goal

pub returns : goal.returns
returns c =
    let k = c.args.known.now in
    on_ok_weaker c.write_text.result (λ end.
    pieces _ c.write_named.new.writer.items _ (codes "known" ++ spaced c.args.id) _ c.in_ok-write_named.ensures
    (pieces _ c.write_spaced.new.writer.items _ (spaced k.balances.debits_pending) _ c.in_ok-write_spaced.ensures
    (pieces _ c.write_spaced-2.new.writer.items _ (spaced k.balances.debits_posted) _ c.in_ok-write_spaced-2.ensures
    (pieces _ c.write_spaced-3.new.writer.items _ (spaced k.balances.credits_pending) _ c.in_ok-write_spaced-3.ensures
    (pieces _ c.write_spaced-4.new.writer.items _ (spaced k.balances.credits_posted) _ c.in_ok-write_spaced-4.ensures
    (pieces _ c.write_spaced-5.new.writer.items _ (spaced k.last) _ c.in_ok-write_spaced-5.ensures end))))))
    c.write_text.ensures
