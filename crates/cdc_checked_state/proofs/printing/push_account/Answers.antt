use Rattle.std.proofs.Common.{◌++◌}
use Rattle.std.proofs.lemmas.Result.{on_ok_weaker}
use Rattle.std.specs.Prelude.{codes}
use Rattle.cdc_codec.specs.Texts.{named, spaced}
use Rattle.cdc_audit_state.proofs.PrintingLemmas.{pieces}
use Rattle.cdc_checked_state.proofs.printing.push_account.Goals as goal

pub returns : goal.returns
returns c =
    let b = c.args.balances.now in
    on_ok_weaker c.write_text.result (λ end.
    pieces _ c.write_named.new.writer.items _ (named (codes "account") c.args.id) _ c.in_ok-write_named.ensures
    (pieces _ c.write_spaced.new.writer.items _ (spaced b.debits_pending) _ c.in_ok-write_spaced.ensures
    (pieces _ c.write_spaced-2.new.writer.items _ (spaced b.debits_posted) _ c.in_ok-write_spaced-2.ensures
    (pieces _ c.write_spaced-3.new.writer.items _ (spaced b.credits_pending) _ c.in_ok-write_spaced-3.ensures
    (pieces _ c.write_spaced-4.new.writer.items _ (spaced b.credits_posted) _ c.in_ok-write_spaced-4.ensures end)))))
    c.write_text.ensures
