use Rattle.std.proofs.lemmas.Result.{on_ok_weaker}
use Rattle.cdc_audit_state.proofs.PrintingLemmas.{pieces}
use Rattle.cdc_checked_state.specs.States.{heading, state_text}
use Rattle.cdc_checked_state.proofs.printing.push_parts.Goals as goal

pub returns : goal.returns
unfolding state_text
returns c =
    on_ok_weaker c.push_rows.result (λ end.
    pieces _ c.push_heading.new.text.items _ (heading c.args.binding.now c.args.follower.now) _
    c.in_ok-push_heading.ensures end) c.push_rows.ensures
