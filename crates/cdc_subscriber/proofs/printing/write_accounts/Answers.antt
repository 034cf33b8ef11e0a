use Rattle.std.proofs.Common.{ap, sym, ◌∙◌}
use Rattle.std.proofs.KnownBytes.{Appends-nil}
use Rattle.cdc_subscriber.specs.Book.{entries_of}
use Rattle.cdc_subscriber.proofs.LineLemmas.{printed_none, printed_more, printed_all}
use Rattle.cdc_subscriber.proofs.printing.write_accounts.Goals as goal

pub loop-id-init : goal.loop-id-init
loop-id-init g c =
    let all = c.accounts-id-items.ensures in
    printed_none (sym (ap entries_of c.into_iter-id-iterator.ensures.into_iter_gives ∙ all)) (Appends-nil _)

pub loop-id-preserved : goal.loop-id-preserved
loop-id-preserved g c =
    printed_more c.loop-id.invariant c.in-Some.ensures.steps c.in_ok-write_account.ensures

pub returns : goal.returns
returns g c = printed_all c.loop-id.invariant c.in-None.ensures.steps.0
