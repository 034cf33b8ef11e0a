use Rattle.cdc_audit.proofs.Words.{codes}
use Rattle.cdc_audit.specs.Texts.{shared_text}
use Rattle.cdc_audit.proofs.TextLemmas.{on_ok_then, pieces}
use Rattle.cdc_audit.proofs.texts.push_reason.Goals as goal

pub returns-in_ok-push_shared-in-NextIsEvent : goal.returns-in_ok-push_shared-in-NextIsEvent
returns-in_ok-push_shared-in-NextIsEvent c =
    rw c.in-NextIsEvent.is (on_ok_then c.push-in-NextIsEvent.result c.push-in-NextIsEvent.ensures
    (λ last. pieces _ c.push_shared-in-NextIsEvent.new.text.items _
    (shared_text c.in-NextIsEvent.id c.in-NextIsEvent.created) _ c.in_ok-push_shared-in-NextIsEvent.ensures last))

pub returns-in-LongChain : goal.returns-in-LongChain
returns-in-LongChain c = rw c.in-LongChain.is c.push_around-in-LongChain.ensures

pub returns-in-NoNext : goal.returns-in-NoNext
returns-in-NoNext c = rw c.in-NoNext.is c.push_around-in-NoNext.ensures
