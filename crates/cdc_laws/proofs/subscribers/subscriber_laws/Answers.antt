use Rattle.cdc_ledger.proofs.KeptLaws.{IsSound-from_legal}
use Rattle.cdc_laws.proofs.Faithful.{IsFaithful-queue, IsReplay-reception, receives-all, receives-nothing, kept_of-queue}
use Rattle.cdc_laws.proofs.Lines.{all_after_zero, line_after-zero}
use Rattle.cdc_laws.proofs.subscribers.subscriber_laws.Goals as goal

pub returns-clause-sound : goal.returns-clause-sound
returns-clause-sound c = IsSound-from_legal

pub returns-clause-faithful : goal.returns-clause-faithful
returns-clause-faithful c = λ h start binding taken reception is took receives.
    IsFaithful-queue h start binding reception is taken took receives

pub returns-clause-keeps : goal.returns-clause-keeps
returns-clause-keeps c = λ h start binding taken reception is took receives.
    kept_of-queue h start binding reception is taken took receives

pub returns-clause-whole : goal.returns-clause-whole
returns-clause-whole c = receives-all

pub returns-clause-receives : goal.returns-clause-receives
returns-clause-receives c = IsReplay-reception

pub returns-clause-fixed : goal.returns-clause-fixed
returns-clause-fixed c = receives-nothing

pub returns-clause-zero : goal.returns-clause-zero
returns-clause-zero c = λ h is. (all_after_zero h is, line_after-zero h is)
