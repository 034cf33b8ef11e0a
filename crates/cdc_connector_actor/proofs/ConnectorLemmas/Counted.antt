-- How many messages a connector actor has received.
use Rattle.cdc_connector_actor.proofs.Words.{◌+◌, ◌≡◌, ◌≤◌, Bool, ConnectorCore, Course, Incoming, IsReplyReceived, Option, Past, ToConnector, arith, length, subst, sym, ℕ}
use Rattle.cdc_actor_work.proofs.Counted.{one_received}

-- no more than one and so many further ones, since it was so
abbrev pub HasReceivedFew : ℕ → ConnectorCore → ConnectorCore → Type 0
HasReceivedFew more old new = length new.inbox.received ≤ length old.inbox.received + 1 + more

-- a message that was taken is one more
counted_next : (old : ConnectorCore) (course : Course) (moved : Bool) (new : ConnectorCore)
    → IsReplyReceived old course moved new → length new.inbox.received ≡ length old.inbox.received + 1
counted_next old course moved new is =
    one_received old.inbox new.inbox (is.takes.0, (is.message, is.takes.1)) is.takes.4

pub few_first : (old : ConnectorCore) (course : Course) (moved : Bool) (new : ConnectorCore)
    → IsReplyReceived old course moved new → HasReceivedFew 0 old new
few_first old course moved new is = omega (arith, counted_next old course moved new is)

pub few_next : (more : ℕ) (old mid : ConnectorCore) (course : Course) (moved : Bool) (new : ConnectorCore)
    → HasReceivedFew more old mid → IsReplyReceived mid course moved new → HasReceivedFew (more + 1) old new
few_next more old mid course moved new few is = omega (arith, few, counted_next mid course moved new is)

-- also if there was none to take
pub few_none : (more most : ℕ) (old mid new : ConnectorCore) → more ≤ most → HasReceivedFew more old mid → new ≡ mid
    → HasReceivedFew most old new
few_none more most old mid new below few same = rw same (omega (arith, few, below))

-- and what only sends receives none
pub few_kept : (more : ℕ) (old mid new : ConnectorCore) → HasReceivedFew more old mid → new.inbox ≡ mid.inbox
    → HasReceivedFew more old new
few_kept more old mid new few same =
    subst
    (λ (i : Incoming ToConnector (Option Past)). length i.received ≤ length old.inbox.received + 1 + more) (sym same)
    few
