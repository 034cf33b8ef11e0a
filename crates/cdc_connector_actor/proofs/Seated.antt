-- What a turn of the connector leaves as it is: its seat.
use Rattle.cdc_connector_actor.proofs.Words.{◌∙◌, ◌≡◌, Bool, ConnectorCore, IsOfSame, IsWorkingTurn, None, Option, Origin, RunFault, SessionState, Some, WorkHasFailed, ap, false, origin_of, refl, true}
use Rattle.cdc_connector_actor.specs.Seats.{connector_seat, origin_if}
use Rattle.cdc_connector_actor.proofs.ConnectorLemmas.Taking.{link_of_many, link_of_taken, taken_same}
use Rattle.cdc_connector_actor.proofs.ConnectorLemmas.Turns.{same_trans}

-- the connector's
origin_stays : (honest : Bool) (new old : Origin) → (honest ≡ true → new ≡ old)
    → origin_if honest new ≡ origin_if honest old
origin_stays true new old same = ap Some (same refl)
origin_stays false new old same = refl

same_seat : (old new : ConnectorCore) → IsOfSame old new → new.inbox.link ≡ old.inbox.link
    → connector_seat new ≡ connector_seat old
same_seat old new same inbox =
    let origin : origin_if new.honest (origin_of new) ≡ origin_if old.honest (origin_of old) =
    ap (λ (b : Bool). origin_if b (origin_of new)) same.honest
    ∙ origin_stays old.honest (origin_of new) (origin_of old) same.origin in
    λ i. record {
      inbox = inbox i;
      polls = same.polls i;
      packets = same.packets i;
      honest = same.honest i;
      risks = same.risks i;
      origin = origin i;
      window = same.window i;
      restarts = same.restarts i;
    }

pub working_seat : (session : Option SessionState) (old new : ConnectorCore) → IsWorkingTurn session old new
    → connector_seat new ≡ connector_seat old
working_seat None old new is = same_seat old new is.same (λ i. (is.inbox i).link)
working_seat (Some kept) old new is =
    same_seat old new (same_trans old is.taken new (taken_same old is.messages is.taken is.takes) is.follows.same)
    ((λ i. (is.follows.inbox i).link) ∙ link_of_taken old is.messages is.taken is.takes)

pub failed_work_seat : (old : ConnectorCore) (fault : RunFault) (new : ConnectorCore) → WorkHasFailed old fault new
    → connector_seat new ≡ connector_seat old
failed_work_seat old fault new has =
    same_seat old new has.same (link_of_many has.inbox.0 old.inbox new.inbox has.inbox.1)
