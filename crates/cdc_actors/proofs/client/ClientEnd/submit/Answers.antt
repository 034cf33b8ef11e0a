use Rattle.std.proofs.Common.{◌≡◌, ◌∙◌, false, sym, ap, subst}
use Rattle.std.proofs.lemmas.Result.{IfOk-weaker}
use Rattle.cdc_ledger_actors.specs.Client.{IsClient, ClientCore}
use Rattle.cdc_actors.specs.Ends.{ActorState}
use Rattle.cdc_actor_work.specs.Faults.{IsTurnFault}
use Rattle.cdc_ledger_actors.specs.Seats.{client_seat}
use Rattle.cdc_actors.proofs.Keeping.{come_so}
use Rattle.cdc_actor_work.proofs.Staying.{stays_by}
use Rattle.cdc_ledger_actors.proofs.Seated.{asked_seat, replied_seat}
use Rattle.cdc_ledger_actors.proofs.ClientLemmas.Talking.{answered_is}
use Rattle.cdc_actors.proofs.client.ClientEnd.submit.Goals as goal

pub invariant_of-self : goal.invariant_of-self
invariant_of-self g c =
    let inside = c.self.inside in
    let asked = c.ask-outcome in
    let talks : inside.work.finished ≡ false =
    subst (λ (s : ActorState ClientCore). s.work.finished ≡ false) (sym c.self.view_is) c.requires in
    come_so IsClient (λ _ fault. IsTurnFault fault) asked.result asked.new.self c.come_to.new.work c.come_to.new.fault
    c.come_to.ensures.work
    (IfOk-weaker asked.result _ _
    (λ reply answered.
    answered_is inside.work asked.new.self c.args.batch reply (c.self.invariant.0 c.in_default.is) talks answered)
    asked.ensures.answered)
    asked.ensures.kind c.come_to.ensures.met
    (IfOk-weaker asked.result _ _ (λ reply same. same ∙ c.in_default.is) c.come_to.ensures.well)

pub returns-clause-seat : goal.returns-clause-seat
returns-clause-seat g c =
    let asked = c.ask-outcome in
    let seat : client_seat asked.new.self ≡ client_seat c.self.inside.work =
    stays_by asked.result _ _ (λ reply is. replied_seat c.self.inside.work c.args.batch reply asked.new.self is)
    (λ fault asks. asked_seat c.args.batch c.self.inside.work fault asked.new.self asks) asked.ensures.answered
    asked.ensures.failed in
    ap client_seat c.come_to.ensures.work ∙ seat ∙ ap (λ (s : ActorState ClientCore). client_seat s.work) c.self.view_is
