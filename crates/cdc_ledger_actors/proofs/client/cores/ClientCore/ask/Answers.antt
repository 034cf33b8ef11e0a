use Rattle.std.proofs.Common.{◌≡◌, ℕ, ◌+◌, true, false, [], ◌∷◌, ◌++◌, rules, sym, ap, ◌∙◌, subst, length, arith}
use Rattle.cdc_ledger_actors.specs.Client.{IsAnswered, IsClient, ClientCore}
use Rattle.cdc_traffic.specs.declared.requests.Reply.{Reply}
use Rattle.cdc_ledger_actors.proofs.ClientLemmas.Talking.{answered_so, may_ask}
use Rattle.std.proofs.Common.{inl, inr}
use Rattle.cdc_ledger_actors.specs.Client.SoFar.{AsksSoFar}
use Rattle.cdc_actor_work.specs.declared.faults.RunFault.TheVariants.{OutOfMemory}
use Rattle.cdc_ledger_actors.proofs.ClientLemmas.Fails.{its_so, other_so, received_so, unheard_so}
use Rattle.cdc_actor_work.proofs.PassedOn.{passed_on}
use Rattle.cdc_ledger_actors.specs.declared.client.cores.ClientCore.TheInside.{Inside}
use Rattle.cdc_ledger_actors.proofs.ClientLemmas.Fields.{seen}
use Rattle.cdc_ledger_actors.proofs.client.cores.ClientCore.ask.Goals as goal
use Rattle.cdc_ledger_actors.proofs.client.cores.ClientCore.ask.Given.{Over}
use Rattle.cdc_ledger_actors.proofs.client.cores.ClientCore.ask.Goals.{In-Some}

-- the client as it was asked, and the number of its request
record IsAsked (fields : Inside) (number : ℕ) : Type 0 where
  is : IsClient (seen fields)
  talks : fields.finished ≡ false
  next : number ≡ length fields.requests.sent + 1

asked : (g : Over) (c : In-Some g) → IsAsked c.self.inside c.in-Some.number
asked g c = record {
  is = subst IsClient (sym c.self.view_is) c.requires.kept;
  talks = subst (λ (t : ClientCore). t.finished ≡ false) (sym c.self.view_is) c.requires.talks;
  next = first_of (omega (arith, c.in-Some.ensures, c.sent_count.ensures.count), search rules);
}

pub send_message-requires : goal.send_message-requires
send_message-requires g c =
    let inside = c.self.inside in
    let talk : ClientCore = seen inside in
    let own = asked g (goal.at.send_message-requires g c).In-Some in
    may_ask talk own.is own.talks c.in-Some.number c.args.batch own.next

pub returns-clause-answered : goal.returns-clause-answered
returns-clause-answered g c =
    let inside = c.self.inside in
    let reply : Reply = c.in_ok-reply.reply in
    let talk : ClientCore = seen inside in
    let own = asked g (goal.at.returns-clause-answered g c).In-Some in
    let yes : c.is_to.result ≡ true = first_of (cc, search rules, grind arith) in
    let agree : (reply.number ≡ c.in-Some.number) × (reply.batch ≡ c.in_ok-copy.copy) = c.is_to.ensures.0 yes in
    let kept : c.push_reserved.new.self.items ≡ inside.replies.items ++ reply ∷ [] =
    cc (c.push_reserved.ensures.items, c.reserve.ensures.items, c.in_ok-try_copy.ensures) in
    subst
    (λ (t : ClientCore). IsAnswered t c.args.batch reply (record talk {
      requests = c.send_message.new.requests;
      answers = c.receive_next.new.answers;
      replies = c.push_reserved.new.self.items;
    })) c.self.view_is
    (answered_so talk own.is own.talks c.args.batch c.in-Some.number reply c.send_message.new.requests
    c.receive_next.new.answers
    c.push_reserved.new.self.items own.next c.in_ok-send_message.ensures.sent c.in_ok-reply.ensures.reception agree.0
    (agree.1 ∙ c.in_ok-copy.ensures) kept)

pub returns-clause-talks : goal.returns-clause-talks
returns-clause-talks g c = ap (λ (t : ClientCore). t.finished) c.self.view_is

pub returns-in_err-reply-clause-failed : goal.returns-in_err-reply-clause-failed
returns-in_err-reply-clause-failed g c =
    let inside = c.self.inside in
    let now = c.args.self.now in
    let talk : ClientCore = seen inside in
    let own = asked g (goal.at.returns-in_err-reply-clause-failed g c).In-Some in
    let gone = c.in_err-reply.ensures.refused in
    passed_on (λ fault. AsksSoFar c.args.batch now fault _) c.from_residual-in_err-reply.result
    c.in_err-reply.field-0.0 c.from_residual-in_err-reply.ensures.1
    (rw gone.0 (inr (inl (unheard_so talk now c.self.view_is own.is own.talks c.args.batch c.in-Some.number own.next
    c.send_message.new.requests c.in_ok-send_message.ensures.sent c.reserve.new.self.items c.reserve.ensures.items
    c.receive_next.new.answers
    gone.1))))

pub returns-in_err-try_copy-clause-failed : goal.returns-in_err-try_copy-clause-failed
returns-in_err-try_copy-clause-failed g c =
    let inside = c.self.inside in
    let now = c.args.self.now in
    let talk : ClientCore = seen inside in
    let own = asked g (goal.at.returns-in_err-try_copy-clause-failed g c).In-Some in
    let reply : Reply = c.in_ok-reply.reply in
    let yes : c.is_to.result ≡ true = first_of (cc, search rules, grind arith) in
    let agree : (reply.number ≡ c.in-Some.number) × (reply.batch ≡ c.in_ok-copy.copy) = c.is_to.ensures.0 yes in
    passed_on (λ fault. AsksSoFar c.args.batch now fault _) c.from_residual-in_err-try_copy.result OutOfMemory
    c.from_residual-in_err-try_copy.ensures.1
    (inr (
      reply,
      (
        received_so talk now c.self.view_is own.is own.talks c.args.batch c.in-Some.number own.next
            c.send_message.new.requests
            c.in_ok-send_message.ensures.sent c.reserve.new.self.items c.reserve.ensures.items
            c.receive_next.new.answers reply
            c.in_ok-reply.ensures.reception,
        its_so talk now c.self.view_is own.is own.talks c.args.batch c.in-Some.number own.next
            c.send_message.new.requests
            c.in_ok-send_message.ensures.sent c.reserve.new.self.items c.reserve.ensures.items reply agree.0
            (agree.1 ∙ c.in_ok-copy.ensures),
      ),
    ))

pub returns-then-not-is_to-clause-failed : goal.returns-then-not-is_to-clause-failed
returns-then-not-is_to-clause-failed g c =
    let inside = c.self.inside in
    let now = c.args.self.now in
    let talk : ClientCore = seen inside in
    let own = asked g (goal.at.returns-then-not-is_to-clause-failed g c).In-Some in
    let reply : Reply = c.in_ok-reply.reply in
    let other : (reply.number ≡ c.in-Some.number) × (reply.batch ≡ c.args.batch) → ⊥ =
    λ its.
    let yes : c.is_to.result ≡ true = c.is_to.ensures.1 (its.0, its.1 ∙ sym c.in_ok-copy.ensures) in
    first_of (cc, search rules, grind arith) in
    inr (inr (
      reply,
      (
        received_so talk now c.self.view_is own.is own.talks c.args.batch c.in-Some.number own.next
            c.send_message.new.requests
            c.in_ok-send_message.ensures.sent c.reserve.new.self.items c.reserve.ensures.items
            c.receive_next.new.answers reply
            c.in_ok-reply.ensures.reception,
        other_so talk now c.self.view_is own.is own.talks c.args.batch c.in-Some.number own.next
            c.send_message.new.requests
            c.in_ok-send_message.ensures.sent c.reserve.new.self.items c.reserve.ensures.items reply other,
      ),
    ))
