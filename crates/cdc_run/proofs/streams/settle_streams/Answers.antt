use Rattle.cdc_run.proofs.Words.{ActorState, All, All-cons, All-map, AllZip, AreJoined, AreSubscribersOf, BrokerCore, CanSend, Consumer, FollowsToConnector, Incoming, IsAccount, IsAccounted, List, Middle, Option, Outgoing, Past, Some, SubscriberCore, ToBroker, ToConnector, [], and_parts, ap, arith, false, has_finished, inr, is_none, length, map, refl, rules, slice_get, subst, sym, true, works_of, ℕ, ◌+◌, ◌∙◌, ◌∷◌, ◌≡◌}
use Rattle.cdc_run.specs.SubscriberMail.{HasFinishedWith}
use Rattle.cdc_run.proofs.Refused.{asked_more, passed_on}
use Rattle.cdc_run.proofs.Streamed.{all_come, packets_left, through}
use Rattle.cdc_run.proofs.Zips.{same_zip}
use Rattle.cdc_run.proofs.streams.settle_streams.Goals as goal

pub settle_link-requires-clause-ours : goal.settle_link-requires-clause-ours
settle_link-requires-clause-ours c =
    let b : BrokerCore = c.args.broker.work in
    let m : Middle = record { inbox = c.args.inbox; replies = c.args.replies; packets = c.args.packets } in
    let is = c.in-Some.ensures.parts in
    let same : c.args.broker.system ≡ c.args.system = first_of (cc, search rules) in
    let joined : AreJoined m b c.args.subscribers.items = c.requires same c.in_ok-mail.ensures.are in
    let P : Outgoing ToBroker (Unit {0}) → Type 0 = λ end. end.link ≡ b.inbox.link in
    let acks : All P (map (λ (s : SubscriberCore). s.acks) (works_of c.args.subscribers.items)) =
    All-map P (λ (s : SubscriberCore). s.acks) (works_of c.args.subscribers.items)
    (All-map (λ (s : SubscriberCore). P s.acks)
    (λ (s : ActorState SubscriberCore). s.work) c.args.subscribers.items joined.acks) in
    subst (λ (into : Incoming ToBroker (Unit {0})).
    All (λ end. end.link ≡ into.link) (c.args.packets ∷ c.in_ok-mail.mail.acks.items)) (sym is.inbox_is)
    (All-cons P c.args.packets c.in_ok-mail.mail.acks.items joined.packets
    (subst (All P) (sym c.in_ok-mail.ensures.mail.acks) acks))

pub returns-clause-come : goal.returns-clause-come
returns-clause-come c d work are =
    let b : BrokerCore = c.args.broker.work in
    let m : Middle = record { inbox = c.args.inbox; replies = c.args.replies; packets = c.args.packets } in
    let subscribers : List (ActorState SubscriberCore) = c.args.subscribers.items in
    let is = c.in-Some.ensures.parts in
    let over : b.finished ≡ true =
    (and_parts (is_none c.args.broker.fault) b.finished (sym c.in-Some.ensures.some)).1 in
    let pair = c.in_ok-settle_pair.ensures.account in
    let account : IsAccount m.inbox (m.replies ∷ b.confirms ∷ []) pair.0 =
    subst (λ (x : Outgoing ToConnector (Option Past)). IsAccount m.inbox (m.replies ∷ x ∷ []) pair.0) is.confirms_are
    pair.1 in
    let lawful : All (λ end. CanSend FollowsToConnector end.number end.sent) (m.replies ∷ b.confirms ∷ []) =
    subst (λ (x : Outgoing ToConnector (Option Past)).
    All (λ end. CanSend FollowsToConnector end.number end.sent) (m.replies ∷ x ∷ [])) is.confirms_are
    c.in_ok-settle_pair.ensures.lawful in
    let link = c.in_ok-settle_link.ensures.account in
    let packets : IsAccount b.inbox (m.packets ∷ c.in_ok-mail.mail.acks.items) link.0 =
    subst (λ (into : Incoming ToBroker (Unit {0})).
    IsAccount into (m.packets ∷ c.in_ok-mail.mail.acks.items) link.0) is.inbox_is link.1 in
    let accounts : AllZip IsAccounted (map (λ (s : SubscriberCore). s.inbox) (works_of subscribers))
    (map (λ (x : Consumer). x.link) b.consumers) =
    same_zip IsAccounted c.in_ok-mail.mail.inboxes.items (map (λ (s : SubscriberCore). s.inbox) (works_of subscribers))
    c.in_ok-links.links.items (map (λ (x : Consumer). x.link) b.consumers) c.in_ok-mail.ensures.mail.inboxes
    (c.in_ok-links.ensures ∙ ap (map (λ (x : Consumer). x.link)) is.consumers_are) c.in_ok-settle_each.ensures in
    all_come c.passing_laws.ensures.come d work b
    (through d work b m c.in_ok-mail.mail.acks.items pair.0 link.0 are c.in-Some.ensures.kept over account lawful
    packets)
    0 c.args.system 1 subscribers b.consumers c.in_ok-mail.ensures.are accounts (λ k x found.
    let same : k ≡ 0 + k = omega arith in
    subst (λ (n : ℕ). slice_get b.consumers n ≡ Some x) same found)

-- what the subscribers received
pub returns-clause-received : goal.returns-clause-received
returns-clause-received c =
    let b : BrokerCore = c.args.broker.work in
    let subscribers : List (ActorState SubscriberCore) = c.args.subscribers.items in
    let is = c.in-Some.ensures.parts in
    same_zip IsAccounted c.in_ok-mail.mail.inboxes.items (map (λ (s : SubscriberCore). s.inbox) (works_of subscribers))
    c.in_ok-links.links.items (map (λ (x : Consumer). x.link) b.consumers) c.in_ok-mail.ensures.mail.inboxes
    (c.in_ok-links.ensures ∙ ap (map (λ (x : Consumer). x.link)) is.consumers_are) c.in_ok-settle_each.ensures

-- what is left in the link to the broker
pub returns-clause-packets : goal.returns-clause-packets
returns-clause-packets c own =
    let b : BrokerCore = c.args.broker.work in
    let is = c.in-Some.ensures.parts in
    let link = c.in_ok-settle_link.ensures.account in
    let account : IsAccount b.inbox (c.args.packets ∷ c.in_ok-mail.mail.acks.items) link.0 =
    subst (λ (into : Incoming ToBroker (Unit {0})).
    IsAccount into (c.args.packets ∷ c.in_ok-mail.mail.acks.items) link.0) is.inbox_is link.1 in
    record {
      left = link.0;
      packets = packets_left b.inbox c.args.packets c.in_ok-mail.mail.acks.items link.0 own account;
    }

pub returns-clause-finished : goal.returns-clause-finished
returns-clause-finished c =
    let b : BrokerCore = c.args.broker.work in
    let parts = c.in-Some.parts in
    let is = c.in-Some.ensures.parts in
    let same_len : c.args.subscribers.len ≡ parts.consumers.len = first_of (omega arith, cc, search rules) in
    record {
      same = first_of (cc, search rules);
      over = sym c.in-Some.ensures.some;
      count = sym c.args.subscribers.ok.0 ∙ same_len ∙ parts.consumers.ok.0 ∙ ap (λ l. length l) is.consumers_are;
      subscribers_are = c.in_ok-mail.ensures.are;
    }

-- the broker is of another system
pub returns-then-system-clause-refused : goal.returns-then-system-clause-refused
returns-then-system-clause-refused c =
    inr (
      refl,
      λ fit.
          let same : c.args.broker.system ≡ c.args.system = fit.same in
          c.if-system.true cc,
    )

-- it hasn't finished, or has met a fault
pub returns-in_default-clause-refused : goal.returns-in_default-clause-refused
returns-in_default-clause-refused c =
    inr (
      refl,
      λ fit.
          let over : has_finished (λ (d : BrokerCore). d.finished) c.args.broker ≡ true = fit.over in
          let not_over : false ≡ has_finished (λ (d : BrokerCore). d.finished) c.args.broker =
          c.in_default.ensures.some in
          cc,
    )

-- there are more subscribers than it has, or fewer
pub returns-then-len-clause-refused : goal.returns-then-len-clause-refused
returns-then-len-clause-refused c =
    let parts = c.in-Some.parts in
    let same : length parts.consumers.items ≡ length c.args.broker.work.consumers =
    ap (λ l. length l) c.in-Some.ensures.parts.consumers_are in
    let ours : c.args.subscribers.len ≡ length c.args.subscribers.items = c.args.subscribers.ok.0 in
    let its : parts.consumers.len ≡ length parts.consumers.items = parts.consumers.ok.0 in
    inr (
      refl,
      λ fit.
          let count : length c.args.subscribers.items ≡ length c.args.broker.work.consumers = fit.count in
          c.if-len.true (omega arith),
    )

-- one of them isn't as it has to be
pub returns-in_err-mail-clause-refused : goal.returns-in_err-mail-clause-refused
returns-in_err-mail-clause-refused c =
    let subscribers : List (ActorState SubscriberCore) = c.args.subscribers.items in
    passed_on (HasFinishedWith c.args.system c.args.broker subscribers) c.from_residual.result
    c.in_err-mail.field-0.0 c.from_residual.ensures.1
    (asked_more (AreSubscribersOf c.args.system 1 subscribers)
    (HasFinishedWith c.args.system c.args.broker subscribers) c.in_err-mail.field-0.0 (λ fit. fit.subscribers_are)
    c.in_err-mail.ensures.refused)
