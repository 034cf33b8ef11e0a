-- What the clients of a run leave behind.
use Rattle.cdc_run.proofs.Words.{ActorState, All, All-cons, All-map, AllZip, AreClientsOf, AreLeftOf, ArePollsTo, AreSettled, AreWiredTo, CanSend, ClientCore, FollowsToLedger, HasAllOf, HasFinishedWith, HaveFinished, IsAccount, IsAccounted, IsLedgerActor, IsMailOf, IsMoreMail, LedgerCore, List, Outgoing, ToLedger, [], and_parts, ap, arith, has_finished, is_none, is_over, length, length-map, map, map-append, map-map, subst, sym, true, works_of, ℕ, ◌++◌, ◌+◌, ◌∙◌, ◌∷◌, ◌≡◌}
use Rattle.cdc_ledger_actors.specs.Client.{ArePartsOf}
use Rattle.cdc_ledger_actors.specs.declared.client.cores.ClientParts.{ClientParts}
use Rattle.cdc_run.specs.declared.books.ClientMail.{ClientMail}
use Rattle.cdc_run.proofs.Apart.{left_of}

-- one more has left this
pub all_push : (before : List ClientParts) (parts : ClientParts) (old new : ClientMail) → HasAllOf before old
    → IsMoreMail old parts new → HasAllOf (before ++ parts ∷ []) new
all_push before parts old new has more = record {
  requests = more.requests ∙ ap (λ l. l ++ parts.requests ∷ []) has.requests
      ∙ sym (map-append (λ (p : ClientParts). p.requests) before (parts ∷ []));
  answers = more.answers ∙ ap (λ l. l ++ parts.answers ∷ []) has.answers
      ∙ sym (map-append (λ (p : ClientParts). p.answers) before (parts ∷ []));
  replies = more.replies ∙ ap (λ l. l ++ parts.replies ∷ []) has.replies
      ∙ sym (map-append (λ (p : ClientParts). p.replies) before (parts ∷ []));
}

-- what was left is theirs
pub mail_of : (clients : List (ActorState ClientCore)) (parts : List ClientParts) (mail : ClientMail)
    → AreLeftOf (λ c p. ArePartsOf c p.requests p.answers p.replies.items) (works_of clients) parts
    → HasAllOf parts mail → IsMailOf clients mail
mail_of clients parts mail left has =
    let Leaves : ClientCore → ClientParts → Type 0 = λ c p. ArePartsOf c p.requests p.answers p.replies.items in
    record {
      requests = has.requests ∙ left_of Leaves (λ p. p.requests) (λ c. c.requests) (λ c p are. are.requests_are)
          (works_of clients) parts left;
      answers = has.answers ∙ left_of Leaves (λ p. p.answers) (λ c. c.answers) (λ c p are. are.answers_are)
          (works_of clients) parts left;
      replies = ap (map (λ v. v.items)) has.replies
          ∙ map-map (λ v. v.items) (λ (p : ClientParts). p.replies) parts
          ∙ left_of Leaves (λ p. p.replies.items) (λ c. c.replies) (λ c p are. are.replies_are) (works_of clients) parts
          left;
    }

-- they have finished
finished_of : (system number : ℕ) (clients : List (ActorState ClientCore)) → AreClientsOf system number clients
    → HaveFinished number (works_of clients)
finished_of system number [] are = tt
finished_of system number (c ∷ clients) are =
    let over = and_parts (is_none c.fault) c.work.finished are.3 in
    (are.1, are.2, over.1, finished_of system (number + 1) clients are.4)

-- a ledger actor and clients of one system, which have all finished and are wired together
pub record AreTogether (ledger : ActorState LedgerCore) (polls : Outgoing ToLedger (Unit {0}))
    (clients : List (ActorState ClientCore))
    : Type 0 where
  pub core : IsLedgerActor ledger.work
  pub finished : HasFinishedWith ledger clients
  pub connector : ArePollsTo ledger polls
  pub wired : AreWiredTo ledger clients

module _ (ledger : ActorState LedgerCore) (polls : Outgoing ToLedger (Unit {0}))
    (clients : List (ActorState ClientCore))
    (are : AreTogether ledger polls clients) where
  -- the senders' endpoints of the ledger's link
  abbrev pub senders : List (Outgoing ToLedger (Unit {0}))
  senders = polls ∷ map (λ c. c.requests) (works_of clients)

  -- are all of it
  pub of_one_link : All (λ end. end.link ≡ ledger.work.inbox.link) senders
  of_one_link =
      let P : Outgoing ToLedger (Unit {0}) → Type 0 = λ end. end.link ≡ ledger.work.inbox.link in
      All-cons P polls (map (λ (c : ClientCore). c.requests) (works_of clients)) are.connector.link
      (All-map P (λ (c : ClientCore). c.requests) (works_of clients)
      (All-map (λ (c : ClientCore). P c.requests) (λ (s : ActorState ClientCore). s.work) clients are.wired.requests))

  -- and there is no other
  pub as_many_senders : length senders ≡ ledger.work.inbox.senders
  as_many_senders =
      let asked = length-map (works_of clients) (λ (c : ClientCore). c.requests) in
      let talks = length-map clients (λ (s : ActorState ClientCore). s.work) in
      let links = are.core.booked.senders in
      let many = are.finished.count in
      omega arith

  -- so the books can be settled
  pub all_settled : (left : List (ℕ × (ToLedger × Unit {0}))) → IsAccount ledger.work.inbox senders left
      → All (λ end. CanSend FollowsToLedger end.number end.sent) senders
      → AllZip IsAccounted (map (λ c. c.answers) (works_of clients)) ledger.work.clients
      → AreSettled ledger.work polls (works_of clients)
  all_settled left account lawful answers = record {
    core = are.core;
    over = (and_parts (is_none ledger.fault) (is_over ledger.work) are.finished.over).1;
    finished = finished_of ledger.system 1 clients are.finished.clients_are;
    connector = are.connector.number;
    left = left;
    account = account;
    lawful = lawful;
    answers = answers;
  }

-- what is known of them as they are put together
pub together : (ledger : ActorState LedgerCore) (polls : Outgoing ToLedger (Unit {0}))
    (clients : List (ActorState ClientCore))
    (system : ℕ) → true ≡ has_finished is_over ledger → IsLedgerActor ledger.work → AreClientsOf system 1 clients
    → system ≡ ledger.system → ArePollsTo ledger polls
    → (AreClientsOf ledger.system 1 clients → AreWiredTo ledger clients)
    → length clients ≡ length ledger.work.clients → AreTogether ledger polls clients
together ledger polls clients system over core its same connector wired many =
    let are : AreClientsOf ledger.system 1 clients = subst (λ (n : ℕ). AreClientsOf n 1 clients) same its in
    record {
      core = core;
      finished = record { over = sym over; count = many; clients_are = are };
      connector = connector;
      wired = wired are;
    }
