-- The ledger and the replies of a run, once all have finished.
use Rattle.cdc_run.proofs.Words.{All, All-head, All-tail, AllZip, AreNumbered, AreReplied, Batch, BooksSettle, CanSend, ClientCore, ClientsAreReplied, FinishedLedgersAreClosed, FollowsToLedger, HasSettled, HaveFinished, IsAccounted, IsClosed, IsOfClients, IsReplied, LedgerMail, List, OrdersAreOfClients, Outgoing, Past, ReceiveReplies, Reply, ToLedger, [], ap, arith, is_done, length, length-map, map, named_replies_to, of_sender, order_of, refl, subst, sym, true, ℕ, ◌++◌, ◌+◌, ◌<◌, ◌∙◌, ◌∷◌, ◌≡◌, ◌≤◌}

-- senders' endpoints with their clients' numbers
numbered : (number : ℕ) (clients : List ClientCore) → HaveFinished number clients
    → AreNumbered number (map (λ c. c.requests) clients)
numbered number [] have = tt
numbered number (c ∷ clients) have = (have.1.own ∙ have.0, numbered (number + 1) clients have.3)

module _ (law : ClientsAreReplied) (mail : LedgerMail) where
  -- what holds of an endpoint of the ledger's link
  abbrev IsWhole : Outgoing ToLedger (Unit {0}) → Type 0
  IsWhole end = of_sender end.number (mail.received ++ mail.left) ≡ end.sent

  abbrev IsLawful : Outgoing ToLedger (Unit {0}) → Type 0
  IsLawful end = CanSend FollowsToLedger end.number end.sent

  abbrev requests_of : List ClientCore → List (Outgoing ToLedger (Unit {0}))
  requests_of clients = map (λ c. c.requests) clients

  -- one client and those after it
  replied_from : (number : ℕ) (clients : List ClientCore) (outs : List (Outgoing Reply Past))
      → HaveFinished number clients
      → ReceiveReplies number (order_of mail.received) outs → AllZip IsAccounted (map (λ c. c.answers) clients) outs
      → All IsWhole (requests_of clients) → All IsLawful (requests_of clients)
      → ((k : ℕ) → number ≤ k → k < number + length clients → is_done k mail.received ≡ true)
      → AreReplied number (order_of mail.received) (map (λ c. c.replies) clients)
  replied_from number [] outs have emitted answers whole lawful done = tt
  replied_from number (c ∷ clients) [] have emitted answers whole lawful done = absurd answers
  replied_from number (c ∷ clients) (out ∷ outs) have emitted answers whole lawful done =
      let own : c.requests.number ≡ c.number = have.1.own in
      let first : of_sender c.requests.number (mail.received ++ mail.left) ≡ c.requests.sent =
      All-head IsWhole c.requests (requests_of clients) whole in
      let chain : CanSend FollowsToLedger c.requests.number c.requests.sent =
      All-head IsLawful c.requests (requests_of clients) lawful in
      let settled : HasSettled mail c = record {
        is = have.1;
        finished = have.2;
        done = subst (λ (k : ℕ). is_done k mail.received ≡ true) (sym have.0) (done number (omega arith) (omega arith));
        sent = subst (λ (k : ℕ). of_sender k (mail.received ++ mail.left) ≡ c.requests.sent) own first;
        lawful = subst (λ (k : ℕ). CanSend FollowsToLedger k c.requests.sent) own chain;
        link = out;
        number = emitted.0;
        emitted = emitted.1 ∙ ap (λ (k : ℕ). named_replies_to k (order_of mail.received)) (sym have.0);
        answers_left = answers.0.left;
        account = answers.0.account;
      } in (
        subst (λ (k : ℕ). IsReplied (order_of mail.received) k c.replies) have.0 (law mail c settled),
        replied_from (number + 1) clients outs have.3 emitted.2 answers.1
            (All-tail IsWhole c.requests (requests_of clients) whole)
            (All-tail IsLawful c.requests (requests_of clients) lawful)
            (λ k above below. done k (omega arith) (omega arith)),
      )

-- there are as many of the one as of the other
as_many : {A B : Type 0} (R : A → B → Type 0) (xs : List A) (ys : List B) → AllZip R xs ys → length xs ≡ length ys
as_many R [] [] all = refl
as_many R [] (y ∷ ys) all = absurd all
as_many R (x ∷ xs) [] all = absurd all
as_many R (x ∷ xs) (y ∷ ys) all = let rest = as_many R xs ys all.1 in omega arith

pub books_settle : ClientsAreReplied → OrdersAreOfClients → FinishedLedgersAreClosed → BooksSettle
books_settle replied of_clients closed d polls clients are =
    let mail : LedgerMail = record { received = d.inbox.received; left = are.left } in
    let order : List (ℕ × Batch) = order_of d.inbox.received in
    let requests : List (Outgoing ToLedger (Unit {0})) = map (λ c. c.requests) clients in
    let shut : IsClosed d = closed d are.core are.over in
    let count : length (map (λ (c : ClientCore). c.answers) clients) ≡ length d.clients =
    as_many IsAccounted (map (λ (c : ClientCore). c.answers) clients) d.clients are.answers in
    let answered : length (map (λ (c : ClientCore). c.answers) clients) ≡ length clients =
    length-map clients (λ (c : ClientCore). c.answers) in
    let asked : length requests ≡ length clients = length-map clients (λ (c : ClientCore). c.requests) in
    let replies : length (map (λ (c : ClientCore). c.replies) clients) ≡ length clients =
    length-map clients (λ (c : ClientCore). c.replies) in
    record {
      ledger_is = shut.history;
      each = replied_from replied mail 1 clients d.clients are.finished are.core.booked.emitted are.answers
          (All-tail (λ (end : Outgoing ToLedger (Unit {0})).
          of_sender end.number (d.inbox.received ++ are.left) ≡ end.sent) polls requests are.account.0)
          (All-tail (λ (end : Outgoing ToLedger (Unit {0})). CanSend FollowsToLedger end.number end.sent) polls requests
          are.lawful)
          (λ k above below. shut.clients_done k (omega arith) (omega arith));
      of_clients = subst (λ (n : ℕ). IsOfClients n order) (asked ∙ sym replies)
          (of_clients d.inbox polls requests are.left are.account (are.connector, numbered 1 clients are.finished)
          (subst (λ (k : ℕ). CanSend FollowsToLedger k polls.sent) are.connector
          (All-head (λ (end : Outgoing ToLedger (Unit {0})). CanSend FollowsToLedger end.number end.sent) polls requests
          are.lawful)));
    }
