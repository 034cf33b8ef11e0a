use Rattle.cdc_run.proofs.Words.{ActorState, All, AllZip, AreBooks, AreClientsOf, Batch, CanSend, ClientCore, FollowsToLedger, HasFinishedWith, History, Incoming, IsAccount, IsAccounted, LedgerCore, List, Outgoing, Reply, ToLedger, ap, arith, false, has_finished, inr, is_over, length, map, map-map, order_of, refl, rules, subst, sym, true, works_of, ℕ, ◌∙◌, ◌∷◌, ◌≡◌}
use Rattle.cdc_run.proofs.ClientMailLemmas.{AreTogether, all_settled, as_many_senders, of_one_link, senders, together}
use Rattle.cdc_run.proofs.Refused.{asked_more, passed_on}
use Rattle.cdc_run.proofs.Zips.{same_zip}
use Rattle.cdc_run.proofs.books.settle_books.Goals as goal

pub settle_link-requires-clause-ours : goal.settle_link-requires-clause-ours
settle_link-requires-clause-ours c =
    let ledger : ActorState LedgerCore = c.args.ledger in
    let clients : List (ActorState ClientCore) = c.args.clients.items in
    let parts = c.in-Some.parts in
    let is = c.in-Some.ensures.parts in
    let same_len : c.args.clients.len ≡ parts.clients.len = first_of (omega arith, cc, search rules) in
    let many : length clients ≡ length ledger.work.clients =
    sym c.args.clients.ok.0 ∙ same_len ∙ parts.clients.ok.0 ∙ ap (λ l. length l) is.clients_are in
    let are : AreTogether ledger c.args.polls clients =
    together ledger c.args.polls clients c.system-system.result c.in-Some.ensures.some c.in-Some.ensures.kept
    c.in_ok-mail.ensures.clients c.system-system.ensures c.requires.polls c.requires.wired many in
    let made : c.args.polls ∷ c.in_ok-mail.mail.requests.items ≡ senders ledger c.args.polls clients are =
    ap (λ l. c.args.polls ∷ l) c.in_ok-mail.ensures.mail.requests in
    subst (λ (into : Incoming ToLedger (Unit {0})).
    All (λ end. end.link ≡ into.link) (c.args.polls ∷ c.in_ok-mail.mail.requests.items))
    (sym is.inbox_is)
    (subst (λ (ends : List (Outgoing ToLedger (Unit {0}))). All (λ end. end.link ≡ ledger.work.inbox.link) ends)
    (sym made) (of_one_link ledger c.args.polls clients are))

pub settle_link-requires-clause-all : goal.settle_link-requires-clause-all
settle_link-requires-clause-all c =
    let ledger : ActorState LedgerCore = c.args.ledger in
    let clients : List (ActorState ClientCore) = c.args.clients.items in
    let parts = c.in-Some.parts in
    let is = c.in-Some.ensures.parts in
    let same_len : c.args.clients.len ≡ parts.clients.len = first_of (omega arith, cc, search rules) in
    let many : length clients ≡ length ledger.work.clients =
    sym c.args.clients.ok.0 ∙ same_len ∙ parts.clients.ok.0 ∙ ap (λ l. length l) is.clients_are in
    let are : AreTogether ledger c.args.polls clients =
    together ledger c.args.polls clients c.system-system.result c.in-Some.ensures.some c.in-Some.ensures.kept
    c.in_ok-mail.ensures.clients c.system-system.ensures c.requires.polls c.requires.wired many in
    let made : c.args.polls ∷ c.in_ok-mail.mail.requests.items ≡ senders ledger c.args.polls clients are =
    ap (λ l. c.args.polls ∷ l) c.in_ok-mail.ensures.mail.requests in
    let count : length (c.args.polls ∷ c.in_ok-mail.mail.requests.items) ≡ parts.inbox.senders =
    ap (λ l. length l) made ∙ as_many_senders ledger c.args.polls clients are
    ∙ ap (λ (into : Incoming ToLedger (Unit {0})). into.senders) (sym is.inbox_is) in
    let many_requests = c.in_ok-mail.mail.requests.ok.0 in
    omega arith

pub returns-clause-books : goal.returns-clause-books
returns-clause-books c =
    let ledger : ActorState LedgerCore = c.args.ledger in
    let clients : List (ActorState ClientCore) = c.args.clients.items in
    let parts = c.in-Some.parts in
    let is = c.in-Some.ensures.parts in
    let same_len : c.args.clients.len ≡ parts.clients.len = first_of (omega arith, cc, search rules) in
    let many : length clients ≡ length ledger.work.clients =
    sym c.args.clients.ok.0 ∙ same_len ∙ parts.clients.ok.0 ∙ ap (λ l. length l) is.clients_are in
    let are : AreTogether ledger c.args.polls clients =
    together ledger c.args.polls clients c.system-system.result c.in-Some.ensures.some c.in-Some.ensures.kept
    c.in_ok-mail.ensures.clients c.system-system.ensures c.requires.polls c.requires.wired many in
    let made : c.args.polls ∷ c.in_ok-mail.mail.requests.items ≡ senders ledger c.args.polls clients are =
    ap (λ l. c.args.polls ∷ l) c.in_ok-mail.ensures.mail.requests in
    let account = c.in_ok-settle_link.ensures.account in
    let whole : IsAccount ledger.work.inbox (senders ledger c.args.polls clients are) account.0 =
    subst (λ (into : Incoming ToLedger (Unit {0})). IsAccount into (senders ledger c.args.polls clients are) account.0)
    is.inbox_is
    (subst (λ (ends : List (Outgoing ToLedger (Unit {0}))). IsAccount parts.inbox ends account.0) made account.1) in
    let lawful : All (λ end. CanSend FollowsToLedger end.number end.sent) (senders ledger c.args.polls clients are) =
    subst (λ (ends : List (Outgoing ToLedger (Unit {0}))).
    All (λ end. CanSend FollowsToLedger end.number end.sent) ends) made c.in_ok-settle_link.ensures.lawful in
    let answers : AllZip IsAccounted (map (λ (t : ClientCore). t.answers) (works_of clients)) ledger.work.clients =
    same_zip IsAccounted c.in_ok-mail.mail.answers.items (map (λ (t : ClientCore). t.answers) (works_of clients))
    parts.clients.items ledger.work.clients c.in_ok-mail.ensures.mail.answers is.clients_are
    c.in_ok-settle_each.ensures in
    let order : List (ℕ × Batch) = order_of ledger.work.inbox.received in
    let books = c.settle_laws.ensures.books ledger.work c.args.polls (works_of clients)
    (all_settled ledger c.args.polls clients are account.0 whole lawful answers) in
    subst (λ (h : History). AreBooks order h (map (λ v. v.items) c.in_ok-mail.mail.replies.items)) (sym is.ledger_is)
    (subst (λ (replies : List (List Reply)). AreBooks order ledger.work.ledger replies)
    (sym c.in_ok-mail.ensures.mail.replies) books)

-- the order is the one that was noted
pub returns-clause-order : goal.returns-clause-order
returns-clause-order c = c.in-Some.ensures.parts.order_is ∙ c.in-Some.ensures.kept.booked.order

pub returns-clause-replies : goal.returns-clause-replies
returns-clause-replies c =
    let clients : List (ActorState ClientCore) = c.args.clients.items in
    c.in_ok-mail.ensures.mail.replies ∙ map-map (λ (t : ClientCore). t.replies)
    (λ (s : ActorState ClientCore). s.work) clients

pub returns-clause-finished : goal.returns-clause-finished
returns-clause-finished c =
    let ledger : ActorState LedgerCore = c.args.ledger in
    let clients : List (ActorState ClientCore) = c.args.clients.items in
    let parts = c.in-Some.parts in
    let is = c.in-Some.ensures.parts in
    let same_len : c.args.clients.len ≡ parts.clients.len = first_of (omega arith, cc, search rules) in
    let many : length clients ≡ length ledger.work.clients =
    sym c.args.clients.ok.0 ∙ same_len ∙ parts.clients.ok.0 ∙ ap (λ l. length l) is.clients_are in
    let are : AreTogether ledger c.args.polls clients =
    together ledger c.args.polls clients c.system-system.result c.in-Some.ensures.some c.in-Some.ensures.kept
    c.in_ok-mail.ensures.clients c.system-system.ensures c.requires.polls c.requires.wired many in
    are.finished

-- the ledger actor hasn't finished, or has met a fault
pub returns-in_default-clause-refused : goal.returns-in_default-clause-refused
returns-in_default-clause-refused c =
    inr (
      refl,
      λ fit.
          let over : has_finished is_over c.args.ledger ≡ true = fit.over in
          let not_over : false ≡ has_finished is_over c.args.ledger = c.in_default.ensures.some in
          cc,
    )

-- there are more clients than it has, or fewer
pub returns-then-len-clause-refused : goal.returns-then-len-clause-refused
returns-then-len-clause-refused c =
    let parts = c.in-Some.parts in
    let same : length parts.clients.items ≡ length c.args.ledger.work.clients =
    ap (λ l. length l) c.in-Some.ensures.parts.clients_are in
    let ours : c.args.clients.len ≡ length c.args.clients.items = c.args.clients.ok.0 in
    let its : parts.clients.len ≡ length parts.clients.items = parts.clients.ok.0 in
    inr (
      refl,
      λ fit.
          let count : length c.args.clients.items ≡ length c.args.ledger.work.clients = fit.count in
          c.if-len.true (omega arith),
    )

-- one of them isn't as it has to be
pub returns-in_err-mail-clause-refused : goal.returns-in_err-mail-clause-refused
returns-in_err-mail-clause-refused c =
    let clients : List (ActorState ClientCore) = c.args.clients.items in
    passed_on (HasFinishedWith c.args.ledger clients) c.from_residual.result c.in_err-mail.field-0.0
    c.from_residual.ensures.1
    (asked_more (AreClientsOf c.system-system.result 1 clients) (HasFinishedWith c.args.ledger clients)
    c.in_err-mail.field-0.0
    (λ fit. subst (λ (n : ℕ). AreClientsOf n 1 clients) (sym c.system-system.ensures) fit.clients_are)
    c.in_err-mail.ensures.refused)
