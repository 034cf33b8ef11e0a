-- The ledger and the replies of a run, once the ledger actor and the client actors have finished.
use Rattle.std.specs.Prelude.{◌≡◌, ℕ, ◌+◌, true, List, [], ◌∷◌, All, length, map}
use Rattle.std.specs.List.{AllZip}
use Rattle.cdc_ledger_actors.specs.Client.{IsClient, ClientCore}
use Rattle.cdc_ledger_actors.specs.Ledger.{LedgerCore, IsLedgerActor, is_over, order_of}
use Rattle.cdc_ledger_actors.specs.Orders.{batches_in}
use Rattle.cdc_ledger.specs.History.{History}
use Rattle.cdc_links.specs.Links.{CanSend, IsAccount, Outgoing}
use Rattle.cdc_traffic.specs.Following.{FollowsToLedger}
use Rattle.cdc_traffic.specs.Pasts.{history_of}
use Rattle.cdc_traffic.specs.declared.messages.ToLedger.{ToLedger}
use Rattle.cdc_traffic.specs.declared.requests.Reply.{Reply}
use Rattle.cdc_types.specs.declared.batches.Batch.{Batch}
use Rattle.cdc_run.specs.SettledLinks.{IsAccounted}
use Rattle.cdc_run.specs.ClientReplies.{IsOfClients, IsReplied}

-- clients that have finished, with these numbers one after another
abbrev pub HaveFinished : ℕ → List ClientCore → Type 0
HaveFinished number [] = Unit {0}
HaveFinished number (c ∷ clients) =
    (c.number ≡ number) × IsClient c × (c.finished ≡ true) × HaveFinished (number + 1) clients

-- a ledger actor and the clients that are wired to it, the connector's endpoint of the ledger's link, and what was
-- left in that link. All have finished, and the endpoints of each link were put together
pub record AreSettled (d : LedgerCore) (polls : Outgoing ToLedger (Unit {0})) (clients : List ClientCore) : Type 0 where
  pub core : IsLedgerActor d
  pub over : is_over d ≡ true
  pub finished : HaveFinished 1 clients
  pub connector : polls.number ≡ 0
  pub left : List (ℕ × (ToLedger × Unit {0}))
  pub account : IsAccount d.inbox (polls ∷ map (λ c. c.requests) clients) left
  pub lawful : All (λ end. CanSend FollowsToLedger end.number end.sent) (polls ∷ map (λ c. c.requests) clients)
  pub answers : AllZip IsAccounted (map (λ c. c.answers) clients) d.clients

-- clients with these numbers one after another were replied in this order
abbrev pub AreReplied : ℕ → List (ℕ × Batch) → List (List Reply) → Type 0
AreReplied number order [] = Unit {0}
AreReplied number order (replies ∷ rest) = IsReplied order number replies × AreReplied (number + 1) order rest

-- one order of all batches gives the ledger, with a close after the last of them, and the replies to each client; and
-- it has no batch but theirs
pub record AreBooks (order : List (ℕ × Batch)) (ledger : History) (replies : List (List Reply)) : Type 0 where
  pub ledger_is : ledger ≡ history_of (record { batches = batches_in order; closed = true })
  pub each : AreReplied 1 order replies
  pub of_clients : IsOfClients (length replies) order

abbrev pub BooksSettle : Type 0
BooksSettle = (d : LedgerCore) (polls : Outgoing ToLedger (Unit {0})) (clients : List ClientCore)
    → AreSettled d polls clients
    → AreBooks (order_of d.inbox.received) d.ledger (map (λ c. c.replies) clients)
