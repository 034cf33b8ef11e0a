-- What the clients of a run leave behind, once they have finished.
use Rattle.std.specs.Prelude.{◌≡◌, ℕ, true, List, [], ◌∷◌, ◌++◌, All, length, map}
use Rattle.std.specs.List.{AllZip}
use Rattle.cdc_ledger_actors.specs.Client.{IsClient, ClientCore}
use Rattle.cdc_ledger_actors.specs.Ledger.{LedgerCore, is_over}
use Rattle.cdc_ledger_actors.specs.declared.client.cores.ClientParts.{ClientParts}
use Rattle.cdc_actors.specs.Ends.{ActorState, has_finished}
use Rattle.cdc_links.specs.Links.{Outgoing}
use Rattle.cdc_traffic.specs.declared.messages.ToLedger.{ToLedger}
use Rattle.cdc_run.specs.SettledLinks.{IsOnlySender}
use Rattle.cdc_run.specs.Parts.{AreActorsOf, works_of}
use Rattle.cdc_run.specs.declared.books.ClientMail.{ClientMail}

-- clients of a system that have finished and have met no fault, with these numbers one after another
abbrev pub AreClientsOf : ℕ → ℕ → List (ActorState ClientCore) → Type 0
AreClientsOf = AreActorsOf (λ (c : ClientCore). c.number) IsClient (λ c. c.finished)

-- it is what these have left behind
pub record IsMailOf (clients : List (ActorState ClientCore)) (mail : ClientMail) : Type 0 where
  pub requests : mail.requests.items ≡ map (λ c. c.requests) (works_of clients)
  pub answers : mail.answers.items ≡ map (λ c. c.answers) (works_of clients)
  pub replies : map (λ v. v.items) mail.replies.items ≡ map (λ c. c.replies) (works_of clients)

-- it has what was left, by kind
pub record HasAllOf (parts : List ClientParts) (mail : ClientMail) : Type 0 where
  pub requests : mail.requests.items ≡ map (λ p. p.requests) parts
  pub answers : mail.answers.items ≡ map (λ p. p.answers) parts
  pub replies : mail.replies.items ≡ map (λ p. p.replies) parts

-- what one more has left behind was added
pub record IsMoreMail (old : ClientMail) (parts : ClientParts) (new : ClientMail) : Type 0 where
  pub requests : new.requests.items ≡ old.requests.items ++ parts.requests ∷ []
  pub answers : new.answers.items ≡ old.answers.items ++ parts.answers ∷ []
  pub replies : new.replies.items ≡ old.replies.items ++ parts.replies ∷ []

-- the connector's endpoint of the ledger's link
pub record ArePollsTo (ledger : ActorState LedgerCore) (polls : Outgoing ToLedger (Unit {0})) : Type 0 where
  pub link : polls.link ≡ ledger.work.inbox.link
  pub number : polls.number ≡ 0

-- clients that are wired to a ledger actor: they send to it, and it replies to each over that client's link
pub record AreWiredTo (ledger : ActorState LedgerCore) (clients : List (ActorState ClientCore)) : Type 0 where
  pub requests : All (λ c. c.work.requests.link ≡ ledger.work.inbox.link) clients
  pub answers : length clients ≡ length ledger.work.clients
      → AllZip IsOnlySender (map (λ c. c.answers) (works_of clients)) ledger.work.clients

-- a ledger actor and all its clients, of one system, have finished and have met no fault
pub record HasFinishedWith (ledger : ActorState LedgerCore) (clients : List (ActorState ClientCore)) : Type 0 where
  pub over : has_finished is_over ledger ≡ true
  pub count : length clients ≡ length ledger.work.clients
  pub clients_are : AreClientsOf ledger.system 1 clients
