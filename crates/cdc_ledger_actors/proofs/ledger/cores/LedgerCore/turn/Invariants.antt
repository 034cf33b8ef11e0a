use Rattle.cdc_ledger_actors.specs.Ledger.{order_of, past_of_inbox}
use Rattle.cdc_ledger_actors.proofs.ledger.cores.LedgerCore.turn.Given as goal

abbrev pub ghosts-take : goal.ghosts-take
ghosts-take g a = record { order = order_of a.self.now.inbox.received; past = past_of_inbox a.self.now.inbox }

abbrev pub ghosts-look_again : goal.ghosts-look_again
ghosts-look_again g a = record { order = order_of a.self.now.inbox.received; past = past_of_inbox a.self.now.inbox }
