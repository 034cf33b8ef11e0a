use Rattle.std.proofs.Common.{sym, subst}
use Rattle.cdc_ledger_actors.specs.Ledger.{IsLedgerActor}
use Rattle.cdc_ledger_actors.proofs.LedgerLemmas.Turns.{core_first}
use Rattle.cdc_actors.proofs.ledger.LedgerEnd.new.Goals as goal

pub of-requires : goal.of-requires
of-requires c =
    let asks = c.requires in
    subst IsLedgerActor (sym c.new.ensures)
    (core_first c.args.inbox c.args.clients.items c.args.connector asks.some asks.senders asks.fresh asks.untold
    asks.own
    asks.silent)
