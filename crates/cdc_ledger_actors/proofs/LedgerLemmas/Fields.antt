-- The ledger's core by the fields of its struct.
use Rattle.cdc_ledger_actors.specs.Ledger.{LedgerCore}
use Rattle.cdc_ledger_actors.specs.declared.ledger.cores.LedgerCore.TheInside.{Inside}

-- what contracts see of these fields
abbrev pub seen : Inside → LedgerCore
seen fields = record {
  inbox = fields.inbox;
  clients = fields.clients.items;
  connector = fields.connector;
  ledger = fields.ledger;
  clients_left = fields.clients_left;
  connector_done = fields.connector_done;
  kept = fields.kept;
  order = fields.order.items;
}
