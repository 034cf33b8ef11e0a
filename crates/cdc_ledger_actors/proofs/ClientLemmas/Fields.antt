-- A client's core by the fields of its struct.
use Rattle.cdc_ledger_actors.specs.Client.{ClientCore}
use Rattle.cdc_ledger_actors.specs.declared.client.cores.ClientCore.TheInside.{Inside}

-- what contracts see of these fields
abbrev pub seen : Inside → ClientCore
seen fields = record {
  number = fields.number;
  requests = fields.requests;
  answers = fields.answers;
  replies = fields.replies.items;
  finished = fields.finished;
}
