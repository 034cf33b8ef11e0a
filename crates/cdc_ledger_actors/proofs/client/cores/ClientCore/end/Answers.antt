use Rattle.std.proofs.Common.{sym, subst}
use Rattle.cdc_ledger_actors.specs.Client.{IsClient}
use Rattle.cdc_ledger_actors.proofs.ClientLemmas.Fields.{seen}
use Rattle.cdc_ledger_actors.proofs.ClientLemmas.Talking.{may_end}
use Rattle.cdc_ledger_actors.proofs.client.cores.ClientCore.end.Goals as goal

pub send_message-requires : goal.send_message-requires
send_message-requires g c =
    may_end (seen c.self.inside) (subst IsClient (sym c.self.view_is) c.requires) c.if-self.false
