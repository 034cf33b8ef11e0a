use Rattle.std.proofs.Common.{rules, ◌≡◌, length}
use Rattle.crossbeam_channel.specs.Claims.{view as known}
use Rattle.cdc_links.specs.Rule.{receiving, joined_of, IsSettled}
use Rattle.cdc_links.proofs.Settling.{account}
use Rattle.cdc_links.proofs.ends.LinkIn.settle.Goals as goal

pub returns-clause-account : goal.returns-clause-account
returns-clause-account g c =
    let into = c.args.self in
    let ends = c.args.handed.items in
    let after = known c.join_all-sent.new.pass in
    let joined : after ≡ receiving into.received into.senders (joined_of ends) = search rules in
    let settled : IsSettled after = search rules in
    let many : length ends ≡ into.senders = search rules in
    account into ends after joined settled many
