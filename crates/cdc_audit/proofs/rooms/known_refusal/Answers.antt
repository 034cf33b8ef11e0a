use Rattle.cdc_audit.proofs.Words.{after_lines, links_lines, own_chain_lines, ◌++◌}
use Rattle.cdc_audit.proofs.StandLemmas.{either_is}
use Rattle.cdc_audit.proofs.rooms.known_refusal.Goals as goal

pub returns : goal.returns
returns c =
    let room = c.args.room.now in
    let e = c.args.event.now in
    let after = after_lines room.after e in
    let debit = links_lines room.debit e.debit_account e.timestamp in
    let credit = links_lines room.credit e.credit_account e.timestamp in
    either_is _ _ _ (after ++ debit ++ credit) (own_chain_lines room.chain e) c.or-3.ensures
    (either_is _ _ _ (after ++ debit) credit c.or-2.ensures
    (either_is _ _ _ after debit c.or.ensures c.after_refusal.ensures c.links_refusal.ensures)
    c.links_refusal-2.ensures) c.own_chain_refusal.ensures
