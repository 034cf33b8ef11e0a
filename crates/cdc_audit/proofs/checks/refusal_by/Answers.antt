use Rattle.cdc_audit.proofs.Words.{balances_lines, chain_lines, expiry_lines, fixed_lines, limits_lines, order_lines, room_lines, settling_lines, shape_lines, transfer_lines, ◌++◌}
use Rattle.cdc_audit.proofs.StandLemmas.{either_is}
use Rattle.cdc_audit.proofs.checks.refusal_by.Goals as goal

pub returns : goal.returns
returns c =
    let facts = c.args.facts.now in
    let e = c.args.event.now in
    let order = order_lines facts.last e in
    let shape = shape_lines e in
    let fixed = fixed_lines facts e in
    let transfer = transfer_lines facts e in
    let settling = settling_lines facts.open_one e ++ expiry_lines facts.first facts.expired e in
    let limits = chain_lines facts.linked facts.last e ++ limits_lines e in
    either_is _ _ _ (order ++ shape ++ fixed ++ transfer ++ settling ++ limits)
    (balances_lines facts e ++ room_lines facts.room e) c.or-9.ensures
    (either_is _ _ _ (order ++ shape ++ fixed ++ transfer ++ settling) limits c.or-7.ensures
    (either_is _ _ _ (order ++ shape ++ fixed ++ transfer) settling c.or-5.ensures
    (either_is _ _ _ (order ++ shape ++ fixed) transfer c.or-3.ensures
    (either_is _ _ _ (order ++ shape) fixed c.or-2.ensures
    (either_is _ _ _ order shape c.or.ensures c.order_refusal.ensures c.shape_refusal.ensures) c.fixed_refusal.ensures)
    c.transfer_refusal.ensures)
    (either_is _ _ _ (settling_lines facts.open_one e) (expiry_lines facts.first facts.expired e) c.or-4.ensures
    c.settling_refusal.ensures c.expiry_refusal.ensures))
    (either_is _ _ _ (chain_lines facts.linked facts.last e) (limits_lines e) c.or-6.ensures c.chain_refusal.ensures
    c.limits_refusal.ensures))
    (either_is _ _ _ (balances_lines facts e) (room_lines facts.room e) c.or-8.ensures c.balances_refusal.ensures
    c.room_refusal.ensures)
