use Rattle.std.proofs.Common.{◌++◌, append_assoc}
use Rattle.cdc_diagnostics.proofs.movements.Movement.push_settled.Goals as goal

pub returns : goal.returns
returns c bytes held kept =
    simp append_assoc at (c.push_number.ensures (bytes ++ c.args.words.now) (c.push.ensures.holds bytes held) kept)
