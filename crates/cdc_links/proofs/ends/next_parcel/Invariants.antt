use Rattle.std.proofs.Common.{◌≡◌}
use Rattle.crossbeam_channel.specs.Claims.{IsSeatAt, view as known}
use Rattle.crossbeam_channel.specs.Ends.{receives_on}
use Rattle.cdc_links.proofs.ends.next_parcel.Given as goal

-- nothing was received so far
abbrev pub invariant-loop-look : goal.invariant-loop-look
invariant-loop-look g l = IsSeatAt (receives_on l.fn.receiver) l.pass × (known l.pass ≡ known l.fn.pass)
