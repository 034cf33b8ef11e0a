-- How checked following ends: the exit status.
use Rattle.std.specs.Prelude.{ℕ}
use Rattle.cdc_checked_follow.specs.declared.streams.CheckStop.{CheckStop}
use Rattle.cdc_checked_follow.specs.declared.streams.CheckStop.TheVariants.{AtEnd, Gap, BadLine}
use Rattle.cdc_streams.specs.Endings.{failed_status}
use Rattle.cdc_streams.specs.declared.endings.StreamEnding.{StreamEnding}
use Rattle.cdc_streams.specs.declared.endings.StreamEnding.TheVariants.{Stopped, Failed}

-- the exit status: 0 at the end; 3 at a gap; 2 at a bad line; after a failure, whether it may pass
abbrev pub status_of : StreamEnding CheckStop → ℕ
status_of (Stopped AtEnd) = 0
status_of (Stopped (Gap line why)) = 3
status_of (Stopped (BadLine line error)) = 2
status_of (Failed why) = failed_status why
