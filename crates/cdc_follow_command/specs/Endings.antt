-- How following ends: the exit status.
use Rattle.std.specs.Prelude.{ℕ}
use Rattle.cdc_follow.specs.declared.streams.Stop.{Stop}
use Rattle.cdc_follow.specs.declared.streams.Stop.TheVariants.{AtEnd, Gap, AfterEnd, BadLine}
use Rattle.cdc_streams.specs.Endings.{failed_status}
use Rattle.cdc_streams.specs.declared.endings.StreamEnding.{StreamEnding}
use Rattle.cdc_streams.specs.declared.endings.StreamEnding.TheVariants.{Stopped, Failed}

-- the exit status: 0 at the end; 2 at a bad line; 3 at a gap, or at what contradicts the end; after a failure, whether
-- it may pass
abbrev pub status_of : StreamEnding Stop → ℕ
status_of (Stopped AtEnd) = 0
status_of (Stopped (Gap line entry)) = 3
status_of (Stopped (AfterEnd line entry)) = 3
status_of (Stopped (BadLine line error)) = 2
status_of (Failed why) = failed_status why
