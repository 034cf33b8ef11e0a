-- How an audit ends: the exit status.
use Rattle.std.specs.Prelude.{ℕ}
use Rattle.cdc_audit.specs.declared.streams.AuditStop.{AuditStop}
use Rattle.cdc_audit.specs.declared.streams.AuditStop.TheVariants.{AtEnd, Refused, BadLine}
use Rattle.cdc_streams.specs.Endings.{failed_status}
use Rattle.cdc_streams.specs.declared.endings.StreamEnding.{StreamEnding}
use Rattle.cdc_streams.specs.declared.endings.StreamEnding.TheVariants.{Stopped, Failed}

-- the exit status: 0 at the end; 2 at a bad line; 3 at an event that is refused; after a failure, whether it may pass
abbrev pub status_of : StreamEnding AuditStop → ℕ
status_of (Stopped AtEnd) = 0
status_of (Stopped (Refused line why)) = 3
status_of (Stopped (BadLine line error)) = 2
status_of (Failed why) = failed_status why
