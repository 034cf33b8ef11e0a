use Rattle.std.proofs.Common.{length}
use Rattle.cdc_frames.proofs.RecordLemmas.{SoFar}
use Rattle.cdc_chain_command.specs.Logs.{Fits, log_name, saved_text}
use Rattle.cdc_chain_command.specs.Private.Reads.{IsGood, saved_of}
use Rattle.cdc_chain_command.proofs.logs.read_later.Given as goal

-- the states so far are read, and the last one is kept
abbrev pub invariant-records : goal.invariant-records
invariant-records l = record {
  good : IsGood l.count l.last;
  so_far : SoFar log_name (Fits l.count) saved_text (λ before next. next) l.text (saved_of l.fn.first) l.records l.rest
      (saved_of l.last);
}

abbrev pub decreases-records : goal.decreases-records
decreases-records l = length l.rest
