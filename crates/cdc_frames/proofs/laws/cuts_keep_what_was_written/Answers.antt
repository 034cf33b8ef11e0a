use Rattle.cdc_frames.proofs.FrameLemmas.{written_kept}
use Rattle.cdc_frames.proofs.laws.cuts_keep_what_was_written.Goals as goal

pub returns : goal.returns
returns g c = written_kept g.C.Content.is_content
