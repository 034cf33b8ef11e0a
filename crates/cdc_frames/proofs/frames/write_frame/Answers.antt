use Rattle.std.proofs.KnownBytes.{Appends-trans}
use Rattle.std.proofs.lemmas.Result.{on_ok_weaker}
use Rattle.cdc_frames.specs.Frames.{frame}
use Rattle.cdc_frames.proofs.frames.write_frame.Goals as goal

pub returns : goal.returns
unfolding frame
returns g c =
    on_ok_weaker c.write_line-2.result
    (λ end. Appends-trans _ _ _ _ _ c.in_ok-write_line.ensures
    (Appends-trans _ _ _ _ _ c.in_ok-write_all.ensures.bytes end))
    c.write_line-2.ensures
