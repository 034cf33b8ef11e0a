use Rattle.cdc_diagnostics.proofs.Words.{append-nil, begin_text, codes, decimal, ◌++◌}
use Rattle.cdc_diagnostics.proofs.traces.late_start_sentence.Goals as goal

-- nothing follows the last number
pub returns : goal.returns
returns c =
    rw (c.into.ensures, c.into-2.ensures) (append-nil (begin_text c.args.session c.args.after
    ++ codes ", events left out so far: " ++ decimal c.args.left_out))
