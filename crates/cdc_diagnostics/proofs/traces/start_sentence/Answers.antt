use Rattle.cdc_diagnostics.proofs.Words.{append-nil, begin_text}
use Rattle.cdc_diagnostics.proofs.traces.start_sentence.Goals as goal

-- nothing follows the last number
pub returns : goal.returns
returns c = rw (c.into.ensures, c.into-2.ensures) (append-nil (begin_text c.args.session c.args.after))
