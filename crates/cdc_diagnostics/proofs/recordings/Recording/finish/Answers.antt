use Rattle.cdc_diagnostics.proofs.Words.{diagram_text, if_asked}
use Rattle.cdc_diagnostics.proofs.recordings.Recording.finish.Goals as goal

pub returns-clause-diagram : goal.returns-clause-diagram
returns-clause-diagram c seen has few =
    c.in-Ok-finish.ensures (if_asked c.args.self.asked.diagram (diagram_text c.args.self.subscribers seen))
    (has few).diagram
