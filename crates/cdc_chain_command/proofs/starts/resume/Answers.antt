use Rattle.cdc_chain_command.proofs.ReadLemmas.{no_log, refused_both}
use Rattle.cdc_chain_command.proofs.starts.resume.Goals as goal

pub returns-in-None-clause-refused : goal.returns-in-None-clause-refused
returns-in-None-clause-refused c =
    refused_both c.args.bindings.now c.args.text.now c.resume_text.result
    (no_log c.args.bindings.now c.args.text.now c.in_ok-logged.logged c.in-None.is c.in_ok-logged.ensures.all)
    c.resume_text.ensures.refused
