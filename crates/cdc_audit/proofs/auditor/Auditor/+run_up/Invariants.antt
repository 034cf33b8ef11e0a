use Rattle.cdc_audit.proofs.auditor.Auditor.+run_up.Given as goal

-- each call counts one less
abbrev pub decreases-run_up : goal.decreases-run_up
decreases-run_up l = l.most
