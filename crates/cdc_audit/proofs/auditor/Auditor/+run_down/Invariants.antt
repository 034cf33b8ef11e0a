use Rattle.cdc_audit.proofs.auditor.Auditor.+run_down.Given as goal

-- each call counts one less
abbrev pub decreases-run_down : goal.decreases-run_down
decreases-run_down l = l.most
