use Rattle.std.proofs.Common.{vec_len}
use Rattle.cdc_run.proofs.jobs.+work_all.Given as goal

-- each call has a job less
abbrev pub decreases-work_all : goal.decreases-work_all
decreases-work_all g l = vec_len l.jobs
