use Rattle.cdc_checked_state.proofs.RowLemmas.{open_gives, open_some}
use Rattle.cdc_checked_state.proofs.rows.open_row.Goals as goal

pub returns-in-Some-clause-reads : goal.returns-in-Some-clause-reads
returns-in-Some-clause-reads c row rest fits whole =
    open_gives c.args.text.now _ _ c.in-Some.read c.requires c.skip.ensures.rest c.in_ok-read.ensures.reads
    c.in-Some.is row rest fits whole

pub returns-in-None-clause-reads : goal.returns-in-None-clause-reads
returns-in-None-clause-reads c row rest fits whole =
    open_some c.args.text.now _ _ row rest c.requires c.skip.ensures.rest c.in_ok-read.ensures.reads
    c.in-None.is fits whole
