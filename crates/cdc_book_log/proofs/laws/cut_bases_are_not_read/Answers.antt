use Rattle.cdc_book_log.proofs.CrashLemmas.{cut_base}
use Rattle.cdc_book_log.proofs.laws.cut_bases_are_not_read.Goals as goal

pub returns : goal.returns
returns c = cut_base
