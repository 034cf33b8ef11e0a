use Rattle.std.proofs.Common.{arith, rules}
use Rattle.cdc_codec.proofs.PartLemmas.{reads_narrow}
use Rattle.cdc_codec.proofs.reading.number_16.Goals as goal

pub returns-clause-value : goal.returns-clause-value
returns-clause-value c = search rules

pub returns-clause-reads : goal.returns-clause-reads
returns-clause-reads c =
    reads_narrow _ c.args.text.now _ _ (omega arith) (returns-clause-value c) c.number-value.ensures.rest
