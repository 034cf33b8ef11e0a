use Rattle.std.proofs.Common.{◌∙◌}
use Rattle.cdc_read_ahead.proofs.ReaderLemmas.{feed_found}
use Rattle.cdc_read_ahead.proofs.readers.has_feed.Goals as goal

pub returns : goal.returns
returns c = c.is_some.ensures ∙ feed_found c.args.bytes.now c.memchr.result c.memchr.ensures
