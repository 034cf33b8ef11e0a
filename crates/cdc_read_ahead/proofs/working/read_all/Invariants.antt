use Rattle.std.proofs.Common.{◌≡◌, vec_len}
use Rattle.std.specs.Io.KnownBytes.{Consumes}
use Rattle.cdc_read_ahead.specs.declared.pieces.TheConstants.{BLOCK_BYTES}
use Rattle.cdc_read_ahead.specs.Pieces.{bytes_sent}
use Rattle.cdc_read_ahead.proofs.working.read_all.Given as goal

-- what was read was sent
abbrev pub invariant-loop : goal.invariant-loop
invariant-loop g l = record {
  buffer : vec_len l.buffer ≡ BLOCK_BYTES;
  reads : Consumes g.O.Known.bytes (g.T.Read.remaining l.reader) (bytes_sent l.link.sent);
}
