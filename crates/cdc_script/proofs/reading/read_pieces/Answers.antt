use Rattle.std.proofs.Common.{arith}
use Rattle.std.proofs.lemmas.Grind.{common_steps}
use Rattle.std.proofs.lemmas.Result.{err_from_is_err_and}
use Rattle.cdc_script.proofs.ReadLemmas.{consumes_at_most, consumes_some}
use Rattle.cdc_script.proofs.reading.read_pieces.Goals as goal

pub returns-in_err-read_piece-clause-bounded : goal.returns-in_err-read_piece-clause-bounded
returns-in_err-read_piece-clause-bounded g c =
    let piece = c.read_piece.ensures.bounded in
    consumes_at_most 1048577 _ _ _ c.loop-piece.text.items piece.0 c.loop-piece.invariant.text piece.2
    (grind (arith, common_steps, piece.1))

pub returns-in_err-read_piece-clause-memory : goal.returns-in_err-read_piece-clause-memory
returns-in_err-read_piece-clause-memory g c memory =
    let passed = err_from_is_err_and c.from_residual.result c.from_residual.ensures.1 in
    consumes_some _ _ _ c.loop-piece.text.items c.loop-piece.invariant.text
    (c.in_err-read_piece.ensures.memory (cc (passed.1, passed.2)))

pub returns-then-not-branch-clause-bounded : goal.returns-then-not-branch-clause-bounded
returns-then-not-branch-clause-bounded g c =
    let piece = c.read_piece.ensures.bounded in
    consumes_at_most 1048577 _ _ _ c.loop-piece.text.items piece.0 c.loop-piece.invariant.text piece.2
    (grind (arith, common_steps, piece.1))
