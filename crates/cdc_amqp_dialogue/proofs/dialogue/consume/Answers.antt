use Rattle.std.proofs.Common.{ℕ, ap, ◌∙◌, refl}
use Rattle.std.proofs.lemmas.Result.{err_from_is_err_and}
use Rattle.cdc_amqp_frames.specs.declared.frames.Frame.{Frame}
use Rattle.cdc_amqp_dialogue.specs.Worlds.{taken_after}
use Rattle.cdc_amqp_dialogue.proofs.Runs.{close_failed, done_by, due_some, ends_last, fails, goes_closed, goes_looked}
use Rattle.cdc_amqp_dialogue.proofs.Runs.{goes_saved, goes_served, read_fails, save_failed, saved_le, serve_failed}
use Rattle.cdc_amqp_dialogue.proofs.Runs.{start_fails, starts}
use Rattle.cdc_amqp_dialogue.proofs.dialogue.consume.Goals as goal

pub loop-init : goal.loop-init
loop-init g c = record {
  goes = λ start stands. starts _ _ _ _ _ c.new-consumer.ensures refl c.requires.none stands
      (g.met.K.Keeper.has_kept_none c.args.setup.now c.args.keeper.now)
      (g.met.R.FrameReader.has_answered_none c.args.reader.now) c.in_ok-send.ensures;
  fits = c.requires.fits;
}

pub returns-in_err-send : goal.returns-in_err-send
returns-in_err-send g c = λ start stands.
    let exit = err_from_is_err_and c.from_residual.result c.from_residual.ensures.1 in
    rw (exit.1, exit.2) (start_fails (g.K.Keeper.has_kept c.args.setup.now) _ _ _ _ _ c.in_err-send.field-0.0 c.new-consumer.ensures refl c.requires.none
    stands (g.met.K.Keeper.has_kept_none c.args.setup.now c.args.keeper.now)
    (g.met.R.FrameReader.has_answered_none c.args.reader.now) c.in_err-send.ensures)

pub returns-in_err-was_saved : goal.returns-in_err-was_saved
returns-in_err-was_saved g c = λ start stands.
    let goes = c.loop.invariant.goes start stands in
    let looked = goes_looked c.has_frame-is_waiting.ensures.left
    (c.has_frame-is_waiting.ensures.answered c.args.reader.now) goes in
    let exit = err_from_is_err_and c.from_residual-in_err-was_saved.result
    c.from_residual-in_err-was_saved.ensures.1 in
    rw (exit.1, exit.2) (save_failed c.in_err-was_saved.field-0.0 looked c.in_err-was_saved.ensures.follower
    (due_some _ _ _ _ _ _ c.is_save_due-is_due.ensures) c.in_err-was_saved.ensures.plain c.in_err-was_saved.ensures.saved)

pub returns-in_err-was_closed : goal.returns-in_err-was_closed
returns-in_err-was_closed g c = λ start stands.
    let goes = c.loop.invariant.goes start stands in
    let looked = goes_looked c.has_frame-is_waiting.ensures.left
    (c.has_frame-is_waiting.ensures.answered c.args.reader.now) goes in
    let saved = goes_saved _ looked c.in_ok-was_saved.ensures.follower (due_some _ _ _ _ _ _ c.is_save_due-is_due.ensures)
    c.saved_after-saved.ensures c.in_ok-was_saved.ensures.saved in
    let done = done_by c.is_save_due-is_due.ensures (saved_le goes) c.in_ok-was_saved.ensures.done
    c.saved_after-saved.ensures in
    let exit = err_from_is_err_and c.from_residual-in_err-was_closed.result
    c.from_residual-in_err-was_closed.ensures.1 in
    rw (exit.1, exit.2) (close_failed _ c.in_err-was_closed.field-0.0 saved done.closing
    c.in_err-was_closed.ensures.plain c.in_err-was_closed.ensures.closed)

pub returns-in-Err : goal.returns-in-Err
returns-in-Err g c = λ start stands.
    let goes = c.loop.invariant.goes start stands in
    let looked = goes_looked c.has_frame-is_waiting.ensures.left
    (c.has_frame-is_waiting.ensures.answered c.args.reader.now) goes in
    let saved = goes_saved _ looked c.in_ok-was_saved.ensures.follower (due_some _ _ _ _ _ _ c.is_save_due-is_due.ensures)
    c.saved_after-saved.ensures c.in_ok-was_saved.ensures.saved in
    let done = done_by c.is_save_due-is_due.ensures (saved_le goes) c.in_ok-was_saved.ensures.done
    c.saved_after-saved.ensures in
    let closed = goes_closed _ saved done.closing c.in_ok-was_closed.ensures.closed in
    rw c.unread.ensures (read_fails Frame _ c.in-Err.error c.payload_limit.ensures closed c.in-Err.ensures.fault)

pub returns-in_err-served : goal.returns-in_err-served
returns-in_err-served g c = λ start stands.
    let goes = c.loop.invariant.goes start stands in
    let looked = goes_looked c.has_frame-is_waiting.ensures.left
    (c.has_frame-is_waiting.ensures.answered c.args.reader.now) goes in
    let saved = goes_saved _ looked c.in_ok-was_saved.ensures.follower (due_some _ _ _ _ _ _ c.is_save_due-is_due.ensures)
    c.saved_after-saved.ensures c.in_ok-was_saved.ensures.saved in
    let done = done_by c.is_save_due-is_due.ensures (saved_le goes) c.in_ok-was_saved.ensures.done
    c.saved_after-saved.ensures in
    let closed = goes_closed _ saved done.closing c.in_ok-was_closed.ensures.closed in
    let exit = err_from_is_err_and c.from_residual-in_err-served.result
    c.from_residual-in_err-served.ensures.1 in
    rw (exit.1, exit.2) (serve_failed _ _ _ c.in_err-served.field-0.0 closed done.waits done.paced c.in-Ok.ensures.frame
    (c.in-Ok.ensures.gave c.args.reader.now) c.in_err-served.ensures.kept c.in_err-served.ensures.served)

pub loop-preserved : goal.loop-preserved
loop-preserved g c = record {
  goes = λ start stands.
      let goes = c.loop.invariant.goes start stands in
      let looked = goes_looked c.has_frame-is_waiting.ensures.left
      (c.has_frame-is_waiting.ensures.answered c.args.reader.now) goes in
      let saved = goes_saved _ looked c.in_ok-was_saved.ensures.follower (due_some _ _ _ _ _ _ c.is_save_due-is_due.ensures)
      c.saved_after-saved.ensures c.in_ok-was_saved.ensures.saved in
      let done = done_by c.is_save_due-is_due.ensures (saved_le goes) c.in_ok-was_saved.ensures.done
      c.saved_after-saved.ensures in
      let closed = goes_closed _ saved done.closing c.in_ok-was_closed.ensures.closed in
      (goes_served closed done.waits done.paced c.in-Ok.ensures.frame (c.in-Ok.ensures.gave c.args.reader.now)
      c.in_ok-served.ensures.kept
      (c.taken_after-taken.ensures
      ∙ ap (λ (n : ℕ). taken_after c.loop.taken n c.in_ok-served.served.taking) c.delivered-delivered.ensures)
      c.in_ok-served.ensures.served).0;
  fits = c.in_ok-served.ensures.fits c.in_ok-was_saved.ensures.fits;
}

pub returns-in-Ended : goal.returns-in-Ended
returns-in-Ended g c = λ start stands.
    let goes = c.loop.invariant.goes start stands in
    let looked = goes_looked c.has_frame-is_waiting.ensures.left
    (c.has_frame-is_waiting.ensures.answered c.args.reader.now) goes in
    let saved = goes_saved _ looked c.in_ok-was_saved.ensures.follower (due_some _ _ _ _ _ _ c.is_save_due-is_due.ensures)
    c.saved_after-saved.ensures c.in_ok-was_saved.ensures.saved in
    let done = done_by c.is_save_due-is_due.ensures (saved_le goes) c.in_ok-was_saved.ensures.done
    c.saved_after-saved.ensures in
    let closed = goes_closed _ saved done.closing c.in_ok-was_closed.ensures.closed in
    let served = goes_served closed done.waits done.paced c.in-Ok.ensures.frame
    (c.in-Ok.ensures.gave c.args.reader.now) c.in_ok-served.ensures.kept
    (c.taken_after-taken.ensures
    ∙ ap (λ (n : ℕ). taken_after c.loop.taken n c.in_ok-served.served.taking) c.delivered-delivered.ensures)
    c.in_ok-served.ensures.served in
    ends_last _ _ c.save_last.ensures.follower served.0 (served.1 c.in-Ended.end c.in-Ended.is) c.save_last.ensures.saved

pub returns : goal.returns
returns g c = λ start stands. fails _ refl (c.loop.invariant.goes start stands) tt
