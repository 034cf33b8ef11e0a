use Rattle.cdc_streams.specs.Saving.{EndWith, saves_text}
use Rattle.std.specs.Prelude.{is_some}
use Rattle.cdc_streams.proofs.SavingLemmas.{any_stop, end_after, fault_ends, no_stop}
use Rattle.cdc_streams.proofs.commands.stream_command.Goals as goal

pub returns-in-Ok-clause-printed : goal.returns-in-Ok-clause-printed
returns-in-Ok-clause-printed g c =
    let saved = c.in-Ok.ensures.saved in (
      saved.0,
      saved.1,
      any_stop saved.3 c.print_end.result,
      end_after (saves_text (g.C.Consumer.prints_saved c.args.setup.now) (is_some c.args.saver.now.store) saved.0)
          (g.W.Write.contents c.args.writer.now) (g.W.Write.contents c.take_stream.new.writer)
          (g.W.Write.contents c.print_end.new.writer) c.print_end.result
          (g.C.Consumer.prints_end c.args.setup.now) g.F.FaultForm.prints_failure
          (g.C.Saved.state c.take_stream.new.consumer) saved.2 c.print_end.ensures.printed,
    )

pub returns-in-Err-clause-printed : goal.returns-in-Err-clause-printed
returns-in-Err-clause-printed g c =
    let saved = c.in-Err.ensures.saved in (
      saved.0,
      saved.1,
      no_stop (λ stop. EndWith saved.0 (g.C.Saved.state c.take_stream.new.consumer)) c.fail.result c.fail.ensures.fails,
      fault_ends (saves_text (g.C.Consumer.prints_saved c.args.setup.now) (is_some c.args.saver.now.store) saved.0)
          (g.W.Write.contents c.args.writer.now) (g.W.Write.contents c.take_stream.new.writer)
          (g.W.Write.contents c.fail.new.writer) c.fail.result
          (g.C.Consumer.prints_end c.args.setup.now) g.F.FaultForm.prints_failure
          (g.C.Saved.state c.take_stream.new.consumer) c.in-Err.fault saved.2 c.fail.ensures.printed
          c.fail.ensures.quiet,
    )
