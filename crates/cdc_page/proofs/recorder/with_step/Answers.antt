use Rattle.cdc_commands.specs.Seen.{Seen}
use Rattle.cdc_page.proofs.RecordingLemmas.{step_recorded}
use Rattle.cdc_page.proofs.recorder.with_step.Goals as goal

pub returns-in-Ok : goal.returns-in-Ok
returns-in-Ok c = λ seen has.
    let now : Seen = record {
      step = c.args.step.now;
      did = c.args.did.now;
      moved = c.args.moved;
      history = c.args.ledger.now;
    } in
    step_recorded c.args.recording c.push.new.self seen now c.push.ensures.bindings c.in-Ok.ensures.steps
    c.in-Ok.ensures.logged has
