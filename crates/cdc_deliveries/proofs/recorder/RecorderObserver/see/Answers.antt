use Rattle.cdc_deliveries.specs.Recorded.{delivery_steps}
use Rattle.cdc_deliveries.proofs.RecordingLemmas.{none_recorded, step_recorded}
use Rattle.cdc_deliveries.proofs.recorder.RecorderObserver.see.Goals as goal

pub returns-in-Some : goal.returns-in-Some
returns-in-Some c = λ seen has.
    step_recorded c.push.new.self.steps seen _ c.in-Some.step c.in-Some.ensures
    (c.push.ensures (delivery_steps seen) has)

pub returns-in_default : goal.returns-in_default
returns-in_default c = λ seen has. none_recorded c.args.self.now.steps seen _ c.in_default.ensures has
