use Rattle.cdc_amqp_dialogue.proofs.Fitting.{fits_after}
use Rattle.cdc_amqp_dialogue.proofs.dialogue.serve.Goals as goal

pub frames_of-requires-clause-first : goal.frames_of-requires-clause-first
frames_of-requires-clause-first g c =
    (fits_after c.args.settings.now _ _ _ _ _ c.requires.fit c.in-Ok.ensures).0

pub frames_of-requires-clause-second : goal.frames_of-requires-clause-second
frames_of-requires-clause-second g c =
    (fits_after c.args.settings.now _ _ _ _ _ c.requires.fit c.in-Ok.ensures).1
