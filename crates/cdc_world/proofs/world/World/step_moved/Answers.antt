use Rattle.cdc_world.proofs.Words.{ap₂, option_or, ◌∙◌}
use Rattle.cdc_world.proofs.world.World.step_moved.Goals as goal

pub returns-in-Ok-clause-next : goal.returns-in-Ok-clause-next
returns-in-Ok-clause-next g c = λ honest w st.
    let after = c.in-Ok.ensures.next honest w st in (
      after.0,
      (
        after.1.0,
        (
          after.1.1,
          c.or-moved.ensures
              ∙ ap₂ option_or (c.leaving-leaving.ensures w st) (c.brought.ensures after.0 after.1.0),
        ),
      ),
    )

pub returns-in-Err-clause-next : goal.returns-in-Err-clause-next
returns-in-Err-clause-next g c = λ honest w st.
    let after = c.in-Err.ensures.next honest w st in (after.0, (after.1.0, (after.1.1, tt)))
