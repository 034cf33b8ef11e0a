use Rattle.cdc_world.proofs.Words.{Done, Err, Ok, Save, ap, option_copied, store_refusal, sym, ◌∙◌}
use Rattle.cdc_world.proofs.ConnectorMoves.{save_done, save_failed, save_refused}
use Rattle.cdc_world.proofs.ActorMoves.{Moves-risked, moves_entry, moves_entry_err}
use Rattle.cdc_world.proofs.world.World.save.Goals as goal

pub returns-in_err-save-clause-next : goal.returns-in_err-save-clause-next
returns-in_err-save-clause-next g c =
    moves_entry_err Save c.from_residual.result (store_refusal c.in_err-save.field-0.0) c.from_residual.ensures.1
    c.self.view_is (save_refused _ c.in_err-save.field-0.0 _ c.in_err-save.ensures.risked
    (save_failed _ c.in-Some.session.now _ _ _ c.in_err-save.field-0.0 _ _
    (sym c.session.ensures ∙ ap option_copied c.in-Some.is) c.in_err-save.ensures.refused
    (λ e. c.in_err-save.ensures.without_memory (ap Err e)) c.in_err-save.ensures.refusals))

pub returns-clause-next : goal.returns-clause-next
returns-clause-next g c =
    moves_entry Save (Ok Done) c.self.view_is (Moves-risked _ Save (Ok Done) _
    (save_done _ c.in-Some.session.now _ _ _ _ (sym c.session.ensures ∙ ap option_copied c.in-Some.is)
    c.in_ok-save.ensures.saved) tt)
