use Rattle.cdc_world.proofs.Words.{Done, Ok, ap, option_copied, start_after, start_refusal, sym, ◌∙◌}
use Rattle.cdc_world.proofs.ConnectorMoves.{none_of, start_done, start_failed, start_refused}
use Rattle.cdc_world.proofs.ActorMoves.{Moves-risked, moves_entry, moves_entry_err}
use Rattle.cdc_world.proofs.world.World.start.Goals as goal

pub returns-in_err-session-clause-next : goal.returns-in_err-session-clause-next
returns-in_err-session-clause-next g c =
    moves_entry_err (start_after c.args.at) c.from_residual.result (start_refusal c.in_err-session.field-0.0)
    c.from_residual.ensures.1 c.self.view_is
    (start_refused _ c.args.at c.in_err-session.field-0.0 _ c.in_err-session.ensures.risked
    (start_failed _ c.args.at _ _ _ c.in_err-session.field-0.0 _ _
    (sym c.session.ensures ∙ ap option_copied (none_of _ (sym c.is_some.ensures ∙ c.if-is_some.false)))
    c.in_err-session.ensures.err))

pub returns-clause-next : goal.returns-clause-next
returns-clause-next g c =
    moves_entry (start_after c.args.at) (Ok Done) c.self.view_is (Moves-risked _ (start_after c.args.at) (Ok Done) _
    (start_done _ c.args.at c.begin.new.self c.in_ok-session.session _ _ _ _ c.window.result
    (sym c.session.ensures ∙ ap option_copied (none_of _ (sym c.is_some.ensures ∙ c.if-is_some.false)))
    c.begin.ensures c.window.ensures.value c.in_ok-session.ensures.ok) tt)
