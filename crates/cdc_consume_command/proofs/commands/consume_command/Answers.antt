use Rattle.std.proofs.Common.{refl}
use Rattle.cdc_consume_command.proofs.TalkLemmas.{consumes}
use Rattle.cdc_consume_command.proofs.commands.consume_command.Goals as goal

pub returns : goal.returns
returns g c =
    consumes c.args.settings.now c.args.pace c.args.setup.now (g.K.Keeps.has_kept c.args.setup.now) _ _ _ _
    c.args.kept.now c.forget_changes.new.self c.consume-how.new.keeper c.consume-how.result c.consume-how.new.stop
    c.is_ended-ended.result c.acknowledged_is_saved.ensures c.forget_changes.ensures.followed
    c.forget_changes.ensures.store (c.consume-how.ensures _ refl) c.is_ended-ended.ensures
