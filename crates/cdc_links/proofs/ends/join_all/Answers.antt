use Rattle.std.proofs.Common.{rules, arith}
use Rattle.std.proofs.lemmas.Grind.{common_steps}
use Rattle.std.proofs.lemmas.List.Elements.{All-push}
use Rattle.crossbeam_channel.specs.Claims.{view as known}
use Rattle.cdc_links.specs.Links.{CanSend}
use Rattle.cdc_links.proofs.Settling.{joined_more}
use Rattle.cdc_links.proofs.ends.join_all.Goals as goal

pub loop-end-preserved : goal.loop-end-preserved
loop-end-preserved g c =
    let kept = c.loop-end.invariant in
    let joined =
    joined_more (known c.args.pass.now) (known c.loop-end.pass)
    (known c.join.new.pass) c.loop-end.yielded c.in-Some.end kept.3
    c.join.ensures.joined in
    let lawful =
    All-push (λ end. CanSend g.M.Message.may_follow end.number end.sent) c.loop-end.yielded c.in-Some.end kept.6
    c.join.ensures.lawful in
    (search rules, search rules, search rules, joined, grind (arith, common_steps), search rules, lawful)
