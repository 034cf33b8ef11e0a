use Rattle.std.proofs.Common.{sym, subst}
use Rattle.crossbeam_channel.specs.Claims.{view as known}
use Rattle.cdc_links.proofs.Stays.{sends_as, sent_stays}
use Rattle.cdc_links.proofs.ends.LinkOut.send.Goals as goal

pub send_as-requires-clause-rule : goal.send_as-requires-clause-rule
send_as-requires-clause-rule g c =
    let may_follow = g.M.Message.may_follow in
    let end = c.self.inside in
    let follow =
    subst (λ o. may_follow o.number o.sent (c.args.value, g.K.Naming.name)) (sym c.self.view_is) c.requires in (
      sends_as may_follow _ end.pass.id end.number (known end.pass) c.args.value g.K.Naming.name c.self.invariant.1
          follow,
      λ items views _ _. tt,
    )

pub invariant_of-self : goal.invariant_of-self
invariant_of-self g c =
    let may_follow = g.M.Message.may_follow in
    let end = c.self.inside in
    let kept = c.self.invariant in
    let follow =
    subst (λ o. may_follow o.number o.sent (c.args.value, g.K.Naming.name)) (sym c.self.view_is) c.requires in
    let stays =
    sent_stays may_follow end.number end.count (known end.pass) (known c.send_as.new.pass)
    (c.args.value, g.K.Naming.name) kept.1 kept.2 kept.3 follow
    c.in-Ok.ensures.rule in
    (c.send_as.ensures.channel.0, stays.0, stays.1, stays.2)
