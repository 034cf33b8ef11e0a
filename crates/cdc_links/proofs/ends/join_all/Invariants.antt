use Rattle.std.proofs.Common.{◌≡◌, ◌<◌, ◌-◌, ◌^◌, [], length, All, min, sum_by}
use Rattle.crossbeam_channel.specs.Claims.{view as known}
use Rattle.cdc_links.specs.Links.{CanSend}
use Rattle.cdc_links.specs.Rule.{IsSettled, with_all_joined}
use Rattle.cdc_links.proofs.ends.join_all.Given as goal

abbrev pub invariant-loop-end : goal.invariant-loop-end
invariant-loop-end g l =
    (l.pass.table_id ≡ l.initial.pass.table_id)
    × (l.pass.me.0.of ≡ l.initial.pass.me.0.of)
    × (l.pass.me.1 ≡ [])
    × (known l.pass ≡ with_all_joined (known l.initial.pass) l.yielded)
    × (l.sent ≡ min (2 ^ 64 - 1) (sum_by (λ end. length end.sent) l.yielded))
    × (0 < length l.yielded → IsSettled (known l.pass))
    × All (λ end. CanSend g.M.Message.may_follow end.number end.sent) l.yielded
