use Rattle.std.proofs.Common.{◌≡◌, ◌++◌, take, drop}
use Rattle.cdc_publisher.specs.SessionState.{holds_tag, without_tag}
use Rattle.cdc_publisher.proofs.session.take_out.Given as goal

abbrev pub invariant-loop-turn : goal.invariant-loop-turn
invariant-loop-turn l = record {
  items : l.unconfirmed.items
      ≡ drop l._turn l.initial.unconfirmed.items ++ without_tag l.tag (take l._turn l.initial.unconfirmed.items);
  capacity : l.unconfirmed.capacity ≡ l.initial.unconfirmed.capacity;
  taken : l.taken ≡ holds_tag l.tag (take l._turn l.initial.unconfirmed.items);
}
