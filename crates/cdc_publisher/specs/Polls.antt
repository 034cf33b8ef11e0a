-- A poll that is open while a session goes on: what it asks for is still wanted.
use Rattle.std.specs.Prelude.{◌≡◌, ℕ, ◌≤◌, Some}
use Rattle.cdc_message.specs.declared.packets.Packet.{Packet}
use Rattle.cdc_publisher.specs.Courses.{Course, next_packet, next_poll, with_confirm, with_sent}
use Rattle.cdc_publisher.specs.declared.session.Poll.{Poll}

-- what was wanted still is: events after the same timestamp, and at least as many
pub record IsWanted (course : Course) (wanted : Poll) : Type 0 where
  pub now : Poll
  pub wants : next_poll course ≡ Some now
  pub after : wanted.after ≡ now.after
  pub limit : wanted.limit ≤ now.limit

-- a confirm makes room for more, so what is wanted stays so
abbrev pub ConfirmsWiden : Type 0
ConfirmsWiden = (course : Course) (wanted : Poll) (session tag : ℕ) → IsWanted course wanted
    → IsWanted (with_confirm session tag course) wanted

-- a session that wants events has nothing to send but its connect, so what is wanted stays so whatever it sends
abbrev pub PacketsKeep : Type 0
PacketsKeep = (course : Course) (wanted : Poll) (packet : Packet) → IsWanted course wanted
    → next_packet course ≡ Some packet → IsWanted (with_sent (Some packet) course) wanted
