use Rattle.std.proofs.Common.{◌≡◌, length}
use Rattle.json.specs.Lex.{lex, between}
use Rattle.cdc_message.proofs.own_bodies.Cursor.spaces.Given as goal

abbrev pub invariant-loop-first : goal.invariant-loop-first
invariant-loop-first l = lex between l.fn.self.rest.now ≡ lex between l.self.rest.now

abbrev pub decreases-loop-first : goal.decreases-loop-first
decreases-loop-first l = length l.self.rest.now
