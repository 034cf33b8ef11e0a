use Rattle.cdc_message.proofs.UnorderedParts.{SoFar}
use Rattle.cdc_message.proofs.own_bodies.Cursor.numbers.Given as goal

abbrev pub invariant-members : goal.invariant-members
invariant-members l = SoFar l.fn.self.rest.now l.numbers l.self.rest.now
