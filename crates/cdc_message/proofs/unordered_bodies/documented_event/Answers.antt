use Rattle.std.proofs.Common.{◌≡◌, ◌∙◌, length, arith}
use Rattle.std.proofs.lemmas.Bool.Decides.{nat_tests}
use Rattle.cdc_message.proofs.UnorderedLaw.{lex_nothing, read_given}
use Rattle.cdc_message.proofs.unordered_bodies.documented_event.Goals as goal

-- nothing follows the event
pub returns-then-is_empty : goal.returns-then-is_empty
returns-then-is_empty c =
    let none : length c.spaces.new.self.rest.now ≡ 0 = grind (arith, nat_tests) in
    read_given c.in_ok-event.event c.args.bytes.now c.documented_event.new.self.rest.now c.if-not-is_text.ensures
    c.in_ok-event.ensures (c.spaces.ensures ∙ lex_nothing c.spaces.new.self.rest.now none)
