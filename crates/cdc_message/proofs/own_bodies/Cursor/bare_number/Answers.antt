use Rattle.std.proofs.Common.{◌≡◌, ◌<◌, ◌^◌, ap, arith, rules, Some}
use Rattle.json.specs.Lex.{lex, between}
use Rattle.cdc_message.specs.Reading.{whole_number}
use Rattle.cdc_message.proofs.Unordered.{bare_gives, gives_after}
use Rattle.cdc_message.proofs.own_bodies.Cursor.bare_number.Goals as goal

pub returns-then-ends : goal.returns-then-ends
returns-then-ends c =
    let n = c.in_ok-number.number in
    let fits : n < 2 ^ 64 = grind (arith, rules) in
    gives_after 0 (λ value. whole_number value ≡ Some n) _ _ c.number.new.self.rest.now
    (ap (lex between) c.in_ok-number.ensures.text) (bare_gives n c.number.new.self.rest.now fits c.if-ends.ensures)
