use Rattle.std.proofs.Common.{◌≡◌, ap, Some}
use Rattle.json.specs.Lex.{lex, between}
use Rattle.cdc_message.specs.Reading.{whole_number}
use Rattle.cdc_message.proofs.Unordered.{quoted_gives, gives_after}
use Rattle.cdc_message.proofs.own_bodies.Cursor.quoted_number.Goals as goal

pub returns : goal.returns
returns c =
    let n = c.in_ok-number.number in
    gives_after 0 (λ value. whole_number value ≡ Some n) _ _ c.quoted_128.new.self.rest.now
    (ap (lex between) c.in_ok-number.ensures.text)
    (quoted_gives n c.quoted_128.new.self.rest.now c.in_ok-number.ensures.fits)
