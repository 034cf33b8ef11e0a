use Rattle.std.proofs.Common.{◌≡◌, Some}
use Rattle.cdc_message.specs.Reading.{whole_number}
use Rattle.cdc_message.proofs.Unordered.{gives_after}
use Rattle.cdc_message.proofs.own_bodies.Cursor.any_number.Goals as goal

pub returns-in_ok-number : goal.returns-in_ok-number
returns-in_ok-number c =
    gives_after 0 (λ value. whole_number value ≡ Some c.in_ok-number.number) _ _ _ c.spaces.ensures
    c.in_ok-number.ensures

pub returns-in_ok-number-2 : goal.returns-in_ok-number-2
returns-in_ok-number-2 c =
    gives_after 0 (λ value. whole_number value ≡ Some c.in_ok-number-2.number) _ _ _ c.spaces.ensures
    c.in_ok-number-2.ensures
