use Rattle.std.proofs.Common.{◌≡◌, Some}
use Rattle.serde_json.specs.Find.{as_str}
use Rattle.cdc_message.specs.Kinds.{kind_text}
use Rattle.cdc_message.proofs.Unordered.{gives_after, in_three, kind_gives}
use Rattle.cdc_message.proofs.own_bodies.Cursor.any_kind.Goals as goal

pub returns : goal.returns
returns c =
    let kind = c.in_ok-kind.kind in
    let rest = c.byte.new.self.rest.now in
    gives_after 0 (λ value. as_str value ≡ Some (kind_text kind)) _ _ rest
    (in_three (kind_text kind) _ _ _ rest c.in_ok-sign.ensures c.in_ok-kind_literal.ensures c.in_ok-byte.ensures)
    (kind_gives kind rest)
