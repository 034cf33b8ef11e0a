use Rattle.std.proofs.Common.{◌≡◌, ◌<◌, get_or, length, refl, subst, sym, ap, ◌∙◌, arith}
use Rattle.std.specs.Bool.{then_some}
use Rattle.cdc_expiry.specs.Triples.{IsFound}
use Rattle.cdc_expiry.proofs.InOrder.{found_there}
use Rattle.cdc_expiry.proofs.index.find.Goals as goal

pub returns : goal.returns
returns c =
    let e = c.args.expires_at in
    let t = c.args.timestamp in
    let xs = c.args.triples.now.items in
    let i = c.place_of-place.result in
    let x = c.in_ok-triple.triple.now in
    let there = c.in_ok-triple.ensures.variant.0 refl in
    let within : i < length xs = omega (arith, there) in
    let at : x ≡ get_or xs i x = c.in_ok-triple.ensures.lookup in
    subst (IsFound xs e t) (ap (λ b. then_some b i) (sym c.is_of.ensures) ∙ sym c.then_some.ensures)
    (found_there xs i e t x c.requires c.place_of-place.ensures.parts within at)
