use Rattle.std.proofs.Common.{◌<◌, ◌^◌, ◌∙◌, ap, arith, drop, Some, sym, take}
use Rattle.std.proofs.lemmas.List.{length-drop}
use Rattle.std.proofs.Math.Seq.{take-length}
use Rattle.cdc_message.proofs.LeadingDigits.{read_is}
use Rattle.cdc_message.proofs.own_bodies.Cursor.number.Goals as goal

-- the digits that were read are all
pub returns-in-Some-clause-complete : goal.returns-in-Some-clause-complete
returns-in-Some-clause-complete c n rest is small ends =
    let text = c.args.self.now.rest.now in
    let count = c.in-Some.count in
    let fits : c.in-Some.number < 10 ^ 64 = omega (arith, c.in-Some.ensures.fits) in
    let same = read_is text rest c.in-Some.number count n c.in-Some.ensures.digits.1 c.in-Some.ensures.whole fits is
    (omega arith) ends in (
      ap Some same.0,
      ap (λ k. take k (drop count text)) (sym (length-drop count text)) ∙ take-length (drop count text) ∙ same.1,
    )
