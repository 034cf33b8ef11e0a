use Rattle.std.proofs.Common.{◌≡◌, ◌-◌, ◌∙◌, ap, length, sym, arith}
use Rattle.std.proofs.lemmas.Bool.Decides.{Decides-eqb, nat_tests}
use Rattle.std.proofs.lemmas.Slice.Eq.{slice_eq-Decides}
use Rattle.std.specs.List.{slice_range}
use Rattle.std.specs.Int.{to_le_bytes, w64}
use Rattle.cdc_message.proofs.Ends.{are_one, meet}
use Rattle.cdc_message.proofs.words.same.Goals as goal

-- the first eight bytes and the last eight are the same, and these are all
pub returns-then-length-le16 : goal.returns-then-length-le16
returns-then-length-le16 c =
    let first_words : c.first_word.result ≡ c.first_word-2.result = grind (arith, nat_tests) in
    let last_words : c.last_word.result ≡ c.last_word-else-first_word.result = grind (arith, nat_tests) in (
      λ _. meet c.args.one.now c.args.other.now c.requires (omega (arith)) (omega (arith))
          (sym c.first_word.ensures ∙ ap (to_le_bytes w64) first_words ∙ c.first_word-2.ensures)
          (sym c.last_word.ensures ∙ ap (to_le_bytes w64) last_words ∙ c.last_word-else-first_word.ensures),
      λ _. grind (arith, nat_tests),
    )

-- and what is between them decides
pub returns-else-length-le16 : goal.returns-else-length-le16
returns-else-length-le16 c =
    let decides = slice_eq-Decides Decides-eqb (slice_range c.args.one.now 8 (length c.args.one.now - 8))
    (slice_range c.args.other.now 8 (length c.args.one.now - 8)) c.eq-else-length-le16.result
    c.eq-else-length-le16.ensures in (
      λ true_is. are_one c.args.one.now c.args.other.now c.requires (omega (arith))
          (sym c.first_word.ensures ∙ ap (to_le_bytes w64) c.if-first_word.false ∙ c.first_word-2.ensures)
          (sym c.last_word.ensures ∙ ap (to_le_bytes w64) c.if-last_word.false ∙ c.last_word-else-first_word.ensures)
          (decides.0 true_is
          ∙ ap (λ n. slice_range c.args.other.now 8 (n - 8)) c.requires),
      λ same. decides.1 (ap (λ l. slice_range l 8 (length c.args.one.now - 8)) same),
    )
