use Rattle.std.proofs.Common.{◌≡◌, ℕ, ◌<◌, ◌≤◌, ◌==◌, ◌∙◌, ◌++◌, ◌∷◌, [], true, false, List, Some, sym, ap, length, drop, arith}
use Rattle.std.specs.Prelude.{slice_get}
use Rattle.std.proofs.lemmas.Bool.Decides.{nat_tests}
use Rattle.circular_buffer.specs.Buffer.{Buffer}
use Rattle.cdc_publisher.specs.declared.session.Unconfirmed.{Unconfirmed}
use Rattle.cdc_publisher.proofs.Rings.{holds_back, holds_taken, keep_all, turn_back, turn_fits, turn_taken}
use Rattle.cdc_publisher.proofs.session.take_out.Goals as goal
use Rattle.cdc_publisher.proofs.session.take_out.Goals.{then-entry-tag, else-entry-tag}

equal_test : (a b : ℕ) → a ≡ b → (a == b) ≡ true
equal_test a b is = grind (arith, nat_tests)

other_test : (a b : ℕ) → (a ≡ b → ⊥) → (a == b) ≡ false
other_test a b is = grind (arith, nat_tests)

pub loop-turn-preserved : goal.loop-turn-preserved
loop-turn-preserved c =
    let tag = c.args.tag in
    let old = c.args.unconfirmed.now.items in
    let i = c.loop-turn._turn in
    let items = c.loop-turn.unconfirmed.items in
    let x = c.unwrap-entry.result in
    let inside : i < length old = omega arith in
    let are = c.loop-turn.invariant.items in
    let first : slice_get items 0 ≡ Some x = sym c.pop_front.ensures.value ∙ c.unwrap-entry.ensures in
    let fits : length old ≤ c.args.unconfirmed.now.capacity = omega arith in
    let left = ap (λ (b : Buffer Unconfirmed). b.items) c.pop_front.ensures.items in
    let room = ap (λ (b : Buffer Unconfirmed). b.capacity) c.pop_front.ensures.items
    ∙ c.loop-turn.invariant.capacity in
    elim c.if-entry-tag.branch [
      | then-entry-tag w ↦
          let same = equal_test x.tag tag w.if-entry-tag.true in
          record {
            items = ap (λ (b : Buffer Unconfirmed). b.items) w.unconfirmed-is ∙ left
                ∙ turn_taken tag old i items x inside are first same;
            capacity = ap (λ (b : Buffer Unconfirmed). b.capacity) w.unconfirmed-is ∙ room;
            taken = w.taken-is ∙ holds_taken tag old i items x inside are first same;
          }
      | else-entry-tag w ↦
          let other = other_test x.tag tag w.if-entry-tag.false in
          let all = ap (λ (entries : List Unconfirmed). entries ++ x ∷ []) left in
          let long : length (c.pop_front.new.self.items ++ x ∷ []) ≡ length (drop 1 items ++ x ∷ []) = ap length all in
          let few = turn_fits tag old i items x inside are first c.args.unconfirmed.now.capacity fits in
          let within : length (c.pop_front.new.self.items ++ x ∷ []) ≤ c.pop_front.new.self.capacity = omega arith in
          record {
            items = ap (λ (b : Buffer Unconfirmed). b.items) (w.unconfirmed-is ∙ w.push_back.ensures.items)
                ∙ keep_all c.pop_front.new.self.capacity (c.pop_front.new.self.items ++ x ∷ []) within
                ∙ all ∙ turn_back tag old i items x inside are first other;
            capacity = ap (λ (b : Buffer Unconfirmed). b.capacity) (w.unconfirmed-is ∙ w.push_back.ensures.items)
                ∙ room;
            taken = w.taken-is ∙ c.loop-turn.invariant.taken ∙ holds_back tag old i items x inside are first other;
          }
    ]
