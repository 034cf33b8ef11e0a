-- The entries of deliveries, and the tags of those that carry none.
use Rattle.std.proofs.Common.{◌≡◌, ℕ, ◌+◌, ◌≤◌, List, [], ◌∷◌, ◌++◌, length, take, Bool, Ok, refl, sym, ap}
use Rattle.std.proofs.Common.{◌∙◌, arith, append_assoc, append-nil}
use Rattle.std.proofs.lemmas.List.{take-append-le, take_all}
use Rattle.cdc_amqp_methods.specs.declared.requests.Request.{Request}
use Rattle.cdc_follow.specs.declared.entries.Entry.{Entry}
use Rattle.cdc_amqp_dialogue.specs.Deliveries.{Delivery, bad_tag, bad_tags, delivery_entry, entries_of, entry_list}
use Rattle.cdc_amqp_dialogue.specs.Laws.{Carries, rejected_tag, rejected_tags}

-- one more delivery
pub entries_more : (chained : Bool) (ds : List Delivery) (d : Delivery)
    → entries_of chained (ds ++ d ∷ []) ≡ entries_of chained ds ++ entry_list (delivery_entry chained d)
unfolding entries_of
entries_more chained [] d = append-nil (entry_list (delivery_entry chained d))
entries_more chained (x ∷ ds) d =
    let one = entry_list (delivery_entry chained x) in
    ap (λ (l : List Entry). one ++ l) (entries_more chained ds d)
    ∙ sym (append_assoc one (entries_of chained ds) (entry_list (delivery_entry chained d)))

pub tags_more : (chained : Bool) (tag : ℕ) (ds : List Delivery) (d : Delivery)
    → bad_tags chained tag (ds ++ d ∷ [])
    ≡ bad_tags chained tag ds ++ bad_tag (tag + length ds) (delivery_entry chained d)
unfolding bad_tags
tags_more chained tag [] d =
    append-nil (bad_tag tag (delivery_entry chained d))
    ∙ ap (λ (n : ℕ). bad_tag n (delivery_entry chained d)) (omega arith)
tags_more chained tag (x ∷ ds) d =
    let one = bad_tag tag (delivery_entry chained x) in
    ap (λ (l : List ℕ). one ++ l) (tags_more chained (tag + 1) ds d
    ∙ ap (λ (n : ℕ). bad_tags chained (tag + 1) ds ++ bad_tag n (delivery_entry chained d)) (omega arith))
    ∙ sym (append_assoc one (bad_tags chained (tag + 1) ds)
    (bad_tag (tag + length (x ∷ ds)) (delivery_entry chained d)))

-- requests after others
pub rejected_more : (rs more : List Request) → rejected_tags (rs ++ more) ≡ rejected_tags rs ++ rejected_tags more
unfolding rejected_tags
rejected_more [] more = refl
rejected_more (r ∷ rs) more =
    ap (λ (l : List ℕ). rejected_tag r ++ l) (rejected_more rs more)
    ∙ sym (append_assoc (rejected_tag r) (rejected_tags rs) (rejected_tags more))

-- the first deliveries stay the first ones
pub first_stay : (n : ℕ) (ds more : List Delivery) → n ≤ length ds → take n (ds ++ more) ≡ take n ds
first_stay n ds more le = take-append-le n ds more le

-- all of them are the first ones
pub all_first : (n : ℕ) (ds : List Delivery) → n ≡ length ds → take n ds ≡ ds
all_first n ds is = take_all n ds (omega (arith, is))

-- a delivery that carries an entry does so when more deliveries come
pub carries_more : (chained : Bool) (ds more : List Delivery) (tag : ℕ) → Carries chained ds tag
    → Carries chained (ds ++ more) tag
carries_more chained ds more tag carries = record {
  before = carries.before;
  delivery = carries.delivery;
  later = carries.later ++ more;
  all = ap (λ (l : List Delivery). l ++ more) carries.all
      ∙ append_assoc carries.before (carries.delivery ∷ carries.later) more;
  tag_is = carries.tag_is;
  entry = carries.entry;
  carried = carries.carried;
}

-- the last of them carries this entry
pub carries_last : (chained : Bool) (ds : List Delivery) (d : Delivery) (tag : ℕ) (e : Entry) → tag ≡ length ds + 1
    → delivery_entry chained d ≡ Ok e → Carries chained (ds ++ d ∷ []) tag
carries_last chained ds d tag e is carried =
    record { before = ds; delivery = d; later = []; all = refl; tag_is = is; entry = e; carried = carried }
