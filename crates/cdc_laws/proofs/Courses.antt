-- A session's course, and the session as it shows.
use Rattle.std.proofs.Common.{◌≡◌, ◌⊎◌, ℕ, zero, suc, ◌+◌, ◌-◌, ◌<◌, ◌≤◌, Bool, true, false, List, [], ◌∷◌, ◌++◌, length, map, take, drop, refl, sym, ap, ap₂, ◌∙◌, subst, inl, inr, append_assoc, arith}
use Rattle.std.specs.Prelude.{◌==◌, Contains, Some, slice_get}
use Rattle.std.specs.List.{list_all}
use Rattle.std.proofs.lemmas.Bool.{and_parts, cases_Bool, cases_lt, eqb-true, or_cases}
use Rattle.std.proofs.lemmas.List.Folds.{list_any-append}
use Rattle.std.proofs.lemmas.List.{length-map, length-take, map-append, take-append-drop, take-append-le, take_more}
use Rattle.std.proofs.lemmas.Option.{get_or_from_slice_get, slice_get_within}
use Rattle.cdc_ledger.specs.Events.{events}
use Rattle.cdc_ledger.specs.History.{History}
use Rattle.cdc_laws.specs.ConnectorRuns.{IsBase, MayFollow, Shown, publishes_from}
use Rattle.cdc_laws.specs.Connectors.{SendsInTurn, shown_of}
use Rattle.cdc_laws.specs.Line.{end_mark_if, line_after, emitted}
use Rattle.cdc_laws.proofs.Bases.{prefix_at}
use Rattle.cdc_laws.proofs.LongerRuns.{IsPrefix-longer}
use Rattle.cdc_log.specs.Log.{events_after}
use Rattle.cdc_message.specs.declared.items.Item.{Item}
use Rattle.cdc_message.specs.declared.items.Item.TheVariants.{Event as OfEvent, EndMark}
use Rattle.cdc_message.specs.declared.packets.Confirm.{Confirm}
use Rattle.cdc_message.specs.declared.packets.Packet.TheVariants.{Publish}
use Rattle.cdc_message.specs.Replays.{IsPrefix}
use Rattle.cdc_publisher.specs.Courses.{Course, confirmed_from, is_confirmed, numbers_from, tags_sent}
use Rattle.cdc_types.specs.declared.events.Event.{Event}

-- ---- places

-- a prefix with one more element
pub take_one : {X : Type 0} (n : ℕ) (xs : List X) (x : X) → slice_get xs n ≡ Some x
    → take (n + 1) xs ≡ take n xs ++ x ∷ []
take_one n xs x there =
    take_more xs n x (slice_get_within xs n x there)
    ∙ ap (λ y. take n xs ++ y ∷ []) (get_or_from_slice_get xs n x x there)

-- the first n elements are a prefix
pub IsPrefix-take : {X : Type 0} (n : ℕ) (xs : List X) → IsPrefix (take n xs) xs
IsPrefix-take n xs = record { rest = drop n xs; whole = take-append-drop n xs }

-- an element of a prefix is in the list at the same place, before the prefix's end
pub of_take : {X : Type 0} (n : ℕ) (xs : List X) (k : ℕ) (x : X) → slice_get (take n xs) k ≡ Some x
    → (k < n) × (slice_get xs k ≡ Some x)
of_take n xs k x there =
    let within = slice_get_within (take n xs) k x there in
    (omega (arith, within, length-take n xs), prefix_at (take n xs) xs k x (IsPrefix-take n xs) there)

-- the end mark comes after the events
pub end_place : (es : List Event) (closed : Bool) (k : ℕ) → slice_get (emitted es closed) k ≡ Some EndMark
    → k ≡ length es
end_place [] true zero there = refl
end_place [] true (suc k) there = cc
end_place [] false k there = cc
end_place (x ∷ es) closed zero there = cc
end_place (x ∷ es) closed (suc k) there = ap suc (end_place es closed k there)

-- it comes directly after them
pub end_at : (es : List Event) → slice_get (emitted es true) (length es) ≡ Some EndMark
end_at [] = refl
end_at (x ∷ es) = end_at es

-- ---- what a session has sent

-- one more item under the tag that comes next
pub publishes_from-push : (session first : ℕ) (items : List Item) (item : Item)
    → publishes_from session first (items ++ item ∷ [])
    ≡ publishes_from session first items ++ Publish session (first + length items) item ∷ []
publishes_from-push session first [] item = ap (λ n. Publish session n item ∷ []) (omega arith)
publishes_from-push session first (x ∷ items) item =
    let count : first + length (x ∷ items) ≡ (first + 1) + length items = omega arith in
    rw count (ap (λ ps. Publish session first x ∷ ps) (publishes_from-push session (first + 1) items item))

module _ (h : History) (confirms : List Confirm) (course : Course)
    (offered : IsPrefix course.offered (events_after course.base (events h)))
    (complete : course.complete ≡ true
    → (h.closed ≡ true) × (course.offered ≡ events_after course.base (events h))) where
  -- what it was offered is a prefix of what there is to publish
  line_offered : line_after h course.base
      ≡ map OfEvent course.offered ++ (map OfEvent offered.rest ++ end_mark_if h.closed)
  line_offered =
      ap (λ es. emitted es h.closed) (sym offered.whole)
      ∙ ap (λ items. items ++ end_mark_if h.closed) (map-append OfEvent course.offered offered.rest)
      ∙ append_assoc (map OfEvent course.offered) (map OfEvent offered.rest) (end_mark_if h.closed)

  -- so what it has sent of that is a prefix too, which has the end mark only if the ledger is closed
  pub items_front : (n : ℕ) → (n ≤ length course.offered) ⊎ (course.complete ≡ true)
      → IsPrefix (take n (emitted course.offered true)) (line_after h course.base)
  items_front n (inl within) =
      let es : List Item = map OfEvent course.offered in
      let size = length-map course.offered OfEvent in
      rw (take-append-le n es (EndMark ∷ []) (omega (arith, within, size)), line_offered)
      (IsPrefix-longer (take n es) es (map OfEvent offered.rest ++ end_mark_if h.closed) (IsPrefix-take n es))
  items_front n (inr is) =
      let all = complete is in
      subst (IsPrefix (take n (emitted course.offered true))) (ap₂ emitted all.1 (sym all.0)) (IsPrefix-take n _)

  -- a session that sends in turn may follow whatever it might follow before
  pub MayFollow-course : (start : ℕ) (earlier : List Shown)
      → ((s : Shown) → Contains earlier s → s.number < course.number)
      → IsBase start confirms earlier course.base → SendsInTurn confirms course
      → MayFollow h start confirms earlier (shown_of course)
  MayFollow-course start earlier above base in_turn = record {
    above = above;
    base = base;
    items = items_front (tags_sent course) (elim in_turn [ inl within ↦ inl within | inr ends ↦ inr ends.0 ]);
    end = λ place there.
        let parts = of_take (tags_sent course) (emitted course.offered true) place EndMark there in
        let last = end_place course.offered true place parts.1 in
        elim in_turn [ inl within ↦ absurd (omega (arith, within, last, parts.0)) | inr ends ↦ rw last ends.1 ];
  }

-- ---- tests over numbers

-- what holds of numbers from one on holds of each
pub each_number : (p : ℕ → Bool) (first count k : ℕ) → list_all p (numbers_from first count) ≡ true → first ≤ k
    → k < first + count → p k ≡ true
each_number p first zero k all from below = absurd (omega (arith, from, below))
each_number p first (suc count) k all from below =
    let parts = and_parts (p first) _ all in
    elim (cases_lt first k) [
      | inl later ↦ each_number p (first + 1) count k parts.1 (omega (arith, later)) (omega (arith, below))
      | inr not ↦ let same : first ≡ k = omega (arith, not, from) in rw same at parts.0
    ]

-- a tag that is confirmed is the one that was added, or it was confirmed before
pub confirmed_cases : (course : Course) (tag other : ℕ)
    → is_confirmed (record course { confirmed = course.confirmed ++ tag ∷ [] }) other ≡ true
    → (is_confirmed course other ≡ true) ⊎ (tag ≡ other)
confirmed_cases course tag other is =
    let parts = rw (list_any-append (λ n. n == other) course.confirmed (tag ∷ [])) at is in
    elim (or_cases (is_confirmed course other) _ parts) [
      | inl old ↦ inl old
      | inr new ↦ elim (or_cases (tag == other) false new) [ inl same ↦ inr (eqb-true tag other same) | inr none ↦ cc ]
    ]

-- ---- how far a session is confirmed

-- it is a timestamp up to which all is confirmed: the one after which it began, or that of an event
pub record Reaches (course : Course) (tag : ℕ) (es : List Event) (time : ℕ) : Type 0 where
  pub place : ℕ
  pub event : Event
  pub here : slice_get es place ≡ Some event
  pub at : event.timestamp ≡ time
  pub all : (i : ℕ) → i ≤ place → is_confirmed course (tag + i) ≡ true

-- what a session saves is such a timestamp
pub reaches : (course : Course) (tag time : ℕ) (es : List Event)
    → (confirmed_from course time tag es ≡ time) ⊎ Reaches course tag es (confirmed_from course time tag es)
reaches course tag time [] = inl refl
reaches course tag time (e ∷ es) =
    elim (cases_Bool (is_confirmed course tag)) [
      | inr not ↦ rw not (inl refl)
      | inl is ↦
          let first : (i : ℕ) → i ≤ 0 → is_confirmed course (tag + i) ≡ true =
          λ i low. let this : tag + i ≡ tag = omega (arith, low) in rw this is in
          rw is
          (elim (reaches course (tag + 1) e.timestamp es) [
            | inl same ↦ inr (record { place = 0; event = e; here = refl; at = sym same; all = first })
            | inr rest ↦
                inr
                (record {
                  place = suc rest.place;
                  event = rest.event;
                  here = rest.here;
                  at = rest.at;
                  all = λ i low.
                      elim (cases_lt 0 i) [
                        | inl above ↦
                            let this : tag + i ≡ tag + 1 + (i - 1) = omega (arith, above) in
                            rw this (rest.all (i - 1) (omega (arith, low, above)))
                        | inr none ↦ first i none
                      ];
                })
          ])
    ]
