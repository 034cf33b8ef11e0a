-- The events of a log's segments: the index of each event, and the effect of a push and of a search.
use Rattle.std.proofs.Common.{◌≡◌, ℕ, suc, zero, ◌+◌, ◌-◌, ◌*◌, ◌^◌, ◌<◌, ◌≤◌, true, false, inl, inr, cond, min, nat_le, nat_lt, List, [], ◌∷◌, ◌++◌, length, get_or, set, drop, take, Some, None, slice_get, refl, sym, ap, ◌∙◌, subst, arith, append_assoc, length-append}
use Rattle.std.specs.List.Sorted.{IsPartitionedBy, IsPartitionPoint}
use Rattle.std.specs.Option.{MatchOption}
use Rattle.std.proofs.lemmas.Bool.{cases_lt, true≢false}
use Rattle.std.proofs.lemmas.Bool.Decides.{nat_tests}
use Rattle.std.proofs.lemmas.List.{drop-append-le, length-set}
use Rattle.std.proofs.Math.Seq.{drop-append-add}
use Rattle.cdc_types.specs.declared.events.Event.{Event}
use Rattle.cdc_types.specs.Timestamps.{last_timestamp, RiseFrom}
use Rattle.cdc_types.proofs.Rising.{RiseFrom-earlier, RiseFrom-push}
use Rattle.cdc_log.specs.Log.{events_after}
use Rattle.cdc_log.specs.Segments.{joined, AreFilled, begins_by, IsKept}

-- what no events fill is empty
pub joined-none : (segments : List (List Event)) → AreFilled 0 segments → joined segments ≡ []
joined-none [] filled = refl
joined-none ([] ∷ segments) filled = joined-none segments filled.1
joined-none ((e ∷ s) ∷ segments) filled = absurd (omega (arith, filled.0))

-- the segments have as many events as fill them
pub length-joined : (n : ℕ) (segments : List (List Event)) → AreFilled n segments → length (joined segments) ≡ n
length-joined n [] filled = sym filled
length-joined n (s ∷ segments) filled =
    let rest = length-joined (n - 1024) segments filled.1 in
    let both = length-append s (joined segments) in
    omega (arith, filled.0)

-- and room for all of them
pub filled-fits : (n : ℕ) (segments : List (List Event)) → AreFilled n segments → n ≤ 1024 * length segments
filled-fits n [] filled = omega (arith, filled)
filled-fits n (s ∷ segments) filled = let rest = filled-fits (n - 1024) segments filled.1 in omega arith

-- one more empty segment has none of them
pub filled-more : (n : ℕ) (segments : List (List Event)) → AreFilled n segments
    → (joined (segments ++ [] ∷ []) ≡ joined segments) × AreFilled n (segments ++ [] ∷ [])
filled-more n [] filled = (refl, (omega (arith, filled), omega (arith, filled)))
filled-more n (s ∷ segments) filled =
    let rest = filled-more (n - 1024) segments filled.1 in (ap (λ es. s ++ es) rest.0, (filled.0, rest.1))

-- how many events a segment has
pub length-segment : (n : ℕ) (segments : List (List Event)) (i : ℕ) → AreFilled n segments → i < length segments
    → length (get_or segments i []) ≡ min (n - 1024 * i) 1024
length-segment n [] i filled within = absurd (omega arith)
length-segment n (s ∷ segments) zero filled within = filled.0 ∙ ap (λ m. min m 1024) (omega arith)
length-segment n (s ∷ segments) (suc i) filled within =
    let rest = length-segment (n - 1024) segments i filled.1 (omega arith) in omega arith

-- pushing an event into the segment that the next index belongs to appends it to the joined list
pub joined-push : (n : ℕ) (segments : List (List Event)) (i r : ℕ) (e : Event) → AreFilled n segments
    → n ≡ 1024 * i + r → r < 1024 → i < length segments
    → (joined (set segments i (get_or segments i [] ++ e ∷ [])) ≡ joined segments ++ e ∷ [])
    × AreFilled (n + 1) (set segments i (get_or segments i [] ++ e ∷ []))
joined-push n [] i r e filled at low within = absurd (omega arith)
joined-push n (s ∷ segments) zero r e filled at low within =
    let rest : AreFilled 0 segments = subst (λ m. AreFilled m segments) (omega arith) filled.1 in
    let none = joined-none segments rest in
    let longer = length-append s (e ∷ []) in (
      ap (λ es. (s ++ e ∷ []) ++ es) none
          ∙ append_assoc s (e ∷ []) []
          ∙ sym (append_assoc s [] (e ∷ []))
          ∙ ap (λ es. (s ++ es) ++ e ∷ []) (sym none),
      (omega (arith, filled.0), subst (λ m. AreFilled m segments) (omega arith) rest),
    )
joined-push n (s ∷ segments) (suc i) r e filled at low within =
    let rest = joined-push (n - 1024) segments i r e filled.1 (omega arith) low (omega arith) in (
      ap (λ es. s ++ es) rest.0 ∙ sym (append_assoc s (joined segments) (e ∷ [])),
      (
        omega (arith, filled.0),
        subst (λ m. AreFilled m (set segments i (get_or segments i [] ++ e ∷ []))) (omega arith) rest.1,
      ),
    )

-- what is read in front of a seam
slice_get-front : (xs ys : List Event) (k : ℕ) → k < length xs → slice_get (xs ++ ys) k ≡ slice_get xs k
slice_get-front [] ys k low = absurd (omega arith)
slice_get-front (x ∷ xs) ys zero low = refl
slice_get-front (x ∷ xs) ys (suc k) low = slice_get-front xs ys k (omega arith)

-- an index past the first list reads from the second
slice_get-behind : (xs ys : List Event) (k m : ℕ) → m ≡ length xs + k → slice_get (xs ++ ys) m ≡ slice_get ys k
slice_get-behind [] ys k m at = let same : m ≡ k = omega arith in ap (slice_get ys) same
slice_get-behind (x ∷ xs) ys k zero at = absurd (omega arith)
slice_get-behind (x ∷ xs) ys k (suc m) at = slice_get-behind xs ys k m (omega arith)

-- an index past the end reads nothing
slice_get-past : (xs : List Event) (k : ℕ) → length xs ≤ k → slice_get xs k ≡ None
slice_get-past [] k past = refl
slice_get-past (x ∷ xs) zero past = absurd (omega arith)
slice_get-past (x ∷ xs) (suc k) past = slice_get-past xs k (omega arith)

-- the event at a place is that at a place of its segment
pub slice_get-joined : (n : ℕ) (segments : List (List Event)) (k i r : ℕ) → AreFilled n segments → k ≡ 1024 * i + r
    → r < 1024
    → MatchOption (slice_get segments i) (slice_get (joined segments) k ≡ None)
    (λ s. slice_get (joined segments) k ≡ slice_get s r)
slice_get-joined n [] k i r filled at low = refl
slice_get-joined n (s ∷ segments) k zero r filled at low =
    elim (cases_lt r (length s)) [
      | inl within ↦ slice_get-front s (joined segments) k (omega arith)
          ∙ ap (slice_get s) (omega arith)
      | inr past ↦
          let all = length-joined (n - 1024) segments filled.1 in
          let both = length-append s (joined segments) in
          slice_get-past (s ++ joined segments) k (omega (arith, filled.0))
          ∙ sym (slice_get-past s r past)
    ]
slice_get-joined n (s ∷ segments) k (suc i) r filled at low =
    let rest = slice_get-joined (n - 1024) segments (k - 1024) i r filled.1 (omega arith) low in
    let all = length-joined (n - 1024) segments filled.1 in
    let both = length-append s (joined segments) in
    let here : slice_get (s ++ joined segments) k ≡ slice_get (joined segments) (k - 1024) =
    elim (cases_lt n 1024) [
      | inl few ↦ slice_get-past (s ++ joined segments) k (omega (arith, filled.0))
          ∙ sym (slice_get-past (joined segments) (k - 1024) (omega arith))
      | inr many ↦ slice_get-behind s (joined segments) (k - 1024) k (omega (arith, filled.0))
    ] in
    subst (λ o. MatchOption (slice_get segments i) (o ≡ None) (λ s. o ≡ slice_get s r)) (sym here) rest

-- a suffix of a rising list rises from the timestamp that the list rises from
RiseFrom-behind : (t : ℕ) (xs es : List Event) → RiseFrom t (xs ++ es) → RiseFrom t es
RiseFrom-behind t [] es rising = rising
RiseFrom-behind t (x ∷ xs) es rising =
    RiseFrom-earlier t x.timestamp es (omega (arith, rising.0)) (RiseFrom-behind x.timestamp xs es rising.1)

-- and so does its front
RiseFrom-front : (t : ℕ) (xs es : List Event) → RiseFrom t (xs ++ es) → RiseFrom t xs
RiseFrom-front t [] es rising = tt
RiseFrom-front t (x ∷ xs) es rising = (rising.0, RiseFrom-front x.timestamp xs es rising.1)

-- so each segment rises by itself
pub RiseFrom-segment : (t : ℕ) (segments : List (List Event)) (i : ℕ) → RiseFrom t (joined segments)
    → RiseFrom t (get_or segments i [])
RiseFrom-segment t [] i rising = tt
RiseFrom-segment t (s ∷ segments) zero rising = RiseFrom-front t s (joined segments) rising
RiseFrom-segment t (s ∷ segments) (suc i) rising =
    RiseFrom-segment t segments i (RiseFrom-behind t s (joined segments) rising)

-- the test `nat_le` of a timestamp implies the order
at_or_before : (m t : ℕ) → nat_le m t ≡ true → m ≤ t
at_or_before m t up_to = grind (arith, nat_tests)

after : (m t : ℕ) → nat_le m t ≡ false → t < m
after m t later = grind (arith, nat_tests)

is_later : (m t : ℕ) → t < m → nat_lt t m ≡ true
is_later m t later = grind (arith, nat_tests)

is_not_later : (m t : ℕ) → m ≤ t → nat_lt t m ≡ false
is_not_later m t up_to = grind (arith, nat_tests)

is_up_to : (m t : ℕ) → m ≤ t → nat_le m t ≡ true
is_up_to m t up_to = grind (arith, nat_tests)

-- if the joined segments rise from a timestamp and a segment begins by t, that timestamp is before t
begun_after : (t from : ℕ) (segments : List (List Event)) (j : ℕ) (d : List Event) → RiseFrom from (joined segments)
    → j < length segments → begins_by t (get_or segments j d) ≡ true → from < t
begun_after t from [] j d rising within begins = absurd (omega arith)
begun_after t from ([] ∷ segments) zero d rising within begins = absurd (true≢false (sym begins))
begun_after t from ((x ∷ s) ∷ segments) zero d rising within begins =
    let up_to = at_or_before x.timestamp t begins in omega (arith, rising.0)
begun_after t from (s ∷ segments) (suc j) d rising within begins =
    begun_after t from segments j d (RiseFrom-behind from s (joined segments) rising) (omega arith) begins

-- a segment that begins by a timestamp has events
begun_filled : (t n : ℕ) (segments : List (List Event)) (j : ℕ) (d : List Event) → AreFilled n segments
    → j < length segments → begins_by t (get_or segments j d) ≡ true → 1024 * j < n
begun_filled t n [] j d filled within begins = absurd (omega arith)
begun_filled t n ([] ∷ segments) zero d filled within begins = absurd (true≢false (sym begins))
begun_filled t n ((x ∷ s) ∷ segments) zero d filled within begins = omega (arith, filled.0)
begun_filled t n (s ∷ segments) (suc j) d filled within begins =
    let rest = begun_filled t (n - 1024) segments j d filled.1 (omega arith) begins in omega arith

-- if a segment begins by a timestamp, so do all segments before it: binary search finds the last of them
pub begun-parted : (t n from : ℕ) (segments : List (List Event)) → AreFilled n segments
    → RiseFrom from (joined segments) → IsPartitionedBy (begins_by t) segments
begun-parted t n from [] filled rising i j d low within begins = absurd (omega arith)
begun-parted t n from (s ∷ segments) filled rising zero zero d low within begins = begins
begun-parted t n from ([] ∷ segments) filled rising zero (suc j) d low within begins =
    let some = begun_filled t (n - 1024) segments j d filled.1 (omega arith) begins in absurd (omega (arith, filled.0))
begun-parted t n from ((x ∷ s) ∷ segments) filled rising zero (suc j) d low within begins =
    let before = begun_after t x.timestamp segments j d
    (RiseFrom-behind x.timestamp s (joined segments) rising.1) (omega arith) begins in
    is_up_to x.timestamp t (omega arith)
begun-parted t n from (s ∷ segments) filled rising (suc i) zero d low within begins = absurd (omega arith)
begun-parted t n from (s ∷ segments) filled rising (suc i) (suc j) d low within begins =
    begun-parted t (n - 1024) from segments filled.1 (RiseFrom-behind from s (joined segments) rising) i j d
    (omega arith) (omega arith) begins

-- the events of a list that rises from a timestamp are later than it
all_after : (t from : ℕ) (es : List Event) → t ≤ from → RiseFrom from es → events_after t es ≡ es
all_after t from [] low rising = refl
all_after t from (e ∷ es) low rising =
    let here = is_later e.timestamp t (omega (arith, rising.0)) in
    let rest = all_after t e.timestamp es (omega (arith, rising.0)) rising.1 in
    (λ i. cond (here i) (e ∷ events_after t es) (events_after t es)) ∙ ap (λ later. e ∷ later) rest

-- if no segment begins by a timestamp, all events are later
pub none-begun : (t from : ℕ) (segments : List (List Event)) → RiseFrom from (joined segments)
    → ((k : ℕ) (d : List Event) → k < length segments → begins_by t (get_or segments k d) ≡ false)
    → events_after t (joined segments) ≡ joined segments
none-begun t from [] rising none = refl
none-begun t from ([] ∷ segments) rising none =
    none-begun t from segments rising (λ k d within. none (suc k) d (omega arith))
none-begun t from ((x ∷ s) ∷ segments) rising none =
    let later = after x.timestamp t (none 0 [] (omega arith)) in
    let here = is_later x.timestamp t later in
    let es = s ++ joined segments in
    let rest = all_after t x.timestamp es (omega arith) rising.1 in
    (λ i. cond (here i) (x ∷ events_after t es) (events_after t es)) ∙ ap (λ later. x ∷ later) rest

-- a list rises from a timestamp that is before each of its events
before_next : (from : ℕ) (xs : List Event) (y : Event) (es : List Event) → RiseFrom from (xs ++ y ∷ es)
    → from < y.timestamp
before_next from [] y es rising = rising.0
before_next from (x ∷ xs) y es rising =
    let next = before_next x.timestamp xs y es rising.1 in omega (arith, rising.0)

-- so none in front of an event that isn't later is
none_after : (t from : ℕ) (xs : List Event) (y : Event) (es : List Event) → RiseFrom from (xs ++ y ∷ es)
    → y.timestamp ≤ t → events_after t xs ≡ []
none_after t from [] y es rising up_to = refl
none_after t from (x ∷ xs) y es rising up_to =
    let next = before_next x.timestamp xs y es rising.1 in
    let here = is_not_later x.timestamp t (omega arith) in
    (λ i. cond (here i) (x ∷ events_after t xs) (events_after t xs)) ∙ none_after t x.timestamp xs y es rising.1 up_to

-- a segment before one that begins by a timestamp is full, and none of its events is later
full_before : (t n from : ℕ) (s : List Event) (segments : List (List Event)) → AreFilled n (s ∷ segments)
    → RiseFrom from (s ++ joined segments) → begins_by t (get_or segments 0 []) ≡ true
    → (length s ≡ 1024) × (events_after t s ≡ [])
full_before t n from s [] filled rising begins = absurd (true≢false (sym begins))
full_before t n from s ([] ∷ segments) filled rising begins = absurd (true≢false (sym begins))
full_before t n from s ((y ∷ ys) ∷ segments) filled rising begins = (
  omega (arith, filled.0, filled.1.0),
  none_after t from s y (ys ++ joined segments) rising (at_or_before y.timestamp t begins),
)

-- what is later of two lists in turn
events_after-append : (t : ℕ) (xs ys : List Event)
    → events_after t (xs ++ ys) ≡ events_after t xs ++ events_after t ys
events_after-append t [] ys = refl
events_after-append t (x ∷ xs) ys =
    elim (nat_lt t x.timestamp) as (λ b. cond b (x ∷ events_after t (xs ++ ys)) (events_after t (xs ++ ys))
    ≡ cond b (x ∷ events_after t xs) (events_after t xs) ++ events_after t ys) [
      | true ↦ ap (λ later. x ∷ later) (events_after-append t xs ys)
      | false ↦ events_after-append t xs ys
    ]

-- take the last segment that begins by a timestamp: the index in it of its first later event is also the index of the
-- first later event in the joined list
pub place-joined : (t n from : ℕ) (segments : List (List Event)) (l p : ℕ) → AreFilled n segments
    → RiseFrom from (joined segments)
    → IsPartitionPoint (λ s. begins_by t s ≡ true) (λ s. begins_by t s ≡ false) segments (suc l)
    → l < length segments → p ≤ length (get_or segments l [])
    → drop p (get_or segments l []) ≡ events_after t (get_or segments l [])
    → drop (1024 * l + p) (joined segments) ≡ events_after t (joined segments)
place-joined t n from [] l p filled rising parts within fits found = absurd (omega arith)
place-joined t n from (s ∷ segments) zero p filled rising parts within fits found =
    let rest = joined segments in
    let later = none-begun t from segments (RiseFrom-behind from s rest rising)
    (λ k d low. parts.1 (suc k) d (omega arith) (omega arith)) in
    let at : 1024 * 0 + p ≡ p = omega arith in
    ap (λ m. drop m (s ++ rest)) at
    ∙ drop-append-le p s rest fits
    ∙ ap (λ es. es ++ rest) found
    ∙ ap (λ es. events_after t s ++ es) (sym later)
    ∙ sym (events_after-append t s rest)
place-joined t n from (s ∷ segments) (suc l) p filled rising parts within fits found =
    let rest = joined segments in
    let before = full_before t n from s segments filled rising (parts.0 1 [] (omega arith) (omega arith)) in
    let next = place-joined t (n - 1024) from segments l p filled.1 (RiseFrom-behind from s rest rising) (
      λ k d low high. parts.0 (suc k) d (omega arith) (omega arith),
      λ k d low high. parts.1 (suc k) d (omega arith) (omega arith),
    ) (omega arith) fits found in
    let at : 1024 * suc l + p ≡ length s + (1024 * l + p) = omega (arith, before.0) in
    ap (λ m. drop m (s ++ rest)) at
    ∙ drop-append-add s rest (1024 * l + p)
    ∙ next
    ∙ ap (λ es. es ++ events_after t rest) (sym before.1)
    ∙ sym (events_after-append t s rest)

-- and it is a place of the log
pub place-fits : (t n : ℕ) (segments : List (List Event)) (l p : ℕ) → AreFilled n segments → l < length segments
    → begins_by t (get_or segments l []) ≡ true → p ≤ length (get_or segments l []) → 1024 * l + p ≤ n
place-fits t n segments l p filled within begins fits =
    let some = begun_filled t n segments l [] filled within begins in
    let long = length-segment n segments l filled within in
    omega arith

-- what `add_segment` leaves is kept
pub IsKept-more : (segments : List (List Event)) (n : ℕ) → IsKept segments n → 1024 * length segments + 1024 ≤ 2 ^ 63
    → IsKept (segments ++ [] ∷ []) n
IsKept-more segments n kept few =
    let more = filled-more n segments kept.filled in
    let long = length-append segments ([] ∷ []) in
    record {
      filled = more.1;
      rising = subst (RiseFrom 0) (sym more.0) kept.rising;
      countable = omega arith;
    }

-- and so is what `push` leaves
pub IsKept-push : (segments : List (List Event)) (n i r : ℕ) (e : Event) → IsKept segments n → n ≡ 1024 * i + r
    → r < 1024 → i < length segments → last_timestamp (joined segments) < e.timestamp
    → IsKept (set segments i (get_or segments i [] ++ e ∷ [])) (n + 1)
IsKept-push segments n i r e kept at low within later =
    let put = joined-push n segments i r e kept.filled at low within in
    let long = length-set segments i (get_or segments i [] ++ e ∷ []) in
    let countable = kept.countable in
    record {
      filled = put.1;
      rising = subst (RiseFrom 0) (sym put.0) (RiseFrom-push 0 (joined segments) e kept.rising later);
      countable = omega arith;
    }

-- a range that is extended by one index gains the event at that index
pub take-next : (es : List Event) (first place n : ℕ) (e : Event) → place ≡ first + n → slice_get es place ≡ Some e
    → take (suc n) (drop first es) ≡ take n (drop first es) ++ e ∷ []
take-next [] first place n e at found = let never : ⊥ = cc in absurd never
take-next (x ∷ es) zero zero zero e at found = let same : x ≡ e = cc in ap (λ y. y ∷ []) same
take-next (x ∷ es) zero zero (suc n) e at found = absurd (omega arith)
take-next (x ∷ es) zero (suc place) zero e at found = absurd (omega arith)
take-next (x ∷ es) zero (suc place) (suc n) e at found =
    ap (λ ys. x ∷ ys) (take-next es zero place n e (omega arith) found)
take-next (x ∷ es) (suc first) zero n e at found = absurd (omega arith)
take-next (x ∷ es) (suc first) (suc place) n e at found = take-next es first place n e (omega arith) found
