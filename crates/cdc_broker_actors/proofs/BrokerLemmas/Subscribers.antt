-- Lists of subscribers: as they are made, and as each is sent its last message.
use Rattle.cdc_broker_actors.proofs.Words.{◌++◌, ◌+◌, ◌<◌, ◌∙◌, ◌∷◌, ◌≡◌, ◌≤◌, All, Consumer, List, MayStop, Outgoing, ToSubscriber, [], ap, append_assoc, ap₂, arith, drop, drop_more, first_consumer, get_or, get_or_at, length, length-map, length-take-le, map, map_more, set_at, slice_set, sym, take, with_stop, ℕ}

-- subscribers of the first links, and room for those of the rest
pub record AreFirst (all first rest : List (Outgoing ToSubscriber (Unit {0}))) (consumers : List Consumer)
    (len capacity : ℕ) : Type 0 where
  pub parts : first ++ rest ≡ all
  pub made : consumers ≡ map first_consumer first
  pub room : len + length rest ≤ capacity
  pub count : len ≡ length first

-- the first so many were sent their last message
abbrev pub stopped_up_to : ℕ → List Consumer → List Consumer
stopped_up_to n consumers = map with_stop (take n consumers) ++ drop n consumers

module _ (old now : List Consumer) (i : ℕ) (c : Consumer) (inside : i < length old) (so_far : now ≡ stopped_up_to i old)
    (found : c ≡ get_or now i c) where
  abbrev front : List Consumer
  front = map with_stop (take i old)

  front_length : length front ≡ i
  front_length = length-map (take i old) with_stop ∙ length-take-le i old (omega (arith, inside))

  parts : now ≡ front ++ get_or old i c ∷ drop (i + 1) old
  parts = so_far ∙ ap (λ (l : List Consumer). front ++ l) (drop_more old i c inside)

  -- the next one is as it was
  pub next_is : c ≡ get_or old i c
  next_is =
      found ∙ ap (λ (l : List Consumer). get_or l i c) parts
      ∙ get_or_at front (get_or old i c) (drop (i + 1) old) c i front_length

  -- and may be sent its last message
  pub next_may : All MayStop old → MayStop c
  next_may all = rw next_is (all i c inside)

  -- so one more was
  pub stopped_more : (after : Consumer) → after ≡ with_stop c → slice_set now i after ≡ stopped_up_to (i + 1) old
  stopped_more after is =
      ap₂ (λ (l : List Consumer) (x : Consumer). slice_set l i x) parts (is ∙ ap with_stop next_is)
      ∙ set_at front (get_or old i c) (drop (i + 1) old) (with_stop (get_or old i c)) i front_length
      ∙ sym (append_assoc front (with_stop (get_or old i c) ∷ []) (drop (i + 1) old))
      ∙ ap (λ (l : List Consumer). l ++ drop (i + 1) old) (sym (map_more with_stop old i c inside))
