-- What a broker's taking of a packet does to its session, its tag and its items.
use Rattle.std.proofs.Common.{◌≡◌, ◌⊎◌, ℕ, ◌+◌, ◌≤◌, true, false, List, [], ◌∷◌, ◌++◌, refl, sym, ap, inl, inr, arith}
use Rattle.std.specs.Prelude.{◌==◌, nat_lt, Option, Some, None, Contains, fold}
use Rattle.std.proofs.lemmas.Bool.{and_parts, cases_Bool, eqb-true, ltb-true}
use Rattle.std.proofs.lemmas.List.Elements.{Contains-append_right, Contains-push_cases, filter_map-append}
use Rattle.std.proofs.lemmas.List.Sums.{fold-append}
use Rattle.std.proofs.lemmas.Option.{cond_some}
use Rattle.cdc_broker.specs.Packets.{current_session, expected_after, expected_tag, is_tag, is_taken, items_of, packet_item, session_after, tag_after}
use Rattle.cdc_laws.specs.Arrivals.{taken_after}
use Rattle.cdc_laws.specs.Takings.{session_of}
use Rattle.cdc_laws.proofs.ListElements.{Contains-cons_cases, none_there}
use Rattle.cdc_message.specs.declared.items.Item.{Item}
use Rattle.cdc_message.specs.declared.packets.Packet.{Packet}
use Rattle.cdc_message.specs.declared.packets.Packet.TheVariants.{Connect, Publish}
use Rattle.cdc_types.specs.Widths.{max_64}

-- ---- one more packet

-- a packet that the broker takes adds its item, if it has one, after those taken before
pub items_of-push : (packets : List Packet) (packet : Packet)
    → items_of (packets ++ packet ∷ []) ≡ items_of packets ++ items_of (packet ∷ [])
items_of-push packets packet = filter_map-append packet_item packets (packet ∷ [])

-- a connect that is taken makes its session the current one, and a publish leaves it
pub current_session-push : (packets : List Packet) (packet : Packet)
    → current_session (packets ++ packet ∷ []) ≡ session_after (current_session packets) packet
current_session-push packets packet = fold-append session_after 0 packets (packet ∷ [])

-- a connect that is taken begins the tags at 1 again, and a publish makes the tag after its own the next
pub expected_tag-push : (packets : List Packet) (packet : Packet)
    → expected_tag (packets ++ packet ∷ []) ≡ expected_after (expected_tag packets) packet
expected_tag-push packets packet = fold-append expected_after None packets (packet ∷ [])

-- the tag that is taken next
pub is_tag-some : (expected : Option ℕ) (tag : ℕ) → is_tag expected tag ≡ true → expected ≡ Some tag
is_tag-some None tag is = cc
is_tag-some (Some next) tag is = ap (λ n. Some n) (eqb-true next tag is)

-- tags count up by one, so no tag is skipped between two items that are taken
pub tag_after-is : (tag next : ℕ) → tag_after tag ≡ Some next → next ≡ tag + 1
tag_after-is tag next is = sym (cond_some (nat_lt (tag + 1) max_64) (tag + 1) next is).1

-- the item of a publish that was taken is among the items
pub item_taken : (packets : List Packet) (session tag : ℕ) (item : Item) → Contains packets (Publish session tag item)
    → Contains (items_of packets) item
item_taken [] session tag item there = absurd (none_there (Publish session tag item) there)
item_taken (Connect c ∷ packets) session tag item there =
    elim (Contains-cons_cases (Connect c) packets (Publish session tag item) there) [
      | inl is ↦ cc
      | inr later ↦ item_taken packets session tag item later
    ]
item_taken (Publish c t x ∷ packets) session tag item there =
    elim (Contains-cons_cases (Publish c t x) packets (Publish session tag item) there) [
      | inl is ↦ let same : x ≡ item = cc in (0, omega arith, same)
      | inr later ↦
          Contains-append_right (x ∷ []) (items_of packets) item (item_taken packets session tag item later)
    ]

-- ---- the current session only rises

-- a packet that is taken is of the current session or, if it connects, of a later one
taken_number : (taken : List Packet) (packet : Packet) → is_taken taken packet ≡ true
    → current_session taken ≤ session_of packet
taken_number taken (Connect session) takes =
    let above = ltb-true (current_session taken) session takes in omega (arith, above)
taken_number taken (Publish session tag item) takes =
    let same = eqb-true session _ (and_parts (session == current_session taken) _ takes).0 in omega (arith, same)

-- so the current session doesn't fall
current_rises : (taken : List Packet) (packet : Packet) → is_taken taken packet ≡ true
    → current_session taken ≤ session_after (current_session taken) packet
current_rises taken (Connect session) takes = taken_number taken (Connect session) takes
current_rises taken (Publish session tag item) takes = omega arith

-- a packet is taken or ignored
pub taken_after-true : (taken : List Packet) (packet : Packet) → is_taken taken packet ≡ true
    → taken_after taken packet ≡ taken ++ packet ∷ []
taken_after-true taken packet takes = rw takes refl

pub taken_after-false : (taken : List Packet) (packet : Packet) → is_taken taken packet ≡ false
    → taken_after taken packet ≡ taken
taken_after-false taken packet passes = rw passes refl

-- whatever is taken from now on is of the session that is current now, or of a later one
pub later_numbers : (taken rest : List Packet) (packet : Packet) → Contains (fold taken_after taken rest) packet
    → Contains taken packet ⊎ (current_session taken ≤ session_of packet)
later_numbers taken [] packet there = inl there
later_numbers taken (first ∷ rest) packet there =
    elim (cases_Bool (is_taken taken first)) [
      | inl takes ↦
          let now = rw (taken_after-true taken first takes) at there in
          elim (later_numbers (taken ++ first ∷ []) rest packet now) [
            | inl so_far ↦
                elim (Contains-push_cases taken first packet so_far) [
                  | inl old ↦ inl old
                  | inr is ↦ inr (rw (← is) (taken_number taken first takes))
                ]
            | inr late ↦ inr (omega (arith, late, current_session-push taken first, current_rises taken first takes))
          ]
      | inr passes ↦ later_numbers taken rest packet (rw (taken_after-false taken first passes) at there)
    ]
