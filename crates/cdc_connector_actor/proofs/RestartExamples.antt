-- Where a connector restarts in short lists of packets: as its plan has it, late, early, never, and twice.
use Rattle.cdc_connector_actor.proofs.Words.{◌∙◌, ◌∷◌, ◌≡◌, Bool, Connect, IsBroken, IsUnplanned, List, MayPublish, Packet, Publish, RestartsAsPlanned, [], ap, arith, false≢true, inl, inr, is_planned, refl, same_Some, sym, true, true≢false, ℕ}
use Rattle.cdc_message.specs.declared.items.Item.{Item}
use Rattle.cdc_connector_actor.proofs.ConnectorLemmas.Restarts.{MayConnect-first, MayConnect-planned, RestartsAsPlanned-none, RestartsAsPlanned-sent}

-- nothing is among no confirms
none_broken : (session : ℕ) → IsBroken [] session → ⊥
none_broken session there = omega (arith, there.1)

module _ (item : Item) where
  -- the first packets of a session
  abbrev one : List Packet
  one = Connect 1 ∷ Publish 1 1 item ∷ []

  -- ---- as planned

  -- a restart after the first publish packet
  as_planned : RestartsAsPlanned (1 ∷ []) true [] (Connect 1 ∷ Publish 1 1 item ∷ Connect 2 ∷ Publish 2 1 item ∷ [])
  as_planned =
      let connected : RestartsAsPlanned (1 ∷ []) true [] (Connect 1 ∷ []) =
      RestartsAsPlanned-sent (1 ∷ []) true [] [] (Connect 1) (RestartsAsPlanned-none (1 ∷ []) true [])
      (MayConnect-first (1 ∷ []) true [] 1) in
      let published : RestartsAsPlanned (1 ∷ []) true [] one =
      RestartsAsPlanned-sent (1 ∷ []) true [] (Connect 1 ∷ []) (Publish 1 1 item) connected
      (record { last = Connect 1; is_last = refl; own = refl; unplanned = refl }) in
      let restarted : RestartsAsPlanned (1 ∷ []) true [] (Connect 1 ∷ Publish 1 1 item ∷ Connect 2 ∷ []) =
      RestartsAsPlanned-sent (1 ∷ []) true [] one (Connect 2) published
      (MayConnect-planned (1 ∷ []) true [] one 1 2 (λ _. refl) (Publish 1 1 item) refl refl refl) in
      RestartsAsPlanned-sent (1 ∷ []) true [] (Connect 1 ∷ Publish 1 1 item ∷ Connect 2 ∷ []) (Publish 2 1 item)
      restarted (record { last = Connect 2; is_last = refl; own = refl; unplanned = refl })

  -- ---- otherwise

  -- no publish packet comes after one that the plan names
  not_after : MayPublish (1 ∷ []) one 1 → ⊥
  not_after may =
      let same : may.last ≡ Publish 1 1 item = same_Some may.last (Publish 1 1 item) (sym may.is_last) in
      true≢false (ap (λ (p : Packet). is_planned (1 ∷ []) one p) (sym same) ∙ may.unplanned)

  -- so a restart comes no packet late, and it does come
  late : (honest : Bool) → RestartsAsPlanned (1 ∷ []) honest []
      (Connect 1 ∷ Publish 1 1 item ∷ Publish 1 2 item ∷ Connect 2 ∷ []) → ⊥
  late honest are = not_after (are one (Publish 1 2 item) (Connect 2 ∷ []) refl)

  never : (honest : Bool) → RestartsAsPlanned (1 ∷ []) honest []
      (Connect 1 ∷ Publish 1 1 item ∷ Publish 1 2 item ∷ []) → ⊥
  never honest are = not_after (are one (Publish 1 2 item) [] refl)

  -- also if the packet is the last of the run
  never_last : IsUnplanned (1 ∷ []) one → ⊥
  never_last none = true≢false (none (Publish 1 1 item) refl)

  -- it comes no packet early
  early : (honest : Bool) → RestartsAsPlanned (2 ∷ []) honest []
      (Connect 1 ∷ Publish 1 1 item ∷ Connect 2 ∷ Publish 2 1 item ∷ []) → ⊥
  early honest are =
      elim (are one (Connect 2) (Publish 2 1 item ∷ []) refl (Publish 1 1 item) refl).cause [
        | inl planned ↦ false≢true planned
        | inr broken ↦ none_broken 1 broken
      ]

  -- it doesn't come twice, whether the session in between connects
  twice : (honest : Bool) → RestartsAsPlanned (1 ∷ []) honest []
      (Connect 1 ∷ Publish 1 1 item ∷ Connect 2 ∷ Connect 3 ∷ []) → ⊥
  twice honest are =
      elim (are (Connect 1 ∷ Publish 1 1 item ∷ Connect 2 ∷ []) (Connect 3) [] refl (Connect 2) refl).cause [
        | inl planned ↦ false≢true planned
        | inr broken ↦ none_broken 2 broken
      ]

  -- or not
  twice_at_once : RestartsAsPlanned (1 ∷ []) true [] (Connect 1 ∷ Publish 1 1 item ∷ Connect 3 ∷ []) → ⊥
  twice_at_once are =
      none_broken 2 ((are one (Connect 3) [] refl (Publish 1 1 item) refl).between refl 2 (omega arith) (omega arith))
