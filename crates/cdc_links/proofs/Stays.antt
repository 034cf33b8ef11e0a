-- What the endpoints keep private is preserved by each of their steps.
use Rattle.std.proofs.Common.{◌≡◌, ◌+◌, ◌<◌, ℕ, false, List, [], ◌∷◌, ◌++◌, length, sym, ap, ◌∙◌, subst, length-append, arith}
use Rattle.std.proofs.Math.Numerals.{add-one}
use Rattle.crossbeam_channel.specs.Fifo.{Pushes}
use Rattle.crossbeam_channel.specs.declared.flavors.array.Key.{Key}
use Rattle.atomic_table.specs.declared.badge.Badge.{Badge}
use Rattle.atomic_table.specs.Seated.{TableId}
use Rattle.cdc_links.specs.declared.rule.Parcel.{Parcel}
use Rattle.cdc_links.specs.declared.rule.Parcel.TheVariants.{Message}
use Rattle.cdc_links.specs.declared.rule.Knowledge.{Knowledge}
use Rattle.cdc_links.specs.Links.{LinkId, Incoming, of_sender, fresh_endpoints, with_received, CanSend}
use Rattle.cdc_links.specs.Rule.{sending, receiving, IsRuled, Sent, Took}
use Rattle.cdc_links.proofs.Entries.{follow-snoc}
use Rattle.cdc_links.proofs.Steps.{lawful-sent, sends}

module _ {M N : Type 0} where
  -- the receiver's endpoint shows one more message
  pub received_end : (table after_table : TableId) (slots after_slots : Badge (Key (Parcel M))) (v w : Knowledge M N)
      (e : ℕ × (M × N))
      → after_table ≡ table → after_slots ≡ slots → w ≡ receiving (v.received ++ e ∷ []) v.given v.joined
      → ◌≡◌ {A = Incoming M N} (record
      { link = record { table = after_table; slots = after_slots }; senders = w.given; received = w.received })
      (with_received
      (record { link = record { table = table; slots = slots }; senders = v.given; received = v.received }) e)
  received_end table after_table slots after_slots v w e same_table same_slots is =
      λ i. record {
        link = record { table = same_table i; slots = same_slots i };
        senders = (is i).given;
        received = (is i).received;
      }

  -- one sender more
  pub fresh_more : (link : LinkId M) (n : ℕ)
      → fresh_endpoints {N = N} link (n + 1)
      ≡ fresh_endpoints link n ++ record { link = link; number = n; sent = [] } ∷ []
  fresh_more link n = ap (fresh_endpoints {N = N} link) (add-one n)

  module _ (may_follow : ℕ → List (M × N) → M × N → Type 0) where
    -- a send under the number of the endpoint
    pub sends_as : (n pass number : ℕ) (v : Knowledge M N) (m : M) (name : N) → v ≡ sending number v.sent false
        → may_follow number v.sent (m, name)
        → Pushes (IsRuled may_follow) n pass v (Message number m) (Sent name v (Message number m))
    sends_as n pass number v m name is =
        subst (λ k. may_follow k v.sent (m, name)
        → Pushes (IsRuled may_follow) n pass v (Message k m) (Sent name v (Message k m)))
        (ap (λ u. u.number) is) (sends may_follow n pass v m name (ap (λ u. u.sends) is))

    -- a sender's endpoint after a send
    pub sent_stays : (number count : ℕ) (v w : Knowledge M N) (m : M × N) → v ≡ sending number v.sent false
        → count ≡ length v.sent
        → CanSend may_follow number v.sent → may_follow number v.sent m → w ≡ sending v.number (v.sent ++ m ∷ []) false
        → (w ≡ sending number w.sent false) × (count + 1 ≡ length w.sent) × CanSend may_follow number w.sent
    sent_stays number count v w m is n lawful next then_is =
        let sent : w.sent ≡ v.sent ++ m ∷ [] = ap (λ u. u.sent) then_is in (
          then_is ∙ (λ i. sending ((is i).number) (sym sent i) false),
          omega (arith, ap length sent, length-append v.sent (m ∷ [])),
          subst (CanSend may_follow number) (sym sent) (follow-snoc may_follow number [] v.sent m lawful next),
        )

    -- the receiver's endpoint after a receive
    pub received_stays : (count : ℕ) (v : Knowledge M N) (x : ℕ × M) (w : Knowledge M N)
        → v ≡ receiving v.received v.given []
        → count ≡ length v.received → ((j : ℕ) → CanSend may_follow j (of_sender j v.received))
        → Took may_follow v x w
        → (w ≡ receiving w.received w.given []) × (count + 1 ≡ length w.received)
        × ((j : ℕ) → CanSend may_follow j (of_sender j w.received))
    received_stays count v x w is n lawful emitted =
        let e : ℕ × (M × N) = (x.0, (x.1, emitted.0)) in
        let received : w.received ≡ v.received ++ e ∷ [] = ap (λ u. u.received) emitted.3 in
        let given : w.given ≡ v.given = ap (λ u. u.given) emitted.3 in (
          emitted.3 ∙ (λ i. receiving (sym received i) (sym given i) ((is i).joined)),
          omega (arith, ap length received, length-append v.received (e ∷ [])),
          λ j. subst (λ l. CanSend may_follow j (of_sender j l)) (sym received)
              (lawful-sent may_follow v.received e emitted.2 lawful j),
        )

    -- what a receive answers, for the endpoint as it was shown before
    pub received_answer : (table after_table : TableId) (slots after_slots : Badge (Key (Parcel M)))
        (v w : Knowledge M N) (x : ℕ × M)
        (before : Incoming M N) → after_table ≡ table → after_slots ≡ slots → Took may_follow v x w
        → ◌≡◌ {A = Incoming M N}
        (record { link = record { table = table; slots = slots }; senders = v.given; received = v.received }) before
        → (j : ℕ) × (name : N) × (j < before.senders) × may_follow j (of_sender j before.received) (x.1, name)
        × (◌≡◌ {A = Incoming M N} (record
        { link = record { table = after_table; slots = after_slots }; senders = w.given; received = w.received })
        (with_received before (j, (x.1, name))))
    received_answer table after_table slots after_slots v w x before same_table same_slots emitted shown =
        let after : Incoming M N =
        record {
          link = record { table = after_table; slots = after_slots };
          senders = w.given;
          received = w.received;
        } in
        subst (λ (o : Incoming M N). (j : ℕ) × (name : N) × (j < o.senders)
        × may_follow j (of_sender j o.received) (x.1, name)
        × (after ≡ with_received o (j, (x.1, name)))) shown (
          x.0,
          emitted.0,
          emitted.1,
          emitted.2,
          received_end table after_table slots after_slots v w
              (x.0, (x.1, emitted.0)) same_table same_slots emitted.3,
        )
