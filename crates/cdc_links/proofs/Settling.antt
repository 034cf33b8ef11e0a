-- What the receiver's pass has learned, read as the account of all senders that were handed back.
use Rattle.std.proofs.Common.{◌≡◌, ◌+◌, ◌<◌, ◌≤◌, ℕ, suc, cond, List, [], ◌∷◌, ◌++◌, All, map, length, sum_by, sym, refl, ap, ◌∙◌, subst, lt_of_not-le, arith}
use Rattle.std.proofs.lemmas.List.Elements.{All-nil, All-cons}
use Rattle.std.proofs.lemmas.List.{map-append}
use Rattle.std.proofs.lemmas.List.Sums.{sum_by-cons}
use mathlib.Core.List.{cons≢nil}
use Rattle.cdc_links.specs.declared.rule.Knowledge.{Knowledge}
use Rattle.cdc_links.specs.Links.{Outgoing, Incoming, of_sender, IsAccount}
use Rattle.cdc_links.specs.Rule.{receiving, joined_of, with_joined, with_all_joined, IsApart, AreApart, AreWhole, IsSettled}
use Rattle.cdc_links.proofs.Entries.{of_sender-own, of_sender-other}
use Rattle.cdc_links.proofs.DistinctNumbers.{In, Away, Distinct, Below, hits, by_equal, in-contains, all_there, hits-once}

-- zeros add up to zero
sum_by-zero : (ks : List ℕ) → 0 ≡ sum_by (λ _. 0) ks
sum_by-zero [] = refl
sum_by-zero (k ∷ ks) = let rest = sum_by-zero ks in let first = sum_by-cons (λ _. 0) k ks in omega arith

module _ {M N : Type 0} where
  -- the numbers of the endpoints
  abbrev numbers : List (Outgoing M N) → List ℕ
  numbers ends = map (λ end. end.number) ends

  numbers-away : (j : ℕ) (ends : List (Outgoing M N)) → IsApart j (joined_of ends) → Away j (numbers ends)
  numbers-away j [] h = tt
  numbers-away j (x ∷ xs) h = (h.0, numbers-away j xs h.1)

  numbers-distinct : (ends : List (Outgoing M N)) → AreApart (joined_of ends) → Distinct (numbers ends)
  numbers-distinct [] h = tt
  numbers-distinct (x ∷ xs) h = (numbers-away x.number xs h.0, numbers-distinct xs h.1)

  numbers-below : (entries : List (ℕ × (M × N))) (n : ℕ) (ends : List (Outgoing M N))
      → AreWhole entries n (joined_of ends) → Below n (numbers ends)
  numbers-below entries n [] h = tt
  numbers-below entries n (x ∷ xs) h = (h.1, numbers-below entries n xs h.2)

  numbers-length : (ends : List (Outgoing M N)) → length (numbers ends) ≡ length ends
  numbers-length [] = refl
  numbers-length (x ∷ xs) = ap suc (numbers-length xs)

  -- each joined endpoint has sent exactly its part of the entries
  all_whole : (entries : List (ℕ × (M × N))) (n : ℕ) (ends : List (Outgoing M N)) → AreWhole entries n (joined_of ends)
      → All (λ end. of_sender end.number entries ≡ end.sent) ends
  all_whole entries n [] h = All-nil (λ end. of_sender end.number entries ≡ end.sent)
  all_whole entries n (x ∷ xs) h =
      All-cons (λ end. of_sender end.number entries ≡ end.sent) x xs h.0 (all_whole entries n xs h.2)

  -- one more entry counts once for each occurrence of its sender's number
  count-more : (e : ℕ × (M × N)) (es : List (ℕ × (M × N))) (ns : List ℕ)
      → sum_by (λ k. length (of_sender k (e ∷ es))) ns ≡ hits e.0 ns + sum_by (λ k. length (of_sender k es)) ns
  count-more e es [] = refl
  count-more e es (k ∷ ks) =
      let part : ℕ → ℕ = λ j. length (of_sender j es) in
      let more : ℕ → ℕ = λ j. length (of_sender j (e ∷ es)) in
      let rest = count-more e es ks in
      let first = sum_by-cons part k ks in
      let first_more = sum_by-cons more k ks in
      by_equal e.0 k (λ b. sum_by more (k ∷ ks) ≡ cond b 1 0 + hits e.0 ks + sum_by part (k ∷ ks))
      (λ is.
      let own : more k ≡ suc (part k) =
      subst (λ j. length (of_sender j (e ∷ es)) ≡ suc (length (of_sender j es))) is (ap length (of_sender-own e es)) in
      omega arith)
      (λ ne. let other : more k ≡ part k = ap length (of_sender-other k e es ne) in omega arith)

  -- if each entry's sender occurs once among the numbers, there are as many entries as those senders have sent
  count-all : (entries : List (ℕ × (M × N))) (n : ℕ) (ns : List ℕ) → Distinct ns → ((j : ℕ) → j < n → In j ns)
      → ((j : ℕ) → n ≤ j → of_sender j entries ≡ []) → length entries ≡ sum_by (λ k. length (of_sender k entries)) ns
  count-all [] n ns once there fresh = sum_by-zero ns
  count-all (e ∷ es) n ns once there fresh =
      let below : e.0 < n = lt_of_not-le (λ le. cons≢nil (sym (of_sender-own e es) ∙ fresh e.0 le)) in
      let fresh_rest : (j : ℕ) → n ≤ j → of_sender j es ≡ [] =
      λ j le. sym (of_sender-other j e es (λ is. absurd (omega arith))) ∙ fresh j le in
      let rest = count-all es n ns once there fresh_rest in
      let one = hits-once e.0 ns once (there e.0 below) in
      let more = count-more e es ns in
      omega arith

  -- summed over the endpoints, what each has sent is its part of the entries
  sum_sent : (entries : List (ℕ × (M × N))) (n : ℕ) (ends : List (Outgoing M N)) → AreWhole entries n (joined_of ends)
      → sum_by (λ k. length (of_sender k entries)) (numbers ends) ≡ sum_by (λ end. length end.sent) ends
  sum_sent entries n [] h = refl
  sum_sent entries n (x ∷ xs) h =
      let rest = sum_sent entries n xs h.2 in
      let own : length (of_sender x.number entries) ≡ length x.sent = ap length h.0 in
      let first = sum_by-cons (λ k. length (of_sender k entries)) x.number (numbers xs) in
      let first_sent = sum_by-cons (λ end. length end.sent) x xs in
      omega arith

  -- the account
  pub account : (into : Incoming M N) (handed : List (Outgoing M N)) (v : Knowledge M N)
      → v ≡ receiving into.received into.senders (joined_of handed) → IsSettled v → length handed ≡ into.senders
      → (left : List (ℕ × (M × N))) × IsAccount into handed left
  account into handed v is settled many =
      let s : IsSettled (receiving into.received into.senders (joined_of handed)) = subst IsSettled is settled in
      let entries : List (ℕ × (M × N)) = into.received ++ s.left in
      let ns : List ℕ = numbers handed in
      let once = numbers-distinct handed s.once in
      let there =
      all_there into.senders ns once (numbers-below entries into.senders handed s.whole)
      (numbers-length handed ∙ many) in (
        s.left,
        (
          all_whole entries into.senders handed s.whole,
          λ j below. in-contains j ns (there j below),
          count-all entries into.senders ns once there s.fresh ∙ sum_sent entries into.senders handed s.whole,
        ),
      )

  -- one more endpoint was joined
  pub joined_more : (v w after : Knowledge M N) (ends : List (Outgoing M N)) (end : Outgoing M N)
      → w ≡ with_all_joined v ends
      → after ≡ with_joined w end → after ≡ with_all_joined v (ends ++ end ∷ [])
  joined_more v w after ends end was is =
      let x : ℕ × List (M × N) = (end.number, end.sent) in
      let more : joined_of (ends ++ end ∷ []) ≡ joined_of ends ++ x ∷ [] =
      map-append (λ e. (e.number, e.sent)) ends (end ∷ []) in
      is ∙ ((λ i. receiving ((was i).received) ((was i).given) ((was i).joined ++ x ∷ []))
      ∙ ap (receiving v.received v.given) (sym more))
