-- Each step of a link keeps its rule.
use Rattle.std.proofs.Common.{◌≡◌, ◌≢◌, ◌==◌, ◌+◌, ◌<◌, ◌≤◌, ◌⊎◌, ℕ, zero, suc, true, false, true≢false, cond, List, [], ◌∷◌, ◌++◌, map, length, set, sym, refl, ap, ◌∙◌, subst, inl, inr, ⊎_elim, eq-eqb, ne_eqb, append_assoc, length-append, lt_of_not-le, arith}
use Rattle.std.proofs.lemmas.List.{map-append}
use mathlib.Core.Option.{some, some-injective, some-ne-none}
use mathlib.Core.List.{cons≢nil, head-eq_of_cons-eq, tail-eq_of_cons-eq}
use mathlib.Core.Logic.{dite}
use native.Mathlib.Decide.{ℕ_discrete}
use lib.ListN.{get_elem?}
use Rattle.crossbeam_channel.specs.Fifo.{Pushes, Pops, Forks, Merges, Learns}
use Rattle.atomic_table.proofs.Lists.{at_set}
use Rattle.cdc_links.specs.declared.rule.Parcel.{Parcel}
use Rattle.cdc_links.specs.declared.rule.Parcel.TheVariants.{Message, Halt}
use Rattle.cdc_links.specs.declared.rule.Knowledge.{Knowledge}
use Rattle.cdc_links.specs.Links.{of_sender, CanSend}
use Rattle.cdc_links.specs.Rule.{sending, receiving, nobody, carried, carried_of, IsApart, AreApart, AreWhole, Fits, IsSettled, IsRuled, Took, Received, Sent}
use Rattle.cdc_links.proofs.Entries.{of_sender-snoc_own, of_sender-snoc_other, of_sender-middle, follow-snoc, follow-middle}
use Rattle.cdc_links.proofs.Joined.{apart-snoc, once-snoc, whole-sent, whole-given, whole-snoc, apart-above}

-- a flag that is down isn't up
not_so : false ≡ true → ⊥
not_so p = true≢false (sym p)

module _ {V : Type 0} where
  -- the last place of a longer list
  at_end : (l : List V) (a b : V) (j : ℕ) → get_elem? (l ++ a ∷ []) j ≡ some b
      → (get_elem? l j ≡ some b) ⊎ ((j ≡ length l) × (a ≡ b))
  at_end [] a b zero e = inr (refl, some-injective a b e)
  at_end [] a b (suc j) e = absurd (some-ne-none b (sym e))
  at_end (x ∷ xs) a b zero e = inl e
  at_end (x ∷ xs) a b (suc j) e = ⊎_elim (λ h. inl h) (λ h. inr (ap suc h.0, h.1)) (at_end xs a b j e)

  -- a place that is there is below the length
  at_below : (l : List V) (a : V) (j : ℕ) → get_elem? l j ≡ some a → j < length l
  at_below [] a j e = absurd (some-ne-none a (sym e))
  at_below (x ∷ xs) a zero e = omega arith
  at_below (x ∷ xs) a (suc j) e = let h = at_below xs a j e in omega arith

  -- a fact of every place
  abbrev Each : (ℕ → V → Type 0) → List V → Type 0
  Each F views = (pass : ℕ) (v : V) → get_elem? views pass ≡ some v → F pass v

  -- after a change of one place
  each-set : (F G : ℕ → V → Type 0) (views : List V) (pass : ℕ) (w : V) → Each F views → G pass w
      → ((j : ℕ) (u : V) → j ≢ pass → F j u → G j u) → Each G (set views pass w)
  each-set F G views pass w all mine others j u e =
      ⊎_elim (λ (x : (j ≡ pass) × (w ≡ u)). subst (λ (y : ℕ × V). G y.0 y.1) (λ i. (sym x.0 i, x.1 i)) mine)
      (λ (x : (j ≢ pass) × (get_elem? views j ≡ some u)). others j u x.0 (all j u x.1)) (at_set views pass j w u e)

module _ {M : Type 0} where
  -- a message more at the back
  carried-message : (items : List (Parcel M)) (sender : ℕ) (value : M)
      → carried (items ++ Message sender value ∷ []) ≡ carried items ++ (sender, value) ∷ []
  carried-message [] sender value = refl
  carried-message (Message s m ∷ rest) sender value = ap (λ l. (s, m) ∷ l) (carried-message rest sender value)
  carried-message (Halt ∷ rest) sender value = carried-message rest sender value

  -- that a sender was aborted is no message
  carried-halt : (items : List (Parcel M)) → carried (items ++ Halt ∷ []) ≡ carried items
  carried-halt [] = refl
  carried-halt (Message s m ∷ rest) = ap (λ l. (s, m) ∷ l) (carried-halt rest)
  carried-halt (Halt ∷ rest) = carried-halt rest

module _ {M N : Type 0} where
  -- the message at the front, with what it names
  front : (held : List (ℕ × (M × N))) (x : ℕ × M) (later : List (ℕ × M)) → map carried_of held ≡ x ∷ later
      → (e : ℕ × (M × N)) × (rest : List (ℕ × (M × N))) × (held ≡ e ∷ rest) × (carried_of e ≡ x)
      × (map carried_of rest ≡ later)
  front [] x later is = absurd (cons≢nil (sym is))
  front (e ∷ rest) x later is = (e, rest, refl, head-eq_of_cons-eq is, tail-eq_of_cons-eq is)

  -- of a list with a message in it there is more than nothing
  some_there : (xs ys : List (M × N)) (m : M × N) → xs ++ m ∷ ys ≢ []
  some_there xs ys m is =
      let n : length (xs ++ m ∷ ys) ≡ 0 = ap length is in
      absurd (omega (arith, length-append xs (m ∷ ys)))

  module _ (may_follow : ℕ → List (M × N) → M × N → Type 0) where
    abbrev Rule : List (Parcel M) → List (Knowledge M N) → Type 0
    Rule = IsRuled may_follow

    -- make: the maker's pass alone, no sender given out, nothing received
    pub begins : Rule [] (receiving [] 0 [] ∷ [])
    begins =
        let F : ℕ → Knowledge M N → Type 0 = Fits [] [] 0 [] 0 (λ _. 0) in
        let v : Knowledge M N = receiving [] 0 [] in
        let at_first : F 0 v = ((λ p. absurd (not_so p)), λ _. (refl, refl, refl, refl)) in
        record {
          all = [];
          log = [];
          held = [];
          given = 0;
          joined = [];
          reader = 0;
          seat = λ _. 0;
          parts = refl;
          content = refl;
          lawful = λ j. tt;
          fresh = λ j _. refl;
          whole = tt;
          once = tt;
          known = λ j u e. ⊎_elim (λ none. absurd (some-ne-none u (sym none)))
              (λ (last : (j ≡ 0) × (v ≡ u)). subst (λ (y : ℕ × Knowledge M N). F y.0 y.1)
              (λ i. (sym last.0 i, last.1 i)) at_first) (at_end [] v u j e);
        }

    -- what a sender has sent could be sent, also with one message more
    pub lawful-sent : (all : List (ℕ × (M × N))) (e : ℕ × (M × N)) → may_follow e.0 (of_sender e.0 all) e.1
        → ((j : ℕ) → CanSend may_follow j (of_sender j all)) → (j : ℕ)
        → CanSend may_follow j (of_sender j (all ++ e ∷ []))
    lawful-sent all e next lawful j =
        dite (ℕ_discrete e.0 j)
        (λ is. subst (λ k. CanSend may_follow k (of_sender k (all ++ e ∷ []))) is
        (subst (CanSend may_follow e.0) (sym (of_sender-snoc_own e all))
        (follow-snoc may_follow e.0 [] (of_sender e.0 all) e.1 (lawful e.0) next)))
        (λ ne. subst (CanSend may_follow j) (sym (of_sender-snoc_other j e all ne)) (lawful j))

    -- send: the message goes to the back, and the sender's pass knows that it was sent
    pub sends : (n pass : ℕ) (v : Knowledge M N) (m : M) (name : N) → v.sends ≡ true
        → may_follow v.number v.sent (m, name)
        → Pushes Rule n pass v (Message v.number m) (Sent name v (Message v.number m))
    sends n pass v m name may follow items views _ h at =
        let e : ℕ × (M × N) = (v.number, (m, name)) in
        let w : Knowledge M N = sending v.number (v.sent ++ (m, name) ∷ []) false in
        let mine = (h.known pass v at).0 may in
        let below : v.number < h.given = mine.1 in
        let next : may_follow v.number (of_sender v.number h.all) (m, name) =
        subst (λ l. may_follow v.number l (m, name)) mine.3 follow in
        let F : ℕ → Knowledge M N → Type 0 = Fits h.all h.log h.given h.joined h.reader h.seat in
        let G : ℕ → Knowledge M N → Type 0 = Fits (h.all ++ e ∷ []) h.log h.given h.joined h.reader h.seat in
        let own : G pass w = (
          (λ _. (mine.0, mine.1, mine.2, ap (λ l. l ++ (m, name) ∷ []) mine.3 ∙ sym (of_sender-snoc_own e h.all))),
          λ p. absurd (not_so p),
        ) in
        let others : (j : ℕ) (u : Knowledge M N) → j ≢ pass → F j u → G j u =
        λ j u ne f. (
          (λ p.
              let s = f.0 p in
              let apart : v.number ≢ u.number = λ is. ne (s.0 ∙ (ap h.seat (sym is) ∙ sym mine.0)) in
              (s.0, s.1, s.2, s.3 ∙ sym (of_sender-snoc_other u.number e h.all apart))),
          f.1,
        ) in (
          w,
          record {
            all = h.all ++ e ∷ [];
            log = h.log;
            held = h.held ++ e ∷ [];
            given = h.given;
            joined = h.joined;
            reader = h.reader;
            seat = h.seat;
            parts = ap (λ l. l ++ e ∷ []) h.parts ∙ append_assoc h.log h.held (e ∷ []);
            content =
                map-append carried_of h.held (e ∷ [])
                ∙ (ap (λ l. l ++ carried_of e ∷ []) h.content ∙ sym (carried-message items v.number m));
            lawful = lawful-sent h.all e next h.lawful;
            fresh = λ j le. of_sender-snoc_other j e h.all (λ is. absurd (omega arith)) ∙ h.fresh j le;
            whole = whole-sent h.all h.given h.joined e mine.2 h.whole;
            once = h.once;
            known = each-set F G views pass w h.known own others;
          },
          refl,
        )

    -- a step that leaves what its pass knows as it is, and of the link's content what counts
    stays : (pass : ℕ) (v : Knowledge M N) (items later : List (Parcel M)) (views : List (Knowledge M N))
        → Rule items views
        → get_elem? views pass ≡ some v → carried items ≡ carried later → Rule later (set views pass v)
    stays pass v items later views h at same =
        let F : ℕ → Knowledge M N → Type 0 = Fits h.all h.log h.given h.joined h.reader h.seat in
        record {
          all = h.all;
          log = h.log;
          held = h.held;
          given = h.given;
          joined = h.joined;
          reader = h.reader;
          seat = h.seat;
          parts = h.parts;
          content = h.content ∙ same;
          lawful = h.lawful;
          fresh = h.fresh;
          whole = h.whole;
          once = h.once;
          known = each-set F F views pass v h.known (h.known pass v at) (λ j u _ f. f);
        }

    -- abort: the notice that a sender was aborted goes to the back, and no pass knows of it
    pub halts : (n pass : ℕ) (v : Knowledge M N) → Pushes Rule n pass v Halt (λ w. w ≡ v)
    halts n pass v items views _ h at =
        (v, stays pass v items (items ++ Halt ∷ []) views h at (sym (carried-halt items)), refl)

    -- receive: the parcel at the front leaves, and if it is a message, the receiver's pass knows it with what it
    -- names
    pub receives : (pass : ℕ) (v : Knowledge M N) → v.receives ≡ true → Pops Rule pass v (Received may_follow v)
    receives pass v may Halt items views h at = (v, stays pass v (Halt ∷ items) items views h at refl, refl)
    receives pass v may (Message sender value) items views h at =
        let f = front h.held (sender, value) (carried items) h.content in
        let e = f.0 in
        let rest = f.1 in
        let mine = (h.known pass v at).1 may in
        let split : h.all ≡ h.log ++ e ∷ rest = h.parts ∙ ap (λ l. h.log ++ l) f.2 in
        let w : Knowledge M N = receiving (v.received ++ e ∷ []) v.given v.joined in
        let own_part : of_sender e.0 h.all ≡ of_sender e.0 h.log ++ e.1 ∷ of_sender e.0 rest =
        ap (of_sender e.0) split ∙ of_sender-middle e h.log rest in
        let follows : may_follow e.0 (of_sender e.0 v.received) e.1 =
        subst (λ l. may_follow e.0 (of_sender e.0 l) e.1) (sym mine.1)
        (follow-middle may_follow e.0 [] (of_sender e.0 h.log) e.1 (of_sender e.0 rest)
        (subst (CanSend may_follow e.0) own_part (h.lawful e.0))) in
        let below : e.0 < v.given =
        lt_of_not-le (λ le. some_there (of_sender e.0 h.log) (of_sender e.0 rest) e.1
        (sym own_part ∙ h.fresh e.0 (subst (λ k. k ≤ e.0) mine.2 le))) in
        let F : ℕ → Knowledge M N → Type 0 = Fits h.all h.log h.given h.joined h.reader h.seat in
        let G : ℕ → Knowledge M N → Type 0 = Fits h.all (h.log ++ e ∷ []) h.given h.joined h.reader h.seat in
        let own : G pass w = ((λ p. absurd (not_so p)), λ _. (mine.0, ap (λ l. l ++ e ∷ []) mine.1, mine.2, mine.3)) in
        let others : (j : ℕ) (u : Knowledge M N) → j ≢ pass → F j u → G j u =
        λ j u ne g. (g.0, λ p. absurd (ne ((g.1 p).0 ∙ sym mine.0))) in
        let kept : Rule items (set views pass w) =
        record {
          all = h.all;
          log = h.log ++ e ∷ [];
          held = rest;
          given = h.given;
          joined = h.joined;
          reader = h.reader;
          seat = h.seat;
          parts = split ∙ sym (append_assoc h.log (e ∷ []) rest);
          content = f.4;
          lawful = h.lawful;
          fresh = h.fresh;
          whole = h.whole;
          once = h.once;
          known = each-set F G views pass w h.known own others;
        } in
        subst (λ (y : ℕ × M). (u : Knowledge M N) × Rule items (set views pass u) × Took may_follow v y u) f.3
        (w, kept, (e.1.1, below, follows, refl))

    -- split: one more sender, which has sent nothing
    pub splits : (pass : ℕ) (v : Knowledge M N) → v.receives ≡ true
        → Forks Rule pass v (receiving v.received (v.given + 1) v.joined) (sending v.given [] false)
    splits pass v may items views h at =
        let left : Knowledge M N = receiving v.received (v.given + 1) v.joined in
        let right : Knowledge M N = sending v.given [] false in
        let vs : List (Knowledge M N) = set views pass left in
        let mine = (h.known pass v at).1 may in
        let same : v.given ≡ h.given = mine.2 in
        let seat : ℕ → ℕ = λ j. cond (j == v.given) (length vs) (h.seat j) in
        let F : ℕ → Knowledge M N → Type 0 = Fits h.all h.log h.given h.joined h.reader h.seat in
        let G : ℕ → Knowledge M N → Type 0 = Fits h.all h.log (v.given + 1) h.joined h.reader seat in
        let own : G pass left = ((λ p. absurd (not_so p)), λ _. (mine.0, mine.1, refl, mine.3)) in
        let others : (j : ℕ) (u : Knowledge M N) → j ≢ pass → F j u → G j u =
        λ j u ne f. (
          (λ p.
              let s = f.0 p in
              let below : u.number < h.given = s.1 in
              let apart : u.number ≢ v.given = λ is. absurd (omega arith) in (
                s.0 ∙ sym (ap (λ b. cond b (length vs) (h.seat u.number)) (ne_eqb u.number v.given apart)),
                omega arith,
                s.2,
                s.3,
              )),
          λ p. absurd (ne ((f.1 p).0 ∙ sym mine.0)),
        ) in
        let fresh : G (length vs) right = (
          (λ _. (
            sym (ap (λ b. cond b (length vs) (h.seat v.given)) (eq-eqb v.given v.given refl)),
            omega arith,
            subst (λ k. IsApart k h.joined) (sym same) (apart-above h.all h.given h.joined h.whole),
            sym (h.fresh v.given (omega arith)),
          )),
          λ p. absurd (not_so p),
        ) in
        record {
          all = h.all;
          log = h.log;
          held = h.held;
          given = v.given + 1;
          joined = h.joined;
          reader = h.reader;
          seat = seat;
          parts = h.parts;
          content = h.content;
          lawful = h.lawful;
          fresh = λ j le. h.fresh j (omega arith);
          whole = whole-given h.all h.given (v.given + 1) h.joined (omega arith) h.whole;
          once = h.once;
          known = λ j u e. ⊎_elim (λ old. each-set F G views pass left h.known own others j u old)
              (λ (new : (j ≡ length vs) × (right ≡ u)). subst (λ (y : ℕ × Knowledge M N). G y.0 y.1)
              (λ i. (sym new.0 i, new.1 i)) fresh)
              (at_end vs right u j e);
        }

    -- hand back: the sender's pass is closed, and its list stays
    pub hands_back : (pass : ℕ) (v : Knowledge M N) → v.sends ≡ true
        → Forks Rule pass v (sending v.number v.sent true) nobody
    hands_back pass v may items views h at =
        let left : Knowledge M N = sending v.number v.sent true in
        let vs : List (Knowledge M N) = set views pass left in
        let mine = (h.known pass v at).0 may in
        let F : ℕ → Knowledge M N → Type 0 = Fits h.all h.log h.given h.joined h.reader h.seat in
        let own : F pass left = ((λ _. mine), λ p. absurd (not_so p)) in
        let spent : F (length vs) nobody = ((λ p. absurd (not_so p)), λ p. absurd (not_so p)) in
        record {
          all = h.all;
          log = h.log;
          held = h.held;
          given = h.given;
          joined = h.joined;
          reader = h.reader;
          seat = h.seat;
          parts = h.parts;
          content = h.content;
          lawful = h.lawful;
          fresh = h.fresh;
          whole = h.whole;
          once = h.once;
          known = λ j u e. ⊎_elim (λ old. each-set F F views pass left h.known own (λ k y _ f. f) j u old)
              (λ (new : (j ≡ length vs) × (nobody ≡ u)). subst (λ (y : ℕ × Knowledge M N). F y.0 y.1)
              (λ i. (sym new.0 i, new.1 i)) spent)
              (at_end vs nobody u j e);
        }

    -- join: the receiver's pass gains a handed-back sender's list, and that sender's pass is spent
    pub joins : (pass : ℕ) (v : Knowledge M N) (other : ℕ) (u : Knowledge M N) → v.receives ≡ true → u.sends ≡ true
        → Merges Rule pass v other u (receiving v.received v.given (v.joined ++ (u.number, u.sent) ∷ [])) nobody
    joins pass v other u may theirs_sends items views h at two at_other =
        let x : ℕ × List (M × N) = (u.number, u.sent) in
        let joined : List (ℕ × List (M × N)) = h.joined ++ x ∷ [] in
        let both : Knowledge M N = receiving v.received v.given (v.joined ++ x ∷ []) in
        let vs : List (Knowledge M N) = set views pass both in
        let was : get_elem? views other ≡ some u =
        ⊎_elim (λ y. absurd (two y.0)) (λ y. y.1) (at_set views pass other both u at_other) in
        let mine = (h.known pass v at).1 may in
        let theirs = (h.known other u was).0 theirs_sends in
        let F : ℕ → Knowledge M N → Type 0 = Fits h.all h.log h.given h.joined h.reader h.seat in
        let G : ℕ → Knowledge M N → Type 0 = Fits h.all h.log h.given joined h.reader h.seat in
        let Now : ℕ → Knowledge M N → Type 0 = λ j y. j ≢ other → G j y in
        let own : Now pass both =
        λ _. ((λ p. absurd (not_so p)), λ _. (mine.0, mine.1, mine.2, ap (λ l. l ++ x ∷ []) mine.3)) in
        let others : (j : ℕ) (y : Knowledge M N) → j ≢ pass → F j y → Now j y =
        λ j y ne f apart. (
          (λ p.
              let s = f.0 p in
              let different : u.number ≢ y.number = λ is. apart (s.0 ∙ (ap h.seat (sym is) ∙ sym theirs.0)) in
              (s.0, s.1, apart-snoc y.number h.joined x s.2 different, s.3)),
          λ p. absurd (ne ((f.1 p).0 ∙ sym mine.0)),
        ) in
        let spent : G other nobody = ((λ p. absurd (not_so p)), λ p. absurd (not_so p)) in
        record {
          all = h.all;
          log = h.log;
          held = h.held;
          given = h.given;
          joined = joined;
          reader = h.reader;
          seat = h.seat;
          parts = h.parts;
          content = h.content;
          lawful = h.lawful;
          fresh = h.fresh;
          whole = whole-snoc h.all h.given h.joined x h.whole (sym theirs.3) theirs.1;
          once = once-snoc h.joined x h.once theirs.2;
          known =
              each-set Now G vs other nobody (each-set F Now views pass both h.known own others) spent
              (λ j y ne f. f ne);
        }

    -- what the receiver's pass learns
    pub settles : (pass : ℕ) (v : Knowledge M N) → v.receives ≡ true → Learns Rule pass v (λ items. IsSettled v)
    settles pass v may items views h at =
        let mine = (h.known pass v at).1 may in
        let all : h.all ≡ v.received ++ h.held = h.parts ∙ ap (λ l. l ++ h.held) (sym mine.1) in
        record {
          left = h.held;
          whole =
              subst (λ (y : List (ℕ × (M × N)) × ℕ × List (ℕ × List (M × N))). AreWhole y.0 y.1 y.2)
              (λ i. (all i, sym mine.2 i, sym mine.3 i)) h.whole;
          once = subst AreApart (sym mine.3) h.once;
          fresh = λ j le. ap (of_sender j) (sym all) ∙ h.fresh j (subst (λ k. k ≤ j) mine.2 le);
        }
