-- The entries of a sound history: the position of an entry among the others; no two of them stored one id, and no two
-- have one timestamp.
use Rattle.cdc_ledger.proofs.Words.{[], ◌&&◌, ◌++◌, ◌<◌, ◌==◌, ◌∙◌, ◌∷◌, ◌≡◌, ◌≢◌, ◌≤◌, AllByRecursion, AreApart, Bool, Entry, History, IsSound, List, RiseFrom, Some, Stands, ap, arith, false, find, if◌then◌else◌, refl, stored, stored_ids, stores, subst, sym, true, ℕ}
use Rattle.std.proofs.lemmas.Bool.{and_from, and_parts, and_right, both_ways, eqb-true, eqb-false, eq-eqb, ne_eqb}
use Rattle.cdc_ledger.proofs.Elements.{AllByRecursion-both, AllByRecursion-weaker}
use Rattle.cdc_ledger.proofs.StoredLaws.{apart-cons, is_stored, stored_each}

-- the entry is one of the list, with these before it and those after it
pub record IsAmong (es : List Entry) (e : Entry) : Type 0 where
  pub front : List Entry
  pub back : List Entry
  pub split : es ≡ front ++ e ∷ back

-- what holds of every entry of a list but this one
pub record Around (P : Entry → Type 0) (front back : List Entry) : Type 0 where
  pub before : AllByRecursion P front
  pub after : AllByRecursion P back

-- what holds of a whole list holds of its two parts round an entry
around : (P : Entry → Type 0) (e : Entry) (front back : List Entry) → AllByRecursion P (front ++ e ∷ back)
    → Around P front back
around P e [] back all = record { before = tt; after = all.1 }
around P e (x ∷ front) back all =
    let rest = around P e front back all.1 in record { before = (all.0, rest.before); after = rest.after }

-- what holds of every entry of a history holds of all but this one
pub All-around : (P : Entry → Type 0) (es : List Entry) (e : Entry) (among : IsAmong es e) → AllByRecursion P es
    → Around P among.front among.back
All-around P es e among all = around P e among.front among.back (subst (AllByRecursion P) among.split all)

-- two facts of all other entries at once
pub Around-both : (P Q : Entry → Type 0) (front back : List Entry) → Around P front back → Around Q front back
    → Around (λ y. P y × Q y) front back
Around-both P Q front back p q = record {
  before = AllByRecursion-both P Q front p.before q.before;
  after = AllByRecursion-both P Q back p.after q.after;
}

-- a fact of all other entries that follows from another
pub Around-weaker : (P Q : Entry → Type 0) → ((y : Entry) → P y → Q y) → (front back : List Entry)
    → Around P front back → Around Q front back
Around-weaker P Q gives front back p = record {
  before = AllByRecursion-weaker P Q gives front p.before;
  after = AllByRecursion-weaker P Q gives back p.after;
}

-- what holds of a whole list holds of the entry between its two parts
here : (P : Entry → Type 0) (e : Entry) (front back : List Entry) → AllByRecursion P (front ++ e ∷ back) → P e
here P e [] back all = all.0
here P e (x ∷ front) back all = here P e front back all.1

-- what holds of every entry holds of this one
pub All-among : (P : Entry → Type 0) (es : List Entry) (e : Entry) → IsAmong es e → AllByRecursion P es → P e
All-among P es e among all = here P e among.front among.back (subst (AllByRecursion P) among.split all)

-- what holds of the entry and of both parts round it holds of the whole list
join : (P : Entry → Type 0) (e : Entry) (front back : List Entry) → P e → AllByRecursion P front → AllByRecursion P back
    → AllByRecursion P (front ++ e ∷ back)
join P e [] back own before after = (own, after)
join P e (x ∷ front) back own before after = (before.0, join P e front back own before.1 after)

-- and the other way round
pub All-from_around : (P : Entry → Type 0) (es : List Entry) (e : Entry) (among : IsAmong es e) → P e
    → Around P among.front among.back → AllByRecursion P es
All-from_around P es e among own around =
    subst (AllByRecursion P) (sym among.split) (join P e among.front among.back own around.before around.after)

-- the first entry that passes a test is one of the list, and passes it
pub record IsFirst (test : Entry → Bool) (es : List Entry) (e : Entry) : Type 0 where
  pub among : IsAmong es e
  pub passes : test e ≡ true

-- an entry that is found after the first one is one of the list
found_further : (test : Entry → Bool) (x : Entry) (es : List Entry) (e : Entry) → IsFirst test es e
    → IsFirst test (x ∷ es) e
found_further test x es e found = record {
  among = record {
    front = x ∷ found.among.front;
    back = found.among.back;
    split = ap (λ more. x ∷ more) found.among.split;
  };
  passes = found.passes;
}

-- the first entry is found if it passes, otherwise a later one
found_here : (test : Entry → Bool) (x : Entry) (es : List Entry) (e : Entry) (b : Bool) → test x ≡ b
    → (find test es ≡ Some e → IsFirst test es e) → (if b then Some x else find test es) ≡ Some e
    → IsFirst test (x ∷ es) e
found_here test x es e true passes later found =
    let same : x ≡ e = cc in
    record {
      among = record { front = []; back = es; split = ap (λ y. y ∷ es) same };
      passes = ap test (sym same) ∙ passes;
    }
found_here test x es e false passes later found = found_further test x es e (later found)

-- so whatever a search finds is one of the list, with entries before and after it
pub IsFirst-found : (test : Entry → Bool) (es : List Entry) (e : Entry) → find test es ≡ Some e → IsFirst test es e
IsFirst-found test [] e found = cc
IsFirst-found test (x ∷ es) e found = found_here test x es e (test x) refl (IsFirst-found test es e) found

-- the entry that stored a transfer
pub record IsStored (h : History) (id : ℕ) (e : Entry) : Type 0 where
  pub among : IsAmong h.entries e
  pub stores : stores e.kind ≡ true
  pub same_id : e.transfer.id ≡ id

-- the entry that is found by a transfer's id is one of the history, and stored a transfer of that id
pub IsStored-found : (h : History) (id : ℕ) (e : Entry) → stored h id ≡ Some e → IsStored h id e
IsStored-found h id e found =
    let first = IsFirst-found (λ x. stores x.kind && (x.transfer.id == id)) h.entries e found in
    let both = and_parts (stores e.kind) (e.transfer.id == id) first.passes in
    record { among = first.among; stores = both.0; same_id = eqb-true e.transfer.id id both.1 }

-- an entry that stored a transfer of another id, if it stored one
abbrev HasOtherId : Entry → Entry → Type 0
HasOtherId e y = is_stored e.transfer.id y ≡ false

-- the inequality of two ids is symmetric
id_turned : (stored : Bool) (m n : ℕ) → (true && (m == n)) ≡ false → (stored && (n == m)) ≡ false
id_turned stored m n other = and_right stored (n == m) (ne_eqb n m (λ same. eqb-false m n other (sym same)))

-- if no two entries stored one id, no entry before or after this one stored its id
other_ids : (e : Entry) (front back : List Entry) → stores e.kind ≡ true → AreApart (stored_ids (front ++ e ∷ back))
    → Around (HasOtherId e) front back
other_ids e [] back is apart = record { before = tt; after = (apart-cons e back apart).1 is }
other_ids e (x ∷ front) back is apart =
    let both = apart-cons x (front ++ e ∷ back) apart in
    let rest = other_ids e front back is both.0 in
    record { before = (turned (stores x.kind) refl both.1, rest.before); after = rest.after }
  where
    turned : (b : Bool) → stores x.kind ≡ b
        → (stores x.kind ≡ true → AllByRecursion (HasOtherId x) (front ++ e ∷ back)) → HasOtherId e x
    turned true stored others =
        let other = here (HasOtherId x) e front back (others stored) in
        id_turned (stores x.kind) e.transfer.id x.transfer.id
        (ap (λ b. b && (e.transfer.id == x.transfer.id)) (sym is) ∙ other)
    turned false stored others = ap (λ b. b && (x.transfer.id == e.transfer.id)) stored

-- no other entry stored a transfer of this id
HasOtherId-around : (h : History) (e : Entry) (among : IsAmong h.entries e) → AreApart (stored_ids h.entries)
    → stores e.kind ≡ true
    → Around (HasOtherId e) among.front among.back
HasOtherId-around h e among apart is =
    other_ids e among.front among.back is (subst (λ es. AreApart (stored_ids es)) among.split apart)

-- each entry that stored a transfer is the one that is found by its id
pub stored-among : (h : History) (e : Entry) → IsSound h → IsAmong h.entries e → stores e.kind ≡ true
    → stored h e.transfer.id ≡ Some e
stored-among h e sound among is =
    All-among (λ y. stores y.kind ≡ true → stored h y.transfer.id ≡ Some y) h.entries e among
    (stored_each h sound.once) is

-- no entry of a rising list has the timestamp of one before it
all_later : (t : ℕ) (e : Entry) (es : List Entry) → t ≤ e.timestamp → RiseFrom e.timestamp es
    → AllByRecursion (λ y. y.timestamp ≢ t) es
all_later t e [] later rising = tt
all_later t e (x ∷ es) later rising = (λ same. omega arith, all_later t x es (omega arith) rising.1)

-- an entry of a rising list is later than the timestamp that the list rises from
own_later : (t : ℕ) (e : Entry) (front back : List Entry) → RiseFrom t (front ++ e ∷ back) → t < e.timestamp
own_later t e [] back rising = rising.0
own_later t e (x ∷ front) back rising = let later : x.timestamp < e.timestamp = own_later x.timestamp e front back
    rising.1 in omega arith

-- no entry before or after this one has its timestamp, if timestamps rise
other_times : (t : ℕ) (e : Entry) (front back : List Entry) → RiseFrom t (front ++ e ∷ back)
    → Around (λ y. y.timestamp ≢ e.timestamp) front back
other_times t e [] back rising = record { before = tt; after = all_later e.timestamp e back (omega arith) rising.1 }
other_times t e (x ∷ front) back rising =
    let rest = other_times x.timestamp e front back rising.1 in
    let sooner : x.timestamp < e.timestamp = own_later x.timestamp e front back rising.1 in
    record { before = (λ same. omega arith, rest.before); after = rest.after }

-- no other entry has this timestamp
pub other_times-around : (h : History) (e : Entry) (among : IsAmong h.entries e) → RiseFrom 0 h.entries
    → Around (λ y. y.timestamp ≢ e.timestamp) among.front among.back
other_times-around h e among rising =
    other_times 0 e among.front among.back (subst (RiseFrom 0) among.split rising)

-- the transfer of the entry y has another id and another timestamp than that of the entry e
pub record IsOther (e y : Entry) : Type 0 where
  pub id : y.transfer.id ≢ e.transfer.id
  pub time : y.transfer.timestamp ≢ e.transfer.timestamp

-- so it is with every other entry of a sound history
pub IsOther-around : (h : History) (e : Entry) (among : IsAmong h.entries e) → IsSound h → stores e.kind ≡ true
    → Around (λ y. stores y.kind ≡ true → IsOther e y) among.front among.back
IsOther-around h e among sound stored =
    let own : e.transfer.timestamp ≡ e.timestamp = (All-among (Stands h) h.entries e among sound.standing).dated
    stored in
    Around-weaker (λ y. HasOtherId e y × (y.timestamp ≢ e.timestamp) × Stands h y)
    (λ y. stores y.kind ≡ true → IsOther e y)
    (λ y known is. record {
      id = λ same. both_ways (is_stored e.transfer.id y) known.0
          (and_from (stores y.kind) (y.transfer.id == e.transfer.id) is (eq-eqb y.transfer.id e.transfer.id same));
      time = λ same. known.1 (sym (known.2.dated is) ∙ (same ∙ own));
    }) among.front among.back
    (three among.front among.back (HasOtherId-around h e among sound.once stored)
    (other_times-around h e among sound.rising)
    (All-around (Stands h) h.entries e among sound.standing))
  where
    three : (front back : List Entry) → Around (HasOtherId e) front back
        → Around (λ y. y.timestamp ≢ e.timestamp) front back → Around (Stands h) front back
        → Around (λ y. HasOtherId e y × (y.timestamp ≢ e.timestamp) × Stands h y) front back
    three front back ids times standing =
        Around-weaker (λ y. HasOtherId e y × ((y.timestamp ≢ e.timestamp) × Stands h y))
        (λ y. HasOtherId e y × (y.timestamp ≢ e.timestamp) × Stands h y)
        (λ y known. (known.0, known.1.0, known.1.1)) front back
        (Around-both (HasOtherId e) (λ y. (y.timestamp ≢ e.timestamp) × Stands h y) front back ids
        (Around-both (λ y. y.timestamp ≢ e.timestamp) (Stands h) front back times standing))
