-- The timestamps of triples: no two are the same, and none is later than the history's last timestamp.
use Rattle.cdc_ledger.proofs.Words.{[], ◌&&◌, ◌+◌, ◌<◌, ◌==◌, ◌∷◌, ◌≡◌, ◌≢◌, ◌≤◌, AllByRecursion, Bool, Entry, History, IsSound, List, RiseFrom, Stands, TimestampsDiffer, Triple, arith, false, holds, if◌then◌else◌, is_open, not, open_triples, refl, resolved, triple_at, triples_from, true, ℕ}
use Rattle.std.specs.List.{All}
use Rattle.std.proofs.lemmas.List.Elements.{All-from_recursion}
use Rattle.cdc_ledger.proofs.Elements.{AllByRecursion-both, AllByRecursion-weaker}
use Rattle.cdc_ledger.proofs.IndexTriples.{triples_from-All}
use Rattle.cdc_ledger.proofs.BalanceLaws.{stores-holds}

-- an entry that has a triple holds its amount back
pub holds-open : (h : History) (e : Entry) → is_open h e ≡ true → holds e.kind ≡ true
holds-open h e is = first (holds e.kind) (not (e.transfer.timeout == 0)) (not (resolved h e.transfer h.last)) is
  where
    first : (a b c : Bool) → (a && b && c) ≡ true → a ≡ true
    first true b c all = refl
    first false b c all = all

-- an entry that has a triple stored its transfer at its own timestamp
dated : (h : History) → (es : List Entry) → AllByRecursion (Stands h) es
    → AllByRecursion (λ e. is_open h e ≡ true → e.transfer.timestamp ≡ e.timestamp) es
dated h = AllByRecursion-weaker (Stands h) (λ e. is_open h e ≡ true → e.transfer.timestamp ≡ e.timestamp)
    (λ e stands is. stands.dated (stores-holds e.kind (holds-open h e is)))

-- triples that have different timestamps and are later than the timestamp t
record RiseApart (t : ℕ) (xs : List Triple) : Type 0 where
  later : AllByRecursion (λ x. t < x.timestamp) xs
  differ : TimestampsDiffer xs

-- the triple of one more entry, if it has one, comes before those of the later entries
rise_cons : (t : ℕ) (x : Triple) (xs : List Triple) (u : ℕ) (b : Bool) → t < u → (b ≡ true → x.timestamp ≡ u)
    → RiseApart u xs
    → RiseApart t (if b then x ∷ xs else xs)
rise_cons t x xs u true after own rest =
    let same : x.timestamp ≡ u = own refl in
    record {
      later = (
        omega arith,
        AllByRecursion-weaker (λ y. u < y.timestamp) (λ y. t < y.timestamp)
            (λ y later. omega arith) xs rest.later,
      );
      differ = (
        All-from_recursion (λ y. y.timestamp ≢ x.timestamp) xs
            (AllByRecursion-weaker (λ y. u < y.timestamp) (λ y. y.timestamp ≢ x.timestamp)
            (λ y later alike. omega arith) xs rest.later),
        rest.differ,
      );
    }
rise_cons t x xs u false after own rest = record {
  later = AllByRecursion-weaker (λ y. u < y.timestamp) (λ y. t < y.timestamp) (λ y later. omega arith) xs rest.later;
  differ = rest.differ;
}

-- entries that rise have triples with different timestamps
rise_apart : (test : Entry → Bool) (t n : ℕ) (es : List Entry) → RiseFrom t es
    → AllByRecursion (λ e. test e ≡ true → e.transfer.timestamp ≡ e.timestamp) es → RiseApart t (triples_from test n es)
rise_apart test t n [] rising all = record { later = tt; differ = tt }
rise_apart test t n (e ∷ es) rising all =
    rise_cons t (triple_at n e) (triples_from test (n + 1) es) e.timestamp (test e) rising.0 all.0
    (rise_apart test e.timestamp (n + 1) es rising.1 all.1)

-- no two triples of a history have the same timestamp, so that the index may count its list
pub TimestampsDiffer-open : (h : History) → IsSound h → TimestampsDiffer (open_triples h)
TimestampsDiffer-open h sound =
    (rise_apart (is_open h) 0 0 h.entries sound.rising (dated h h.entries sound.standing)).differ

-- a later timestamp is that of no triple
pub others-open : (h : History) (t : ℕ) → IsSound h → h.last < t → All (λ x. x.timestamp ≢ t) (open_triples h)
others-open h t sound after =
    All-from_recursion (λ x. x.timestamp ≢ t) (open_triples h)
    (AllByRecursion-weaker (λ x. x.timestamp ≤ h.last) (λ x. x.timestamp ≢ t) (λ x within same. omega arith)
    (open_triples h)
    (triples_from-All (λ e. (e.timestamp ≤ h.last) × (e.transfer.timestamp ≡ e.timestamp)) (λ x. x.timestamp ≤ h.last)
    (λ n e known. omega (arith, known.0, known.1)) (is_open h) 0 h.entries
    (AllByRecursion-weaker (λ e. (e.timestamp ≤ h.last) × (is_open h e ≡ true → e.transfer.timestamp ≡ e.timestamp))
    (λ e. is_open h e ≡ true → (e.timestamp ≤ h.last) × (e.transfer.timestamp ≡ e.timestamp))
    (λ e known is. (known.0, known.1 is)) h.entries
    (AllByRecursion-both (λ e. e.timestamp ≤ h.last) (λ e. is_open h e ≡ true → e.transfer.timestamp ≡ e.timestamp)
    h.entries sound.past (dated h h.entries sound.standing)))))
