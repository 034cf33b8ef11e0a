-- What was written of a book is read back.
use Rattle.std.proofs.Common.{◌≡◌, ◌≢◌, ℕ, List, [], ◌∷◌, ◌++◌, length, Bool, true, false, cond, refl, sym, ap, ◌∙◌}
use Rattle.std.proofs.Common.{arith, subst, append_assoc, append-nil}
use Rattle.std.specs.Prelude.{◌==◌, not, codes}
use Rattle.std.specs.List.{AllByRecursion, flat_map}
use Rattle.std.proofs.lemmas.Bool.{and_parts, false≢true}
use Rattle.cdc_codec.specs.Texts.{spaced, yes_or_no}
use Rattle.cdc_subscriber.specs.declared.book.BookEntry.{BookEntry}
use Rattle.cdc_subscriber.specs.Book.{are_distinct, ids_of, is_among}
use Rattle.cdc_subscriber.specs.Lines.{account_line}
use Rattle.cdc_subscriber.specs.SubscriberState.{SubscriberState}
use Rattle.cdc_subscriber.proofs.BookLemmas.{eqb_swap, neither}
use Rattle.cdc_follow.specs.declared.saved.Front.{Front}
use Rattle.cdc_follow.specs.Following.{FollowState}
use Rattle.cdc_follow.specs.Saved.{AreBook, EntryFits, book_text, heading}
use Rattle.cdc_follow.specs.SavedParts.{IsFront, ReadsAccount}

-- ---- the line of an account

nest_five : (name a b c d e end rest : List ℕ)
    → ((name ++ a) ++ (b ++ (c ++ (d ++ (e ++ end))))) ++ rest
    ≡ name ++ (a ++ (b ++ (c ++ (d ++ (e ++ (end ++ rest))))))
nest_five name a b c d e end rest = simp append_assoc

-- the line with what follows it, number by number
pub account_parts : (entry : BookEntry) (rest : List ℕ)
    → account_line entry ++ rest
    ≡ codes "account" ++ (spaced entry.id ++ (spaced entry.balances.debits_pending
    ++ (spaced entry.balances.debits_posted ++ (spaced entry.balances.credits_pending
    ++ (spaced entry.balances.credits_posted ++ 10 ∷ rest)))))
account_parts entry rest =
    let b = entry.balances in
    nest_five (codes "account") (spaced entry.id) (spaced b.debits_pending) (spaced b.debits_posted)
    (spaced b.credits_pending) (spaced b.credits_posted) (codes "\n") rest

-- an account whose numbers were read
pub same_account : {id pending posted credited settled : ℕ} (entry : BookEntry) → id ≡ entry.id
    → pending ≡ entry.balances.debits_pending → posted ≡ entry.balances.debits_posted
    → credited ≡ entry.balances.credits_pending → settled ≡ entry.balances.credits_posted
    → (let read : BookEntry = record {
      id = id;
      balances = record {
        debits_pending = pending;
        debits_posted = posted;
        credits_pending = credited;
        credits_posted = settled;
      };
    } in read)
    ≡ entry
same_account entry p q r s t = λ i. record {
  id = p i;
  balances = record { debits_pending = q i; debits_posted = r i; credits_pending = s i; credits_posted = t i };
}

-- ---- what precedes the accounts

regroup : (a w s n b l e u m p q r t f g k z y rest : List ℕ)
    → ((a ++ w) ++ ((s ++ n) ++ (b ++ (l ++ e))))
    ++ (((u ++ m) ++ ((p ++ q) ++ ((r ++ t) ++ ((f ++ g) ++ ((k ++ z) ++ y))))) ++ rest)
    ≡ a ++ (w ++ (s ++ (n ++ (b ++ (l ++ (e ++ (u ++ (m ++ (p ++ (q ++ (r ++ (t
    ++ (f ++ (g ++ (k ++ (z ++ (y ++ rest)))))))))))))))))
regroup a w s n b l e u m p q r t f g k z y rest = simp append_assoc

-- a book's text, part by part
pub book_parts : (chained : Bool) (binding : List ℕ) (state : FollowState)
    → book_text chained binding state
    ≡ codes "book 1 chained" ++ (yes_or_no chained ++ (codes " seen" ++ (spaced state.seen ++ (codes "\nbinding "
    ++ (binding ++ 10 ∷ (codes "subscriber" ++ (spaced 1 ++ (codes " applied" ++ (spaced state.kept.applied
    ++ (codes " last" ++ (spaced state.kept.last ++ (codes " ended" ++ (yes_or_no state.kept.ended
    ++ (codes " closed" ++ (yes_or_no state.kept.closed ++ 10 ∷ flat_map account_line state.kept.book)))))))))))))))
unfolding book_text heading
book_parts chained binding state =
    let kept = state.kept in
    regroup (codes "book 1 chained") (yes_or_no chained) (codes " seen") (spaced state.seen) (codes "\nbinding ")
    binding (codes "\n") (codes "subscriber") (spaced 1) (codes " applied") (spaced kept.applied) (codes " last")
    (spaced kept.last) (codes " ended") (yes_or_no kept.ended) (codes " closed") (yes_or_no kept.closed) (codes "\n")
    (flat_map account_line kept.book)

-- ---- the accounts, one line after another

-- the book has the first of these entries, and the text that is left has the lines of the others
pub record Split (entries book : List BookEntry) (rest : List ℕ) : Type 0 where
  pub left : List BookEntry
  pub parted : entries ≡ book ++ left
  pub lines : rest ≡ flat_map account_line left

-- that holds of whatever entries the text has the lines of
abbrev pub ReadSoFar : List ℕ → List BookEntry → List ℕ → Type 0
ReadSoFar text book rest = (entries : List BookEntry) → AreBook entries → text ≡ flat_map account_line entries
    → Split entries book rest

-- at the start the book is empty
pub reads-begins : (text : List ℕ) → ReadSoFar text [] text
reads-begins text entries are is = record { left = entries; parted = refl; lines = is }

-- a number that isn't among others differs from each of them
apart : (id : ℕ) (book left : List BookEntry) (entry : BookEntry)
    → is_among id (ids_of (book ++ entry ∷ left)) ≡ false → (entry.id == id) ≡ false
apart id [] left entry absent = (neither (entry.id == id) (is_among id (ids_of left)) absent).0
apart id (b ∷ book) left entry absent =
    apart id book left entry (neither (b.id == id) (is_among id (ids_of (book ++ entry ∷ left))) absent).1

-- a negation holds
not_true : (b : Bool) → not b ≡ true → b ≡ false
not_true true is = sym is
not_true false is = refl

-- text is left, or not
pub some_left : (rest : List ℕ) (empty : Bool) → empty ≡ (length rest == 0) → empty ≡ false → rest ≢ []
some_left [] empty is more = λ none. false≢true (sym more ∙ is)
some_left (b ∷ rest) empty is more = λ none. cc

pub none_left : (rest : List ℕ) (empty : Bool) → empty ≡ (length rest == 0) → empty ≡ true → rest ≡ []
none_left [] empty is end = refl
none_left (b ∷ rest) empty is end =
    let some : not (length (b ∷ rest) == 0) ≡ true = grind arith in
    absurd (false≢true (ap (λ t. not t) (sym end ∙ is) ∙ some))

-- an account that comes later isn't in the book yet
not_yet : (book left : List BookEntry) (entry : BookEntry) → are_distinct (ids_of (book ++ entry ∷ left)) ≡ true
    → is_among entry.id (ids_of book) ≡ false
not_yet [] left entry distinct = refl
not_yet (b ∷ book) left entry distinct =
    let ids = ids_of (book ++ entry ∷ left) in
    let parts = and_parts (not (is_among b.id ids)) (are_distinct ids) distinct in
    let absent : is_among b.id ids ≡ false = not_true _ parts.0 in
    let more = not_yet book left entry parts.1 in
    let other : (b.id == entry.id) ≡ false = eqb_swap entry.id b.id (apart b.id book left entry absent) in
    rw (other, more) refl

-- its numbers have their widths
fits_later : (book left : List BookEntry) (entry : BookEntry) → AllByRecursion EntryFits (book ++ entry ∷ left)
    → EntryFits entry
fits_later [] left entry all = all.0
fits_later (b ∷ book) left entry all = fits_later book left entry all.1

-- one more line
pub reads-more : (text : List ℕ) (book new : List BookEntry) (rest after : List ℕ) (entry : BookEntry) (added : Bool)
    → ReadSoFar text book rest → rest ≢ [] → ReadsAccount rest entry after
    → added ≡ not (is_among entry.id (ids_of book)) → new ≡ cond added (book ++ entry ∷ []) book
    → ReadSoFar text new after
reads-more text book new rest after entry added before some reads adds pushed entries are is =
    let so_far = before entries are is in
    go so_far.left so_far.parted so_far.lines
  where
    go : (left : List BookEntry) → entries ≡ book ++ left → rest ≡ flat_map account_line left → Split entries new after
    go [] parted lines = absurd (some lines)
    go (e ∷ left) parted lines =
        let fits = fits_later book left e (subst (AllByRecursion EntryFits) parted are.fit) in
        let absent = not_yet book left e (sym (ap (λ es. are_distinct (ids_of es)) parted) ∙ are.distinct) in
        let read = reads e (flat_map account_line left) fits lines in
        let same : entry ≡ e = read.0 in
        let is_new : added ≡ true =
        adds ∙ ap (λ (x : BookEntry). not (is_among x.id (ids_of book))) same ∙ ap (λ b. not b) absent in
        let grown : new ≡ book ++ e ∷ [] =
        pushed ∙ ap (λ b. cond b (book ++ entry ∷ []) book) is_new ∙ ap (λ x. book ++ x ∷ []) same in
        record {
          left = left;
          parted = parted ∙ sym (append_assoc book (e ∷ []) left) ∙ ap (λ es. es ++ left) (sym grown);
          lines = read.1;
        }

-- when no text is left, the book has all entries
pub reads-all : (text : List ℕ) (book : List BookEntry) (rest : List ℕ) → ReadSoFar text book rest → rest ≡ []
    → (entries : List BookEntry) → AreBook entries → text ≡ flat_map account_line entries → book ≡ entries
reads-all text book rest before none entries are is =
    let so_far = before entries are is in
    go so_far.left so_far.parted so_far.lines
  where
    go : (left : List BookEntry) → entries ≡ book ++ left → rest ≡ flat_map account_line left → book ≡ entries
    go [] parted lines = sym (append-nil book) ∙ sym parted
    go (e ∷ left) parted lines =
        let nothing : [] ≡ flat_map account_line (e ∷ left) = sym none ∙ lines in
        cc

-- ---- the whole

-- a follower that is made of what was read
abbrev pub follower_of : Front → List BookEntry → FollowState
follower_of front book = record {
  kept = record {
    book = book;
    last = front.last;
    applied = front.applied;
    ended = front.ended;
    closed = front.closed;
  };
  seen = front.seen;
}

-- it is the one that was saved
pub same_follower : {chained : Bool} {binding : List ℕ} (state : FollowState) (front : Front) (book : List BookEntry)
    (kept : SubscriberState) (follower : FollowState) → IsFront front chained binding state → book ≡ state.kept.book
    → kept ≡ (follower_of front book).kept → follower ≡ record { kept = kept; seen = front.seen } → follower ≡ state
same_follower state front book kept follower is same keeps has =
    let made : SubscriberState → FollowState = λ kept. record { kept = kept; seen = front.seen } in
    has ∙ ap made keeps ∙ (λ i. record {
      kept = record {
        book = same i;
        last = is.last i;
        applied = is.applied i;
        ended = is.ended i;
        closed = is.closed i;
      };
      seen = is.seen i;
    })
