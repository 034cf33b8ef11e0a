-- The tags of a course: those that wait for their confirm, and how far all before them are confirmed.
use Rattle.std.proofs.Common.{◌≡◌, ℕ, zero, suc, ◌+◌, ◌-◌, ◌<◌, ◌≤◌, ◌==◌, Bool, true, false, ◌&&◌, ◌||◌, not, List, [], ◌∷◌, ◌++◌, refl, sym, ap, ap₂, ◌∙◌, cond, take, length, map, add-zero, arith}
use Rattle.std.specs.Prelude.{filter, nat_le, nat_lt, if◌then◌else◌}
use Rattle.std.specs.List.{list_all}
use Rattle.std.proofs.lemmas.Bool.Decides.{nat_tests}
use Rattle.std.proofs.Math.Seq.{take-nil}
use Rattle.cdc_types.specs.declared.events.Event.{Event}
use Rattle.cdc_types.specs.Timestamps.{last_timestamp_from}
use Rattle.cdc_publisher.specs.declared.session.Unconfirmed.{Unconfirmed}
use Rattle.cdc_publisher.specs.Courses.{Course, confirmed_from, is_confirmed, numbers_from}
use Rattle.cdc_publisher.specs.SessionState.{confirmed_of, holds_tag, without_tag}
use Rattle.cdc_publisher.specs.Stands.{entry_of, timestamp_after}

-- one number more, at the end
pub numbers_from-suc : (first n : ℕ) → numbers_from first (suc n) ≡ numbers_from first n ++ (first + n) ∷ []
numbers_from-suc first zero = ap (λ m. m ∷ []) (omega arith)
numbers_from-suc first (suc n) =
    let last : first + 1 + n ≡ first + suc n = omega arith in
    ap (λ ns. first ∷ ns) (numbers_from-suc (first + 1) n ∙ ap (λ m. numbers_from (first + 1) n ++ m ∷ []) last)

-- those that fail a test
abbrev pub failing : (ℕ → Bool) → List ℕ → List ℕ
failing p tags = filter (λ tag. not (p tag)) tags

-- a list with something in it isn't empty
never_nil : (n : ℕ) → (suc n == 0) ≡ false
never_nil n = grind (arith, nat_tests)

-- one number more that passes or fails
one_more : (b : Bool) (x : ℕ) (rest : Bool) (left : List ℕ) → rest ≡ (length left == 0)
    → (b && rest) ≡ (length (cond (not b) (x ∷ left) left) == 0)
one_more true x rest left same = same
one_more false x rest left same = sym (never_nil (length left))

-- all pass a test exactly if none fails it
pub none_fail : (p : ℕ → Bool) (tags : List ℕ) → list_all p tags ≡ (length (failing p tags) == 0)
none_fail p [] = refl
none_fail p (x ∷ tags) = one_more (p x) x (list_all p tags) (failing p tags) (none_fail p tags)

-- entries that agree, one more
entries_more : (f g : ℕ → Unconfirmed) (b : Bool) (x : ℕ) (left : List ℕ) → f x ≡ g x → map f left ≡ map g left
    → map f (cond b (x ∷ left) left) ≡ map g (cond b (x ∷ left) left)
entries_more f g true x left here rest = ap₂ (λ e (es : List Unconfirmed). e ∷ es) here rest
entries_more f g false x left here rest = rest

-- two functions that agree on each of the numbers give the same entries
pub entries_same : (f g : ℕ → Unconfirmed) (p : ℕ → Bool) (first n : ℕ)
    → ((tag : ℕ) → first ≤ tag → tag < first + n → f tag ≡ g tag)
    → map f (filter p (numbers_from first n)) ≡ map g (filter p (numbers_from first n))
entries_same f g p first zero same = refl
entries_same f g p first (suc n) same =
    entries_more f g (p first) first (filter p (numbers_from (first + 1) n)) (same first (omega arith) (omega arith))
    (entries_same f g p (first + 1) n (λ tag from to. same tag (omega arith) (omega arith)))

module _ (base : ℕ) (offered : List Event) (tag : ℕ) where
  -- one more number, on which the two tests agree, or which is the tag
  without_more : (b c : Bool) (x : ℕ) (left right : List ℕ) → (x == tag) ≡ c
      → map (entry_of base offered) left ≡ without_tag tag (map (entry_of base offered) right)
      → map (entry_of base offered) (cond (not (b || c)) (x ∷ left) left)
      ≡ without_tag tag (map (entry_of base offered) (cond (not b) (x ∷ right) right))
  without_more true c x left right is rest = rest
  without_more false true x left right is rest =
      rest ∙ sym (ap (λ b. cond (not b) (entry_of base offered x ∷ without_tag tag (map (entry_of base offered) right))
      (without_tag tag (map (entry_of base offered) right))) is)
  without_more false false x left right is rest =
      ap (λ es. entry_of base offered x ∷ es) rest
      ∙ sym (ap (λ b. cond (not b) (entry_of base offered x ∷ without_tag tag (map (entry_of base offered) right))
      (without_tag tag (map (entry_of base offered) right))) is)

  -- if one more tag passes, it is taken out of those that fail
  pub without_passed : (p q : ℕ → Bool) → ((x : ℕ) → q x ≡ (p x || (x == tag))) → (tags : List ℕ)
      → map (entry_of base offered) (failing q tags) ≡ without_tag tag (map (entry_of base offered) (failing p tags))
  without_passed p q one [] = refl
  without_passed p q one (x ∷ tags) =
      ap (λ b. map (entry_of base offered) (cond (not b) (x ∷ failing q tags) (failing q tags))) (one x)
      ∙ without_more (p x) (x == tag) x (failing q tags) (failing p tags) refl (without_passed p q one tags)

  -- a number is this one or a later one
  one_or_later : (e later b passes : Bool) → (e ≡ true → passes ≡ b)
      → cond b (e || (later && passes)) (later && passes) ≡ ((e || later) && passes)
  one_or_later true later true passes same = sym (same refl)
  one_or_later true true false passes same = refl
  one_or_later true false false passes same = sym (same refl)
  one_or_later false later true passes same = refl
  one_or_later false later false passes same = refl

  -- an entry more, or not
  holds_more : (b : Bool) (x : ℕ) (left : List ℕ)
      → holds_tag tag (map (entry_of base offered) (cond b (x ∷ left) left))
      ≡ cond b ((x == tag) || holds_tag tag (map (entry_of base offered) left))
      (holds_tag tag (map (entry_of base offered) left))
  holds_more true x left = refl
  holds_more false x left = refl

  -- no number is among none
  none_here : (first : ℕ) (b : Bool) → false ≡ ((nat_le first tag && nat_lt tag (first + zero)) && b)
  none_here first b = grind (arith, nat_tests)

  -- a number of a range is its first one or a later one
  here_or_behind : (first n : ℕ) → ((first == tag) || (nat_le (first + 1) tag && nat_lt tag (first + 1 + n)))
      ≡ (nat_le first tag && nat_lt tag (first + suc n))
  here_or_behind first n = grind (arith, nat_tests)

  -- equal numbers pass the same tests
  same_test : (p : ℕ → Bool) (x : ℕ) → (x == tag) ≡ true → p tag ≡ p x
  same_test p x is = let same : x ≡ tag = grind (arith, nat_tests) in ap p (sym same)

  -- a tag is among the entries exactly if it is one of the numbers and passes
  pub holds_among : (p : ℕ → Bool) (first n : ℕ)
      → holds_tag tag (map (entry_of base offered) (filter p (numbers_from first n)))
      ≡ ((nat_le first tag && nat_lt tag (first + n)) && p tag)
  holds_among p first zero = none_here first (p tag)
  holds_among p first (suc n) =
      holds_more (p first) first (filter p (numbers_from (first + 1) n))
      ∙ ap (λ b. cond (p first) ((first == tag) || b) b) (holds_among p (first + 1) n)
      ∙ one_or_later (first == tag) (nat_le (first + 1) tag && nat_lt tag (first + 1 + n)) (p first) (p tag)
      (same_test p first)
      ∙ ap (λ b. b && p tag) (here_or_behind first n)

-- how many numbers from a first one on pass, up to the first one that fails
abbrev open_from : (ℕ → Bool) → ℕ → ℕ → ℕ
open_from p first zero = zero
open_from p first (suc n) = cond (p first) (suc (open_from p (first + 1) n)) zero

-- by the course all is confirmed up to the last event before the first tag that isn't
from_course : (course : Course) (events : List Event) (time tag n : ℕ) → is_confirmed course (tag + n) ≡ false
    → confirmed_from course time tag events
    ≡ last_timestamp_from time (take (open_from (is_confirmed course) tag n) events)
from_course course [] time tag n last = ap (last_timestamp_from time) (sym (take-nil _))
from_course course (event ∷ events) time tag zero last =
    let here : is_confirmed course tag ≡ false = ap (is_confirmed course) (sym (add-zero tag)) ∙ last in
    ap (λ b. if b then confirmed_from course event.timestamp (tag + 1) events else time) here
from_course course (event ∷ events) time tag (suc n) last =
    let later : tag + suc n ≡ tag + 1 + n = omega arith in
    by (is_confirmed course tag)
    (from_course course events event.timestamp (tag + 1) n (ap (is_confirmed course) (sym later) ∙ last))
  where
    by : (b : Bool)
        → confirmed_from course event.timestamp (tag + 1) events
        ≡ last_timestamp_from event.timestamp (take (open_from (is_confirmed course) (tag + 1) n) events)
        → (if b then confirmed_from course event.timestamp (tag + 1) events else time)
        ≡ last_timestamp_from time (take (cond b (suc (open_from (is_confirmed course) (tag + 1) n)) zero)
        (event ∷ events))
    by true rest = rest
    by false rest = refl

-- and so it is by the entries
from_entries : (p : ℕ → Bool) (base : ℕ) (offered : List Event) (last_sent first n : ℕ)
    → last_sent ≡ timestamp_after base offered (first + n - 1)
    → confirmed_of last_sent (map (entry_of base offered) (failing p (numbers_from first n)))
    ≡ timestamp_after base offered (first + open_from p first n - 1)
from_entries p base offered last_sent first zero last = last
from_entries p base offered last_sent first (suc n) last =
    let later : first + suc n - 1 ≡ first + 1 + n - 1 = omega arith in
    by (p first)
    (from_entries p base offered last_sent (first + 1) n (last ∙ ap (timestamp_after base offered) later))
  where
    by : (b : Bool)
        → confirmed_of last_sent (map (entry_of base offered) (failing p (numbers_from (first + 1) n)))
        ≡ timestamp_after base offered (first + 1 + open_from p (first + 1) n - 1)
        → confirmed_of last_sent (map (entry_of base offered)
        (cond (not b) (first ∷ failing p (numbers_from (first + 1) n)) (failing p (numbers_from (first + 1) n))))
        ≡ timestamp_after base offered (first + cond b (suc (open_from p (first + 1) n)) zero - 1)
    by true rest =
        let further : first + 1 + open_from p (first + 1) n - 1 ≡ first + suc (open_from p (first + 1) n) - 1 =
        omega arith in
        rest ∙ ap (timestamp_after base offered) further
    by false rest = let here : first - 1 ≡ first + zero - 1 = omega arith in ap (timestamp_after base offered) here

-- so the state determines how far all is confirmed
pub confirmed_by : (course : Course) (last_sent tags : ℕ) → is_confirmed course (1 + tags) ≡ false
    → last_sent ≡ timestamp_after course.base course.offered tags
    → confirmed_of last_sent
    (map (entry_of course.base course.offered) (failing (is_confirmed course) (numbers_from 1 tags)))
    ≡ confirmed_from course course.base 1 course.offered
confirmed_by course last_sent tags past last =
    let all : tags ≡ 1 + tags - 1 = omega arith in
    let same : 1 + open_from (is_confirmed course) 1 tags - 1 ≡ open_from (is_confirmed course) 1 tags = omega arith in
    from_entries (is_confirmed course) course.base course.offered last_sent 1 tags
    (last ∙ ap (timestamp_after course.base course.offered) all)
    ∙ ap (timestamp_after course.base course.offered) same
    ∙ sym (from_course course course.offered course.base 1 tags past)
