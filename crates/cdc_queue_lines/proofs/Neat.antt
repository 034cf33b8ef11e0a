-- Texts of printable ASCII that aren't too long: those of numbers, of events and of the lines of a queue.
use Rattle.std.proofs.Common.{◌≡◌, ◌≢◌, ℕ, ◌+◌, ◌<◌, ◌≤◌, ◌^◌, Bool, true, false, ◌&&◌, nat_le, List, [], ◌∷◌, ◌++◌, All, codes, decimal, length, IsUtf8, refl, subst, ◌∙◌, arith, le-leb, length-append}
use Rattle.std.proofs.lemmas.Fmt.{decimal_is_IsNumeral_wide, length-decimal-le_wide}
use Rattle.std.proofs.lemmas.Bool.{and_parts, leb-true, lt-ltb}
use Rattle.std.proofs.lemmas.List.Elements.{All-from_recursion}
use Rattle.std.proofs.lemmas.List.Folds.{list_all-append}
use Rattle.std.proofs.lemmas.Str.Parse.{digit_from_value}
use Rattle.std.specs.List.{AllByRecursion, join_with_byte, list_all}
use Rattle.std.specs.Str.Parse.{AllDigits}
use Rattle.json.proofs.Printed.Utf8.{are_ascii, IsUtf8-are_ascii}
use Rattle.cdc_types.specs.declared.events.EventAccount.{EventAccount}
use Rattle.cdc_types.specs.declared.events.EventTransfer.{EventTransfer}
use Rattle.cdc_types.specs.declared.events.Event.{Event}
use Rattle.cdc_types.specs.declared.events.EventKind.{EventKind}
use Rattle.cdc_types.specs.declared.events.EventKind.TheVariants.{SinglePhase, TwoPhasePending, TwoPhasePosted, TwoPhaseVoided, TwoPhaseExpired}
use Rattle.cdc_message.specs.Bodies.{in_quotes, member_text, object_text, narrow_member, wide_member, account_members_text, account_text, transfer_members_text, transfer_text, event_members_text, body}
use Rattle.cdc_message.specs.Headers.{headers_of_event}
use Rattle.cdc_message.specs.Kinds.{kind_text}
use Rattle.cdc_message.specs.Widths.{AccountFits, TransferFits, EventFits}
use Rattle.cdc_queue_lines.specs.Lines.{end_line, end_members, header_members, headers_text, message_line, message_members, seconds_of}

-- ---- printable texts

-- a byte of printable ASCII
abbrev is_printable : ℕ → Bool
is_printable b = nat_le 32 b && nat_le b 126

-- a printable text of at most so many bytes
pub record IsNeat (most : ℕ) (text : List ℕ) : Type 0 where
  pub plain : list_all is_printable text ≡ true
  pub short : length text ≤ most

both : (a b : Bool) → a ≡ true → b ≡ true → (a && b) ≡ true
both a b p q = rw (p, q) refl

printable_ascii : (text : List ℕ) → list_all is_printable text ≡ true → are_ascii text ≡ true
printable_ascii [] plain = refl
printable_ascii (b ∷ text) plain =
    let parts = and_parts (is_printable b) (list_all is_printable text) plain in
    let small = leb-true b 126 (and_parts (nat_le 32 b) (nat_le b 126) parts.0).1 in
    both _ _ (lt-ltb b 128 (omega (arith, small))) (printable_ascii text parts.1)

-- such a text is UTF-8
pub neat_utf8 : (most : ℕ) (text : List ℕ) → IsNeat most text → IsUtf8 text
neat_utf8 most text neat = IsUtf8-are_ascii text (printable_ascii text neat.plain)

no_feed : (b : ℕ) → is_printable b ≡ true → b ≢ 10
no_feed b plain is =
    let never : false ≡ true = subst (λ x. is_printable x ≡ true) is plain in
    cc

printable_clean : (text : List ℕ) → list_all is_printable text ≡ true → AllByRecursion (λ b. b ≢ 10) text
printable_clean [] plain = tt
printable_clean (b ∷ text) plain =
    let parts = and_parts _ _ plain in
    (no_feed b parts.0, printable_clean text parts.1)

-- it has no line feed
pub neat_clean : (most : ℕ) (text : List ℕ) → IsNeat most text → All (λ b. b ≢ 10) text
neat_clean most text neat = All-from_recursion (λ b. b ≢ 10) text (printable_clean text neat.plain)

-- ---- texts put together

neat_append : (m n : ℕ) (a b : List ℕ) → IsNeat m a → IsNeat n b → IsNeat (m + n) (a ++ b)
neat_append m n a b first second = record {
  plain = list_all-append is_printable a b ∙ both _ _ first.plain second.plain;
  short = omega (arith, length-append a b, first.short, second.short);
}

neat_within : (m n : ℕ) (a : List ℕ) → IsNeat m a → m ≤ n → IsNeat n a
neat_within m n a neat within = record { plain = neat.plain; short = omega (arith, neat.short) }

-- a printable name of at most 32 bytes
abbrev is_name : List ℕ → Bool
is_name name = list_all is_printable name && nat_le (length name) 32

neat_name : (name : List ℕ) → is_name name ≡ true → IsNeat 32 name
neat_name name is =
    let parts = and_parts _ _ is in
    record { plain = parts.0; short = leb-true (length name) 32 parts.1 }

neat_quotes : (n : ℕ) (text : List ℕ) → IsNeat n text → IsNeat (n + 2) (in_quotes text)
neat_quotes n text neat =
    let quote : IsNeat 1 (codes "\"") = record { plain = refl; short = omega arith } in
    neat_within (1 + n + 1) (n + 2) (in_quotes text)
    (neat_append (1 + n) 1 _ _ (neat_append 1 n _ _ quote neat) quote) (omega arith)

neat_member : (n : ℕ) (name value : List ℕ) → is_name name ≡ true → IsNeat n value
    → IsNeat (35 + n) (member_text name value)
neat_member n name value is neat =
    let colon : IsNeat 1 (codes ":") = record { plain = refl; short = omega arith } in
    neat_append 35 n _ _ (neat_append 34 1 _ _ (neat_quotes 32 name (neat_name name is)) colon) neat

digit_plain : (d : ℕ) → 48 ≤ d → d ≤ 57 → is_printable d ≡ true
digit_plain d low high = both _ _ (le-leb 32 d (omega arith)) (le-leb d 126 (omega arith))

digits_plain : (ds : List ℕ) → AllDigits 10 ds → list_all is_printable ds ≡ true
digits_plain [] h = refl
digits_plain (d ∷ ds) h =
    let range = digit_from_value d h.0 in
    both _ _ (digit_plain d (omega arith) (omega arith)) (digits_plain ds h.1)

-- the digits of a number of up to 128 bits
neat_decimal : (n : ℕ) → n < 2 ^ 128 → IsNeat 40 (decimal n)
neat_decimal n fits =
    let wide : n < 10 ^ 64 = omega arith in
    let short : n < 10 ^ 40 = omega arith in
    record {
      plain = digits_plain (decimal n) (decimal_is_IsNumeral_wide n wide).0.1;
      short = length-decimal-le_wide 40 n (omega arith) short wide;
    }

-- a member that is a JSON number
neat_narrow : (name : List ℕ) (n : ℕ) → is_name name ≡ true → n < 2 ^ 128 → IsNeat 80 (narrow_member name n)
neat_narrow name n is fits =
    neat_within 75 80 _ (neat_member 40 name (decimal n) is (neat_decimal n fits)) (omega arith)

-- a member that is a decimal string
neat_wide : (name : List ℕ) (n : ℕ) → is_name name ≡ true → n < 2 ^ 128 → IsNeat 80 (wide_member name n)
neat_wide name n is fits =
    neat_within 77 80 _
    (neat_member 42 name (in_quotes (decimal n)) is (neat_quotes 40 (decimal n) (neat_decimal n fits))) (omega arith)

-- a longer member
neat_part : (m n : ℕ) (name value : List ℕ) → is_name name ≡ true → IsNeat m value → 35 + m ≤ n
    → IsNeat n (member_text name value)
neat_part m n name value is neat within = neat_within (35 + m) n _ (neat_member m name value is neat) within

-- how long members can be that have so many bytes each, and a comma
abbrev total : ℕ → List (List ℕ) → ℕ
total most [] = 0
total most (t ∷ ts) = most + 1 + total most ts

neat_joined : (most : ℕ) (ts : List (List ℕ)) → AllByRecursion (IsNeat most) ts
    → IsNeat (total most ts) (join_with_byte 44 ts)
neat_joined most [] all = record { plain = refl; short = omega arith }
neat_joined most (t ∷ []) all = neat_within most (most + 1 + 0) t all.0 (omega arith)
neat_joined most (t ∷ u ∷ ts) all =
    let comma : IsNeat 1 (44 ∷ []) = record { plain = refl; short = omega arith } in
    neat_within (most + (1 + total most (u ∷ ts))) (total most (t ∷ u ∷ ts)) _
    (neat_append most (1 + total most (u ∷ ts)) t (44 ∷ join_with_byte 44 (u ∷ ts)) all.0
    (neat_append 1 (total most (u ∷ ts)) (44 ∷ []) (join_with_byte 44 (u ∷ ts)) comma
    (neat_joined most (u ∷ ts) all.1)))
    (omega arith)

neat_object : (most n : ℕ) (ts : List (List ℕ)) → AllByRecursion (IsNeat most) ts → 1 + total most ts + 1 ≤ n
    → IsNeat n (object_text ts)
neat_object most n ts all within =
    let opened : IsNeat 1 (codes "{") = record { plain = refl; short = omega arith } in
    let closed : IsNeat 1 (codes "}") = record { plain = refl; short = omega arith } in
    neat_within (1 + total most ts + 1) n _
    (neat_append (1 + total most ts) 1 _ _ (neat_append 1 (total most ts) _ _ opened (neat_joined most ts all)) closed)
    within

-- ---- an event

neat_account : (account : EventAccount) → AccountFits account → IsNeat 1000 (account_text account)
neat_account account fits =
    neat_object 80 1000 (account_members_text account) (
      neat_narrow (codes "code") account.code refl (omega (arith, fits.code)),
      (
        neat_wide (codes "credits_pending") account.credits_pending refl fits.credits_pending,
        (
          neat_wide (codes "credits_posted") account.credits_posted refl fits.credits_posted,
          (
            neat_wide (codes "debits_pending") account.debits_pending refl fits.debits_pending,
            (
              neat_wide (codes "debits_posted") account.debits_posted refl fits.debits_posted,
              (
                neat_narrow (codes "flags") account.flags refl (omega (arith, fits.flags)),
                (
                  neat_wide (codes "id") account.id refl fits.id,
                  (
                    neat_wide (codes "timestamp") account.timestamp refl (omega (arith, fits.timestamp)),
                    (
                      neat_wide (codes "user_data_128") account.user_data_128 refl fits.user_data_128,
                      (
                        neat_narrow (codes "user_data_32") account.user_data_32 refl
                            (omega (arith, fits.user_data_32)),
                        (
                          neat_wide (codes "user_data_64") account.user_data_64 refl
                              (omega (arith, fits.user_data_64)),
                          tt,
                        ),
                      ),
                    ),
                  ),
                ),
              ),
            ),
          ),
        ),
      ),
    ) (omega arith)

neat_transfer : (transfer : EventTransfer) → TransferFits transfer → IsNeat 1000 (transfer_text transfer)
neat_transfer transfer fits =
    neat_object 80 1000 (transfer_members_text transfer) (
      neat_wide (codes "amount") transfer.amount refl fits.amount,
      (
        neat_narrow (codes "code") transfer.code refl (omega (arith, fits.code)),
        (
          neat_narrow (codes "flags") transfer.flags refl (omega (arith, fits.flags)),
          (
            neat_wide (codes "id") transfer.id refl fits.id,
            (
              neat_wide (codes "pending_id") transfer.pending_id refl fits.pending_id,
              (
                neat_narrow (codes "timeout") transfer.timeout refl (omega (arith, fits.timeout)),
                (
                  neat_wide (codes "timestamp") transfer.timestamp refl (omega (arith, fits.timestamp)),
                  (
                    neat_wide (codes "user_data_128") transfer.user_data_128 refl fits.user_data_128,
                    (
                      neat_narrow (codes "user_data_32") transfer.user_data_32 refl
                          (omega (arith, fits.user_data_32)),
                      (
                        neat_wide (codes "user_data_64") transfer.user_data_64 refl
                            (omega (arith, fits.user_data_64)),
                        tt,
                      ),
                    ),
                  ),
                ),
              ),
            ),
          ),
        ),
      ),
    ) (omega arith)

neat_kind : (kind : EventKind) → IsNeat 32 (kind_text kind)
neat_kind SinglePhase = neat_name (codes "single_phase") refl
neat_kind TwoPhasePending = neat_name (codes "two_phase_pending") refl
neat_kind TwoPhasePosted = neat_name (codes "two_phase_posted") refl
neat_kind TwoPhaseVoided = neat_name (codes "two_phase_voided") refl
neat_kind TwoPhaseExpired = neat_name (codes "two_phase_expired") refl

neat_body : (event : Event) → EventFits event → IsNeat 8000 (body event)
unfolding body
neat_body event fits =
    let short : (m : ℕ) (t : List ℕ) → IsNeat m t → m ≤ 1100 → IsNeat 1100 t = λ m t. neat_within m 1100 t in
    neat_object 1100 8000 (event_members_text event) (
      neat_part 1000 1100 (codes "credit_account") _ refl (neat_account event.credit_account fits.credit_account)
          (omega arith),
      (
        neat_part 1000 1100 (codes "debit_account") _ refl (neat_account event.debit_account fits.debit_account)
            (omega arith),
        (
          short 80 _ (neat_narrow (codes "ledger") event.ledger refl (omega (arith, fits.ledger))) (omega arith),
          (
            short 80 _ (neat_wide (codes "timestamp") event.timestamp refl (omega (arith, fits.timestamp)))
                (omega arith),
            (
              neat_part 1000 1100 (codes "transfer") _ refl (neat_transfer event.transfer fits.transfer) (omega arith),
              (
                neat_part 34 1100 (codes "type") _ refl (neat_quotes 32 (kind_text event.kind) (neat_kind event.kind))
                    (omega arith),
                tt,
              ),
            ),
          ),
        ),
      ),
    ) (omega arith)

-- ---- the lines of a queue

neat_headers : (event : Event) → EventFits event → IsNeat 1000 (headers_text (headers_of_event event))
neat_headers event fits =
    neat_object 80 1000 (header_members (headers_of_event event)) (
      neat_part 34 80 (codes "event_type") _ refl (neat_quotes 32 (kind_text event.kind) (neat_kind event.kind))
          (omega arith),
      (
        neat_narrow (codes "ledger") event.ledger refl (omega (arith, fits.ledger)),
        (
          neat_narrow (codes "transfer_code") event.transfer.code refl (omega (arith, fits.transfer.code)),
          (
            neat_narrow (codes "debit_account_code") event.debit_account.code refl
                (omega (arith, fits.debit_account.code)),
            (
              neat_narrow (codes "credit_account_code") event.credit_account.code refl
                  (omega (arith, fits.credit_account.code)),
              tt,
            ),
          ),
        ),
      ),
    ) (omega arith)

-- whole seconds are no more than the nanoseconds
pub seconds_fit : (event : Event) → EventFits event → seconds_of event < 2 ^ 64
seconds_fit event fits = omega (arith, fits.timestamp)

pub neat_message : (previous : ℕ) (event : Event) → previous < 2 ^ 64 → EventFits event
    → IsNeat 65536 (message_line previous event)
unfolding message_line
neat_message previous event before fits =
    let short : (m : ℕ) (t : List ℕ) → IsNeat m t → m ≤ 8100 → IsNeat 8100 t = λ m t. neat_within m 8100 t in
    neat_object 8100 65536 (message_members previous event) (
      neat_part 34 8100 (codes "kind") _ refl (neat_quotes 32 (codes "message") (neat_name (codes "message") refl))
          (omega arith),
      (
        short 80 _ (neat_wide (codes "previous") previous refl (omega arith)) (omega arith),
        (
          neat_part 1000 8100 (codes "headers") _ refl (neat_headers event fits) (omega arith),
          (
            short 80 _ (neat_narrow (codes "timestamp") (seconds_of event) refl
                (omega (arith, seconds_fit event fits))) (omega arith),
            (neat_part 8000 8100 (codes "body") _ refl (neat_body event fits) (omega arith), tt),
          ),
        ),
      ),
    ) (omega arith)

pub neat_end : (previous : ℕ) → previous < 2 ^ 64 → IsNeat 65536 (end_line previous)
unfolding end_line
neat_end previous before =
    neat_object 80 65536 (end_members previous) (
      neat_part 34 80 (codes "kind") _ refl (neat_quotes 32 (codes "end") (neat_name (codes "end") refl)) (omega arith),
      (
        neat_wide (codes "previous") previous refl (omega arith),
        (neat_part 32 80 (codes "end") _ refl (neat_name (codes "true") refl) (omega arith), tt),
      ),
    ) (omega arith)
