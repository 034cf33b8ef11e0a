-- A body is text in UTF-8.
use Rattle.std.proofs.Common.{◌≡◌, ℕ, ◌<◌, ◌^◌, List, [], ◌∷◌, true, decimal, codes, IsUtf8, refl, arith}
use Rattle.std.proofs.lemmas.Fmt.{IsAscii-decimal_wide}
use Rattle.std.proofs.lemmas.Str.{IsUtf8-append, IsUtf8-from_is_utf8, IsUtf8-from_ascii, IsUtf8-nil}
use Rattle.std.specs.Prelude.{⊤}
use Rattle.std.specs.Char.{encode_utf8}
use Rattle.std.specs.List.{join_with_byte}
use Rattle.std.specs.Str.{is_utf8, chars}
use Rattle.cdc_types.specs.declared.events.EventAccount.{EventAccount}
use Rattle.cdc_types.specs.declared.events.EventTransfer.{EventTransfer}
use Rattle.cdc_types.specs.declared.events.Event.{Event}
use Rattle.cdc_types.specs.declared.events.EventKind.{EventKind}
use Rattle.cdc_types.specs.declared.events.EventKind.TheVariants.{SinglePhase, TwoPhasePending, TwoPhasePosted, TwoPhaseVoided, TwoPhaseExpired}
use Rattle.cdc_message.specs.Bodies.{in_quotes, member_text, object_text, narrow_member, wide_member, account_members_text, account_text, transfer_members_text, transfer_text, event_members_text, body}
use Rattle.cdc_message.specs.Kinds.{kind_text}
use Rattle.cdc_message.specs.Widths.{AccountFits, TransferFits, EventFits}

-- each sign that a body is put together with is text: a quotation mark
quote : IsUtf8 (codes "\"")
unfolding is_utf8 chars encode_utf8
quote = IsUtf8-from_is_utf8 _ refl

-- a colon
colon : IsUtf8 (codes ":")
unfolding is_utf8 chars encode_utf8
colon = IsUtf8-from_is_utf8 _ refl

-- a comma
comma : IsUtf8 (codes ",")
unfolding is_utf8 chars encode_utf8
comma = IsUtf8-from_is_utf8 _ refl

-- an opening brace
opened : IsUtf8 (codes "{")
unfolding is_utf8 chars encode_utf8
opened = IsUtf8-from_is_utf8 _ refl

-- a closing brace
closed : IsUtf8 (codes "}")
unfolding is_utf8 chars encode_utf8
closed = IsUtf8-from_is_utf8 _ refl

-- text in quotes is text
quoted_text : (s : List ℕ) → IsUtf8 s → IsUtf8 (in_quotes s)
quoted_text s h = IsUtf8-append _ _ (IsUtf8-append _ _ quote h) quote

-- a member is text if its value is
member_is_text : (name value : List ℕ) → is_utf8 name ≡ true → IsUtf8 value → IsUtf8 (member_text name value)
member_is_text name value h k =
    IsUtf8-append _ _ (IsUtf8-append _ _ (quoted_text name (IsUtf8-from_is_utf8 name h)) colon) k

-- the digits of a number are text
number_is_text : (n : ℕ) → n < 10 ^ 64 → IsUtf8 (decimal n)
number_is_text n h = IsUtf8-from_ascii (decimal n) (IsAscii-decimal_wide n h)

-- so a member that is a JSON number is text
narrow_is_text : (name : List ℕ) (n : ℕ) → is_utf8 name ≡ true → n < 10 ^ 64 → IsUtf8 (narrow_member name n)
narrow_is_text name n h short = member_is_text name _ h (number_is_text n short)

-- and one that is a decimal string
wide_is_text : (name : List ℕ) (n : ℕ) → is_utf8 name ≡ true → n < 10 ^ 64 → IsUtf8 (wide_member name n)
wide_is_text name n h short = member_is_text name _ h (quoted_text (decimal n) (number_is_text n short))

-- each of these members is text
abbrev AreTexts : List (List ℕ) → Type 0
AreTexts [] = ⊤
AreTexts (t ∷ ts) = IsUtf8 t × AreTexts ts

-- members with commas between them are text
joined_is_text : (ts : List (List ℕ)) → AreTexts ts → IsUtf8 (join_with_byte 44 ts)
joined_is_text [] h = IsUtf8-nil
joined_is_text (t ∷ []) h = h.0
joined_is_text (t ∷ u ∷ ts) h = IsUtf8-append t _ h.0 (IsUtf8-append (44 ∷ []) _ comma (joined_is_text (u ∷ ts) h.1))

-- so an object is text if its members are
object_is_text : (ts : List (List ℕ)) → AreTexts ts → IsUtf8 (object_text ts)
object_is_text ts h = IsUtf8-append _ _ (IsUtf8-append _ _ opened (joined_is_text ts h)) closed

-- the text of an account
account_is_text : (account : EventAccount) → AccountFits account → IsUtf8 (account_text account)
unfolding is_utf8 chars encode_utf8
account_is_text account fits =
    object_is_text (account_members_text account) (
      narrow_is_text (codes "code") account.code refl (omega (arith, fits.code)),
      (
        wide_is_text (codes "credits_pending") account.credits_pending refl (omega (arith, fits.credits_pending)),
        (
          wide_is_text (codes "credits_posted") account.credits_posted refl (omega (arith, fits.credits_posted)),
          (
            wide_is_text (codes "debits_pending") account.debits_pending refl (omega (arith, fits.debits_pending)),
            (
              wide_is_text (codes "debits_posted") account.debits_posted refl (omega (arith, fits.debits_posted)),
              (
                narrow_is_text (codes "flags") account.flags refl (omega (arith, fits.flags)),
                (
                  wide_is_text (codes "id") account.id refl (omega (arith, fits.id)),
                  (
                    wide_is_text (codes "timestamp") account.timestamp refl (omega (arith, fits.timestamp)),
                    (
                      wide_is_text (codes "user_data_128") account.user_data_128 refl
                          (omega (arith, fits.user_data_128)),
                      (
                        narrow_is_text (codes "user_data_32") account.user_data_32 refl
                            (omega (arith, fits.user_data_32)),
                        (
                          wide_is_text (codes "user_data_64") account.user_data_64 refl
                              (omega (arith, fits.user_data_64)),
                          tt,
                        ),
                      ),
                    ),
                  ),
                ),
              ),
            ),
          ),
        ),
      ),
    )

-- the text of a transfer
transfer_is_text : (transfer : EventTransfer) → TransferFits transfer → IsUtf8 (transfer_text transfer)
unfolding is_utf8 chars encode_utf8
transfer_is_text transfer fits =
    object_is_text (transfer_members_text transfer) (
      wide_is_text (codes "amount") transfer.amount refl (omega (arith, fits.amount)),
      (
        narrow_is_text (codes "code") transfer.code refl (omega (arith, fits.code)),
        (
          narrow_is_text (codes "flags") transfer.flags refl (omega (arith, fits.flags)),
          (
            wide_is_text (codes "id") transfer.id refl (omega (arith, fits.id)),
            (
              wide_is_text (codes "pending_id") transfer.pending_id refl (omega (arith, fits.pending_id)),
              (
                narrow_is_text (codes "timeout") transfer.timeout refl (omega (arith, fits.timeout)),
                (
                  wide_is_text (codes "timestamp") transfer.timestamp refl (omega (arith, fits.timestamp)),
                  (
                    wide_is_text (codes "user_data_128") transfer.user_data_128 refl
                        (omega (arith, fits.user_data_128)),
                    (
                      narrow_is_text (codes "user_data_32") transfer.user_data_32 refl
                          (omega (arith, fits.user_data_32)),
                      (
                        wide_is_text (codes "user_data_64") transfer.user_data_64 refl
                            (omega (arith, fits.user_data_64)),
                        tt,
                      ),
                    ),
                  ),
                ),
              ),
            ),
          ),
        ),
      ),
    )

-- the name of every kind
kind_is_text : (kind : EventKind) → IsUtf8 (kind_text kind)
unfolding is_utf8 chars encode_utf8
kind_is_text SinglePhase = IsUtf8-from_is_utf8 _ refl
kind_is_text TwoPhasePending = IsUtf8-from_is_utf8 _ refl
kind_is_text TwoPhasePosted = IsUtf8-from_is_utf8 _ refl
kind_is_text TwoPhaseVoided = IsUtf8-from_is_utf8 _ refl
kind_is_text TwoPhaseExpired = IsUtf8-from_is_utf8 _ refl

-- a body is text, without which a reader would take it for no JSON
pub IsUtf8-body : (event : Event) → EventFits event → IsUtf8 (body event)
unfolding body is_utf8 chars encode_utf8
IsUtf8-body event fits =
    object_is_text (event_members_text event) (
      member_is_text (codes "credit_account") _ refl (account_is_text event.credit_account fits.credit_account),
      (
        member_is_text (codes "debit_account") _ refl (account_is_text event.debit_account fits.debit_account),
        (
          narrow_is_text (codes "ledger") event.ledger refl (omega (arith, fits.ledger)),
          (
            wide_is_text (codes "timestamp") event.timestamp refl (omega (arith, fits.timestamp)),
            (
              member_is_text (codes "transfer") _ refl (transfer_is_text event.transfer fits.transfer),
              (member_is_text (codes "type") _ refl (quoted_text _ (kind_is_text event.kind)), tt),
            ),
          ),
        ),
      ),
    )
