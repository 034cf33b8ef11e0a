-- The headers of an envelope, as its reader takes them.
use Rattle.std.specs.Prelude.{ℕ, ◌<◌, ◌^◌, List, ◌++◌, codes, decimal}
use Rattle.cdc_types.specs.declared.events.Headers.{Headers}
use Rattle.cdc_message.specs.Kinds.{kind_text}

-- headers whose numbers fit
pub record HeadersFit (headers : Headers) : Type 0 where
  pub ledger : headers.ledger < 2 ^ 64
  pub transfer_code : headers.transfer_code < 2 ^ 64
  pub debit_account_code : headers.debit_account_code < 2 ^ 64
  pub credit_account_code : headers.credit_account_code < 2 ^ 64

-- headers and a timestamp in seconds, as members, and what follows them
abbrev pub headers_then : Headers → ℕ → List ℕ → List ℕ
headers_then headers seconds rest =
    codes "\"headers\":{\"event_type\":\"" ++ (kind_text headers.kind ++ (
    codes "\",\"ledger\":" ++ (decimal headers.ledger ++ (
    codes ",\"transfer_code\":" ++ (decimal headers.transfer_code ++ (
    codes ",\"debit_account_code\":" ++ (decimal headers.debit_account_code ++ (
    codes ",\"credit_account_code\":" ++ (decimal headers.credit_account_code ++ (
    codes "},\"timestamp\":" ++ (decimal seconds ++ (
    codes "," ++ rest))))))))))))
