use Rattle.cdc_commands.proofs.Terms.{codes, kind_header, number_header, pieces, string_bytes}
use Rattle.cdc_commands.proofs.event_lines.push_headers.Goals as goal

pub returns : goal.returns
returns c =
    pieces _ (string_bytes c.push_kind.new.text) _ (kind_header c.args.headers.kind) _ c.in_ok-push_kind.ensures
    (pieces _ (string_bytes c.push_header.new.text) _ (number_header (codes " ledger=") c.args.headers.ledger) _
    c.in_ok-push_header.ensures
    (pieces _ (string_bytes c.push_header-2.new.text) _
    (number_header (codes " transfer_code=") c.args.headers.transfer_code) _ c.in_ok-push_header-2.ensures
    (pieces _ (string_bytes c.push_header-3.new.text) _
    (number_header (codes " debit_account_code=") c.args.headers.debit_account_code) _ c.in_ok-push_header-3.ensures
    (pieces _ (string_bytes c.push_header-4.new.text) _
    (number_header (codes " credit_account_code=") c.args.headers.credit_account_code) _ c.in_ok-push_header-4.ensures
    (pieces _ (string_bytes c.push_header-5.new.text) _ (number_header (codes " timestamp=") c.args.seconds) _
    c.in_ok-push_header-5.ensures c.in_ok-push_str.ensures.bytes)))))
