-- The headers of contents: class and weight, the size, a flag for each property, and the properties, in order.
use Rattle.std.specs.Prelude.{ℕ, ◌/◌, ◌%◌, List, [], Bool, ◌==◌, if◌then◌else◌, Option, Some}
use Rattle.std.specs.Int.{w16, w64}
use Rattle.cdc_amqp_frames.specs.Fields.{◌>>=◌, bytes_at, number_at, short_at, long_at}
use Rattle.cdc_amqp_methods.specs.declared.contents.ContentHeader.{ContentHeader}

pub record Header : Type 0 where
  pub size : ℕ
  pub headers : List ℕ
  pub message_type : List ℕ

abbrev pub view : ContentHeader → Header
view h = record { size = h.size; headers = h.headers.now; message_type = h.message_type.now }

-- the bytes after a short string, if the content has it
unfoldable pub skipped : Bool → List ℕ → Option (List ℕ)
skipped is_there bytes = if is_there then short_at bytes >>= (λ text. Some text.1) else Some bytes

-- the bytes after this many bytes, if the content has them
unfoldable pub past : Bool → ℕ → List ℕ → Option (List ℕ)
past is_there count bytes = if is_there then bytes_at count bytes >>= (λ x. Some x.1) else Some bytes

-- the fields of a table and the bytes after it, if the content has it
unfoldable pub table_at : Bool → List ℕ → Option (List ℕ × List ℕ)
table_at is_there bytes = if is_there then long_at bytes else Some ([], bytes)

-- a short string, if the content has it
unfoldable pub text_at : Bool → List ℕ → Option (List ℕ)
text_at is_there bytes = if is_there then short_at bytes >>= (λ text. Some text.0) else Some []

-- content type, content encoding, and `headers` with the bytes after it
unfoldable pub headers_at : ℕ → List ℕ → Option (List ℕ × List ℕ)
headers_at flags bytes = do
  content_type ← skipped (flags / 32768 % 2 == 1) bytes
  encoding ← skipped (flags / 16384 % 2 == 1) content_type
  table_at (flags / 8192 % 2 == 1) encoding

-- delivery mode, priority, correlation id, reply-to, expiration, message id and timestamp; the bytes after them
unfoldable pub to_type : ℕ → List ℕ → Option (List ℕ)
to_type flags bytes = do
  mode ← past (flags / 4096 % 2 == 1) 1 bytes
  priority ← past (flags / 2048 % 2 == 1) 1 mode
  correlation ← skipped (flags / 1024 % 2 == 1) priority
  reply ← skipped (flags / 512 % 2 == 1) correlation
  expiration ← skipped (flags / 256 % 2 == 1) reply
  message ← skipped (flags / 128 % 2 == 1) expiration
  past (flags / 64 % 2 == 1) 8 message

-- the properties up to the type
unfoldable pub properties_at : ℕ → ℕ → List ℕ → Option Header
properties_at size flags bytes = do
  headers ← headers_at flags bytes
  rest ← to_type flags headers.1
  message_type ← text_at (flags / 32 % 2 == 1) rest
  Some (record { size = size; headers = headers.0; message_type = message_type })

-- the header of a content; class and weight are ignored
unfoldable pub header_at : List ℕ → Option Header
header_at payload = do
  front ← bytes_at 4 payload
  size ← number_at w64 front.1
  flags ← number_at w16 size.1
  properties_at size.0 flags.0 flags.1
