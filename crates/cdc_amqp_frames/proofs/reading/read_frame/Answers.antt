use Rattle.std.proofs.Common.{rules, ◌≡◌, ◌<◌, ◌^◌, ◌++◌, [], ◌∷◌, ℕ, sym, ap, subst, ◌∙◌, false, ltb}
use Rattle.std.proofs.Common.{arith, length}
use Rattle.std.specs.Int.{w16, to_be_bytes}
use Rattle.std.specs.Io.KnownBytes.{Consumes}
use Rattle.std.proofs.KnownBytes.{Consumes-nil, Consumes-trans}
use Rattle.std.proofs.lemmas.Bool.{le-ltb, lt-ltb, ne_eqb}
use Rattle.std.proofs.lemmas.Result.{err_from_is_err_and}
use Rattle.cdc_amqp_frames.specs.declared.errors.FrameFault.TheVariants.{UnknownKind, TooLong, NoEnd}
use Rattle.cdc_amqp_frames.specs.declared.frames.Frame.{Frame}
use Rattle.cdc_amqp_frames.proofs.FaultLemmas.{ends_within, fault_after, nothing, no_kind, no_channel, no_size}
use Rattle.cdc_amqp_frames.proofs.FaultLemmas.{too_long, no_payload, no_last, other_last, head}
use Rattle.cdc_amqp_frames.proofs.reading.read_frame.Goals as goal

pub returns-in_err-first-clause-fault : goal.returns-in_err-first-clause-fault
returns-in_err-first-clause-fault g c =
    let exit = err_from_is_err_and c.from_residual.result c.from_residual.ensures.1 in
    rw (exit.1, exit.2) (ends_within ℕ Frame c.args.limit 1 _ _ [] c.in_err-first.field-0.0 (Consumes-nil _)
    (nothing c.args.limit) c.in_err-first.ensures.ended)

pub returns-in_default-clause-fault : goal.returns-in_default-clause-fault
returns-in_default-clause-fault g c =
    fault_after c.args.limit _ _ (c.in_ok-first.first ∷ []) UnknownKind c.in_ok-first.ensures.read
    (λ rest. no_kind c.args.limit c.in_ok-first.first rest (sym c.of_byte.ensures ∙ c.in_default.is))

pub returns-in_err-channel-clause-fault : goal.returns-in_err-channel-clause-fault
returns-in_err-channel-clause-fault g c =
    let exit = err_from_is_err_and c.from_residual-in_err-channel.result c.from_residual-in_err-channel.ensures.1 in
    rw (exit.1, exit.2) (ends_within ℕ Frame c.args.limit 2 _ _ (c.in_ok-first.first ∷ []) c.in_err-channel.field-0.0
    c.in_ok-first.ensures.read
    (no_channel c.args.limit c.in_ok-first.first c.in-Some.kind (sym c.of_byte.ensures ∙ c.in-Some.is))
    c.in_err-channel.ensures.ended)

pub returns-in_err-size-clause-fault : goal.returns-in_err-size-clause-fault
returns-in_err-size-clause-fault g c =
    let exit = err_from_is_err_and c.from_residual-in_err-size.result c.from_residual-in_err-size.ensures.1 in
    let small : c.in_ok-channel.channel < 2 ^ 16 = search rules in
    rw (exit.1, exit.2) (ends_within ℕ Frame c.args.limit 4 _ _
    ((c.in_ok-first.first ∷ []) ++ to_be_bytes w16 c.in_ok-channel.channel) c.in_err-size.field-0.0
    (Consumes-trans _ _ _ _ _ c.in_ok-first.ensures.read c.in_ok-channel.ensures.read)
    (no_size c.args.limit c.in_ok-first.first c.in_ok-channel.channel c.in-Some.kind
    (sym c.of_byte.ensures ∙ c.in-Some.is) small)
    c.in_err-size.ensures.ended)

pub returns-then-size-limit-clause-fault : goal.returns-then-size-limit-clause-fault
returns-then-size-limit-clause-fault g c =
    let small : c.in_ok-channel.channel < 2 ^ 16 = search rules in
    let narrow : c.in_ok-size.size < 2 ^ 32 = search rules in
    fault_after c.args.limit _ _ (head c.in_ok-first.first c.in_ok-channel.channel c.in_ok-size.size) TooLong
    (Consumes-trans _ _ _ _ _ (Consumes-trans _ _ _ _ _ c.in_ok-first.ensures.read c.in_ok-channel.ensures.read)
    c.in_ok-size.ensures.read)
    (λ rest. too_long c.args.limit c.in_ok-first.first c.in_ok-channel.channel c.in_ok-size.size c.in-Some.kind rest
    (sym c.of_byte.ensures ∙ c.in-Some.is) small narrow (lt-ltb _ _ c.if-size-limit.true))

pub returns-in_err-payload-clause-fault : goal.returns-in_err-payload-clause-fault
returns-in_err-payload-clause-fault g c =
    let exit = err_from_is_err_and c.from_residual-in_err-payload.result c.from_residual-in_err-payload.ensures.1 in
    let small : c.in_ok-channel.channel < 2 ^ 16 = search rules in
    let narrow : c.in_ok-size.size < 2 ^ 32 = search rules in
    rw (exit.1, exit.2) (ends_within ℕ Frame c.args.limit c.in_ok-size.size _ _
    (head c.in_ok-first.first c.in_ok-channel.channel c.in_ok-size.size) c.in_err-payload.field-0.0
    (Consumes-trans _ _ _ _ _ (Consumes-trans _ _ _ _ _ c.in_ok-first.ensures.read c.in_ok-channel.ensures.read)
    c.in_ok-size.ensures.read)
    (no_payload c.args.limit c.in_ok-first.first c.in_ok-channel.channel c.in_ok-size.size c.in-Some.kind
    (sym c.of_byte.ensures ∙ c.in-Some.is) small narrow (le-ltb _ _ c.if-size-limit.false))
    c.in_err-payload.ensures.ended)

pub returns-in_err-end-clause-fault : goal.returns-in_err-end-clause-fault
returns-in_err-end-clause-fault g c =
    let exit = err_from_is_err_and c.from_residual-in_err-end.result c.from_residual-in_err-end.ensures.1 in
    let small : c.in_ok-channel.channel < 2 ^ 16 = search rules in
    let narrow : c.in_ok-size.size < 2 ^ 32 = search rules in
    let size = c.in_ok-payload.ensures.size in
    let head_is = ap (λ n. head c.in_ok-first.first c.in_ok-channel.channel n) (sym size) in
    let short : length c.in_ok-payload.payload.items < 2 ^ 32 = omega (arith, size, narrow) in
    let within : ltb c.args.limit (length c.in_ok-payload.payload.items) ≡ false =
    le-ltb _ _ (omega (arith, size, c.if-size-limit.false)) in
    let read_head = subst (Consumes _ _) head_is (Consumes-trans _ _ _ _ _
    (Consumes-trans _ _ _ _ _ c.in_ok-first.ensures.read c.in_ok-channel.ensures.read) c.in_ok-size.ensures.read) in
    let read_payload = Consumes-trans _ _ _ _ _ read_head c.in_ok-payload.ensures.read in
    rw (exit.1, exit.2) (ends_within ℕ Frame c.args.limit 1 _ _ _ c.in_err-end.field-0.0 read_payload
    (no_last c.args.limit c.in_ok-first.first c.in_ok-channel.channel c.in-Some.kind c.in_ok-payload.payload.items
    (sym c.of_byte.ensures ∙ c.in-Some.is) small short within) c.in_err-end.ensures.ended)

pub returns-then-end-clause-fault : goal.returns-then-end-clause-fault
returns-then-end-clause-fault g c =
    let small : c.in_ok-channel.channel < 2 ^ 16 = search rules in
    let narrow : c.in_ok-size.size < 2 ^ 32 = search rules in
    let size = c.in_ok-payload.ensures.size in
    let head_is = ap (λ n. head c.in_ok-first.first c.in_ok-channel.channel n) (sym size) in
    let short : length c.in_ok-payload.payload.items < 2 ^ 32 = omega (arith, size, narrow) in
    let within : ltb c.args.limit (length c.in_ok-payload.payload.items) ≡ false =
    le-ltb _ _ (omega (arith, size, c.if-size-limit.false)) in
    let read_head = subst (Consumes _ _) head_is (Consumes-trans _ _ _ _ _
    (Consumes-trans _ _ _ _ _ c.in_ok-first.ensures.read c.in_ok-channel.ensures.read) c.in_ok-size.ensures.read) in
    let read_payload = Consumes-trans _ _ _ _ _ read_head c.in_ok-payload.ensures.read in
    fault_after c.args.limit _ _ _ NoEnd (Consumes-trans _ _ _ _ _ read_payload c.in_ok-end.ensures.read)
    (λ rest. other_last c.args.limit c.in_ok-first.first c.in_ok-channel.channel c.in_ok-end.end c.in-Some.kind
    c.in_ok-payload.payload.items rest (sym c.of_byte.ensures ∙ c.in-Some.is) small short within
    (ne_eqb _ _ c.if-end.true))
