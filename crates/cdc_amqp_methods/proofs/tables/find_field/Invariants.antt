use Rattle.std.proofs.Common.{◌≡◌, ◌-◌, length}
use Rattle.cdc_amqp_methods.specs.Tables.{find_among}
use Rattle.cdc_amqp_methods.proofs.tables.find_field.Given as goal

-- what is left has the field of the whole table
abbrev pub invariant-loop : goal.invariant-loop
invariant-loop l = find_among (length l.bytes - l.counter) l.name l.rest ≡ find_among (length l.bytes) l.name l.bytes
