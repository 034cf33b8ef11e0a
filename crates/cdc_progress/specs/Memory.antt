-- A store in memory that fails at one call.
use Rattle.std.specs.Prelude.{ℕ, ◌+◌, ◌-◌, ◌^◌, ◌<◌, min, Bool, false, not, ◌&&◌, ◌||◌, ◌==◌, nat_le, Option, Some, if◌then◌else◌}
use Rattle.cdc_progress.specs.Records.{Saved}
use Rattle.cdc_progress.specs.Stores.{Risks}

-- what is held; how many calls of load and save there were; which of them fails, from 1, or 0 for none; and whether a
-- save that fails keeps the new record all the same
pub record Memory : Type 0 where
  pub held : Option Saved
  pub calls : ℕ
  pub fails_at : ℕ
  pub keeps_new : Bool

-- the calls are counted in 64 bits, and the one that fails is below the greatest count
pub record HasBounds (memory : Memory) : Type 0 where
  pub calls : memory.calls < 2 ^ 64
  pub fails_at : memory.fails_at < 2 ^ 64 - 1

-- the next call is the one that fails
abbrev pub fails_next : Memory → Bool
fails_next memory = (memory.calls + 1) == memory.fails_at

-- how often the store has failed: once it has come to the call that fails, and never before
abbrev pub failures_of : Memory → ℕ
failures_of memory = if not (memory.fails_at == 0) && nat_le memory.fails_at memory.calls then 1 else 0

-- it never runs out of memory, and a call can fail if its plan names one
abbrev pub risks_of : Memory → Risks
risks_of memory = record { memory = false; faults = not (memory.fails_at == 0) }

-- one call more; the count stays at its greatest
abbrev pub called : Memory → Memory
called memory = record memory { calls = min (memory.calls + 1) (2 ^ 64 - 1) }

-- the store after a save: a save that fails may keep the new record or the old one
abbrev pub after_save : Memory → Saved → Memory
after_save memory saved =
    if not (fails_next memory) || memory.keeps_new then record (called memory) { held = Some saved } else called memory
