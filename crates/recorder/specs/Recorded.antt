-- A trace in which the last events can be read, sixteen bits to each: in hex two digits of the slot, then two of the rule's
-- number, or 00 for an erase. Assumes nothing.
use Rattle.std.specs.Prelude.{ℕ, ◌+◌, ◌*◌, ◌%◌, ◌^◌}
use Rattle.rules.specs.declared.event.Event.{Event}
use Rattle.rules.specs.declared.event.Event.TheVariants.{Write, Erase}

abbrev pub event_code : Event → ℕ
event_code (Write slot rule) = slot % 256 * 256 + rule.number % 256
event_code (Erase slot) = slot % 256 * 256

-- a trace has 128 bits, so the oldest event goes as the eighth after it comes
abbrev pub recorded : ℕ → Event → ℕ
recorded trace event = trace % 2 ^ 112 * 2 ^ 16 + event_code event
