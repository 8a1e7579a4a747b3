-- What a write or an erase leaves of a device. Assumes nothing.
use Rattle.std.specs.Prelude.{◌≡◌, Result}
use Rattle.rules.specs.declared.event.Event.{Event}
use Rattle.rules.specs.declared.refusal.Refusal.{Refusal}
use Rattle.rules.specs.declared.device.SlotDevice.{Ghosts}
use Rattle.rules.specs.Slots.{carried_out, after}

-- a device before and behind a call, by what the call comes to: a refusal leaves it as it was
pub record CarriesOut {D K : Type 0} (g : Ghosts D K) (outcome : Result Event Refusal) (before behind : D) : Type 0 where
  pub slots : g.slots behind ≡ after carried_out (g.slots before) outcome
  pub trace : g.trace behind ≡ after g.traced (g.trace before) outcome
  pub memory : g.memory behind ≡ after g.stored (g.memory before) outcome
  pub same : g.lenders behind ≡ g.lenders before

-- a device over the same loans, so that their lender knows it again
abbrev pub SameLoans : {D K : Type 0} → Ghosts D K → D → D → Type 0
SameLoans g before behind = g.lenders behind ≡ g.lenders before
