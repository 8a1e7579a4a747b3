-- The first and the last slot that pass a test, which is known by what it may answer of a slot. Assumes nothing.
use Rattle.std.specs.Prelude.{◌≡◌, ℕ, suc, ◌<◌, ◌≤◌, Bool, true, false, List, Option, IfSome, unwrap_or}
use Rattle.shifting.specs.Slots.{Slot, at}

module _ (Answers : Slot → Bool → Type 0) (slots : List Slot) where
  -- no slot from one on and before another passes
  abbrev pub NonePasses : ℕ → ℕ → Type 0
  NonePasses from end = (i : ℕ) → from ≤ i → i < end → Answers (at slots i) false

  -- a slot from one on and before another passes
  pub record Passes (from end slot : ℕ) : Type 0 where
    pub after : from ≤ slot
    pub before : slot < end
    pub passes : Answers (at slots slot) true

  -- the slot that is found passes, and none before it; where none is found, none passes
  pub record FirstPassing (from end : ℕ) (found : Option ℕ) : Type 0 where
    pub passes : IfSome found (Passes from end)
    pub none_before : NonePasses from (unwrap_or found end)

  -- one past the last slot before an end that passes, or 0
  pub record PastLast (end past : ℕ) : Type 0 where
    pub within : past ≤ end
    pub passes : (slot : ℕ) → past ≡ suc slot → Answers (at slots slot) true
    pub none_after : NonePasses past end
