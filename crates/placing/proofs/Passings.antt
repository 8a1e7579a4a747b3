-- A test whose answers are known: the first slot that passes is the first of a scan. Assumes nothing.
use Rattle.std.proofs.Common.{◌≡◌, ℕ, zero, suc, ⊎_elim, refl, ◌-◌, ◌<◌, ◌≤◌, Bool, true, ltb, is_some, List, Some, None, Option, MatchOption, unwrap_or, min, subst, sym, arith}
use Rattle.std.proofs.lemmas.Bool.{cases_lt, both_ways}
use Rattle.rules.specs.Slots.{place_within}
use Rattle.shifting.specs.Chains.{scan, past}
use Rattle.shifting.specs.Slots.{Slot, at}
use Rattle.shifting.proofs.Scans.{scan_low, scan_hit, scan_first, past_high, past_last, past_hit}
use Rattle.placing.specs.Passing.{NonePasses, FirstPassing, PastLast}

module _ (Answers : Slot → Bool → Type 0) (test : Slot → Bool) (slots : List Slot) where
  abbrev tested : ℕ → Bool
  tested i = test (at slots i)

  pub first_is : (low end : ℕ) (found : Option ℕ) → FirstPassing Answers slots low end found → ((held : Slot) (answer : Bool) → Answers held answer → answer ≡ test held)
      → found ≡ place_within end (scan tested low (end - low))
  first_is low end None first known = grind (arith, scan_low, scan_hit, first.none_before, known)
  first_is low end (Some slot) first known =
      let before = first.passes.before in
      let to = scan_first tested low (end - low) slot first.passes.after (sym (known _ _ first.passes.passes)) in
      grind (arith, scan_low, scan_hit, first.none_before, known)

  pub past_is : (end found : ℕ) → PastLast Answers slots end found → ((held : Slot) (answer : Bool) → Answers held answer → answer ≡ test held) → found ≡ past tested end
  past_is end found last known = omega (arith, least found last, most (past tested end) refl)
    where
      least : (found : ℕ) → PastLast Answers slots end found → found ≤ past tested end
      least zero last = omega arith
      least (suc slot) last = omega (arith, past_last tested end slot (omega (arith, last.within)) (sym (known _ _ (last.passes slot refl))))

      most : (k : ℕ) → past tested end ≡ k → k ≤ found
      most zero is = omega arith
      most (suc slot) is =
          ⊎_elim (λ (before : slot < found). omega arith)
          (λ (after : found ≤ slot). absurd (both_ways (tested slot) (sym (known _ _ (last.none_after slot after (omega (arith, past_high tested end, is))))) (past_hit tested end slot is)))
          (cases_lt slot found)

-- what `find` tells of the slots
pub first_found : (Answers : Slot → Bool → Type 0) (slots : List Slot) (start low end : ℕ) (found : Option ℕ)
    → MatchOption found (NonePasses Answers slots start end) (λ slot. (start ≤ slot) × (slot < end) × Answers (at slots slot) true × NonePasses Answers slots start slot) → start ≡ low → FirstPassing Answers slots low end found
first_found Answers slots start low end None none is = subst (λ l. FirstPassing Answers slots l end None) is (record { passes = tt; none_before = none })
first_found Answers slots start low end (Some slot) first is =
    subst (λ l. FirstPassing Answers slots l end (Some slot)) is (record { passes = record { after = first.0; before = first.1; passes = first.2 }; none_before = first.3 })

-- whether a place is found
pub some_place : (count place : ℕ) → is_some (place_within count place) ≡ ltb place count
some_place count place = grind arith

-- a place, or the count where it is past all
pub place_or : (count place : ℕ) → unwrap_or (place_within count place) count ≡ min place count
place_or count place = grind arith

pub some_is : (count place found : ℕ) → Some found ≡ place_within count place → (found ≡ place) × (place < count)
some_is count place found is = grind arith

pub none_is : (count place : ℕ) → None ≡ place_within count place → count ≤ place
none_is count place is = grind arith
