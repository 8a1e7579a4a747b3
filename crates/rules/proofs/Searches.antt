-- A search over the places of a list, from the first on, finds the first place that passes. Assumes nothing.
use Rattle.std.proofs.Common.{◌≡◌, ℕ, zero, suc, ◌<◌, ◌≤◌, Bool, true, false, List, [], ◌∷◌, length, get_or, Some, None, Option, subst, arith}
use Rattle.std.proofs.lemmas.Bool.Decides.{nat_tests}
use Rattle.std.proofs.lemmas.Grind.{common_steps}
use Rattle.std.proofs.lemmas.Iterator.{first_from_Range}
use Rattle.std.specs.Option.{MatchOption}
use Rattle.std.specs.Bool.{⊤}
use Rattle.std.specs.Iterator.{YieldsThen}
use Rattle.std.specs.List.{FoldsTo}
use Rattle.std.specs.Fn.{CalledAt}
use Rattle.std.proofs.iter.Yields.{nat_range_steps}
use Rattle.std.specs.declared.ops.Range.{Range}
use denote.Ref.{Bor}
use denote.Param.Members.{Mut}
use Rattle.rules.specs.Slots.{first_place, place_within}

module _ {X : Type 0} (passes : X → Bool) (d : X) where
  -- each place below this one fails
  abbrev Failing : List X → ℕ → Type 0
  Failing xs end = (place : ℕ) → 0 ≤ place → place < end → passes (get_or xs place d) ≡ false

  later : (x : X) (xs : List X) (end : ℕ) → Failing (x ∷ xs) (suc end) → Failing xs end
  later x xs end failing place low below = failing (suc place) (omega arith) (omega arith)

  none_first : (xs : List X) → Failing xs (length xs) → first_place passes xs ≡ length xs
  none_first [] failing = omega arith
  none_first (x ∷ xs) failing = grind (arith, common_steps, nat_tests, failing 0 (omega arith) (omega arith), none_first xs (later x xs (length xs) failing))

  found_first : (xs : List X) (place : ℕ) → place < length xs → passes (get_or xs place d) ≡ true → Failing xs place → first_place passes xs ≡ place
  found_first [] place below passing failing = absurd (omega arith)
  found_first (x ∷ xs) zero below passing failing = grind (arith, common_steps, nat_tests)
  found_first (x ∷ xs) (suc place) below passing failing =
      grind (arith, common_steps, nat_tests, failing 0 (omega arith) (omega arith), found_first xs place (omega arith) passing (later x xs place failing))

  -- where a search over these places from one of them on ends
  abbrev Found : List X → ℕ → Option ℕ → Type 0
  Found xs start found =
      MatchOption found ((place : ℕ) → start ≤ place → place < length xs → passes (get_or xs place d) ≡ false)
      (λ place. (start ≤ place) × (place < length xs) × (passes (get_or xs place d) ≡ true) × ((earlier : ℕ) → start ≤ earlier → earlier < place → passes (get_or xs earlier d) ≡ false))

  from_first : (xs : List X) (found : Option ℕ) → Found xs 0 found → found ≡ place_within (length xs) (first_place passes xs)
  from_first xs None failing = grind (arith, common_steps, nat_tests, none_first xs failing)
  from_first xs (Some place) is = grind (arith, common_steps, nat_tests, found_first xs place is.1 is.2 is.3)

  -- a `find` over a range of the list's places, by what its closure answers
  pub first_in_range : {F : Type 0} {g : Mut F (Bor ℕ × Unit {0}) Bool} (xs : List X) (range left : Range ℕ) (f : F) (found : Option ℕ)
      → (places : List ℕ) × (j : F) × YieldsThen nat_range_steps range places found left × FoldsTo (λ p place q. CalledAt g p place false q) f places j × MatchOption found ⊤ (λ place. (h : F) × CalledAt g j place true h)
      → ((place : ℕ) (q : F) → CalledAt g f place true q → passes (get_or xs place d) ≡ true) → ((place : ℕ) (q : F) → CalledAt g f place false q → (q ≡ f) × (passes (get_or xs place d) ≡ false))
      → range.end ≡ length xs → range.start ≡ 0 → found ≡ place_within (length xs) (first_place passes xs)
  first_in_range xs range left f found ran passing failing end-is start-is =
      let ended = first_from_Range range left f found (λ place. passes (get_or xs place d) ≡ true) (λ place. passes (get_or xs place d) ≡ false) ran passing failing in
      from_first xs found (subst (λ s. Found xs s found) start-is (rw (← end-is) ended))
