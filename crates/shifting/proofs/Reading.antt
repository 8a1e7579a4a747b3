-- What stands in a slot after one slot was set. Assumes nothing.
use Rattle.std.proofs.Common.{◌≡◌, ℕ, zero, suc, ◌<◌, ◌⊎◌, List, [], ◌∷◌, length, set, Some, None, sym, refl, ap, ◌∙◌, inl, inr, ⊎_elim, arith}
use Rattle.std.proofs.lemmas.Bool.{cases_eq, cases_lt}
use Rattle.std.proofs.lemmas.List.{get_or-set_same, get_or-set_other, get_or_past, length-set}
use Rattle.rules.specs.declared.rule.Rule.{Rule}
use Rattle.shifting.specs.Slots.{Slot, at, taken}

pub none_some : {X : Type 0} {rule : Rule} → ◌≡◌ {A = Slot} None (Some rule) → X
none_some same = cc

pub some_same : {rule other : Rule} → ◌≡◌ {A = Slot} (Some rule) (Some other) → rule ≡ other
some_same same = cc

pub at_within : (slots : List Slot) (i : ℕ) (rule : Rule) → at slots i ≡ Some rule → i < length slots
at_within slots i rule stands =
    ⊎_elim (λ within. within) (λ beyond. none_some (sym (get_or_past slots i None beyond) ∙ stands)) (cases_lt i (length slots))

-- what stands in a slot once the slot c holds something else
pub set_read : (slots : List Slot) (c i : ℕ) (slot : Slot) (rule : Rule) → at (set slots c slot) i ≡ Some rule
    → ((i ≡ c) × (slot ≡ Some rule)) ⊎ ((i ≡ c → ⊥) × (at slots i ≡ Some rule))
set_read slots c i slot rule stands =
    ⊎_elim
    (λ same.
    let here : at (set slots c slot) c ≡ Some rule = ap (at (set slots c slot)) (sym same) ∙ stands in
    let within : c < length slots = omega (arith, at_within (set slots c slot) c rule here, length-set slots c slot) in
    inl (same, sym (get_or-set_same slots c slot None within) ∙ here))
    (λ other. inr (other, sym (get_or-set_other slots c i slot None other) ∙ stands))
    (cases_eq i c)

pub set_here : (slots : List Slot) (c : ℕ) (slot : Slot) → c < length slots → at (set slots c slot) c ≡ slot
set_here slots c slot within = get_or-set_same slots c slot None within

pub set_there : (slots : List Slot) (c i : ℕ) (slot : Slot) → (i ≡ c → ⊥) → at (set slots c slot) i ≡ at slots i
set_there slots c i slot other = get_or-set_other slots c i slot None other

-- the slots once the rule in slot m has gone to slot g
abbrev pub moved_to : List Slot → ℕ → ℕ → Rule → List Slot
moved_to slots m g moved = set (set slots g (Some moved)) m None

pub move_read : (slots : List Slot) (m g : ℕ) (moved : Rule) (j : ℕ) (rule : Rule) → at (moved_to slots m g moved) j ≡ Some rule
    → ((j ≡ g) × (moved ≡ rule)) ⊎ ((j ≡ m → ⊥) × (at slots j ≡ Some rule))
move_read slots m g moved j rule at_j =
    ⊎_elim (λ gone. none_some gone.1)
    (λ kept. ⊎_elim (λ here. inl (here.0, some_same here.1)) (λ there. inr (kept.0, there.1)) (set_read slots g j (Some moved) rule kept.1))
    (set_read (set slots g (Some moved)) m j None rule at_j)

-- how many slots are taken once an empty slot is written, a taken slot is written, and a taken slot is erased

pub taken_more : (slots : List Slot) (c : ℕ) (rule : Rule) → c < length slots → at slots c ≡ None → taken (set slots c (Some rule)) ≡ suc (taken slots)
taken_more [] c rule within free = absurd (omega arith)
taken_more (None ∷ others) zero rule within free = refl
taken_more (Some other ∷ others) zero rule within free = none_some (sym free)
taken_more (None ∷ others) (suc c) rule within free = taken_more others c rule (omega arith) free
taken_more (Some other ∷ others) (suc c) rule within free = ap suc (taken_more others c rule (omega arith) free)

pub taken_same : (slots : List Slot) (c : ℕ) (rule old : Rule) → at slots c ≡ Some old → taken (set slots c (Some rule)) ≡ taken slots
taken_same [] c rule old stands = none_some stands
taken_same (None ∷ others) zero rule old stands = none_some stands
taken_same (Some other ∷ others) zero rule old stands = refl
taken_same (None ∷ others) (suc c) rule old stands = taken_same others c rule old stands
taken_same (Some other ∷ others) (suc c) rule old stands = ap suc (taken_same others c rule old stands)

pub taken_less : (slots : List Slot) (c : ℕ) (old : Rule) → at slots c ≡ Some old → suc (taken (set slots c None)) ≡ taken slots
taken_less [] c old stands = none_some stands
taken_less (None ∷ others) zero old stands = none_some stands
taken_less (Some other ∷ others) zero old stands = refl
taken_less (None ∷ others) (suc c) old stands = taken_less others c old stands
taken_less (Some other ∷ others) (suc c) old stands = ap suc (taken_less others c old stands)
