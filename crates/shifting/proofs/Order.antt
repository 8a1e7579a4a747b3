-- A single write keeps the order. All that is used of the slots is a strict order of them, and of the rules that no rule is above itself:
-- so the argument also serves slots in the reverse order. Assumes nothing.
use Rattle.std.proofs.Common.{◌≡◌, ℕ, ◌⊎◌, List, [], ◌∷◌, set, Some, None, ◌∙◌, ⊎_elim}
use Rattle.rules.specs.declared.rule.Rule.{Rule}
use Rattle.shifting.specs.Slots.{Slot, at}
use Rattle.shifting.proofs.Reading.{none_some, some_same, set_read, set_there, moved_to, move_read}

module _ (◌≺◌ : ℕ → ℕ → Type 0) (Above : Rule → Rule → Type 0) where
  infix 4 ◌≺◌
  -- whatever is above stands before
  abbrev pub Right : List Slot → Type 0
  Right slots = (i j : ℕ) (rule other : Rule) → at slots i ≡ Some rule → at slots j ≡ Some other → Above rule other → i ≺ j

  -- a rule fits a slot if all that is above it stands before that slot, and nothing that it is above does
  abbrev pub Fits : List Slot → Rule → ℕ → Type 0
  Fits slots rule c = (j : ℕ) (other : Rule) → at slots j ≡ Some other → (Above other rule → j ≺ c) × (Above rule other → j ≺ c → ⊥)

  -- the rule in slot c may go down to slot d: nothing that it is above stands between them
  pub record Link (slots : List Slot) (c d : ℕ) : Type 0 where
    pub rule : Rule
    pub stands : at slots c ≡ Some rule
    pub before : c ≺ d
    pub free : (j : ℕ) (other : Rule) → at slots j ≡ Some other → Above rule other → c ≺ j → j ≺ d → ⊥

  -- a chain of a new rule, named from its end
  abbrev pub Back : List Slot → Rule → ℕ → List ℕ → Type 0
  Back slots new d [] = Fits slots new d
  Back slots new d (c ∷ earlier) = Link slots c d × Back slots new c earlier

  module _ (irreflexive : (i : ℕ) → i ≺ i → ⊥) (transitive : (i j k : ℕ) → i ≺ j → j ≺ k → i ≺ k)
      (compared : (i j : ℕ) → (i ≡ j) ⊎ ((i ≺ j) ⊎ (j ≺ i))) (never_itself : (rule : Rule) → Above rule rule → ⊥) where
    pub write_keeps : (slots : List Slot) (new : Rule) (c : ℕ) → Right slots → Fits slots new c → Right (set slots c (Some new))
    write_keeps slots new c right fits i j rule other at_i at_j above =
        ⊎_elim
        (λ here.
        let is-new = some_same here.1 in
        ⊎_elim
        (λ both. absurd (never_itself new (rw (← is-new, ← (some_same both.1)) at above)))
        (λ there.
        let not-before : j ≺ c → ⊥ = (fits j other there.1).1 (rw (← is-new) at above) in
        let after : c ≺ j = ⊎_elim (λ same. absurd (there.0 same)) (λ way. ⊎_elim (λ earlier. absurd (not-before earlier)) (λ later. later) way) (compared j c) in
        rw here.0 after)
        (set_read slots c j (Some new) other at_j))
        (λ apart.
        ⊎_elim
        (λ there. rw there.0 ((fits i rule apart.1).0 (rw (← (some_same there.1)) at above)))
        (λ there. right i j rule other apart.1 there.1 above)
        (set_read slots c j (Some new) other at_j))
        (set_read slots c i (Some new) rule at_i)

    pub erase_keeps : (slots : List Slot) (c : ℕ) → Right slots → Right (set slots c None)
    erase_keeps slots c right i j rule other at_i at_j above =
        ⊎_elim (λ gone. none_some gone.1)
        (λ one. ⊎_elim (λ gone. none_some gone.1) (λ two. right i j rule other one.1 two.1 above) (set_read slots c j None other at_j))
        (set_read slots c i None rule at_i)

    -- the rule in a slot fits every slot that it may go down to
    pub link_fits : (slots : List Slot) (c d : ℕ) → Right slots → (link : Link slots c d) → Fits slots link.rule d
    link_fits slots c d right link j other at_j = (
      λ above. transitive j c d (right j c other link.rule at_j link.stands above) link.before,
      λ above early. link.free j other at_j above (right c j link.rule other link.stands at_j above) early,
    )

    -- Once the rule in slot m has gone down to slot g, what is left of the chain is a chain of the new rule still.
    module _ (slots : List Slot) (new moved : Rule) (m g : ℕ) (stands : at slots m ≡ Some moved) (before : m ≺ g) where
      pub carry : (d : ℕ) (earlier : List ℕ) → (m ≺ d → ⊥) → Back slots new d earlier → Back (moved_to slots m g moved) new d earlier
      carry d [] early fits = λ j rule at_j.
          ⊎_elim
          (λ here. (
            λ above. absurd (early ((fits m moved stands).0 (rw (← here.1) at above))),
            λ above soon. early (transitive m g d before (rw here.0 at soon)),
          ))
          (λ there. fits j rule there.1)
          (move_read slots m g moved j rule at_j)
      carry d (c ∷ earlier) early back =
          let link = back.0 in
          let off-m : c ≡ m → ⊥ = λ same. early (rw same at link.before) in
          let off-g : c ≡ g → ⊥ = λ same. early (transitive m g d before (rw same at link.before)) in (
            record {
              rule = link.rule;
              stands = set_there (set slots g (Some moved)) m c None off-m ∙ (set_there slots g c (Some moved) off-g ∙ link.stands);
              before = link.before;
              free = λ j other at_j above from to.
                  ⊎_elim
                  (λ here. early (transitive m g d before (rw here.0 at to)))
                  (λ there. link.free j other there.1 above from to)
                  (move_read slots m g moved j other at_j);
            },
            carry c earlier (λ late. early (transitive m c d late link.before)) back.1,
          )
