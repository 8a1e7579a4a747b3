-- Slots that hold the rules in force, in the right order, and what a copy, a move and a new rule leave of that. Assumes nothing.
use Rattle.std.proofs.Common.{◌≡◌, ℕ, suc, ◌<◌, min, true, false, ◌≢◌, ◌⊎◌, List, [], ◌∷◌, length, set, Some, None, sym, refl, ap, ◌∙◌, inl, inr, ⊎_elim, arith}
use Rattle.std.proofs.lemmas.Bool.{cases_eq, cases_order, both_ways, eq-eqb, or_left, or_right}
use Rattle.std.proofs.lemmas.List.{length-set}
use Rattle.rules.specs.declared.rule.Rule.{Rule}
use Rattle.rules.specs.Kinds.{KindMeaning, KindLaws}
use Rattle.rules.proofs.Meeting.{meets_symmetric}
use Rattle.shifting.specs.Slots.{Slot, at, taken, usable, meets, Over}
use Rattle.shifting.specs.Machine.{number_in}
use Rattle.shifting.specs.Law.{In, Worded}
use Rattle.shifting.proofs.Reading.{none_some, some_same, set_read, set_here, set_there, moved_to, move_read, taken_more, taken_less}
use Rattle.shifting.proofs.Order.{Right, Fits, write_keeps, erase_keeps}

pub usable_set : (slots : List Slot) (c : ℕ) (slot : Slot) → usable (set slots c slot) ≡ usable slots
usable_set slots c slot = ap (λ n. min n 480) (length-set slots c slot)

-- every number stands once in the list
abbrev pub Distinct : List Rule → Type 0
Distinct [] = Unit {0}
Distinct (rule ∷ rules) = (number_in rule.number rules ≡ false) × Distinct rules

pub in_number : (rule : Rule) (rules : List Rule) → In rule rules → number_in rule.number rules ≡ true
in_number rule [] never = absurd never
in_number rule (other ∷ others) is =
    ⊎_elim
    (λ same. or_left _ _ (eq-eqb other.number rule.number (ap (λ r. r.number) (sym same))))
    (λ later. or_right _ _ (in_number rule others later))
    is

-- two rules of the list with one number are one
pub same_rule : (rules : List Rule) → Distinct rules → (rule other : Rule) → In rule rules → In other rules → rule.number ≡ other.number → rule ≡ other
same_rule [] distinct rule other one two numbers = absurd one
same_rule (first ∷ others) distinct rule other one two numbers =
    ⊎_elim
    (λ here.
    ⊎_elim
    (λ too. here ∙ sym too)
    (λ later. absurd (both_ways (number_in first.number others) distinct.0 (ap (λ n. number_in n others) (ap (λ r. r.number) (sym here) ∙ numbers) ∙ in_number other others later)))
    two)
    (λ later.
    ⊎_elim
    (λ here. absurd (both_ways (number_in first.number others) distinct.0 (ap (λ n. number_in n others) (ap (λ r. r.number) (sym here) ∙ sym numbers) ∙ in_number rule others later)))
    (λ too. same_rule others distinct.1 rule other later too numbers)
    two)
    one

module _ (kind : KindMeaning) where
  abbrev pub InOrder : List Slot → Type 0
  InOrder = Right (λ i j. i < j) (Over kind)

  abbrev pub FitsIn : List Slot → Rule → ℕ → Type 0
  FitsIn = Fits (λ i j. i < j) (Over kind)

  pub record Fine (rule : Rule) : Type 0 where
    pub words : Worded rule
    pub well_formed : kind.well_formed rule.word_a rule.word_b ≡ true
    pub numbered : rule.number ≢ 0

  -- what holds of the rules in force by themselves
  pub record Ruled (rules : List Rule) : Type 0 where
    pub fine : (rule : Rule) → In rule rules → Fine rule
    pub untied : (rule other : Rule) → In rule rules → In other rules → meets kind rule other ≡ true → rule.priority ≡ other.priority → rule.number ≡ other.number
    pub distinct : Distinct rules

  -- the slots hold the rules, in order, perhaps with copies
  pub record Stocked (slots : List Slot) (rules : List Rule) : Type 0 where
    pub right : InOrder slots
    pub inside : (i : ℕ) (rule : Rule) → at slots i ≡ Some rule → i < usable slots
    pub stands : (rule : Rule) → In rule rules → (i : ℕ) × (at slots i ≡ Some rule)
    pub only : (i : ℕ) (rule : Rule) → at slots i ≡ Some rule → In rule rules

  -- and each of them once
  pub record Settled (slots : List Slot) (rules : List Rule) : Type 0 where
    pub ruled : Ruled rules
    pub stocked : Stocked slots rules
    pub once : (i j : ℕ) (rule other : Rule) → at slots i ≡ Some rule → at slots j ≡ Some other → rule.number ≡ other.number → i ≡ j
    pub count : taken slots ≡ length rules

  -- a rule that may join the rules in force
  pub record Fresh (rules : List Rule) (new : Rule) : Type 0 where
    pub fine : Fine new
    pub unused : number_in new.number rules ≡ false
    pub untied : (rule : Rule) → In rule rules → meets kind new rule ≡ true → rule.priority ≢ new.priority

  never_over_itself : (rule : Rule) → Over kind rule rule → ⊥
  never_over_itself rule over = over.apart refl

  pub write_in_order : (slots : List Slot) (new : Rule) (c : ℕ) → InOrder slots → FitsIn slots new c → InOrder (set slots c (Some new))
  write_in_order = write_keeps (λ i j. i < j) (Over kind) (λ i less. omega arith) (λ i j k one two. omega arith) cases_order never_over_itself

  pub erase_in_order : (slots : List Slot) (c : ℕ) → InOrder slots → InOrder (set slots c None)
  erase_in_order = erase_keeps (λ i j. i < j) (Over kind) (λ i less. omega arith) (λ i j k one two. omega arith) cases_order never_over_itself

  -- a rule that fits an empty slot is written there
  write_stocked : (slots : List Slot) (rules more : List Rule) (rule : Rule) (g : ℕ) → Stocked slots rules → at slots g ≡ None → g < usable slots → FitsIn slots rule g
      → In rule more → ((one : Rule) → In one rules → In one more) → ((one : Rule) → In one more → (one ≡ rule) ⊎ In one rules)
      → Stocked (set slots g (Some rule)) more
  write_stocked slots rules more rule g stocked free within fits joins keeps from =
      record {
        right = write_in_order slots rule g stocked.right fits;
        inside = λ i one at_i.
            let size = usable_set slots g (Some rule) in
            ⊎_elim (λ here. omega arith) (λ there. let earlier = stocked.inside i one there.1 in omega arith) (set_read slots g i (Some rule) one at_i);
        stands = λ one is.
            ⊎_elim
            (λ same. (g, set_here slots g (Some rule) (omega arith) ∙ ap Some (sym same)))
            (λ old.
            let place = stocked.stands one old in
            (place.0, set_there slots g place.0 (Some rule) (λ same. none_some (sym free ∙ (ap (at slots) (sym same) ∙ place.1))) ∙ place.1))
            (from one is);
        only = λ i one at_i.
            ⊎_elim (λ here. rw (← (some_same here.1)) joins) (λ there. keeps one (stocked.only i one there.1)) (set_read slots g i (Some rule) one at_i);
      }

  module _ (slots : List Slot) (rules : List Rule) (g : ℕ) (settled : Settled slots rules) (free : at slots g ≡ None) (within : g < usable slots) where
    room : g < length slots
    room = omega arith

    -- a copy of a rule in an empty slot that it fits
    pub copied : (c : ℕ) (rule : Rule) → at slots c ≡ Some rule → FitsIn slots rule g → Stocked (set slots g (Some rule)) rules
    copied c rule stands fits =
        write_stocked slots rules rules rule g settled.stocked free within fits (settled.stocked.only c rule stands) (λ one is. is) (λ one is. inr is)

    pub copied_count : (rule : Rule) → taken (set slots g (Some rule)) ≡ suc (length rules)
    copied_count rule = taken_more slots g rule room free ∙ ap suc settled.count

    -- a rule that has gone to an empty slot that it fits
    pub moved : (c : ℕ) (rule : Rule) → at slots c ≡ Some rule → FitsIn slots rule g → Settled (moved_to slots c g rule) rules
    moved c rule stands fits =
        let first = set slots g (Some rule) in
        let size : usable (moved_to slots c g rule) ≡ usable slots = usable_set first c None ∙ usable_set slots g (Some rule) in
        let apart : c ≡ g → ⊥ = λ same. none_some (sym free ∙ (ap (at slots) (sym same) ∙ stands)) in
        record {
          ruled = settled.ruled;
          stocked = record {
            right = erase_in_order first c (copied c rule stands fits).right;
            inside = λ i one at_i.
                ⊎_elim (λ here. omega arith) (λ there. let earlier = settled.stocked.inside i one there.1 in omega arith) (move_read slots c g rule i one at_i);
            stands = λ one is.
                let place = settled.stocked.stands one is in
                ⊎_elim
                (λ same.
                let is-rule : one ≡ rule = some_same (sym place.1 ∙ (ap (at slots) same ∙ stands)) in
                (g, set_there first c g None (λ e. apart (sym e)) ∙ (set_here slots g (Some rule) room ∙ ap Some (sym is-rule))))
                (λ other. (
                  place.0,
                  set_there first c place.0 None other
                      ∙ (set_there slots g place.0 (Some rule) (λ same. none_some (sym free ∙ (ap (at slots) (sym same) ∙ place.1))) ∙ place.1),
                ))
                (cases_eq place.0 c);
            only = λ i one at_i.
                ⊎_elim (λ here. rw (← here.1) (settled.stocked.only c rule (stands))) (λ there. settled.stocked.only i one there.1) (move_read slots c g rule i one at_i);
          };
          once = λ i j one two at_i at_j numbers.
              ⊎_elim
              (λ here.
              ⊎_elim (λ too. here.0 ∙ sym too.0)
              (λ there. absurd (there.0 (sym (settled.once c j rule two (stands) there.1 (ap (λ r. r.number) here.1 ∙ numbers)))))
              (move_read slots c g rule j two at_j))
              (λ there.
              ⊎_elim
              (λ too. absurd (there.0 (settled.once i c one rule there.1 (stands) (numbers ∙ ap (λ r. r.number) (sym too.1)))))
              (λ too. settled.once i j one two there.1 too.1 numbers)
              (move_read slots c g rule j two at_j))
              (move_read slots c g rule i one at_i);
          count =
              let copy : at first c ≡ Some rule = set_there slots g c (Some rule) apart ∙ stands in
              omega (arith, taken_less first c rule copy, copied_count rule);
        }

    -- the new rule in an empty slot that it fits
    pub joined : (laws : KindLaws kind) (new : Rule) → Fresh rules new → FitsIn slots new g → Settled (set slots g (Some new)) (new ∷ rules)
    joined laws new fresh fits =
        let symmetric : (rule : Rule) → In rule rules → meets kind rule new ≡ meets kind new rule =
        λ rule is.
        let one = (settled.ruled.fine rule is).words in
        let two = fresh.fine.words in
        meets_symmetric kind laws rule.word_a rule.word_b new.word_a new.word_b one.0 one.1 two.0 two.1 in
        let other-number : (rule : Rule) → In rule rules → rule.number ≡ new.number → ⊥ =
        λ rule is same.
        both_ways (number_in new.number rules) fresh.unused (ap (λ n. number_in n rules) (sym same) ∙ in_number rule rules is) in
        record {
          ruled = record {
            fine = λ rule is. ⊎_elim (λ same. rw same fresh.fine) (λ old. settled.ruled.fine rule old) is;
            untied = λ rule other one two meet level.
                ⊎_elim
                (λ same.
                ⊎_elim (λ too. ap (λ r. r.number) (same ∙ sym too))
                (λ old. absurd (fresh.untied other old (rw same at meet) (sym level ∙ ap (λ r. r.priority) same)))
                two)
                (λ old.
                ⊎_elim
                (λ same. absurd (fresh.untied rule old (sym (symmetric rule old) ∙ (rw same at meet)) (level ∙ ap (λ r. r.priority) same)))
                (λ too. settled.ruled.untied rule other old too meet level)
                two)
                one;
            distinct = (fresh.unused, settled.ruled.distinct);
          };
          stocked = write_stocked slots rules (new ∷ rules) new g settled.stocked free within fits (inl refl) (λ one is. inr is) (λ one is. is);
          once = λ i j one two at_i at_j numbers.
              ⊎_elim
              (λ here.
              ⊎_elim (λ too. here.0 ∙ sym too.0)
              (λ there. absurd (other-number two (settled.stocked.only j two there.1) (sym numbers ∙ ap (λ r. r.number) (sym (some_same here.1)))))
              (set_read slots g j (Some new) two at_j))
              (λ there.
              ⊎_elim
              (λ too. absurd (other-number one (settled.stocked.only i one there.1) (numbers ∙ ap (λ r. r.number) (sym (some_same too.1)))))
              (λ too. settled.once i j one two there.1 too.1 numbers)
              (set_read slots g j (Some new) two at_j))
              (set_read slots g i (Some new) one at_i);
          count = copied_count new;
        }
