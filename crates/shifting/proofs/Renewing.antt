-- A rule is dropped, or has its action changed: the slots hold the rules in force still. Assumes nothing.
use Rattle.std.proofs.Common.{◌≡◌, ℕ, suc, false, cond, ◌||◌, eqb, List, [], ◌∷◌, length, set, Some, None, sym, refl, ap, ◌∙◌, inl, inr, ⊎_elim, arith}
use Rattle.std.proofs.lemmas.Bool.{cases_eq, cond_both, cond-true, cond-false, eq-eqb, ne_eqb, eqb-true, eqb-false, or_parts, or_from}
use Rattle.rules.specs.declared.rule.Rule.{Rule}
use Rattle.rules.specs.Kinds.{KindMeaning}
use Rattle.shifting.specs.Slots.{Slot, at, meets}
use Rattle.shifting.specs.Machine.{number_in, without, with_action, changed}
use Rattle.shifting.specs.Law.{In}
use Rattle.shifting.proofs.Reading.{none_some, some_same, at_within, set_read, set_here, set_there, taken_same, taken_less}
use Rattle.shifting.proofs.Settled.{FitsIn, Distinct, Settled, usable_set, erase_in_order, write_in_order}

module _ (number : ℕ) where
  pub in_without : (rule : Rule) (rules : List Rule) → In rule rules → (rule.number ≡ number → ⊥) → In rule (without number rules)
  in_without rule [] is other = is
  in_without rule (first ∷ rules) is other =
      cond_both (eqb first.number number) (without number rules) (first ∷ without number rules) (In rule)
      (λ gone.
      ⊎_elim (λ same. absurd (other (ap (λ r. r.number) same ∙ eqb-true first.number number gone))) (λ later. in_without rule rules later other) is)
      (λ kept. ⊎_elim (λ same. inl same) (λ later. inr (in_without rule rules later other)) is)

  pub from_without : (rule : Rule) (rules : List Rule) → In rule (without number rules) → In rule rules × (rule.number ≡ number → ⊥)
  from_without rule [] = λ is. absurd is
  from_without rule (first ∷ rules) =
      cond_both (eqb first.number number) (without number rules) (first ∷ without number rules) (λ l. In rule l → In rule (first ∷ rules) × (rule.number ≡ number → ⊥))
      (λ gone is. let one = from_without rule rules is in (inr one.0, one.1))
      (λ kept is.
      ⊎_elim
      (λ same. (inl same, λ numbers. eqb-false first.number number kept (ap (λ r. r.number) (sym same) ∙ numbers)))
      (λ later. let one = from_without rule rules later in (inr one.0, one.1))
      is)

  absent_without : (other : ℕ) (rules : List Rule) → number_in other rules ≡ false → number_in other (without number rules) ≡ false
  absent_without other [] absent = refl
  absent_without other (first ∷ rules) absent =
      let parts = or_parts (eqb first.number other) (number_in other rules) absent in
      cond_both (eqb first.number number) (without number rules) (first ∷ without number rules) (λ l. number_in other l ≡ false)
      (λ gone. absent_without other rules parts.1)
      (λ kept. or_from _ _ parts.0 (absent_without other rules parts.1))

  distinct_without : (rules : List Rule) → Distinct rules → Distinct (without number rules)
  distinct_without [] distinct = tt
  distinct_without (first ∷ rules) distinct =
      cond_both (eqb first.number number) (without number rules) (first ∷ without number rules) Distinct
      (λ gone. distinct_without rules distinct.1)
      (λ kept. (absent_without first.number rules distinct.0, distinct_without rules distinct.1))

  without_absent : (rules : List Rule) → number_in number rules ≡ false → without number rules ≡ rules
  without_absent [] absent = refl
  without_absent (first ∷ rules) absent =
      let parts = or_parts (eqb first.number number) (number_in number rules) absent in
      cond-false (eqb first.number number) (without number rules) (first ∷ without number rules) parts.0 ∙ ap (◌∷◌ first) (without_absent rules parts.1)

  length_without : (rules : List Rule) → Distinct rules → (rule : Rule) → In rule rules → rule.number ≡ number → suc (length (without number rules)) ≡ length rules
  length_without [] distinct rule is numbers = absurd is
  length_without (first ∷ rules) distinct rule is numbers =
      cond_both (eqb first.number number) (without number rules) (first ∷ without number rules) (λ l. suc (length l) ≡ suc (length rules))
      (λ gone.
      let absent : number_in number rules ≡ false = ap (λ n. number_in n rules) (sym (eqb-true first.number number gone)) ∙ distinct.0 in
      ap (λ l. suc (length l)) (without_absent rules absent))
      (λ kept.
      ⊎_elim
      (λ same. absurd (eqb-false first.number number kept (ap (λ r. r.number) (sym same) ∙ numbers)))
      (λ later. ap suc (length_without rules distinct.1 rule later numbers))
      is)

  module _ (action : ℕ) where
    -- what a change makes of a rule
    abbrev pub renewed : Rule → Rule
    renewed rule = cond (eqb rule.number number) (with_action action rule) rule

    -- a change leaves all but the action
    pub record Alike (rule other : Rule) : Type 0 where
      pub numbers : rule.number ≡ other.number
      pub priorities : rule.priority ≡ other.priority
      pub words_a : rule.word_a ≡ other.word_a
      pub words_b : rule.word_b ≡ other.word_b

    pub renewed_alike : (rule : Rule) → Alike (renewed rule) rule
    renewed_alike rule =
        cond_both (eqb rule.number number) (with_action action rule) rule (λ r. Alike r rule)
        (λ _. record { numbers = refl; priorities = refl; words_a = refl; words_b = refl })
        (λ _. record { numbers = refl; priorities = refl; words_a = refl; words_b = refl })

    pub in_changed : (rule : Rule) (rules : List Rule) → In rule rules → In (renewed rule) (changed number action rules)
    in_changed rule [] is = is
    in_changed rule (first ∷ rules) is = ⊎_elim (λ same. inl (ap renewed same)) (λ later. inr (in_changed rule rules later)) is

    pub from_changed : (rule : Rule) (rules : List Rule) → In rule (changed number action rules) → (old : Rule) × In old rules × (rule ≡ renewed old)
    from_changed rule [] is = absurd is
    from_changed rule (first ∷ rules) is =
        ⊎_elim (λ same. (first, inl refl, same)) (λ later. let one = from_changed rule rules later in (one.0, inr one.1, one.2)) is

    number_in_changed : (other : ℕ) (rules : List Rule) → number_in other (changed number action rules) ≡ number_in other rules
    number_in_changed other [] = refl
    number_in_changed other (first ∷ rules) =
        ap (λ n. eqb n other || number_in other (changed number action rules)) (renewed_alike first).numbers
        ∙ ap (λ b. eqb first.number other || b) (number_in_changed other rules)

    distinct_changed : (rules : List Rule) → Distinct rules → Distinct (changed number action rules)
    distinct_changed [] distinct = tt
    distinct_changed (first ∷ rules) distinct = (
      ap (λ n. number_in n (changed number action rules)) (renewed_alike first).numbers ∙ (number_in_changed first.number rules ∙ distinct.0),
      distinct_changed rules distinct.1,
    )

    length_changed : (rules : List Rule) → length (changed number action rules) ≡ length rules
    length_changed [] = refl
    length_changed (first ∷ rules) = ap suc (length_changed rules)

  module _ (kind : KindMeaning) (slots : List Slot) (rules : List Rule) (settled : Settled kind slots rules) (place : ℕ) (rule : Rule)
      (here : at slots place ≡ Some rule) (numbers : rule.number ≡ number) where
    elsewhere : (i : ℕ) (other : Rule) → at slots i ≡ Some other → (i ≡ place → ⊥) → other.number ≡ number → ⊥
    elsewhere i other at_i apart same = apart (settled.once i place other rule at_i here (same ∙ sym numbers))

    pub dropped : Settled kind (set slots place None) (without number rules)
    dropped =
        record {
          ruled = record {
            fine = λ one is. settled.ruled.fine one (from_without one rules is).0;
            untied = λ one two is too. settled.ruled.untied one two (from_without one rules is).0 (from_without two rules too).0;
            distinct = distinct_without rules settled.ruled.distinct;
          };
          stocked = record {
            right = erase_in_order kind slots place settled.stocked.right;
            inside = λ i one at_i.
                let size = usable_set slots place None in
                ⊎_elim (λ gone. none_some gone.1) (λ there. let earlier = settled.stocked.inside i one there.1 in omega arith) (set_read slots place i None one at_i);
            stands = λ one is.
                let old = from_without one rules is in
                let stand = settled.stocked.stands one old.0 in
                let apart : stand.0 ≡ place → ⊥ =
                λ same. old.1 (ap (λ r. r.number) (some_same (sym stand.1 ∙ (ap (at slots) same ∙ here))) ∙ numbers) in
                (stand.0, set_there slots place stand.0 None apart ∙ stand.1);
            only = λ i one at_i.
                ⊎_elim (λ gone. none_some gone.1)
                (λ there. in_without one rules (settled.stocked.only i one there.1) (elsewhere i one there.1 there.0))
                (set_read slots place i None one at_i);
          };
          once = λ i j one two at_i at_j.
              ⊎_elim (λ gone. none_some gone.1)
              (λ there. ⊎_elim (λ gone. none_some gone.1) (λ too. settled.once i j one two there.1 too.1) (set_read slots place j None two at_j))
              (set_read slots place i None one at_i);
          count =
              omega (arith, taken_less slots place rule here, settled.count, length_without rules settled.ruled.distinct rule (settled.stocked.only place rule here) numbers);
        }

    module _ (action : ℕ) where
      is_renewed : renewed action rule ≡ with_action action rule
      is_renewed = cond-true (eqb rule.number number) (with_action action rule) rule (eq-eqb rule.number number numbers)

      same_renewed : (other : Rule) → (other.number ≡ number → ⊥) → renewed action other ≡ other
      same_renewed other apart = cond-false (eqb other.number number) (with_action action other) other (ne_eqb other.number number apart)

      fits : FitsIn kind slots (with_action action rule) place
      fits j other at_j = (
        λ over. settled.stocked.right j place other rule at_j here (record { meet = over.meet; higher = over.higher; apart = over.apart }),
        λ over early.
            let later = settled.stocked.right place j rule other here at_j (record { meet = over.meet; higher = over.higher; apart = over.apart }) in
            omega arith,
      )

      -- a slot after the change holds what the change made of what it held before
      before : (i : ℕ) (one : Rule) → at (set slots place (Some (with_action action rule))) i ≡ Some one → (old : Rule) × (at slots i ≡ Some old) × (one ≡ renewed action old)
      before i one at_i =
          ⊎_elim
          (λ same. (rule, ap (at slots) same.0 ∙ here, sym (some_same same.1) ∙ sym is_renewed))
          (λ there. (one, there.1, sym (same_renewed one (elsewhere i one there.1 there.0))))
          (set_read slots place i (Some (with_action action rule)) one at_i)

      pub renewed_settled : Settled kind (set slots place (Some (with_action action rule))) (changed number action rules)
      renewed_settled =
          record {
            ruled = record {
              fine = λ one is.
                  let old = from_changed action one rules is in
                  let alike = renewed_alike action old.0 in
                  let fine = settled.ruled.fine old.0 old.1 in
                  rw old.2
                  (record {
                    words = rw (alike.words_a, alike.words_b) fine.words;
                    well_formed = rw (alike.words_a, alike.words_b) fine.well_formed;
                    numbered = rw alike.numbers fine.numbered;
                  });
              untied = λ one two is too.
                  let old = from_changed action one rules is in
                  let other = from_changed action two rules too in
                  let alike = renewed_alike action old.0 in
                  let alike-other = renewed_alike action other.0 in
                  let meet-same : meets kind (renewed action old.0) (renewed action other.0) ≡ meets kind old.0 other.0 =
                  λ i. kind.meets (alike.words_a i) (alike.words_b i) (alike-other.words_a i) (alike-other.words_b i) in
                  rw (old.2, other.2)
                  (λ meet level.
                  alike.numbers
                  ∙ (settled.ruled.untied old.0 other.0 old.1 other.1 (sym meet-same ∙ meet) (sym alike.priorities ∙ (level ∙ alike-other.priorities))
                  ∙ sym alike-other.numbers));
              distinct = distinct_changed action rules settled.ruled.distinct;
            };
            stocked = record {
              right = write_in_order kind slots (with_action action rule) place settled.stocked.right fits;
              inside = λ i one at_i.
                  let size = usable_set slots place (Some (with_action action rule)) in
                  let old = before i one at_i in
                  let earlier = settled.stocked.inside i old.0 old.1 in
                  omega arith;
              stands = λ one is.
                  let old = from_changed action one rules is in
                  let stand = settled.stocked.stands old.0 old.1 in
                  ⊎_elim
                  (λ same.
                  let is-rule : old.0 ≡ rule = some_same (sym stand.1 ∙ (ap (at slots) same ∙ here)) in (
                    place,
                    set_here slots place (Some (with_action action rule)) (at_within slots place rule here)
                        ∙ ap Some (sym (old.2 ∙ (ap (renewed action) is-rule ∙ is_renewed))),
                  ))
                  (λ apart. (
                    stand.0,
                    set_there slots place stand.0 (Some (with_action action rule)) apart
                        ∙ (stand.1 ∙ ap Some (sym (old.2 ∙ same_renewed old.0 (elsewhere stand.0 old.0 stand.1 apart)))),
                  ))
                  (cases_eq stand.0 place);
              only = λ i one at_i.
                  let old = before i one at_i in
                  rw old.2 (in_changed action old.0 rules (settled.stocked.only i old.0 old.1));
            };
            once = λ i j one two at_i at_j same.
                let old = before i one at_i in
                let other = before j two at_j in
                settled.once i j old.0 other.0 old.1 other.1
                (sym (renewed_alike action old.0).numbers ∙ (ap (λ r. r.number) (sym old.2) ∙ (same ∙ (ap (λ r. r.number) other.2 ∙ (renewed_alike action other.0).numbers))));
            count = taken_same slots place (with_action action rule) rule here ∙ (settled.count ∙ sym (length_changed action rules));
          }
