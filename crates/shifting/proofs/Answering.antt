-- The first match in slots that hold the rules in order is the one answer of the rules. The chain is not looked at. Assumes nothing.
use Rattle.std.proofs.Common.{◌≡◌, ℕ, ◌≤◌, Bool, true, List, length, Some, None, Option, sym, refl, ap, ◌∙◌, ⊎_elim, arith}
use Rattle.std.proofs.lemmas.Bool.{cases_lt, cases_Bool, both_ways}
use Rattle.rules.specs.declared.rule.Rule.{Rule}
use Rattle.rules.specs.Kinds.{KindMeaning, KindLaws, Word}
use Rattle.rules.proofs.Meeting.{matched_meet}
use Rattle.shifting.specs.Chains.{scan}
use Rattle.shifting.specs.Slots.{Slot, at, matches, slot_matches, meets, Over, first_match}
use Rattle.shifting.specs.Machine.{told}
use Rattle.shifting.specs.Law.{In, Answers}
use Rattle.shifting.proofs.Reading.{at_within}
use Rattle.shifting.proofs.Scans.{scan_first, scan_hit}
use Rattle.shifting.proofs.Settled.{Ruled, Stocked, same_rule}

module _ (kind : KindMeaning) (laws : KindLaws kind) (rules : List Rule) (ruled : Ruled kind rules) (subject : ℕ) (word : Word subject) where
  both_match_meet : (rule other : Rule) → In rule rules → In other rules → matches kind rule subject ≡ true → matches kind other subject ≡ true → meets kind rule other ≡ true
  both_match_meet rule other one two first second =
      let words = (ruled.fine rule one).words in
      let others = (ruled.fine other two).words in
      matched_meet kind laws rule.word_a rule.word_b other.word_a other.word_b words.0 words.1 others.0 others.1 subject word first second

  pub first_match_answers : (slots : List Slot) → Stocked kind slots rules → Answers kind rules subject (told (first_match kind slots subject))
  first_match_answers slots stocked = found (first_match kind slots subject) refl
    where
      test : ℕ → Bool
      test i = slot_matches kind subject (at slots i)

      place : ℕ
      place = scan test 0 (length slots)

      -- no matching rule stands before
      earliest : (rule : Rule) → In rule rules → matches kind rule subject ≡ true → (i : ℕ) × (at slots i ≡ Some rule) × (place ≤ i)
      earliest rule is matching =
          let stand = stocked.stands rule is in
          (stand.0, stand.1, scan_first test 0 (length slots) stand.0 (omega arith) (ap (slot_matches kind subject) stand.1 ∙ matching))

      found : (slot : Slot) → at slots place ≡ slot → Answers kind rules subject (told slot)
      found None nothing = λ rule is.
          ⊎_elim
          (λ matching.
          let stand = earliest rule is matching in
          let within = at_within slots stand.0 rule stand.1 in
          absurd (both_ways (test place) (ap (slot_matches kind subject) nothing) (scan_hit test 0 (length slots) (omega arith))))
          (λ no-match. no-match)
          (cases_Bool (matches kind rule subject))
      found (Some rule) here =
          let within = at_within slots place rule here in
          let matching : matches kind rule subject ≡ true = ap (slot_matches kind subject) (sym here) ∙ scan_hit test 0 (length slots) (omega arith) in
          let is = stocked.only place rule here in
          record {
            rule = rule;
            in_force = is;
            matching = matching;
            number_is = refl;
            action_is = refl;
            highest = λ other too other-matches.
                ⊎_elim
                (λ higher.
                let stand = earliest other too other-matches in
                let over : Over kind other rule =
                record {
                  meet = both_match_meet other rule too is other-matches matching;
                  higher = higher;
                  apart = λ numbers. let equal = ap (λ r. r.priority) (same_rule rules ruled.distinct other rule too is numbers) in omega arith;
                } in
                let before = stocked.right stand.0 place other rule stand.1 here over in
                absurd (omega arith))
                (λ not-higher. not-higher)
                (cases_lt rule.priority other.priority);
          }

  pub only_answer : (one other : Option (ℕ × ℕ)) → Answers kind rules subject one → Answers kind rules subject other → other ≡ one
  only_answer None None first second = refl
  only_answer None (Some pair) first second = absurd (both_ways _ (first second.rule second.in_force) second.matching)
  only_answer (Some pair) None first second = absurd (both_ways _ (second first.rule first.in_force) first.matching)
  only_answer (Some one) (Some other) first second =
      let up = first.highest second.rule second.in_force second.matching in
      let down = second.highest first.rule first.in_force first.matching in
      let meet = both_match_meet second.rule first.rule second.in_force first.in_force second.matching first.matching in
      let numbers = ruled.untied second.rule first.rule second.in_force first.in_force meet (omega arith) in
      let same = same_rule rules ruled.distinct second.rule first.rule second.in_force first.in_force numbers in
      let number : other.0 ≡ one.0 = sym second.number_is ∙ (numbers ∙ first.number_is) in
      let action : other.1 ≡ one.1 = sym second.action_is ∙ (ap (λ r. r.action) same ∙ first.action_is) in
      λ i. Some (number i, action i)
