-- The tests of a dial word, walked from place to place by iterators. Assumes nothing.
use Rattle.std.proofs.Common.{◌≡◌, ℕ, suc, ◌+◌, Bor, Bool, true, false, cond, leb, ltb, eqb, not, ◌&&◌, ◌||◌, ◌==◌, List, [], ◌∷◌, length, refl, ap, ◌∙◌, sym, subst, Option, Some, None, IfSome, option_map, arith}
use Rattle.std.specs.List.{find, zip, FoldsTo}
use Rattle.std.specs.Iterator.{Yields, YieldsFirst, ChecksAll, FindsItem}
use Rattle.std.specs.Option.{MatchOption}
use Rattle.std.specs.Fn.{Called, CalledAt}
use Rattle.std.proofs.lemmas.Bool.{cond-true, cond-false, eq-eqb, ne_eqb}
use denote.Param.Members.{Mut}
use Rattle.kinds.specs.DialRules.{only_ends, pattern_well_formed, subject_well_formed, takes, pattern_takes, hash, rest, end}

-- what `all` says of a pattern, where its test computes whether a place comes before the rest and the end
module _ {F : Type 0} {g : Mut F (ℕ × Unit {0}) Bool} {f : F} (told : (code : ℕ) (answer : Bool) (q : F) → Called g f (code, tt) answer q → (q ≡ f) × (answer ≡ ltb code rest)) where
  walked : (all_plain : Bool) (plain codes at others : List ℕ) (last : Option ℕ) (q : F)
      → Yields (YieldsFirst (λ codes. codes)) codes plain at → YieldsFirst (λ codes. codes) at last others → FoldsTo (λ p code q. Called g p (code, tt) true q) f plain q
      → MatchOption last (all_plain ≡ true) (λ code. (all_plain ≡ false) × ((h : F) × Called g q (code, tt) false h))
      → pattern_well_formed codes ≡ (all_plain || only_ends others)
  walked all_plain [] codes at others None q same none kept whole = ap pattern_well_formed (same ∙ none.0) ∙ ap (λ plain. plain || only_ends others) (sym whole)
  walked all_plain [] codes at others (Some code) q same next kept stopped =
      let answer = (told code false stopped.1.0 (subst (λ p. Called g p (code, tt) false stopped.1.0) (sym kept) stopped.1.1)).1 in
      ap pattern_well_formed (same ∙ next) ∙ cond-false (ltb code rest) (pattern_well_formed others) (only_ends others) (sym answer) ∙ ap (λ plain. plain || only_ends others) (sym stopped.0)
  walked all_plain (code ∷ plain) codes at others last q yields next folds stopped =
      let answer = told code true folds.0 folds.1 in
      let after = subst (λ p. FoldsTo (λ p code q. Called g p (code, tt) true q) p plain q) answer.0 folds.2 in
      ap pattern_well_formed yields.1 ∙ cond-true (ltb code rest) (pattern_well_formed yields.0) (only_ends yields.0) (sym answer.1)
      ∙ walked all_plain plain yields.0 at others last q yields.2 next after stopped

  module _ (all_plain : Bool) (codes others : List ℕ) (ran : ChecksAll (YieldsFirst (λ codes. codes)) g codes f all_plain others) where
    -- a pattern with no rest and no end
    pub plain_pattern : all_plain ≡ true → pattern_well_formed codes ≡ true
    plain_pattern plain = walked all_plain ran.0 codes ran.3.0 others ran.1 ran.2 ran.3.1 ran.3.2 ran.4 ran.5 ∙ ap (λ plain. plain || only_ends others) plain

    -- and what follows the first rest or end
    pub ended_pattern : all_plain ≡ false → pattern_well_formed codes ≡ only_ends others
    ended_pattern ended = walked all_plain ran.0 codes ran.3.0 others ran.1 ran.2 ran.3.1 ran.3.2 ran.4 ran.5 ∙ ap (λ plain. plain || only_ends others) ended

-- what is left of a subject from its first place on that is no symbol
abbrev pub ended : Option ℕ → List ℕ → Bool
ended None others = true
ended (Some code) others = (code == end) && only_ends others

-- what `find` says of a subject, where its test computes whether a place is no symbol
module _ {F : Type 0} {g : Mut F (Bor ℕ × Unit {0}) Bool} {f : F} (told : (code : ℕ) (answer : Bool) (q : F) → CalledAt g f code answer q → (q ≡ f) × (answer ≡ ltb hash code)) where
  sought : (symbols codes at others : List ℕ) (first : Option ℕ) (q : F)
      → Yields (YieldsFirst (λ codes. codes)) codes symbols at → YieldsFirst (λ codes. codes) at first others → FoldsTo (λ p code q. CalledAt g p code false q) f symbols q
      → IfSome first (λ code. (h : F) × CalledAt g q code true h)
      → subject_well_formed codes ≡ ended first others
  sought [] codes at others None q same none kept found = ap subject_well_formed (same ∙ none.0)
  sought [] codes at others (Some code) q same next kept found =
      let answer = (told code true found.0 (subst (λ p. CalledAt g p code true found.0) (sym kept) found.1)).1 in
      let none : leb code hash ≡ false = grind (arith, answer) in
      ap subject_well_formed (same ∙ next) ∙ cond-false (leb code hash) (subject_well_formed others) (only_ends (code ∷ others)) none
  sought (code ∷ symbols) codes at others first q yields next folds found =
      let answer = told code false folds.0 folds.1 in
      let symbol : leb code hash ≡ true = grind (arith, answer) in
      let after = subst (λ p. FoldsTo (λ p code q. CalledAt g p code false q) p symbols q) answer.0 folds.2 in
      ap subject_well_formed yields.1 ∙ cond-true (leb code hash) (subject_well_formed yields.0) (only_ends (code ∷ yields.0)) symbol
      ∙ sought symbols yields.0 at others first q yields.2 next after found

  module _ (codes others : List ℕ) (first : Option ℕ) (ran : FindsItem (YieldsFirst (λ codes. codes)) g codes f first others) where
    sought_first : subject_well_formed codes ≡ ended first others
    sought_first = sought ran.0 codes ran.2.0 others first ran.1 ran.2.1 ran.2.2 ran.3 ran.4

    -- a subject with no end
    pub plain_subject : first ≡ None → true ≡ subject_well_formed codes
    plain_subject none = sym (sought_first ∙ ap (λ first. ended first others) none)

    -- what follows the first end
    pub ended_subject : (code : ℕ) → first ≡ Some code → code ≡ end → subject_well_formed codes ≡ only_ends others
    ended_subject code is last = sought_first ∙ ap (λ first. ended first others) is ∙ ap (λ last. last && only_ends others) (eq-eqb code end last)

    -- another code has no place in a subject
    pub strange_subject : (code : ℕ) → first ≡ Some code → (code ≡ end → ⊥) → subject_well_formed codes ≡ false
    strange_subject code is other = sought_first ∙ ap (λ first. ended first others) is ∙ ap (λ last. last && only_ends others) (ne_eqb code end other)

-- the first pair whose place is the rest or does not take its symbol
abbrev pub stops : ℕ × ℕ → Bool
stops pair = (pair.0 == rest) || not (takes pair.0 pair.1)

abbrev pub at_rest : Option (ℕ × ℕ) → Bool
at_rest None = true
at_rest (Some pair) = pair.0 == rest

-- what a closure says of the pair that is found, or true
pub told_rest : (found : Option (ℕ × ℕ)) (answer : Bool) → MatchOption found (answer ≡ true) (λ pair. answer ≡ eqb pair.0 rest) → answer ≡ at_rest (option_map (λ pair. (pair.0, pair.1)) found)
told_rest None answer told = told
told_rest (Some pair) answer told = told

pub takes_to_rest : (codes symbols : List ℕ) → length codes ≡ length symbols → at_rest (find stops (zip codes symbols)) ≡ pattern_takes codes symbols
takes_to_rest [] [] same = refl
takes_to_rest [] (symbol ∷ symbols) same = absurd (omega arith)
takes_to_rest (code ∷ codes) [] same = absurd (omega arith)
takes_to_rest (code ∷ codes) (symbol ∷ symbols) same =
    let further = takes_to_rest codes symbols (omega arith) in
    elim (eqb code rest) as (λ ends. (eqb code rest ≡ ends) → at_rest (cond (ends || not (takes code symbol)) (Some (code, symbol)) (find stops (zip codes symbols))) ≡ (ends || (takes code symbol && pattern_takes codes symbols))) [
      | true ↦ λ ends. ends
      | false ↦ λ goes. elim (takes code symbol) as (λ taken. at_rest (cond (not taken) (Some (code, symbol)) (find stops (zip codes symbols))) ≡ (taken && pattern_takes codes symbols)) [
        | true ↦ further
        | false ↦ goes
      ]
    ] refl
