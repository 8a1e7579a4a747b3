-- The dial kind: patterns and dialled subjects of sixteen places, four bits each. Word A is the pattern and word B is 0.
-- Codes 0 to 9 are digits and 10 is star; the others are named below. Assumes nothing.
use Rattle.std.specs.Prelude.{ℕ, zero, suc, ◌*◌, ◌/◌, ◌%◌, ◌^◌, Bool, true, false, cond, ◌&&◌, ◌||◌, List, [], ◌∷◌, ◌==◌, nat_le, nat_lt}
use Rattle.std.specs.List.{list_all}
use Rattle.rules.specs.Kinds.{KindMeaning}

abbrev pub hash : ℕ
hash = 11

abbrev pub any_digit : ℕ
any_digit = 12

abbrev pub digit_but_zero : ℕ
digit_but_zero = 13

abbrev pub rest : ℕ
rest = 14

abbrev pub end : ℕ
end = 15

-- the last n places of a word, the first of them highest
unfoldable pub places : ℕ → ℕ → List ℕ
places zero word = []
places (suc n) word = word / 2 ^ (4 * n) % 16 ∷ places n word

abbrev pub only_ends : List ℕ → Bool
only_ends = list_all (λ code. code == end)

-- after the first rest or end only ends follow
abbrev pub pattern_well_formed : List ℕ → Bool
pattern_well_formed [] = true
pattern_well_formed (code ∷ codes) = cond (nat_lt code rest) (pattern_well_formed codes) (only_ends codes)

-- digits, star and hash, and after the first end only ends
abbrev pub subject_well_formed : List ℕ → Bool
subject_well_formed [] = true
subject_well_formed (code ∷ codes) = cond (nat_le code hash) (subject_well_formed codes) (code == end && only_ends codes)

-- whether a place of a pattern, other than the rest, takes a place of a subject
abbrev pub takes : ℕ → ℕ → Bool
takes code symbol =
    cond (code == any_digit) (nat_le symbol 9)
    (cond (code == digit_but_zero) (nat_le 1 symbol && nat_le symbol 9)
    (symbol == code))

-- the rest takes whatever symbols remain, or none
abbrev pub pattern_takes : List ℕ → List ℕ → Bool
pattern_takes [] [] = true
pattern_takes [] (symbol ∷ symbols) = false
pattern_takes (code ∷ codes) [] = false
pattern_takes (code ∷ codes) (symbol ∷ symbols) = code == rest || (takes code symbol && pattern_takes codes symbols)

abbrev pub wildcard : ℕ → Bool
wildcard code = code == any_digit || code == digit_but_zero

-- Below is how meeting is found, first places first and then what remains of both. That it is right needs no belief:
-- the law of the kind says that two patterns meet exactly when some subject is matched by both.

-- whether two places, neither of them the rest, take some symbol in common
abbrev pub places_meet : ℕ → ℕ → Bool
places_meet code other = takes code other || (takes other code || (wildcard code && wildcard other))

abbrev pub patterns_meet : List ℕ → List ℕ → Bool
patterns_meet [] [] = true
patterns_meet [] (other ∷ others) = false
patterns_meet (code ∷ codes) [] = false
patterns_meet (code ∷ codes) (other ∷ others) = code == rest || (other == rest || (places_meet code other && patterns_meet codes others))

abbrev pub well_formed_dial : ℕ → ℕ → Bool
well_formed_dial a b = b == 0 && pattern_well_formed (places 16 a)

abbrev pub dialled : ℕ → Bool
dialled subject = subject_well_formed (places 16 subject)

abbrev pub dial_meaning : KindMeaning
dial_meaning = record {
  well_formed = well_formed_dial;
  well_formed_subject = dialled;
  matches = λ a b subject. well_formed_dial a b && (dialled subject && pattern_takes (places 16 a) (places 16 subject));
  meets = λ a b other_a other_b.
      well_formed_dial a b && (well_formed_dial other_a other_b && patterns_meet (places 16 a) (places 16 other_a));
}
