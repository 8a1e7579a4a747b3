-- What the law of a kind gives at once. Assumes nothing.
use Rattle.std.proofs.Common.{◌≡◌, ℕ, true, Decides}
use Rattle.std.proofs.lemmas.Bool.Decides.{same_from_decides}
use Rattle.rules.specs.Kinds.{KindMeaning, KindLaws, Shared, Word}

module _ (kind : KindMeaning) (laws : KindLaws kind) (a b other_a other_b : ℕ) (word_a : Word a) (word_b : Word b) (word_other_a : Word other_a) (word_other_b : Word other_b) where
  -- two rules that match one subject meet
  pub matched_meet : (subject : ℕ) → Word subject → kind.matches a b subject ≡ true → kind.matches other_a other_b subject ≡ true → kind.meets a b other_a other_b ≡ true
  matched_meet subject word first second =
      let one = laws.only_formed_match a b subject first in
      let other = laws.only_formed_match other_a other_b subject second in
      (laws.meets_exactly a b other_a other_b word_a word_b word_other_a word_other_b one.0 other.0).1
      (record { subject = subject; word = word; formed = one.1; first = first; second = second })

  -- the tests of well-formed rules and of others together
  pub decides_meets : Decides (kind.meets a b other_a other_b) (Shared kind a b other_a other_b)
  decides_meets = (
    λ meet.
        let formed = laws.only_formed_meet a b other_a other_b meet in
        (laws.meets_exactly a b other_a other_b word_a word_b word_other_a word_other_b formed.0 formed.1).0 meet,
    λ shared. matched_meet shared.subject shared.word shared.first shared.second,
  )

turned : (kind : KindMeaning) (a b other_a other_b : ℕ) → Shared kind a b other_a other_b → Shared kind other_a other_b a b
turned kind a b other_a other_b shared =
    record { subject = shared.subject; word = shared.word; formed = shared.formed; first = shared.second; second = shared.first }

pub meets_symmetric : (kind : KindMeaning) → KindLaws kind → (a b other_a other_b : ℕ) → Word a → Word b → Word other_a → Word other_b → kind.meets a b other_a other_b ≡ kind.meets other_a other_b a b
meets_symmetric kind laws a b other_a other_b word_a word_b word_other_a word_other_b =
    let there = decides_meets kind laws a b other_a other_b word_a word_b word_other_a word_other_b in
    let back = decides_meets kind laws other_a other_b a b word_other_a word_other_b word_a word_b in
    same_from_decides (kind.meets a b other_a other_b) (kind.meets other_a other_b a b) there
    (λ meet. turned kind other_a other_b a b (back.0 meet), λ shared. back.1 (turned kind a b other_a other_b shared))
