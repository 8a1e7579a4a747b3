-- What a kind says of rules and subjects, and the law of every kind. A rule is known here by its words A and B.
-- Assumes nothing.
use Rattle.std.specs.Prelude.{◌≡◌, ℕ, ◌^◌, ◌<◌, Bool, true}

pub record KindMeaning : Type 0 where
  pub well_formed : ℕ → ℕ → Bool
  pub well_formed_subject : ℕ → Bool
  pub matches : ℕ → ℕ → ℕ → Bool
  pub meets : ℕ → ℕ → ℕ → ℕ → Bool

-- words and subjects have 64 bits
abbrev pub Word : ℕ → Type 0
Word w = w < 2 ^ 64

-- a well-formed subject that both rules match
pub record Shared (kind : KindMeaning) (a b other_a other_b : ℕ) : Type 0 where
  pub subject : ℕ
  pub word : Word subject
  pub formed : kind.well_formed_subject subject ≡ true
  pub first : kind.matches a b subject ≡ true
  pub second : kind.matches other_a other_b subject ≡ true

pub record KindLaws (kind : KindMeaning) : Type 0 where
  -- what is not well formed matches nothing and is matched by nothing
  pub only_formed_match : (a b subject : ℕ) → kind.matches a b subject ≡ true → (kind.well_formed a b ≡ true) × (kind.well_formed_subject subject ≡ true)
  -- what is not well formed meets nothing
  pub only_formed_meet : (a b other_a other_b : ℕ) → kind.meets a b other_a other_b ≡ true → (kind.well_formed a b ≡ true) × (kind.well_formed other_a other_b ≡ true)
  -- two well-formed rules meet exactly when some well-formed subject is matched by both
  pub meets_exactly : (a b other_a other_b : ℕ) → Word a → Word b → Word other_a → Word other_b
      → kind.well_formed a b ≡ true → kind.well_formed other_a other_b ≡ true
      → (kind.meets a b other_a other_b ≡ true → Shared kind a b other_a other_b) × (Shared kind a b other_a other_b → kind.meets a b other_a other_b ≡ true)
