-- A direction of shifting: the slots in a strict order, and the rules by which of two stands above. One text serves both directions. Assumes nothing.
use Rattle.std.proofs.Common.{◌≡◌, ℕ, ◌<◌, ◌⊎◌, List, None, sym, ap, ◌∙◌, inl, inr, ⊎_elim, arith}
use Rattle.std.proofs.lemmas.Bool.{cases_order}
use Rattle.rules.specs.declared.rule.Rule.{Rule}
use Rattle.rules.specs.Kinds.{KindMeaning}
use Rattle.shifting.specs.Slots.{Slot, at, Over}
use Rattle.shifting.proofs.Reading.{none_some}
use Rattle.shifting.proofs.Order.{Right, Fits, Link, Back}
use Rattle.shifting.proofs.Settled.{InOrder, FitsIn}

pub record Direction (kind : KindMeaning) : Type 1 where
  pub before : ℕ → ℕ → Type 0
  pub above : Rule → Rule → Type 0
  pub irreflexive : (i : ℕ) → before i i → ⊥
  pub transitive : (i j k : ℕ) → before i j → before j k → before i k
  pub compared : (i j : ℕ) → (i ≡ j) ⊎ (before i j ⊎ before j i)
  pub never_itself : (rule : Rule) → above rule rule → ⊥
  -- the order in the slots is one, whichever way it is looked at
  pub right_so : (slots : List Slot) → InOrder kind slots → Right before above slots
  pub fits_so : (slots : List Slot) (rule : Rule) (c : ℕ) → at slots c ≡ None → Fits before above slots rule c → FitsIn kind slots rule c

-- towards the last slot
abbrev pub down : (kind : KindMeaning) → Direction kind
down kind =
    record {
      before = λ i j. i < j;
      above = Over kind;
      irreflexive = λ i less. omega arith;
      transitive = λ i j k one two. omega arith;
      compared = cases_order;
      never_itself = λ rule over. over.apart (λ i. rule.number);
      right_so = λ slots right. right;
      fits_so = λ slots rule c free fits. fits;
    }

-- towards slot 0
pub up : (kind : KindMeaning) → Direction kind
up kind =
    record {
      before = λ i j. j < i;
      above = λ rule other. Over kind other rule;
      irreflexive = λ i less. omega arith;
      transitive = λ i j k one two. omega arith;
      compared = λ i j. ⊎_elim (λ same. inl same) (λ way. inr (⊎_elim (λ less. inr less) (λ more. inl more) way)) (cases_order i j);
      never_itself = λ rule over. over.apart (λ i. rule.number);
      right_so = λ slots right i j rule other at_i at_j over. right j i other rule at_j at_i over;
      fits_so = λ slots rule c free fits j other at_j.
          let off : j ≡ c → ⊥ = λ same. none_some (sym free ∙ (ap (at slots) (sym same) ∙ at_j)) in (
            λ over. ⊎_elim (λ less. less) (λ more. absurd ((fits j other at_j).1 over more)) (apart j c off),
            λ over less. let more = (fits j other at_j).0 over in omega arith,
          );
    }
  where
    apart : (j c : ℕ) → (j ≡ c → ⊥) → (j < c) ⊎ (c < j)
    apart j c off = ⊎_elim (λ same. absurd (off same)) (λ way. way) (cases_order j c)

module _ (kind : KindMeaning) where
  -- the links and chains of the way down
  abbrev pub LinkDown : List Slot → ℕ → ℕ → Type 0
  LinkDown = Link (down kind).before (down kind).above

  abbrev pub BackChain : List Slot → Rule → ℕ → List ℕ → Type 0
  BackChain = Back (down kind).before (down kind).above
