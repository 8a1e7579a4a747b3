-- What stands at the front of a list of bytes, read by places. Assumes nothing.
use Rattle.std.proofs.Common.{◌≡◌, ℕ, ◌+◌, ◌≤◌, ◌&&◌, eqb, leb, List, [], ◌∷◌, length, ap, subst, arith}
use Rattle.std.proofs.lemmas.Bool.{le-leb, leb-true, cond-true, cond_both}
use Rattle.std.proofs.lemmas.List.{nil_from_length}
use Rattle.rules.specs.declared.refusal.Refusal.TheVariants.{CutShort}
use Rattle.orders.specs.Layout.{Front, front, end, whole, damaged, with_body, lettered}

pub front_none : (left : List ℕ) → length left ≡ 0 → front left ≡ end
front_none left e = ap front (nil_from_length left e)

pub whole_body : (body left : ℕ) → body ≤ left → with_body body left ≡ whole (3 + body)
whole_body body left h = cond-true (leb body left) _ _ (le-leb body left h)

-- an order has its mark and letter, and lies within so many bytes
abbrev pub Fits : ℕ → Front → Type 0
Fits most end = Unit {0}
Fits most (whole size) = (3 ≤ size) × (size ≤ most)
Fits most (damaged refusal) = Unit {0}

body_fits : (body left : ℕ) → Fits (3 + left) (with_body body left)
body_fits body left =
    cond_both (leb body left) (whole (3 + body)) (damaged CutShort) (Fits (3 + left)) (λ e. let h = leb-true body left e in (omega arith, omega arith)) (λ e. tt)

letter_fits : (letter left : ℕ) → Fits (3 + left) (lettered letter left)
letter_fits letter left =
    let P = Fits (3 + left) in
    cond_both (eqb letter 0x41) _ _ P (λ _. body_fits 24 left)
    (λ _. cond_both (eqb letter 0x44) _ _ P (λ _. body_fits 2 left)
    (λ _. cond_both (eqb letter 0x43) _ _ P (λ _. body_fits 6 left)
    (λ _. cond_both (eqb letter 0x4C) _ _ P (λ _. body_fits 8 left)
    (λ _. cond_both (eqb letter 0x53) _ _ P (λ _. body_fits 0 left)
    (λ _. cond_both (eqb letter 0x45) _ _ P (λ _. body_fits 0 left)
    (λ _. cond_both (eqb letter 0x57) _ _ P (λ _. body_fits 0 left) (λ _. tt)))))))

pub front_fits : (left : List ℕ) → Fits (length left) (front left)
front_fits [] = tt
front_fits (a ∷ []) = tt
front_fits (a ∷ b ∷ []) = tt
front_fits (a ∷ b ∷ letter ∷ body) =
    let size : 3 + length body ≡ length (a ∷ b ∷ letter ∷ body) = omega arith in
    subst (λ n. Fits n (front (a ∷ b ∷ letter ∷ body))) size
    (cond_both (eqb a 0x4B && eqb b 0x54) _ _ (Fits (3 + length body)) (λ _. letter_fits letter (length body)) (λ _. tt))

pub whole_fits : (left : List ℕ) (size : ℕ) → front left ≡ whole size → (3 ≤ size) × (size ≤ length left)
whole_fits left size e = subst (Fits (length left)) e (front_fits left)
