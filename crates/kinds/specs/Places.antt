-- How a word is made of its places. Assumes nothing.
use Rattle.std.specs.Prelude.{◌≡◌, ℕ, zero, suc, ◌+◌, ◌-◌, ◌*◌, ◌/◌, ◌%◌, ◌^◌, ◌<◌, List, [], ◌∷◌, length, refl}
use Rattle.std.proofs.Common.{ap, ◌∙◌, add-mul, mul_assoc, mod-eq_of_lt, arith, pow-add}
use Rattle.std.proofs.Math.Nat.{mul-add-mod_self_right}
use Rattle.std.proofs.lemmas.Nat.{mod_below, shr_high, mul-add-lt}
use Rattle.kinds.specs.DialRules.{places}

pub places_none : (left word : ℕ) → left ≡ 0 → places left word ≡ []
unfolding places
places_none left word none = ap (λ n. places n word) none

pub places_more : (left word : ℕ) → 0 < left → places left word ≡ (word / 2 ^ (4 * (left - 1)) % 16) ∷ places (left - 1) word
unfolding places
places_more left word some =
    let next : left ≡ suc (left - 1) = omega arith in
    ap (λ n. places n word) next

pub length_places : (n word : ℕ) → length (places n word) ≡ n
unfolding places
length_places zero word = refl
length_places (suc n) word = ap suc (length_places n word)

-- every code has four bits
abbrev pub Codes : List ℕ → Type 0
Codes [] = Unit {0}
Codes (code ∷ codes) = (code < 16) × Codes codes

pub codes_places : (n word : ℕ) → Codes (places n word)
unfolding places
codes_places zero word = tt
codes_places (suc n) word = (mod_below (word / 2 ^ (4 * n)) 16 (omega arith), codes_places n word)

-- the word that has these codes as its last places
abbrev pub word_of : List ℕ → ℕ
word_of [] = 0
word_of (code ∷ codes) = code * 2 ^ (4 * length codes) + word_of codes

one_place_more : (n : ℕ) → 2 ^ (4 * suc n) ≡ 16 * 2 ^ (4 * n)
one_place_more n =
    let sum : 4 * suc n ≡ 4 + 4 * n = omega arith in
    ap (λ e. 2 ^ e) sum ∙ pow-add 2 4 (4 * n)

pub word_of_below : (codes : List ℕ) → Codes codes → word_of codes < 2 ^ (4 * length codes)
word_of_below [] fit = omega arith
word_of_below (code ∷ codes) fit =
    omega (arith, one_place_more (length codes), mul-add-lt code (2 ^ (4 * length codes)) (word_of codes) 16 fit.0 (word_of_below codes fit.1))

-- whatever stands above the last places
places_under : (codes : List ℕ) (above : ℕ) → Codes codes → places (length codes) (above * 2 ^ (4 * length codes) + word_of codes) ≡ codes
unfolding places
places_under [] above fit = refl
places_under (code ∷ codes) above fit =
    let n = length codes in
    let low = word_of_below codes fit.1 in
    let joined : above * 2 ^ (4 * suc n) + (code * 2 ^ (4 * n) + word_of codes) ≡ (above * 16 + code) * 2 ^ (4 * n) + word_of codes =
    omega (arith, ap (λ p. above * p) (one_place_more n), mul_assoc above 16 (2 ^ (4 * n)), add-mul (above * 16) code (2 ^ (4 * n))) in
    let read : ((above * 16 + code) * 2 ^ (4 * n) + word_of codes) / 2 ^ (4 * n) % 16 ≡ code =
    ap (λ x. x % 16) (shr_high (above * 16 + code) (4 * n) (word_of codes) low) ∙ mul-add-mod_self_right above 16 code ∙ mod-eq_of_lt fit.0 in
    ap (places (suc n)) joined ∙ ap (λ x. x ∷ places n ((above * 16 + code) * 2 ^ (4 * n) + word_of codes)) read ∙ ap (λ l. code ∷ l) (places_under codes (above * 16 + code) fit.1)

pub places_word_of : (codes : List ℕ) → Codes codes → places (length codes) (word_of codes) ≡ codes
places_word_of codes fit =
    let bare : word_of codes ≡ 0 * 2 ^ (4 * length codes) + word_of codes = omega arith in
    ap (places (length codes)) bare ∙ places_under codes 0 fit
