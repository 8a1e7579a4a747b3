-- Words in signs that people read. Assumes nothing.
use Rattle.std.specs.Prelude.{ℕ, ◌+◌, cond, List, [], ◌∷◌, ◌==◌, nat_lt}
use Rattle.kinds.specs.DialRules.{end}

-- the sign of a dial place: a digit, *, #, X, Z or !, and a full stop for the end
abbrev pub sign : ℕ → ℕ
sign code =
    cond (code == 10) 42
    (cond (code == 11) 35
    (cond (code == 12) 88
    (cond (code == 13) 90
    (cond (code == 14) 33
    (cond (code == 15) 46 (48 + code))))))

-- the hexadecimal digit of four bits
abbrev pub digit : ℕ → ℕ
digit code = cond (nat_lt code 10) (48 + code) (55 + code)

-- the signs of the places before the end
abbrev pub signs_of : List ℕ → List ℕ
signs_of [] = []
signs_of (code ∷ codes) = cond (code == end) [] (sign code ∷ signs_of codes)

abbrev pub digits_of : List ℕ → List ℕ
digits_of [] = []
digits_of (code ∷ codes) = digit code ∷ digits_of codes
