-- The law of the dial kind, first over lists of places and then over words. Assumes nothing.
use Rattle.std.specs.Prelude.{◌≡◌, ℕ, suc, ◌<◌, ◌≤◌, true, List, [], ◌∷◌, length, ◌==◌, nat_le, nat_lt, refl}
use Rattle.std.proofs.Common.{sym, ap, ◌∙◌, ⊎_elim, arith}
use Rattle.std.proofs.lemmas.Bool.{and_parts, and_from, or_cases, or_left, or_right, eqb-true, eq-eqb, lt-ltb, le-ltb, le-leb, cases_lt, cases_eq, cond-true, cond-false, false≢true}
use Rattle.rules.specs.Kinds.{KindLaws, Shared}
use Rattle.kinds.specs.DialRules.{places, only_ends, pattern_well_formed, subject_well_formed, takes, pattern_takes, places_meet, patterns_meet, well_formed_dial, dialled, dial_meaning, hash, rest, end}
use Rattle.kinds.specs.Places.{Codes, codes_places, length_places, word_of, word_of_below, places_word_of}
use Rattle.kinds.specs.Symbols.{shared_symbol, shared_below, shared_first, shared_second, meets_symbol, meets_end, meets_itself, both_take}

-- A subject that both patterns take, over places.

record Common (codes others : List ℕ) : Type 0 where
  symbols : List ℕ
  many : length symbols ≡ length codes
  fit : Codes symbols
  closes : subject_well_formed symbols ≡ true
  first : pattern_takes codes symbols ≡ true
  second : pattern_takes others symbols ≡ true

takes_more : (code symbol : ℕ) (codes symbols : List ℕ) → takes code symbol ≡ true → pattern_takes codes symbols ≡ true → pattern_takes (code ∷ codes) (symbol ∷ symbols) ≡ true
takes_more code symbol codes symbols here there = or_right (code == rest) _ (and_from _ _ here there)

rest_takes : (code n : ℕ) (codes symbols : List ℕ) → code ≡ rest → length symbols ≡ suc n → pattern_takes (code ∷ codes) symbols ≡ true
rest_takes code n codes [] is-rest many = absurd (omega arith)
rest_takes code n codes (symbol ∷ symbols) is-rest many = or_left (code == rest) _ (eq-eqb code rest is-rest)

ends_take : (codes symbols : List ℕ) → length codes ≡ length symbols → only_ends codes ≡ true → only_ends symbols ≡ true → pattern_takes codes symbols ≡ true
ends_take [] [] same ends symbol-ends = refl
ends_take [] (symbol ∷ symbols) same ends symbol-ends = absurd (omega arith)
ends_take (code ∷ codes) [] same ends symbol-ends = absurd (omega arith)
ends_take (code ∷ codes) (symbol ∷ symbols) same ends symbol-ends =
    let here = and_parts _ _ ends in
    let there = and_parts _ _ symbol-ends in
    let both : takes code symbol ≡ true = rw (eqb-true code end here.0, eqb-true symbol end there.0) in
    takes_more code symbol codes symbols both (ends_take codes symbols (omega arith) here.1 there.1)

ends_close : (codes : List ℕ) → only_ends codes ≡ true → subject_well_formed (end ∷ codes) ≡ true
ends_close codes ends = ends

closes_after : (code : ℕ) (codes : List ℕ) → code < rest → pattern_well_formed (code ∷ codes) ≡ true → pattern_well_formed codes ≡ true
closes_after code codes below closes = sym (cond-true (nat_lt code rest) _ _ (lt-ltb code rest below)) ∙ closes

ends_after : (code : ℕ) (codes : List ℕ) → rest ≤ code → pattern_well_formed (code ∷ codes) ≡ true → only_ends codes ≡ true
ends_after code codes above closes = sym (cond-false (nat_lt code rest) _ _ (le-ltb code rest above)) ∙ closes

-- a symbol that both first places take, before symbols that what remains of both takes
prefixed : (code other symbol : ℕ) (codes others : List ℕ) → symbol ≤ hash → takes code symbol ≡ true → takes other symbol ≡ true → Common codes others → Common (code ∷ codes) (other ∷ others)
prefixed code other symbol codes others below here there common = record {
  symbols = symbol ∷ common.symbols;
  many = ap suc common.many;
  fit = (omega arith, common.fit);
  closes = cond-true (nat_le symbol hash) _ _ (le-leb symbol hash below) ∙ common.closes;
  first = takes_more code symbol codes common.symbols here common.first;
  second = takes_more other symbol others common.symbols there common.second;
}

-- every well-formed pattern takes some subject
alone : (codes : List ℕ) → Codes codes → pattern_well_formed codes ≡ true → Common codes codes
alone [] fit closes = record { symbols = []; many = refl; fit = tt; closes = refl; first = refl; second = refl }
alone (code ∷ codes) fit closes =
    ⊎_elim
    (λ (below : code < rest).
    let meet = meets_itself code in
    prefixed code code (shared_symbol code code) codes codes (shared_below code code below meet) (shared_first code code below meet) (shared_second code code below meet)
    (alone codes fit.1 (closes_after code codes below closes)))
    (λ (above : rest ≤ code).
    let ends = ends_after code codes above closes in
    let taken : pattern_takes (code ∷ codes) (end ∷ codes) ≡ true =
    ⊎_elim (λ e. rest_takes code (length codes) codes (end ∷ codes) e refl)
    (λ ne.
    let last : code ≡ end = omega arith in
    takes_more code end codes codes (rw last) (ends_take codes codes refl ends ends))
    (cases_eq code rest) in
    record { symbols = end ∷ codes; many = refl; fit = (omega arith, fit.1); closes = ends_close codes ends; first = taken; second = taken })
    (cases_lt code rest)

more : (code other : ℕ) (codes others : List ℕ) → Codes (code ∷ codes) → Codes (other ∷ others) → length codes ≡ length others
    → pattern_well_formed (code ∷ codes) ≡ true → pattern_well_formed (other ∷ others) ≡ true → patterns_meet (code ∷ codes) (other ∷ others) ≡ true
    → (pattern_well_formed codes ≡ true → pattern_well_formed others ≡ true → patterns_meet codes others ≡ true → Common codes others)
    → Common (code ∷ codes) (other ∷ others)
more code other codes others fit other-fit same closes other-closes meet remains =
    ⊎_elim (λ e. rest_first (eqb-true code rest e))
    (λ later.
    ⊎_elim (λ e. rest_second (eqb-true other rest e))
    (λ both.
    let parts = and_parts (places_meet code other) (patterns_meet codes others) both in
    ⊎_elim (λ below. by_symbol below parts.0 parts.1)
    (λ above. ⊎_elim rest_first (λ ne. by_end (omega arith) parts.0) (cases_eq code rest))
    (cases_lt code rest))
    (or_cases (other == rest) _ later))
    (or_cases (code == rest) _ meet)
  where
    rest_first : code ≡ rest → Common (code ∷ codes) (other ∷ others)
    rest_first is-rest =
        let found = alone (other ∷ others) other-fit other-closes in
        record {
          symbols = found.symbols;
          many = found.many ∙ ap suc (sym same);
          fit = found.fit;
          closes = found.closes;
          first = rest_takes code (length others) codes found.symbols is-rest found.many;
          second = found.second;
        }

    rest_second : other ≡ rest → Common (code ∷ codes) (other ∷ others)
    rest_second is-rest =
        let found = alone (code ∷ codes) fit closes in
        record {
          symbols = found.symbols;
          many = found.many;
          fit = found.fit;
          closes = found.closes;
          first = found.first;
          second = rest_takes other (length codes) others found.symbols is-rest found.many;
        }

    by_symbol : code < rest → places_meet code other ≡ true → patterns_meet codes others ≡ true → Common (code ∷ codes) (other ∷ others)
    by_symbol below here there =
        prefixed code other (shared_symbol code other) codes others (shared_below code other below here) (shared_first code other below here) (shared_second code other below here)
        (remains (closes_after code codes below closes) (closes_after other others (meets_symbol code other below here) other-closes) there)

    by_end : code ≡ end → places_meet code other ≡ true → Common (code ∷ codes) (other ∷ others)
    by_end is-end here =
        let other-end = meets_end code other is-end here in
        let ends = ends_after code codes (omega arith) closes in
        let other-ends = ends_after other others (omega arith) other-closes in
        record {
          symbols = end ∷ codes;
          many = refl;
          fit = (omega arith, fit.1);
          closes = ends_close codes ends;
          first = takes_more code end codes codes (rw is-end) (ends_take codes codes refl ends ends);
          second = takes_more other end others codes (rw other-end) (ends_take others codes (sym same) other-ends ends);
        }

found : (codes others : List ℕ) → Codes codes → Codes others → length codes ≡ length others → pattern_well_formed codes ≡ true → pattern_well_formed others ≡ true → patterns_meet codes others ≡ true → Common codes others
found [] [] fit other-fit same closes other-closes meet = record { symbols = []; many = refl; fit = tt; closes = refl; first = refl; second = refl }
found [] (other ∷ others) fit other-fit same closes other-closes meet = absurd (omega arith)
found (code ∷ codes) [] fit other-fit same closes other-closes meet = absurd (omega arith)
found (code ∷ codes) (other ∷ others) fit other-fit same closes other-closes meet =
    more code other codes others fit other-fit (omega arith) closes other-closes meet (found codes others fit.1 other-fit.1 (omega arith))

-- two patterns that take one subject meet
taken_meet : (codes others symbols : List ℕ) → pattern_takes codes symbols ≡ true → pattern_takes others symbols ≡ true → patterns_meet codes others ≡ true
taken_meet [] [] symbols first second = refl
taken_meet [] (other ∷ others) [] first second = second
taken_meet [] (other ∷ others) (symbol ∷ symbols) first second = first
taken_meet (code ∷ codes) [] [] first second = first
taken_meet (code ∷ codes) [] (symbol ∷ symbols) first second = second
taken_meet (code ∷ codes) (other ∷ others) [] first second = absurd (false≢true first)
taken_meet (code ∷ codes) (other ∷ others) (symbol ∷ symbols) first second =
    ⊎_elim (or_left (code == rest) _)
    (λ here.
    or_right (code == rest) _
    (⊎_elim (or_left (other == rest) _)
    (λ there.
    let one = and_parts (takes code symbol) _ here in
    let two = and_parts (takes other symbol) _ there in
    or_right (other == rest) _ (and_from _ _ (both_take code other symbol one.0 two.0) (taken_meet codes others symbols one.1 two.1)))
    (or_cases (other == rest) _ second)))
    (or_cases (code == rest) _ first)

-- The law over words.

shared : (a b other_a other_b : ℕ) → well_formed_dial a b ≡ true → well_formed_dial other_a other_b ≡ true → patterns_meet (places 16 a) (places 16 other_a) ≡ true → Shared dial_meaning a b other_a other_b
shared a b other_a other_b formed other-formed meet =
    let closes = (and_parts (b == 0) _ formed).1 in
    let other-closes = (and_parts (other_b == 0) _ other-formed).1 in
    let common = found (places 16 a) (places 16 other_a) (codes_places 16 a) (codes_places 16 other_a) (length_places 16 a ∙ sym (length_places 16 other_a)) closes other-closes meet in
    let many : length common.symbols ≡ 16 = common.many ∙ length_places 16 a in
    let read : places 16 (word_of common.symbols) ≡ common.symbols = rw many at (places_word_of common.symbols common.fit) in
    let dials : dialled (word_of common.symbols) ≡ true = rw read common.closes in
    record {
      subject = word_of common.symbols;
      word = rw many at (word_of_below common.symbols common.fit);
      formed = dials;
      first = and_from _ _ formed (and_from _ _ dials (rw read common.first));
      second = and_from _ _ other-formed (and_from _ _ dials (rw read common.second));
    }

pub dial_laws : KindLaws dial_meaning
dial_laws = record {
  only_formed_match = λ a b subject match. let parts = and_parts (well_formed_dial a b) _ match in (parts.0, (and_parts (dialled subject) _ parts.1).0);
  only_formed_meet = λ a b other_a other_b meet. let parts = and_parts (well_formed_dial a b) _ meet in (parts.0, (and_parts (well_formed_dial other_a other_b) _ parts.1).0);
  meets_exactly = λ a b other_a other_b word_a word_b word_other_a word_other_b formed other-formed. (
    λ meet. shared a b other_a other_b formed other-formed (and_parts (well_formed_dial other_a other_b) _ (and_parts (well_formed_dial a b) _ meet).1).1,
    λ both.
        let subject = both.subject in
        let first = (and_parts (dialled subject) _ (and_parts (well_formed_dial a b) _ both.first).1).1 in
        let second = (and_parts (dialled subject) _ (and_parts (well_formed_dial other_a other_b) _ both.second).1).1 in
        and_from _ _ formed (and_from _ _ other-formed (taken_meet (places 16 a) (places 16 other_a) (places 16 subject) first second)),
  );
}
