-- One byte more than the longest file shows that an input is too long.
use Rattle.std.proofs.Common.{◌≡◌, ℕ, ◌<◌, ◌≤◌, cond, ltb, List, length, take, Some, None, Option, IfSome, MatchOption, sym, ap, ◌∙◌, subst, arith, ltb-false}
use Rattle.std.proofs.lemmas.Bool.{cond_both, ltb-true}
use Rattle.std.proofs.lemmas.List.{length-take, take_all}
use Rattle.exchange.proofs.input.whole_input.Goals as goal

is_longer : (given bytes : List ℕ) → bytes ≡ take 32769 given → 32768 < length bytes → 32768 < length given
is_longer given bytes read over = omega (arith, length-take 32769 given, ap length read)

is_whole : (given bytes : List ℕ) → bytes ≡ take 32769 given → length bytes ≤ 32768 → bytes ≡ given
is_whole given bytes read within = read ∙ take_all 32769 given (omega (arith, length-take 32769 given, ap length read))

sorted : {Bytes : Type 0} (items : Bytes → List ℕ) (left : Option (List ℕ)) (bytes : Bytes) (size : ℕ) (input : Option Bytes) → size ≡ length (items bytes) → IfSome left (λ given. items bytes ≡ take 32769 given)
    → input ≡ cond (ltb 32768 size) None (Some bytes) → IfSome left (λ given. MatchOption input (32768 < length given) (λ bytes. items bytes ≡ given))
sorted items None bytes size input counted read is = tt
sorted {Bytes} items (Some given) bytes size input counted read is =
    let P : Option Bytes → Type 0 = λ input. MatchOption input (32768 < length given) (λ bytes. items bytes ≡ given) in
    subst P (sym is) (cond_both (ltb 32768 size) None (Some bytes) P (λ over. is_longer given (items bytes) read (omega (arith, ltb-true, over))) (λ within. is_whole given (items bytes) read (omega (arith, ltb-false, within))))

pub returns-clause-whole : goal.returns-clause-whole
returns-clause-whole g c =
    let bytes = c.in_ok-read_input.field-0 in
    sorted (λ bytes. bytes.items) (g.R.Read.remaining c.args.source) bytes bytes.len c.within_limit.result (omega arith) c.in_ok-read_input.ensures c.within_limit.ensures
