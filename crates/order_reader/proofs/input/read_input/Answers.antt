-- What is known of the source, by cases.
use Rattle.std.proofs.Common.{◌≡◌, ℕ, List, [], ◌++◌, take, Some, None, Option, IfSome, ap, ◌∙◌, subst}
use Rattle.std.specs.Option.{option_map}
use Rattle.order_reader.proofs.input.read_input.Goals as goal

first_bytes : (left : Option (List ℕ)) (limit : ℕ) (start bytes : List ℕ) → limit ≡ 32769 → start ≡ [] → IfSome (option_map (take limit) left) (λ taken. bytes ≡ start ++ taken) → IfSome left (λ given. bytes ≡ take 32769 given)
first_bytes None limit start bytes most none read = tt
first_bytes (Some given) limit start bytes most none read = read ∙ ap (λ front. front ++ take limit given) none ∙ ap (λ n. take n given) most

pub returns : goal.returns
returns g c =
    subst (λ source. IfSome (g.R.Read.remaining source) (λ given. c.read_to_end.new.buf.items ≡ take 32769 given)) c.take.ensures.inner
    (first_bytes (g.R.Read.remaining c.take.result.inner) c.take.result.limit c.new-bytes.result.items c.read_to_end.new.buf.items c.take.ensures.limit c.new-bytes.ensures.items c.in_ok-read_to_end.ensures.bytes)
