use Rattle.std.proofs.Common.{◌≡◌, ℕ, ◌<◌, List, ◌++◌, Some, None, string_bytes, codes, decimal, Option, sym, ap, ◌∙◌}
use lib.Utf8.{encode}
use Rattle.std.proofs.lemmas.Result.{IfOk-weaker}
use Rattle.std.proofs.lemmas.Str.{encode_ascii}
use Rattle.order_run.specs.Lines.{line, shown, number_told, value_told}
use Rattle.order_run.proofs.lines.write_line.Goals as goal

-- what follows the letter
abbrev behind : (place refusal : ℕ) (value : Option ℕ) → List ℕ
behind place refusal value = codes " " ++ (decimal place ++ (codes " " ++ (decimal refusal ++ (codes " " ++ (shown value ++ codes "\n")))))

written_is : (text text' : List ℕ) (letter place refusal refusal' : ℕ) (value value' : Option ℕ) → letter < 128 → refusal ≡ refusal' → value ≡ value'
    → text' ≡ text ++ (encode letter ++ behind place refusal value) → text' ≡ text ++ line letter place refusal' value'
written_is text text' letter place refusal refusal' value value' small r v written =
    written ∙ ap (λ sign. text ++ (sign ++ behind place refusal value)) (encode_ascii letter small) ∙ (λ i. text ++ line letter place (r i) (v i))

pub returns-in-Some : goal.returns-in-Some
returns-in-Some c =
    let text = string_bytes c.args.text.now in
    let text' = string_bytes c.writeln.new.self in
    let head = c.args.head in
    let reply = c.args.reply in
    let refusal = c.figures-refusal.result.0 in
    let value = c.in-Some.value in
    IfOk-weaker c.writeln.result (λ _. text' ≡ text ++ (encode head.letter ++ behind head.place refusal (Some value))) _
    (λ _. written_is text text' head.letter head.place refusal (number_told reply) (Some value) (value_told reply) c.requires c.figures-refusal.ensures.refusal (sym c.in-Some.is ∙ c.figures-refusal.ensures.value))
    c.writeln.ensures.bytes

pub returns-in-None : goal.returns-in-None
returns-in-None c =
    let text = string_bytes c.args.text.now in
    let text' = string_bytes c.writeln-in-None.new.self in
    let head = c.args.head in
    let reply = c.args.reply in
    let refusal = c.figures-refusal.result.0 in
    IfOk-weaker c.writeln-in-None.result (λ _. text' ≡ text ++ (encode head.letter ++ behind head.place refusal None)) _
    (λ _. written_is text text' head.letter head.place refusal (number_told reply) None (value_told reply) c.requires c.figures-refusal.ensures.refusal (sym c.in-None.is ∙ c.figures-refusal.ensures.value))
    c.writeln-in-None.ensures.bytes
