-- What one turn of reading a file keeps. Assumes nothing.
use Rattle.std.proofs.Common.{◌≡◌, ℕ, zero, suc, ◌+◌, ◌≤◌, List, [], ◌∷◌, ◌++◌, length, drop, Ok, Err, sym, refl, ap, ◌∙◌, subst, append_assoc, arith, take-append-drop}
use Rattle.std.specs.List.{flat_map}
use Rattle.std.proofs.lemmas.List.{flat_map_more, drop-drop, length-drop, append-nil}
use Rattle.orders.specs.Layout.{front, end, whole}
use Rattle.orders.specs.Orders.{Entry}
use Rattle.order_reader.specs.Reading.{entry_at}
use Rattle.order_reader.specs.File.{Ending, Cut, after, cut_by, cut_from, cut_file, front_of, Reads}
use Rattle.order_reader.proofs.Fronts.{front_none, whole_fits}

abbrev bytes : Entry → List ℕ
bytes entry = entry.bytes

-- a cut with these orders before its own
abbrev pub behind : List Entry → Cut → Cut
behind entries cut = record { entries = entries ++ cut.entries; place = cut.place; ending = cut.ending }

abbrev stopped : (place : ℕ) (ending : Ending) → Cut
stopped place ending = record { entries = []; place = place; ending = ending }

-- the first orders of the file are read, and the reader stands at the offset
pub record Sofar (input : List ℕ) (entries : List Entry) (offset : ℕ) : Type 0 where
  pub turns : ℕ
  pub enough : length (drop offset input) ≤ turns
  pub orders : cut_file input ≡ behind entries (cut_from turns offset (drop offset input))
  pub joins : flat_map bytes entries ++ drop offset input ≡ input

pub begins : (input : List ℕ) → Sofar input [] 0
begins input = record { turns = length input; enough = omega arith; orders = refl; joins = refl }

-- reading goes on only while bytes are left
cut_whole : (turns place : ℕ) (left : List ℕ) (size : ℕ) → length left ≤ turns → front left ≡ whole size → (rest : ℕ) × (length (drop size left) ≤ rest) × (cut_from turns place left ≡ after (entry_at place left size) (cut_from rest (place + size) (drop size left)))
cut_whole zero place left size few e = let fits = whole_fits left size e in absurd (omega arith)
cut_whole (suc turns) place left size few e = (
  turns,
  let fits = whole_fits left size e in omega (arith, length-drop size left),
  ap (λ found. cut_by found place left (λ n. cut_from turns (place + n) (drop n left))) e,
)

behind_more : (entries : List Entry) (entry : Entry) (cut : Cut) → behind entries (after entry cut) ≡ behind (entries ++ entry ∷ []) cut
behind_more entries entry cut = λ i. record { entries = sym (append_assoc entries (entry ∷ []) cut.entries) i; place = cut.place; ending = cut.ending }

pub one_more : (input : List ℕ) (entries : List Entry) (offset : ℕ) (entry : Entry) (size : ℕ) → Sofar input entries offset → front (drop offset input) ≡ whole size → entry ≡ entry_at offset (drop offset input) size → Sofar input (entries ++ entry ∷ []) (offset + size)
one_more input entries offset entry size sofar found is =
    let left = drop offset input in
    let step = cut_whole sofar.turns offset left size sofar.enough found in
    let next = drop-drop size offset input in
    let rest = cut_from step.0 (offset + size) in
    record {
      turns = step.0;
      enough = subst (λ l. length l ≤ step.0) next step.1;
      orders = sofar.orders ∙ ap (behind entries) step.2 ∙ ap (λ l. behind entries (after (entry_at offset left size) (rest l))) next ∙ behind_more entries (entry_at offset left size) (rest (drop (offset + size) input)) ∙ ap (λ e. behind (entries ++ e ∷ []) (rest (drop (offset + size) input))) (sym is);
      joins = ap (λ l. l ++ drop (offset + size) input) (sym (flat_map_more bytes [] entries entry)) ∙ append_assoc (flat_map bytes entries) (bytes entry) (drop (offset + size) input) ∙ ap (λ l. flat_map bytes entries ++ l) ((λ i. bytes (is i) ++ sym next i) ∙ take-append-drop size left) ∙ sofar.joins;
    }

stop_by : (ending : Ending) (place : ℕ) (left : List ℕ) (rest : ℕ → Cut) → cut_by (front_of ending) place left rest ≡ stopped place ending
stop_by (Ok tt) place left rest = refl
stop_by (Err refusal) place left rest = refl

-- with no turn left there are no bytes, and nothing is damaged
cut_stop : (turns place : ℕ) (left : List ℕ) (ending : Ending) → length left ≤ turns → front left ≡ front_of ending → cut_from turns place left ≡ stopped place ending
cut_stop zero place left (Ok tt) few e = refl
cut_stop zero place left (Err refusal) few e =
    let none : front left ≡ end = front_none left (omega arith) in
    cc
cut_stop (suc turns) place left ending few e =
    let rest : ℕ → Cut = λ n. cut_from turns (place + n) (drop n left) in
    ap (λ found. cut_by found place left rest) e ∙ stop_by ending place left rest

pub done : (input : List ℕ) (entries : List Entry) (offset : ℕ) (ending : Ending) → Sofar input entries offset → front (drop offset input) ≡ front_of ending → Reads input (record { entries = entries; place = offset; ending = ending })
done input entries offset ending sofar found =
    let stop = cut_stop sofar.turns offset (drop offset input) ending sofar.enough found in
    record {
      orders = sym (sofar.orders ∙ ap (behind entries) stop ∙ (λ i. record { entries = append-nil entries i; place = offset; ending = ending }));
      joins = sofar.joins;
      ends = found;
    }
