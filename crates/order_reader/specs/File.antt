-- A whole file, cut into its orders. Assumes nothing.
use Rattle.std.specs.Prelude.{◌≡◌, ℕ, zero, suc, ◌+◌, List, [], ◌∷◌, ◌++◌, map, length, drop, Ok, Err, Result, vec_items}
use Rattle.std.specs.List.{flat_map}
use Rattle.rules.specs.declared.refusal.Refusal.{Refusal}
use Rattle.order_reader.specs.declared.listing.Listing.{Listing}
use Rattle.orders.specs.Layout.{Front, front, end, whole, damaged}
use Rattle.orders.specs.Orders.{Entry, entry_of}
use Rattle.order_reader.specs.Reading.{entry_at}

-- how reading ends: nothing is left, or an order is refused
abbrev pub Ending : Type 0
Ending = Result (Unit {0}) Refusal

-- the orders of a file, the place where reading ends, and how it ends
pub record Cut : Type 0 where
  pub entries : List Entry
  pub place : ℕ
  pub ending : Ending

abbrev pub after : Entry → Cut → Cut
after entry cut = record { entries = entry ∷ cut.entries; place = cut.place; ending = cut.ending }

-- by what stands at the front: an order, and then the rest, or the end of reading
abbrev pub cut_by : Front → (place : ℕ) (left : List ℕ) (rest : ℕ → Cut) → Cut
cut_by end place left rest = record { entries = []; place = place; ending = Ok tt }
cut_by (whole size) place left rest = after (entry_at place left size) (rest size)
cut_by (damaged refusal) place left rest = record { entries = []; place = place; ending = Err refusal }

-- what is left of a file, from a place on: no order is empty, so there are no more turns than bytes
abbrev pub cut_from : (turns place : ℕ) (left : List ℕ) → Cut
cut_from zero place left = record { entries = []; place = place; ending = Ok tt }
cut_from (suc turns) place left = cut_by (front left) place left (λ size. cut_from turns (place + size) (drop size left))

abbrev pub cut_file : List ℕ → Cut
cut_file input = cut_from (length input) 0 input

abbrev pub front_of : Ending → Front
front_of (Ok tt) = end
front_of (Err refusal) = damaged refusal

-- what reading a whole file gives
pub record Reads (input : List ℕ) (found : Cut) : Type 0 where
  -- exactly the orders that the file is cut into
  pub orders : found ≡ cut_file input
  -- their bytes joined, with what is left over, are the file
  pub joins : flat_map (λ entry. entry.bytes) found.entries ++ drop found.place input ≡ input
  -- reading ends where nothing is left, or before an order that is refused
  pub ends : front (drop found.place input) ≡ front_of found.ending

abbrev pub cut_of : Listing → Cut
cut_of listing = record { entries = map entry_of (vec_items listing.orders); place = listing.place; ending = listing.ending }
