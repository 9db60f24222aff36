-- The accounts that a JSON document lists. The document's shape is our own.
use Rattle.std.specs.Option.{option_or}
use Rattle.std.specs.Prelude.{◌≡◌, ℕ, ℤ, pos, negsuc, int_lt, ◌||◌, List, [], ◌∷◌, ◌++◌, length, map, Bool, Option, None, Some, option_map, option_and_then, Result, Ok, Err, if◌then◌else◌, codes}
use Rattle.std.specs.List.{list_any}
use Rattle.serde_json.specs.Data.{Data, Items, no_items, item}
use Rattle.serde_json.specs.Find.{get, as_array, as_number, as_i64}
use Rattle.iso_table.specs.Document.{StandsFor}
use Rattle.iso_table.specs.Members.{has_size, text_at}
use Rattle.iso_order.specs.Pan.{AccountNumber, pan_of}
use Rattle.iso_order.specs.Order.{same_pan, currency_of}
use Rattle.iso_issuer.specs.declared.account.Account.{Account}
use Rattle.iso_issuer.specs.declared.document.Listed.{Listed}
use Rattle.iso_issuer.specs.declared.fault.AccountsFault.{AccountsFault}
use Rattle.iso_issuer.specs.declared.fault.AccountsFault.TheVariants.{Shape, Twice, OutOfRange}

-- ---- the shape

-- the whole number at a member, where it fits an i64
abbrev pub i64_at : List ℕ → Data → Option ℤ
i64_at key d = option_and_then (λ m. option_and_then as_i64 (as_number m)) (get key d)

-- an account as it is listed, if none of the three is missing
abbrev pub listed_of : Option AccountNumber → Option (List ℕ) → Option ℤ → Option Listed
listed_of (Some pan) (Some currency) (Some opening) =
    Some (record { pan = pan; currency = currency; opening = opening })
listed_of (Some pan) (Some currency) None = None
listed_of (Some pan) None opening = None
listed_of None currency opening = None

-- an object of `pan`, `currency` and `opening`, and of no other member
abbrev pub listed_in : Data → Option Listed
listed_in d =
    if has_size 3 d then
    listed_of (option_and_then pan_of (text_at (codes "pan") d))
    (option_and_then currency_of (text_at (codes "currency") d)) (i64_at (codes "opening") d)
    else None

-- the accounts of an array, each of them one
abbrev pub listed_rows : Items → Option (List Listed)
listed_rows no_items = Some []
listed_rows (item d ds) =
    option_and_then (λ row. option_map (λ rows. row ∷ rows) (listed_rows ds)) (listed_in d)

-- an object of an array `accounts`, and of no other member
abbrev pub document_in : Data → Option (List Listed)
document_in d = if has_size 1 d
    then option_and_then listed_rows (option_and_then as_array (get (codes "accounts") d)) else None

-- ---- the first fault

-- over 9,000,000,000,000,000 minor units, either way
abbrev pub is_out_of_range : ℤ → Bool
is_out_of_range z = int_lt z (negsuc 8999999999999999) || int_lt (pos 9000000000000000) z

-- an account of this number is among them, whatever its currency; `01` and `1` are two numbers
abbrev pub is_listed : List Listed → AccountNumber → Bool
is_listed rows pan = list_any (λ row. same_pan row.pan pan) rows

-- what is wrong with an account after those before it
abbrev pub account_fault : List Listed → Listed → Option AccountsFault
account_fault earlier row =
    if is_out_of_range row.opening then Some (OutOfRange (length earlier))
    else if is_listed earlier row.pan then Some (Twice (length earlier))
    else None

-- the first fault of some accounts, behind those before them
abbrev pub accounts_fault : List Listed → List Listed → Option AccountsFault
accounts_fault earlier [] = None
accounts_fault earlier (row ∷ rows) =
    option_or (account_fault earlier row) (accounts_fault (earlier ++ row ∷ []) rows)

-- ---- the document

-- the accounts, if nothing is wrong with them
abbrev pub unless : List Listed → Option AccountsFault → Result (List Listed) AccountsFault
unless rows None = Ok rows
unless rows (Some e) = Err e

-- the accounts, if the document has its shape and nothing is wrong with them
abbrev pub list_or_fault : Option (List Listed) → Result (List Listed) AccountsFault
list_or_fault None = Err Shape
list_or_fault (Some rows) = unless rows (accounts_fault [] rows)

-- the accounts of a value, or the first fault
abbrev pub accounts_in : Data → Result (List Listed) AccountsFault
accounts_in d = list_or_fault (document_in d)

-- an account as a document lists it
abbrev pub as_listed : Account → Listed
as_listed a = record { pan = a.pan; currency = a.currency; opening = a.opening }

-- the text is JSON of these accounts, in their order
abbrev pub ListsAccounts : List ℕ → List Account → Type 0
ListsAccounts text accounts = (d : Data) × StandsFor text d
    × (accounts_in d ≡ Ok (map as_listed accounts))

-- the text is JSON, and this is the first thing wrong with it
abbrev pub HasFault : List ℕ → AccountsFault → Type 0
HasFault text e = (d : Data) × StandsFor text d × (accounts_in d ≡ Err e)
