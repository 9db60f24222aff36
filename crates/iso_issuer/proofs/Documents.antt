-- Accounts, as a document lists them.
use Rattle.std.specs.Option.{option_or}
use Rattle.std.proofs.Common.{◌≡◌, ◌≢◌, ℕ, ◌+◌, ◌<◌, ◌≤◌, Bool, true, false, cond, List, [], ◌∷◌, ◌++◌, length, drop, take, get_or, map, Option, Some, None, Ok, Err, option_map, refl, sym, ap, ◌∙◌, append_assoc, append-nil, add-one, Result}
use Rattle.std.specs.Prelude.{is_some, ◌||◌, option_and_then}
use Rattle.std.proofs.Math.Seq.{drop-cons}
use Rattle.std.specs.Str.{IsUtf8}
use Rattle.std.proofs.lemmas.List.{at_drop_all}
use Rattle.serde_json.specs.Data.{Data}
use Rattle.serde_json.specs.Read.{read}
use Rattle.serde_json.specs.View.{view, items_view}
use Rattle.serde_json.specs.declared.value.Value.{Value}
use Rattle.iso_order.specs.Pan.{AccountNumber}
use Rattle.iso_order.specs.Order.{same_pan}
use Rattle.iso_issuer.specs.declared.account.Account.{Account}
use Rattle.iso_issuer.specs.declared.document.Listed.{Listed}
use Rattle.iso_issuer.specs.Account.{account_of}
use Rattle.iso_issuer.specs.Balances.{HasDistinctNumbers, accounts_of, balance_at}
use Rattle.iso_issuer.specs.declared.balances.Balance.{Balance}
use Rattle.iso_issuer.specs.declared.fault.AccountsFault.{AccountsFault}
use Rattle.iso_issuer.specs.declared.fault.AccountsFault.TheVariants.{NotJson, Shape, Memory, Twice, OutOfRange}
use Rattle.iso_issuer.specs.Document.{listed_in, listed_rows, document_in, is_listed, as_listed, is_out_of_range, account_fault, accounts_fault, list_or_fault, unless, ListsAccounts, HasFault}
use Rattle.iso_issuer.proofs.Keys.{same_pan_sym}

-- ---- rows

cons_map : (so_far : List Listed) (row : Listed) (rest : Option (List Listed)) → option_map (λ rs. so_far ++ rs) (option_map (λ rs. row ∷ rs) rest) ≡ option_map (λ rs. (so_far ++ row ∷ []) ++ rs) rest
cons_map so_far row None = refl
cons_map so_far row (Some rs) = ap (λ (xs : List Listed). Some xs) (sym (append_assoc so_far (row ∷ []) rs))

-- one row more is read
pub rows_more : (values : List Value) (i : ℕ) (v : Value) (row : Listed) (so_far : List Listed) (total : Option (List Listed)) → i < length values → listed_in (view (get_or values i v)) ≡ Some row
    → total ≡ option_map (λ rest. so_far ++ rest) (listed_rows (items_view (drop i values))) → total ≡ option_map (λ rest. (so_far ++ row ∷ []) ++ rest) (listed_rows (items_view (drop (i + 1) values)))
rows_more values i v row so_far total lt is judged =
    let less : drop i values ≡ get_or values i v ∷ drop (i + 1) values = drop-cons values i v lt ∙ ap (λ (k : ℕ). get_or values i v ∷ drop k values) (sym (add-one i)) in
    let rest : Option (List Listed) = listed_rows (items_view (drop (i + 1) values)) in
    let here : listed_rows (items_view (drop i values)) ≡ option_map (λ rs. row ∷ rs) rest = ap (λ (vs : List Value). listed_rows (items_view vs)) less ∙ ap (λ (o : Option Listed). option_and_then (λ r. option_map (λ rs. r ∷ rs) rest) o) is in
    judged ∙ ap (option_map (λ rs. so_far ++ rs)) here ∙ cons_map so_far row rest

-- no row is read before the first
pub rows_first : (total : Option (List Listed)) → total ≡ option_map (λ rest. [] ++ rest) total
rows_first None = refl
rows_first (Some rows) = refl

-- behind the last value there is none
pub rows_all : (values : List Value) (i : ℕ) (so_far : List Listed) (total : Option (List Listed)) → length values ≤ i
    → total ≡ option_map (λ rest. so_far ++ rest) (listed_rows (items_view (drop i values))) → total ≡ Some so_far
rows_all values i so_far total le judged =
    judged ∙ at_drop_all (λ vs. option_map (λ rest. so_far ++ rest) (listed_rows (items_view vs))) values i le ∙ ap (λ (xs : List Listed). Some xs) (append-nil so_far)

-- a value that is no row
pub rows_none : (values : List Value) (i : ℕ) (v : Value) (so_far : List Listed) (total : Option (List Listed)) → i < length values → listed_in (view (get_or values i v)) ≡ None
    → total ≡ option_map (λ rest. so_far ++ rest) (listed_rows (items_view (drop i values))) → total ≡ None
rows_none values i v so_far total lt is judged =
    let less : drop i values ≡ get_or values i v ∷ drop (i + 1) values = drop-cons values i v lt ∙ ap (λ (k : ℕ). get_or values i v ∷ drop k values) (sym (add-one i)) in
    let rest : Option (List Listed) = listed_rows (items_view (drop (i + 1) values)) in
    let here : listed_rows (items_view (drop i values)) ≡ None = ap (λ (vs : List Value). listed_rows (items_view vs)) less ∙ ap (λ (o : Option Listed). option_and_then (λ r. option_map (λ rs. r ∷ rs) rest) o) is in
    judged ∙ ap (option_map (λ rs. so_far ++ rs)) here

-- ---- numbers

-- a number is listed where it has an account
pub listed-found : (balances : List Balance) (pan : AccountNumber) → is_listed (map as_listed (accounts_of balances)) pan ≡ is_some (balance_at balances pan)
listed-found [] pan = refl
listed-found (b ∷ later) pan = by_test (same_pan b.account.pan pan) (listed-found later pan)
  where
    by_test : (t : Bool) → is_listed (map as_listed (accounts_of later)) pan ≡ is_some (balance_at later pan)
        → (t || is_listed (map as_listed (accounts_of later)) pan) ≡ is_some (cond t (Some b) (balance_at later pan))
    by_test true known = refl
    by_test false known = known

pub is_none-of : {X : Type 0} (o : Option X) → is_some o ≡ false → o ≡ None
is_none-of None h = refl
is_none-of (Some a) h = cc

-- a new number keeps them distinct
pub numbers-push : (accounts : List Account) (a : Account) → HasDistinctNumbers accounts → account_of accounts a.pan ≡ None → HasDistinctNumbers (accounts ++ a ∷ [])
numbers-push [] a distinct new = (refl, tt)
numbers-push (b ∷ later) a distinct new =
    let apart = missing (same_pan b.pan a.pan) b (account_of later a.pan) new in
    (none_push later a b.pan distinct.0 (same_pan_sym a.pan b.pan ∙ apart.0), numbers-push later a distinct.1 apart.1)
  where
    missing : (t : Bool) (b : Account) (next : Option Account) → cond t (Some b) next ≡ None → (t ≡ false) × (next ≡ None)
    missing true b next h = cc
    missing false b next h = (refl, h)

    none_push : (accounts : List Account) (a : Account) (pan : AccountNumber) → account_of accounts pan ≡ None → same_pan a.pan pan ≡ false → account_of (accounts ++ a ∷ []) pan ≡ None
    none_push [] a pan h new = ap (λ t. cond t (Some a) None) new
    none_push (b ∷ later) a pan h new =
        let apart = missing (same_pan b.pan pan) b (account_of later pan) h in
        ap (λ t. cond t (Some b) (account_of (later ++ a ∷ []) pan)) apart.0 ∙ none_push later a pan apart.1 new

-- ---- the first fault

-- an account that is made is the listed one, and in range
pub ranged : (t : Bool) (made row : Listed) → Some made ≡ cond t None (Some row) → (t ≡ false) × (made ≡ row)
ranged true made row h = cc
ranged false made row h = (refl, cc)

-- and no account is made of one out of range
pub out_of_range : (t : Bool) (row : Listed) → None ≡ cond t None (Some row) → t ≡ true
out_of_range true row h = refl
out_of_range false row h = cc

-- the fault of one account, or else that of the rest
pub fault_at : (rows : List Listed) (i : ℕ) (row : Listed) (fault : Option AccountsFault) → i < length rows → row ≡ get_or rows i row
    → accounts_fault [] rows ≡ accounts_fault (take i rows) (drop i rows) → account_fault (take i rows) row ≡ fault
    → accounts_fault [] rows ≡ option_or fault (accounts_fault (take i rows ++ row ∷ []) (drop (i + 1) rows))
fault_at rows i row fault lt is rest here =
    let less : drop i rows ≡ row ∷ drop (i + 1) rows =
    drop-cons rows i row lt ∙ ap (λ (k : ℕ). get_or rows i row ∷ drop k rows) (sym (add-one i)) ∙ ap (λ (r : Listed). r ∷ drop (i + 1) rows) (sym is) in
    rest ∙ ap (accounts_fault (take i rows)) less ∙ ap (λ (o : Option AccountsFault). option_or o (accounts_fault (take i rows ++ row ∷ []) (drop (i + 1) rows))) here

-- an amount out of range
pub fault-range : (earlier : List Listed) (row : Listed) (i : ℕ) → is_out_of_range row.opening ≡ true → length earlier ≡ i → account_fault earlier row ≡ Some (OutOfRange i)
fault-range earlier row i outside count =
    ap (λ (t : Bool). cond t (Some (OutOfRange (length earlier))) (cond (is_listed earlier row.pan) (Some (Twice (length earlier))) None)) outside
    ∙ ap (λ (n : ℕ). Some (OutOfRange n)) count

-- the number of an earlier account
pub fault-twice : (earlier : List Listed) (row : Listed) (i : ℕ) → is_out_of_range row.opening ≡ false → is_listed earlier row.pan ≡ true → length earlier ≡ i → account_fault earlier row ≡ Some (Twice i)
fault-twice earlier row i inside known count =
    by_tests (is_out_of_range row.opening) (is_listed earlier row.pan) inside known ∙ ap (λ (n : ℕ). Some (Twice n)) count
  where
    by_tests : (o l : Bool) → o ≡ false → l ≡ true → cond o (Some (OutOfRange (length earlier))) (cond l (Some (Twice (length earlier))) None) ≡ Some (Twice (length earlier))
    by_tests true l h k = cc
    by_tests false true h k = refl
    by_tests false false h k = cc

-- nothing wrong with an account
pub fault-none : (earlier : List Listed) (row : Listed) → is_out_of_range row.opening ≡ false → is_listed earlier row.pan ≡ false → account_fault earlier row ≡ None
fault-none earlier row inside new = by_tests (is_out_of_range row.opening) (is_listed earlier row.pan) inside new
  where
    by_tests : (o l : Bool) → o ≡ false → l ≡ false → ◌≡◌ {A = Option AccountsFault} (cond o (Some (OutOfRange (length earlier))) (cond l (Some (Twice (length earlier))) None)) None
    by_tests true l h k = cc
    by_tests false true h k = cc
    by_tests false false h k = refl

-- ---- a text's accounts, or what is wrong with it

-- it lists the accounts that are in range, each with a number of its own
pub lists-text : (text : List ℕ) (d : Data) (rows : List Listed) (accounts : List Account) → IsUtf8 text → read text ≡ Some d → document_in d ≡ Some rows
    → accounts_fault [] rows ≡ None → map as_listed accounts ≡ rows → ListsAccounts text accounts
lists-text text d rows accounts utf8 is document none same = (d, (utf8, is), ap list_or_fault document ∙ ap (unless rows) none ∙ ap Ok (sym same))

-- another shape is its fault
pub fault-shape : (text : List ℕ) (d : Data) (e : AccountsFault) → IsUtf8 text → read text ≡ Some d → document_in d ≡ None → e ≡ Shape → HasFault text e
fault-shape text d e utf8 is document shape = (d, (utf8, is), ap list_or_fault document ∙ ap Err (sym shape))

-- and so is the first fault of its accounts
pub fault-rows : (text : List ℕ) (d : Data) (rows : List Listed) (e : AccountsFault) → IsUtf8 text → read text ≡ Some d → document_in d ≡ Some rows
    → accounts_fault [] rows ≡ Some e → HasFault text e
fault-rows text d rows e utf8 is document fault = (d, (utf8, is), ap list_or_fault document ∙ ap (unless rows) fault)

-- two errors are one
pub same_error : {T : Type 0} (a b : AccountsFault) → ◌≡◌ {A = Result T AccountsFault} (Err a) (Err b) → a ≡ b
same_error a b h = cc

-- a fault of the shape is none of the text
pub shape-json : (e : AccountsFault) → (e ≢ Memory → e ≡ Shape) → e ≢ NotJson
shape-json e fault = λ json. cc (fault (λ memory. cc))
