-- The request for a purchase, element by element.
use Rattle.std.specs.Prelude.{◌≡◌, ℕ, List, [], ◌∷◌, ◌++◌, Option}
use Rattle.iso_parts.specs.declared.spec.FieldSpec.{FieldSpec}
use Rattle.iso_wire.specs.Decimal.{decimal}
use Rattle.iso_wire.specs.Spelling.{PartAs, plain_of}
use Rattle.iso_order.specs.declared.act.Money.{Money}
use Rattle.iso_order.specs.declared.key.TxKey.{TxKey}
use Rattle.iso_order.specs.Requests.{account_number, acquirer_code}
use Rattle.iso_exchange.specs.Packed.{packed}

-- the elements of the request for a purchase: the account, goods and services, the amount, the time, the trace number, the
-- acquirer and the currency (ISO 8583:1987, elements 2, 3, 4, 7, 11, 32 and 49)
abbrev pub purchase_elements : TxKey → Money → List (ℕ × List ℕ)
purchase_elements k m =
    (2, account_number m) ∷ (3, decimal 6 0) ∷ (4, decimal 12 m.amount) ∷ (7, decimal 10 k.sent)
    ∷ (11, decimal 6 k.stan)
    ∷ (32, acquirer_code k.acquirer) ∷ (49, m.currency) ∷ []

-- the plain part of a value is put behind what was there, and is a part of it
abbrev pub AddsPart : List (Option FieldSpec) → ℕ → List ℕ → List ℕ → List ℕ → Type 0
AddsPart rows n value old new = (new ≡ old ++ plain_of rows (n, value))
    × PartAs rows n value (plain_of rows (n, value))

-- the elements 3, 4, 7 and 11 among them
abbrev pub four_elements : ℕ → TxKey → List (ℕ × List ℕ)
four_elements amount k =
    (3, decimal 6 0) ∷ (4, decimal 12 amount) ∷ (7, decimal 10 k.sent) ∷ (11, decimal 6 k.stan) ∷ []

-- their digits, packed
abbrev pub four_packed : ℕ → TxKey → List ℕ
four_packed amount k = packed 3 0 ++ (packed 6 amount ++ (packed 5 k.sent ++ packed 3 k.stan))

-- the plain parts of elements are put one behind the other
abbrev pub AddsParts : List (Option FieldSpec) → List (ℕ × List ℕ) → List ℕ → List ℕ → Type 0
AddsParts rows [] old new = new ≡ old
AddsParts rows (e ∷ es) old new = (mid : List ℕ) × AddsPart rows e.0 e.1 old mid
    × AddsParts rows es mid new
