-- What a crash leaves while the orders of a journal are added to its log.
use Rattle.std.proofs.Common.{◌≡◌, ◌∙◌, ◌++◌, ◌+◌, ◌<◌, ℕ, zero, suc, refl, sym, ap, List, [], ◌∷◌, length, take, drop, get_or, append_assoc}
use Rattle.std.proofs.Math.Seq.{take-append-add}
use Rattle.std.proofs.lemmas.List.{drop_more}
use Rattle.iso_order.specs.Order.{Instruction}
use Rattle.iso_durable.specs.Front.{LeavesFront}

-- a front of a list is one of any list that goes on from it
front_more : (xs ys : List Instruction) (n : ℕ) → (m : ℕ) × (take m (xs ++ ys) ≡ take n xs)
front_more [] ys zero = (0, refl)
front_more [] ys (suc n) = (0, refl)
front_more (x ∷ xs) ys zero = (0, refl)
front_more (x ∷ xs) ys (suc n) = let rest = front_more xs ys n in (suc rest.0, ap (λ (l : List Instruction). x ∷ l) rest.1)

-- where some orders wait, of those that are to be added
pub leaves_part : (leaves : List Instruction → Type 0) (synced now pending rest whole : List Instruction) → now ≡ synced → pending ++ rest ≡ whole
    → LeavesFront leaves now pending → LeavesFront leaves synced whole
leaves_part leaves synced now pending rest whole same all front = λ c left.
    let f = front c left in
    let m = front_more pending rest f.0 in
    (m.0, f.1 ∙ ap (λ (l : List Instruction). l ++ take f.0 pending) same ∙ ap (λ (l : List Instruction). synced ++ l) (sym m.1) ∙ ap (λ (l : List Instruction). synced ++ take m.0 l) all)

-- where those that waited are synced
pub leaves_behind : (leaves : List Instruction → Type 0) (synced pending rest now waits : List Instruction) → now ≡ synced ++ pending → waits ≡ rest
    → LeavesFront leaves now waits → LeavesFront leaves synced (pending ++ rest)
leaves_behind leaves synced pending rest now waits same is front = λ c left.
    let f = front c left in (
      length pending + f.0,
      f.1 ∙ ap (λ (l : List Instruction). l ++ take f.0 waits) same ∙ ap (λ (l : List Instruction). (synced ++ pending) ++ take f.0 l) is
          ∙ append_assoc synced pending (take f.0 rest) ∙ ap (λ (l : List Instruction). synced ++ l) (sym (take-append-add pending rest f.0)),
    )

-- an order of the journal is added
pub added : (pending : List Instruction) (orders : List Instruction) (place : ℕ) (o : Instruction) (whole : List Instruction) → place < length orders → o ≡ get_or orders place o
    → pending ++ drop place orders ≡ whole → (pending ++ o ∷ []) ++ drop (place + 1) orders ≡ whole
added pending orders place o whole lt is so_far =
    append_assoc pending (o ∷ []) (drop (place + 1) orders)
    ∙ sym (ap (λ (l : List Instruction). pending ++ l) (drop_more orders place o lt ∙ ap (λ (p : Instruction). p ∷ drop (place + 1) orders) (sym is))) ∙ so_far
