-- A replay of a journal's records.
use Rattle.std.proofs.Common.{◌≡◌, ◌∙◌, ℕ, Bool, false, sym, ap, subst, arith, List, [], ◌∷◌, ◌++◌, length, take, drop, append-nil, append_assoc}
use Rattle.std.specs.Prelude.{nat_lt, Some}
use Rattle.std.proofs.lemmas.List.{take_all, drop_all}
use Rattle.sqlite_disk.specs.Disk.{Holds, Only}
use Rattle.iso_order.specs.Order.{Instruction}
use Rattle.iso_issuer.specs.declared.account.Account.{Account}
use Rattle.iso_durable.specs.Durable.{Durable}
use Rattle.iso_log.specs.Slots.{records_of}
use Rattle.iso_log.specs.Log.{IsLog}
use Rattle.iso_log.specs.FileLaws.{FileLaws, SlotLaws}
use Rattle.iso_journal.specs.Orders.{order_of, order_or_nothing, orders_of, journal_orders}
use Rattle.iso_journal.specs.Written.{AreWritten, IsWritten}
use Rattle.iso_journal.specs.declared.error.OpenError.{OpenError}
use Rattle.iso_journal.specs.declared.error.OpenError.TheVariants.{Memory, Disk, Unfit, Other, Damaged}
use Rattle.iso_journal.specs.Why.{IsWhy, IsReplayFault, other_heading}
use Rattle.iso_record.specs.declared.row.Row.{Row}
use Rattle.iso_record.specs.Row.{row_bytes, row_in}
use Rattle.iso_record.specs.declared.heading.HeadingFault.{HeadingFault}
use Rattle.iso_record.specs.Heading.{heading_fault}

-- the order of the bytes of a row
pub order_is : (r : Row) (bytes : List ℕ) → bytes ≡ row_bytes r → row_in (row_bytes r) ≡ Some r
    → order_of bytes ≡ r.order
order_is r bytes is back = ap order_of is ∙ ap order_or_nothing back

-- ---- what a host writes

pub written_more : (accounts : List Account) (limit : ℕ) (before : List Instruction) (xs : List (List ℕ)) (r : List ℕ) → AreWritten accounts limit before xs → IsWritten accounts limit (before ++ orders_of xs) r
    → AreWritten accounts limit before (xs ++ r ∷ [])
written_more accounts limit before [] r h is = (subst (λ (l : List Instruction). IsWritten accounts limit l r) (append-nil before) is, tt)
written_more accounts limit before (x ∷ xs) r h is =
    (h.0, written_more accounts limit (before ++ order_of x ∷ []) xs r h.1 (subst (λ (l : List Instruction). IsWritten accounts limit l r) (sym (append_assoc before (order_of x ∷ []) (orders_of xs))) is))

pub written_last : (accounts : List Account) (limit : ℕ) (before : List Instruction) (xs : List (List ℕ)) (r : List ℕ) → AreWritten accounts limit before (xs ++ r ∷ []) → IsWritten accounts limit (before ++ orders_of xs) r
written_last accounts limit before [] r h = subst (λ (l : List Instruction). IsWritten accounts limit l r) (sym (append-nil before)) h.0
written_last accounts limit before (x ∷ xs) r h =
    subst (λ (l : List Instruction). IsWritten accounts limit l r) (append_assoc before (order_of x ∷ []) (orders_of xs)) (written_last accounts limit (before ++ order_of x ∷ []) xs r h.1)

-- ---- why a file is refused

pub why_replay : (accounts : List Account) (limit : ℕ) (wanted file : List ℕ) (e : OpenError) → IsReplayFault accounts limit (records_of file) e → IsWhy accounts limit wanted file e
why_replay accounts limit wanted file (Other fault) h = absurd h
why_replay accounts limit wanted file (Damaged place) h = h
why_replay accounts limit wanted file Memory h = tt
why_replay accounts limit wanted file Disk h = tt
why_replay accounts limit wanted file Unfit h = tt

-- ---- a log that was opened

module _ (laws : FileLaws) {D : Type 0} (seen : D → List ℕ) (may_leave : D → List ℕ → Type 0) (is_usable : D → Bool)
    (d : D) (slots count : ℕ) (is : IsLog seen may_leave is_usable (record { disk = d; slots = slots; count = count; synced = count })) where
  long : count ≡ length (records_of (seen d))
  long = laws.counted slots count (seen d) is.file

  pub none_waits : orders_of (drop count (records_of (seen d))) ≡ []
  none_waits = ap orders_of (drop_all count (records_of (seen d)) (omega (arith, long)))

  pub all_held : journal_orders (records_of (seen d)) ≡ journal_orders (take count (records_of (seen d))) ++ orders_of (drop count (records_of (seen d)))
  all_held =
      sym (append-nil (journal_orders (records_of (seen d)))) ∙ ap (λ (l : List Instruction). journal_orders (records_of (seen d)) ++ l) (sym none_waits)
      ∙ ap (λ (l : List (List ℕ)). journal_orders l ++ orders_of (drop count (records_of (seen d)))) (sym (take_all count (records_of (seen d)) (omega (arith, long))))

-- ---- the heading

-- what was read in front of a file
pub first_other : SlotLaws → (wanted file bytes : List ℕ) (fault : HeadingFault) → length bytes ≡ 128 → Holds file 0 bytes → heading_fault bytes wanted ≡ Some fault → other_heading wanted file ≡ Some fault
first_other laws wanted file bytes fault long holds is =
    let front : take 128 file ≡ bytes = sym (laws.same_slot 1 0 bytes file long holds 0 (omega arith)) ∙ take_all 128 bytes (omega (arith, long)) in
    let enough : nat_lt (length file) 128 ≡ false = grind (arith, holds.within, long) in
    rw enough (ap (λ (l : List ℕ). heading_fault l wanted) front ∙ is)

-- reading leaves what a crash may leave
pub still_only : (old new : List ℕ) (may_old may_new : List ℕ → Type 0) → new ≡ old → ((c : List ℕ) → may_new c → may_old c) → Only old may_old → Only new may_new
still_only old new may_old may_new same less only = λ c here. only c (less c here) ∙ sym same

abbrev state : List Account → ℕ → List Instruction → List Instruction → Durable
state accounts limit synced pending = record { accounts = accounts; limit = limit; synced = synced; pending = pending }

-- a host that was opened, whose orders a crash left
pub same_state : (a b : List Account) (m n : ℕ) (orders synced pending left : List Instruction) → a ≡ b → m ≡ n → orders ≡ synced ++ pending → pending ≡ [] → orders ≡ left
    → state a m synced pending ≡ state b n left []
same_state a b m n orders synced pending left accounts limit all none is =
    let same : synced ≡ left = sym (append-nil synced) ∙ ap (λ (l : List Instruction). synced ++ l) (sym none) ∙ sym all ∙ is in
    ap (λ (x : List Account). state x m synced pending) accounts ∙ ap (λ (x : ℕ). state b x synced pending) limit ∙ ap (λ (x : List Instruction). state b n x pending) same
    ∙ ap (λ (x : List Instruction). state b n left x) none
