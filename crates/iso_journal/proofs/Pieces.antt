-- Pieces of a journal's records, as they are decided again.
use Rattle.std.proofs.Common.{◌≡◌, ◌∙◌, ◌≤◌, ◌<◌, ℕ, ◌+◌, ◌*◌, sym, ap, subst, arith, List, [], ◌∷◌, ◌++◌, length, append-nil, append_assoc}
use Rattle.std.specs.Prelude.{take, replicate}
use Rattle.std.proofs.lemmas.List.{map-append, length-take-le, length-replicate}
use Rattle.sqlite_disk.specs.Disk.{Holds}
use Rattle.iso_order.specs.Order.{Instruction}
use Rattle.iso_issuer.specs.declared.account.Account.{Account}
use Rattle.iso_issuer.specs.Books.{Books}
use Rattle.iso_log.specs.Slots.{slot, records_of, slots_from}
use Rattle.iso_log.specs.Log.{IsFile}
use Rattle.iso_log.specs.Headed.{behind}
use Rattle.iso_log.specs.FileLaws.{FileLaws, SlotLaws}
use Rattle.iso_journal.specs.Orders.{order_of, orders_of}
use Rattle.iso_journal.specs.Written.{AreWritten, IsWritten}
use Rattle.iso_journal.specs.Why.{IsDamaged}
use Rattle.iso_journal.proofs.Replayed.{written_more, written_last}

-- ---- a piece, and the file

-- so many of many zeros
pub some_long : (n all : ℕ) → n ≤ all → length {A = ℕ} (take n (replicate all 0)) ≡ n
some_long n all le = length-take-le {A = ℕ} n (replicate all 0) (omega (arith, le, length-replicate {A = ℕ} all 0))

-- what was told of a piece holds of the file
module _ (laws : SlotLaws) (count place n : ℕ) (bytes file : List ℕ) (long : length bytes ≡ 128 * count) (holds : Holds file (128 * place) bytes) (within : n ≤ count) (old : Books) where
  same : slots_from n 0 bytes ≡ slots_from n place file
  same = laws.same_slots count place bytes file long holds n within

  pub file_written : AreWritten old.accounts old.limit old.orders (slots_from n 0 bytes) → AreWritten old.accounts old.limit old.orders (slots_from n place file)
  file_written h = subst (AreWritten old.accounts old.limit old.orders) same h

  pub file_entered : (orders : List Instruction) → orders ≡ old.orders ++ orders_of (slots_from n 0 bytes) → orders ≡ old.orders ++ orders_of (slots_from n place file)
  file_entered orders h = h ∙ ap (λ (l : List (List ℕ)). old.orders ++ orders_of l) same

  pub file_not : n < count → (IsWritten old.accounts old.limit (old.orders ++ orders_of (slots_from n 0 bytes)) (slot bytes n) → ⊥)
      → IsWritten old.accounts old.limit (old.orders ++ orders_of (slots_from n place file)) (slot file (place + n)) → ⊥
  file_not lt not h =
      not (subst (λ (l : List (List ℕ)). IsWritten old.accounts old.limit (old.orders ++ orders_of l) (slot bytes n)) (sym same)
      (subst (λ (b : List ℕ). IsWritten old.accounts old.limit (old.orders ++ orders_of (slots_from n place file)) b) (sym (laws.same_slot count place bytes file long holds n lt)) h))

-- ---- one record of a piece after another

module _ (laws : SlotLaws) (old now : Books) (place : ℕ) (piece bytes : List ℕ) (is : bytes ≡ slot piece place) (accounts_are : now.accounts ≡ old.accounts) (limit_is : now.limit ≡ old.limit)
    (orders_are : now.orders ≡ old.orders ++ orders_of (slots_from place 0 piece)) where
  pub one_entered : (orders : List Instruction) → orders ≡ now.orders ++ order_of bytes ∷ [] → orders ≡ old.orders ++ orders_of (slots_from (place + 1) 0 piece)
  one_entered orders entered =
      let before = slots_from place 0 piece in
      entered ∙ ap (λ (l : List Instruction). l ++ order_of bytes ∷ []) orders_are ∙ append_assoc old.orders (orders_of before) (order_of bytes ∷ [])
      ∙ ap (λ (l : List Instruction). old.orders ++ l) (sym (map-append order_of before (bytes ∷ [])) ∙ ap (λ (b : List ℕ). orders_of (before ++ b ∷ [])) is ∙ ap orders_of (sym (laws.next place piece)))

  moved : IsWritten now.accounts now.limit now.orders bytes → IsWritten old.accounts old.limit (old.orders ++ orders_of (slots_from place 0 piece)) (slot piece place)
  moved h =
      let before = old.orders ++ orders_of (slots_from place 0 piece) in
      subst (λ (b : List ℕ). IsWritten old.accounts old.limit before b) is
      (subst (λ (l : List Instruction). IsWritten old.accounts old.limit l bytes) orders_are (subst (λ (n : ℕ). IsWritten old.accounts n now.orders bytes) limit_is
      (subst (λ (a : List Account). IsWritten a now.limit now.orders bytes) accounts_are h)))

  pub one_written : AreWritten old.accounts old.limit old.orders (slots_from place 0 piece) → IsWritten now.accounts now.limit now.orders bytes
      → AreWritten old.accounts old.limit old.orders (slots_from (place + 1) 0 piece)
  one_written so_far written =
      subst (AreWritten old.accounts old.limit old.orders) (sym (laws.next place piece))
      (written_more old.accounts old.limit old.orders (slots_from place 0 piece) (slot piece place) so_far (moved written))

-- ---- one piece after another

written_on : (accounts : List Account) (limit : ℕ) (before : List Instruction) (xs ys : List (List ℕ)) → AreWritten accounts limit before xs → AreWritten accounts limit (before ++ orders_of xs) ys
    → AreWritten accounts limit before (xs ++ ys)
written_on accounts limit before [] ys h is = subst (λ (l : List Instruction). AreWritten accounts limit l ys) (append-nil before) is
written_on accounts limit before (x ∷ xs) ys h is =
    (h.0, written_on accounts limit (before ++ order_of x ∷ []) xs ys h.1 (subst (λ (l : List Instruction). AreWritten accounts limit l ys) (sym (append_assoc before (order_of x ∷ []) (orders_of xs))) is))

module _ (laws : FileLaws) (slots count : ℕ) (file : List ℕ) (place n : ℕ) (is : IsFile slots count file) (le : place + n ≤ count) (least : 1 ≤ place)
    (accounts : List Account) (limit : ℕ) (old : Books) (accounts_are : old.accounts ≡ accounts) (limit_is : old.limit ≡ limit) (orders_are : old.orders ≡ orders_of (behind place file)) where
  next : behind (place + n) file ≡ behind place file ++ slots_from n place file
  next = laws.more slots count file is n place le least

  all_orders : old.orders ++ orders_of (slots_from n place file) ≡ orders_of (behind (place + n) file)
  all_orders =
      ap (λ (l : List Instruction). l ++ orders_of (slots_from n place file)) orders_are ∙ sym (map-append order_of (behind place file) (slots_from n place file)) ∙ ap orders_of (sym next)

  pub some_entered : (orders : List Instruction) → orders ≡ old.orders ++ orders_of (slots_from n place file) → orders ≡ orders_of (behind (place + n) file)
  some_entered orders entered = entered ∙ all_orders

  pub some_written : AreWritten accounts limit [] (behind place file) → AreWritten old.accounts old.limit old.orders (slots_from n place file) → AreWritten accounts limit [] (behind (place + n) file)
  some_written front written =
      subst (AreWritten accounts limit []) (sym next) (written_on accounts limit [] (behind place file) (slots_from n place file) front
      (subst (λ (l : List Instruction). AreWritten accounts limit l (slots_from n place file)) orders_are (subst (λ (m : ℕ). AreWritten accounts m old.orders (slots_from n place file)) limit_is
      (subst (λ (a : List Account). AreWritten a old.limit old.orders (slots_from n place file)) accounts_are written))))

  pub some_damaged : place + n < count → AreWritten accounts limit [] (behind place file) → AreWritten old.accounts old.limit old.orders (slots_from n place file)
      → (IsWritten old.accounts old.limit (old.orders ++ orders_of (slots_from n place file)) (slot file (place + n)) → ⊥) → IsDamaged accounts limit (place + n) (records_of file)
  some_damaged lt front written not = record {
    there = omega (arith, lt, laws.counted slots count file is);
    front = some_written front written;
    not = λ all. not (moved (written_last accounts limit [] (behind (place + n) file) bad (subst (AreWritten accounts limit []) (laws.next slots count file (place + n) is lt (omega (arith, least))) all)));
  }
    where
      bad : List ℕ
      bad = slot file (place + n)

      moved : IsWritten accounts limit (orders_of (behind (place + n) file)) bad → IsWritten old.accounts old.limit (old.orders ++ orders_of (slots_from n place file)) bad
      moved h =
          let before = old.orders ++ orders_of (slots_from n place file) in
          subst (λ (a : List Account). IsWritten a old.limit before bad) (sym accounts_are) (subst (λ (m : ℕ). IsWritten accounts m before bad) (sym limit_is)
          (subst (λ (l : List Instruction). IsWritten accounts limit l bad) (sym all_orders) h))
