-- What a replay finds.
use Rattle.std.proofs.Common.{◌≡◌, ◌∙◌, ℕ, suc, ◌+◌, Bool, true, false, refl, sym, ap, subst, arith, List, [], ◌∷◌, ◌++◌, length, take, drop, Option, IfSome, append-nil, append_assoc}
use Rattle.std.proofs.lemmas.List.{take_all}
use Rattle.std.specs.List.{list_all}
use Rattle.iso_log.specs.Slots.{records_of}
use Rattle.iso_order.specs.Order.{Instruction}
use Rattle.iso_issuer.specs.declared.account.Account.{Account}
use Rattle.iso_issuer.specs.Books.{Books}
use Rattle.iso_journal.specs.Orders.{order_of, orders_of, journal_orders}
use Rattle.iso_journal.specs.Written.{IsWritten, AreWritten, IsReplayed}
use Rattle.iso_journal.specs.Why.{IsDamaged}
use Rattle.iso_books.specs.Records.{Between, IsTaken, is_clear, is_zero}
use Rattle.std.specs.Io.KnownBytes.{Keeps}
use Rattle.iso_books.specs.Headings.{IsHeaded}
use Rattle.iso_books.specs.Replays.{HasEntered, HasEnteredBehind, IsDamagedBehind, IsFound, IsFoundBehind, TakesOrder, IsUnwritten, IsSameIssuer, replayed_at_end}
use Rattle.iso_books.specs.declared.heading.Wanted.{Wanted}
use Rattle.iso_books.specs.declared.replaying.Replayed.{Replayed}
use Rattle.iso_books.specs.declared.replaying.Replayed.TheVariants.{Whole, Torn, Damaged}
use Rattle.iso_books.proofs.Left.{between_trans, between_if, kept_both}

-- so many records were entered, and what is left goes on from there
pub record SoFar (accounts : List Account) (count : ℕ) (b : Books) (file rest : List ℕ) : Type 0 where
  pub count_is : count + length (records_of rest) ≡ length (records_of file)
  pub orders_are : b.orders ++ orders_of (records_of rest) ≡ orders_of (records_of file)
  pub goes_on : (n : ℕ) → AreWritten accounts 999999 b.orders (take n (records_of rest)) → AreWritten accounts 999999 [] (take (count + n) (records_of file))
  pub goes_back : (n : ℕ) → AreWritten accounts 999999 [] (take (count + n) (records_of file)) → AreWritten accounts 999999 b.orders (take n (records_of rest))
  pub clear_is : is_clear file ≡ is_clear rest

-- the issuer keeps its accounts and its limit
pub record IsOf (accounts : List Account) (b : Books) : Type 0 where
  pub accounts_are : b.accounts ≡ accounts
  pub limit_is : b.limit ≡ 999999

pub still_of : (accounts : List Account) (old new : Books) → IsOf accounts old → IsSameIssuer old new → IsOf accounts new
still_of accounts old new is same = record {
  accounts_are = same.accounts_same ∙ is.accounts_are;
  limit_is = same.limit_same ∙ is.limit_is;
}

written_under : (accounts : List Account) (b : Books) (bytes : List ℕ) → IsOf accounts b → IsWritten b.accounts b.limit b.orders bytes → IsWritten accounts 999999 b.orders bytes
written_under accounts b bytes is w =
    subst (λ (l : ℕ). IsWritten accounts l b.orders bytes) is.limit_is (subst (λ (own : List Account). IsWritten own b.limit b.orders bytes) is.accounts_are w)

written_back : (accounts : List Account) (b : Books) (bytes : List ℕ) → IsOf accounts b → IsWritten accounts 999999 b.orders bytes → IsWritten b.accounts b.limit b.orders bytes
written_back accounts b bytes is w =
    subst (λ (own : List Account). IsWritten own b.limit b.orders bytes) (sym is.accounts_are) (subst (λ (l : ℕ). IsWritten accounts l b.orders bytes) (sym is.limit_is) w)

-- an order more
pub order_more : (accounts : List Account) (count : ℕ) (old new : Books) (file mid rest : List ℕ) → IsOf accounts old → SoFar accounts count old file mid
    → TakesOrder old new mid rest → SoFar accounts (count + 1) new file rest
order_more accounts count old new file mid rest is so takes =
    let bytes = takes.0 in
    let taken = takes.1 in
    let w = written_under accounts old bytes is takes.2 in
    let entered : new.orders ≡ old.orders ++ order_of bytes ∷ [] = takes.3 in
    record {
      count_is = omega (arith, so.count_is, ap length taken.records);
      orders_are =
          ap (λ (os : List Instruction). os ++ orders_of (records_of rest)) entered ∙ append_assoc old.orders (order_of bytes ∷ []) (orders_of (records_of rest))
          ∙ ap (λ (rs : List (List ℕ)). old.orders ++ orders_of rs) (sym taken.records) ∙ so.orders_are;
      goes_on = λ n all.
          let at : count + suc n ≡ count + 1 + n = omega arith in
          let here = subst (λ (os : List Instruction). AreWritten accounts 999999 os (take n (records_of rest))) entered all in
          let both : AreWritten accounts 999999 old.orders (take (suc n) (bytes ∷ records_of rest)) = (w, here) in
          let there = subst (λ (rs : List (List ℕ)). AreWritten accounts 999999 old.orders (take (suc n) rs)) (sym taken.records) both in
          subst (λ m. AreWritten accounts 999999 [] (take m (records_of file))) at (so.goes_on (suc n) there);
      goes_back = λ n all.
          let at : count + 1 + n ≡ count + suc n = omega arith in
          let there = so.goes_back (suc n) (subst (λ m. AreWritten accounts 999999 [] (take m (records_of file))) at all) in
          let both : AreWritten accounts 999999 old.orders (take (suc n) (bytes ∷ records_of rest))
          = subst (λ (rs : List (List ℕ)). AreWritten accounts 999999 old.orders (take (suc n) rs)) taken.records there in
          subst (λ (os : List Instruction). AreWritten accounts 999999 os (take n (records_of rest))) (sym entered) both.1;
      clear_is = so.clear_is ∙ taken.clear;
    }

-- the record at the front can't have been written
pub unwritten_here : (accounts : List Account) (count : ℕ) (b : Books) (file rest : List ℕ) → IsOf accounts b → SoFar accounts count b file rest → IsUnwritten b rest
    → IsFoundBehind accounts file (Damaged (count + 1))
unwritten_here accounts count b file rest is so bad =
    let bytes = bad.0 in
    let taken = bad.1 in
    let later = records_of (drop 128 rest) in
    let at : count + 0 ≡ count = omega arith in (
      count,
      refl,
      record {
        there = omega (arith, so.count_is, ap length taken.records);
        front = subst (λ m. AreWritten accounts 999999 [] (take m (records_of file))) at (so.goes_on 0 tt);
        not = λ all.
            let both : AreWritten accounts 999999 b.orders (take 1 (bytes ∷ later))
            = subst (λ (rs : List (List ℕ)). AreWritten accounts 999999 b.orders (take 1 rs)) taken.records (so.goes_back 1 all) in
            bad.2 (written_back accounts b bytes is both.0);
      },
    )

all_entered : (accounts : List Account) (count : ℕ) (b : Books) (file rest : List ℕ) → IsOf accounts b → SoFar accounts count b file rest → records_of rest ≡ []
    → HasEnteredBehind accounts (records_of file) b
all_entered accounts count b file rest is so none =
    let at : length (records_of file) ≡ count + 0 = omega (arith, so.count_is, ap length none) in
    record {
      accounts_are = is.accounts_are;
      limit_is = is.limit_is;
      orders_are = sym (append-nil b.orders) ∙ ap (λ (rs : List (List ℕ)). b.orders ++ orders_of rs) (sym none) ∙ so.orders_are;
      written =
          subst (AreWritten accounts 999999 []) (ap (λ m. take m (records_of file)) (sym at) ∙ take_all (length (records_of file)) (records_of file) (omega arith))
          (so.goes_on 0 tt);
    }

-- there is no record more
pub end_found : (accounts : List Account) (count : ℕ) (b : Books) (file rest : List ℕ) (clear : Bool) → IsOf accounts b → SoFar accounts count b file rest
    → records_of rest ≡ [] → is_clear rest ≡ clear → IsFoundBehind accounts file (replayed_at_end clear b)
end_found accounts count b file rest true is so none clear = (all_entered accounts count b file rest is so none, so.clear_is ∙ clear)
end_found accounts count b file rest false is so none clear = (all_entered accounts count b file rest is so none, so.clear_is ∙ clear)

-- ---- over a loop

pub one_more : (accounts : List Account) (count : ℕ) (old new : Books) (a b c : Option (List ℕ)) → IsOf accounts old → Between (SoFar accounts count old) a b
    → Between (TakesOrder old new) b c → Between (SoFar accounts (count + 1) new) a c
one_more accounts count old new a b c is so takes =
    between_trans (SoFar accounts count old) (TakesOrder old new) (SoFar accounts (count + 1) new) a b c so takes
    (λ x y z p q. order_more accounts count old new x y z is p q)

pub bad_found : (accounts : List Account) (count : ℕ) (old : Books) (a b : Option (List ℕ)) → IsOf accounts old → Between (SoFar accounts count old) a b
    → IfSome b (IsUnwritten old) → IfSome a (λ rest. IsFoundBehind accounts rest (Damaged (count + 1)))
bad_found accounts count old a b is so bad =
    between_if (SoFar accounts count old) (IsUnwritten old) (λ rest. IsFoundBehind accounts rest (Damaged (count + 1))) a b so bad
    (λ x y p q. unwritten_here accounts count old x y is p q)

-- no record is left, and whether only zeros are
abbrev pub IsLast : Bool → List ℕ → Type 0
IsLast clear file = (records_of file ≡ []) × (is_clear file ≡ clear)

pub last_found : (accounts : List Account) (count : ℕ) (old new : Books) (clear : Bool) (result : Replayed) (a b mid : Option (List ℕ)) → IsOf accounts old
    → Between (SoFar accounts count old) a b → new ≡ old → Keeps b mid → IfSome mid (λ file. (records_of file ≡ []) × (is_clear file ≡ list_all is_zero file))
    → IfSome mid (λ all. clear ≡ list_all is_zero all) → result ≡ replayed_at_end clear new → IfSome a (λ rest. IsFoundBehind accounts rest result)
last_found accounts count old new clear result a b mid is so same kept none zeros told =
    let last = kept_both (IsLast clear) (λ file. (records_of file ≡ []) × (is_clear file ≡ list_all is_zero file)) (λ all. clear ≡ list_all is_zero all) b mid kept none zeros
    (λ x q z. (q.0, q.1 ∙ sym z)) in
    let here : IfSome a (λ rest. IsFoundBehind accounts rest (replayed_at_end clear old))
    = between_if (SoFar accounts count old) (IsLast clear) (λ rest. IsFoundBehind accounts rest (replayed_at_end clear old)) a b so last
    (λ x y p q. end_found accounts count old x y clear is p q.0 q.1) in
    subst (λ (r : Replayed). IfSome a (λ rest. IsFoundBehind accounts rest r)) (sym (told ∙ ap (replayed_at_end clear) same)) here

-- ---- behind the heading

entered_of : (accounts : List Account) (heading file rest : List ℕ) (b : Books) → IsTaken heading file rest → HasEnteredBehind accounts (records_of rest) b
    → HasEntered accounts (records_of file) b
entered_of accounts heading file rest b taken has = record {
  accounts_are = has.accounts_are;
  limit_is = has.limit_is;
  orders_are = has.orders_are ∙ ap journal_orders (sym taken.records);
  written = subst (λ (rs : List (List ℕ)). AreWritten accounts 999999 [] (drop 1 rs)) (sym taken.records) has.written;
}

damaged_of : (accounts : List Account) (count : ℕ) (heading file rest : List ℕ) → IsTaken heading file rest → IsDamagedBehind accounts count (records_of rest)
    → IsDamaged accounts 999999 (count + 1) (records_of file)
damaged_of accounts count heading file rest taken bad =
    let next : count + 1 ≡ suc count = omega arith in
    let last : count + 1 + 1 ≡ suc (count + 1) = omega arith in
    record {
      there = omega (arith, bad.there, ap length taken.records);
      front = subst (λ (rs : List (List ℕ)). IsReplayed accounts 999999 (take (count + 1) rs)) (sym taken.records)
          (subst (λ m. IsReplayed accounts 999999 (take m (heading ∷ records_of rest))) (sym next) bad.front);
      not = λ all.
          let here = subst (λ (rs : List (List ℕ)). IsReplayed accounts 999999 (take (count + 1 + 1) rs)) taken.records all in
          bad.not (subst (λ m. IsReplayed accounts 999999 (take m (heading ∷ records_of rest))) last here);
    }

pub found_of : (accounts : List Account) (wanted : Wanted) (file rest : List ℕ) (found : Replayed) → IsHeaded wanted file rest → IsFoundBehind accounts rest found
    → IsFound accounts file found
found_of accounts wanted file rest (Whole b) headed (has, clear) = (entered_of accounts headed.first file rest b headed.taken has, headed.taken.clear ∙ clear)
found_of accounts wanted file rest (Torn b) headed (has, clear) = (entered_of accounts headed.first file rest b headed.taken has, headed.taken.clear ∙ clear)
found_of accounts wanted file rest (Damaged place) headed (count, is, bad) =
    subst (λ n. IsDamaged accounts 999999 n (records_of file)) (sym is) (damaged_of accounts count headed.first file rest headed.taken bad)

pub found_in : (accounts : List Account) (wanted : Wanted) (found : Replayed) (a b : Option (List ℕ)) → Between (IsHeaded wanted) a b
    → IfSome b (λ rest. IsFoundBehind accounts rest found) → IfSome a (λ file. IsFound accounts file found)
found_in accounts wanted found a b headed here =
    between_if (IsHeaded wanted) (λ rest. IsFoundBehind accounts rest found) (λ file. IsFound accounts file found) a b headed here
    (λ x y p q. found_of accounts wanted x y found p q)
