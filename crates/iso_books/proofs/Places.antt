-- The place that a written record tells.
use Rattle.std.proofs.Common.{◌≡◌, ◌∙◌, ℕ, ◌+◌, Bool, true, false, refl, sym, ap, List, length, Option, Some, None, eq-eqb, true≢false}
use Rattle.std.proofs.lemmas.List.{length-map}
use Rattle.std.specs.Prelude.{is_some, nat_le, ◌==◌, if◌then◌else◌}
use Rattle.iso_order.specs.Order.{Instruction}
use Rattle.iso_issuer.specs.declared.account.Account.{Account}
use Rattle.iso_issuer.specs.declared.journal.Entry.{Entry}
use Rattle.iso_issuer.specs.Books.{Books}
use Rattle.iso_issuer.specs.Journal.{is_entered, entry_at}
use Rattle.iso_issuer.specs.Decision.{journal_of, answer_by}
use Rattle.iso_issuer.specs.Laws.{EntriesAreOfOrders, EnteredHasEntry}
use Rattle.iso_durable.specs.Host.{is_taken}
use Rattle.iso_record.specs.declared.row.Row.{Row}
use Rattle.iso_journal.specs.Orders.{order_of}
use Rattle.iso_journal.specs.Written.{row_after, books_after}
use Rattle.iso_books.specs.Rows.{row_if_at}
use Rattle.iso_books.specs.Laws.{WrittenTellsItsPlace}

none_of : (e : Option Entry) → is_some e ≡ false → e ≡ None
none_of None is = refl
none_of (Some e) is = absurd (true≢false is)

new_key : (b : Books) (o : Instruction) → is_taken b o ≡ true → is_entered b.orders o.key ≡ false
new_key b o taken = by (is_entered b.orders o.key) refl
  where
    by : (e : Bool) → is_entered b.orders o.key ≡ e → e ≡ false
    by false is = refl
    by true is =
        let never : false ≡ true = sym (ap (λ (x : Bool). if x then false else (if nat_le b.limit (length b.orders) then false else true)) is) ∙ taken in
        absurd (true≢false (sym never))

place_is : EntriesAreOfOrders → EnteredHasEntry → (accounts : List Account) (limit : ℕ) (before : List Instruction) (o : Instruction)
    → is_taken (books_after accounts limit before) o ≡ true → (row_after accounts before o).answer.seq ≡ length before + 1
place_is of found accounts limit before o taken =
    let entries = journal_of accounts before in
    let none = none_of (entry_at entries o.key) (sym (found accounts before o.key) ∙ new_key (books_after accounts limit before) o taken) in
    let size : length entries ≡ length before = sym (length-map entries (λ (e : Entry). e.order)) ∙ ap length (of accounts before) in
    ap (λ (e : Option Entry). (answer_by accounts entries o e).seq) none ∙ ap (λ n. n + 1) size

same_place : (place : ℕ) (r : Row) → r.answer.seq ≡ place → row_if_at place (Some r) ≡ Some r
same_place place r is =
    let same : (r.answer.seq == place) ≡ true = eq-eqb (r.answer.seq) place is in
    ap (λ (b : Bool). if b then Some r else None) same

pub tells_its_place : EntriesAreOfOrders → EnteredHasEntry → WrittenTellsItsPlace
tells_its_place of found accounts limit before bytes written =
    let o = order_of bytes in
    ap (row_if_at (length before + 1)) written.row
    ∙ same_place (length before + 1) (row_after accounts before o) (place_is of found accounts limit before o written.new)
