-- A shard beside the whole, as orders come to both.
use Rattle.std.proofs.Common.{◌≡◌, Bool, true, false, cond, refl, ap, sym, ◌∙◌, subst}
use Rattle.std.proofs.Common.{List, [], ◌∷◌, ◌++◌, append_assoc, append-nil}
use Rattle.std.specs.Prelude.{Option, Some, None, option_map, map, Result, Ok, Err}
use Rattle.std.specs.Prelude.{is_ok, if◌then◌else◌}
use Rattle.std.specs.List.{AllByRecursion}
use Rattle.std.proofs.lemmas.List.{take_all}
use Rattle.std.proofs.lemmas.List.Elements.{filter-append}
use Rattle.iso_order.specs.Key.{same_key}
use Rattle.iso_order.specs.Order.{Instruction, same_order}
use Rattle.iso_order.specs.Outcome.{Outcome, code_alone}
use Rattle.iso_order.specs.Pan.{AccountNumber}
use Rattle.iso_issuer.specs.declared.account.Account.{Account}
use Rattle.iso_issuer.specs.declared.fault.Refused.{Refused}
use Rattle.iso_issuer.specs.declared.journal.Entry.{Entry}
use Rattle.iso_issuer.specs.Books.{Books, journal, books_with, IsAnswerFor, books_left_by, IsRun}
use Rattle.iso_issuer.specs.Decision.{new_answer, repeat_answer, answer_by, answer_for}
use Rattle.iso_issuer.specs.Journal.{firsts, is_entered, entry_at, HasDistinctKeys}
use Rattle.iso_issuer.specs.Laws.{books_after, EntriesAreOfOrders, EnteredHasEntry, JournalsGrow}
use Rattle.iso_issuer.specs.Laws.{KnownChangesNothing, NewComesLast, KeysStayDistinct}
use Rattle.iso_shards.specs.Shards.{is_sent, sent_to, IsShard}
use Rattle.iso_shards.specs.Shards.{KeysGoTogether, unplaced, unplaced_entry, unplaced_result}
use Rattle.iso_shards.specs.Shards.{results_in}
use Rattle.iso_shards.specs.Laws.{IsRoomForAll}
use Rattle.iso_shards.proofs.Lists.{all-weaker}
use Rattle.iso_shards.proofs.Keys.{same_key_is}
use Rattle.iso_shards.proofs.Places.{entry_unplaced}
use Rattle.iso_shards.proofs.Kept.{find_kept, kept}
use Rattle.iso_shards.proofs.Seen.{answer_same}
use Rattle.iso_shards.proofs.Agreed.{sent_is_kept, shard_seen}
use Rattle.iso_shards.proofs.Together.{firsts_sent, with_last, go_front, go_without}

-- what the laws of the issuer say
pub record IssuerLaws : Type 0 where
  pub orders : EntriesAreOfOrders
  pub grow : JournalsGrow
  pub has : EnteredHasEntry
  pub known : KnownChangesNothing
  pub last : NewComesLast
  pub distinct : KeysStayDistinct

pub laws_of : EntriesAreOfOrders → JournalsGrow → EnteredHasEntry → KnownChangesNothing
    → NewComesLast → KeysStayDistinct → IssuerLaws
laws_of orders grow has known last distinct = record {
  orders = orders;
  grow = grow;
  has = has;
  known = known;
  last = last;
  distinct = distinct;
}

pub all_of_map : {X Y : Type 0} (P : Y → Type 0) (f : X → Y) (xs : List X)
    → AllByRecursion P (map f xs) → AllByRecursion (λ x. P (f x)) xs
all_of_map P f [] all = tt
all_of_map P f (x ∷ xs) all = (all.0, all_of_map P f xs all.1)

-- a repeat, without places
unplaced_repeat : (e : Entry) (o : Instruction)
    → unplaced (repeat_answer e o) ≡ repeat_answer (unplaced_entry e) o
unplaced_repeat e o = by_test (same_order e.order o)
  where
    by_test : (b : Bool) → unplaced (if b then e.answer else code_alone 94)
        ≡ (if b then unplaced e.answer else code_alone 94)
    by_test true = refl
    by_test false = refl

module _ (laws : IssuerLaws) (own : AccountNumber → Bool) (whole shard : Books)
    (is_shard : IsShard own whole shard) where
  module _ (o : Instruction) (sent : is_sent own o ≡ true)
      (go : KeysGoTogether own (whole.orders ++ o ∷ [])) where
    -- an entry of its key is in both, or in neither
    same_entry : option_map unplaced_entry (entry_at (journal shard) o.key)
        ≡ option_map unplaced_entry (entry_at (journal whole) o.key)
    same_entry =
        sym (entry_unplaced (journal shard) o.key)
        ∙ ap (λ (es : List Entry). entry_at es o.key) (shard_seen own whole shard is_shard).same
        ∙ entry_unplaced (kept (is_sent own) (journal whole)) o.key
        ∙ ap (option_map unplaced_entry)
        (find_kept (λ (e : Entry). is_sent own e.order) (λ (e : Entry). same_key e.order.key o.key)
        (journal whole) (all_of_map
        (λ (p : Instruction). same_key p.key o.key ≡ true → is_sent own p ≡ true)
        (λ (e : Entry). e.order) (journal whole) there))
      where
        there : AllByRecursion (λ p. same_key p.key o.key ≡ true → is_sent own p ≡ true)
            (map (λ e. e.order) (journal whole))
        there =
            subst (AllByRecursion (λ p. same_key p.key o.key ≡ true → is_sent own p ≡ true))
            (sym (laws.orders whole.accounts whole.orders))
            (all-weaker (λ (p : Instruction). o.key ≡ p.key → is_sent own o ≡ is_sent own p)
            (λ (p : Instruction). same_key p.key o.key ≡ true → is_sent own p ≡ true)
            whole.orders
            (λ p goes same. sym (goes (sym (same_key_is p.key o.key same))) ∙ sent)
            (with_last own whole.orders o go))

    new_same : unplaced (new_answer shard.accounts (journal shard) o)
        ≡ unplaced (new_answer whole.accounts (journal whole) o)
    new_same =
        ap (λ (rows : List Account). unplaced (new_answer rows (journal shard) o)) is_shard.accounts
        ∙ answer_same own (is_sent own) (journal whole) (journal shard)
        (shard_seen own whole shard is_shard) whole.accounts o sent (sent_is_kept own o)

    pub same_answer : unplaced (answer_for shard.accounts (journal shard) o)
        ≡ unplaced (answer_for whole.accounts (journal whole) o)
    same_answer =
        by_found (entry_at (journal shard) o.key) (entry_at (journal whole) o.key) same_entry
      where
        by_found : (f g : Option Entry) → option_map unplaced_entry f ≡ option_map unplaced_entry g
            → unplaced (answer_by shard.accounts (journal shard) o f)
            ≡ unplaced (answer_by whole.accounts (journal whole) o g)
        by_found None None same = new_same
        by_found None (Some e) same = cc
        by_found (Some d) None same = cc
        by_found (Some d) (Some e) same =
            let one : unplaced_entry d ≡ unplaced_entry e = cc in
            unplaced_repeat d o ∙ ap (λ x. repeat_answer x o) one ∙ sym (unplaced_repeat e o)

    pub same_books : IsShard own (books_with whole o) (books_with shard o)
    same_books = record {
      accounts = is_shard.accounts;
      orders =
          ap (λ (os : List Instruction). firsts (os ++ o ∷ [])) is_shard.orders
          ∙ ap firsts (sym (
          filter-append (is_sent own) whole.orders (o ∷ [])
          ∙ ap (λ b. sent_to own whole.orders ++ cond b (o ∷ []) []) sent))
          ∙ firsts_sent own (whole.orders ++ o ∷ []) go;
    }

  -- an order that isn't sent to the shard
  pub others_leave_it : (o : Instruction) → is_sent own o ≡ false → HasDistinctKeys whole.orders
      → IsShard own (books_with whole o) shard
  others_leave_it o off distinct = by_test (is_entered whole.orders o.key) refl
    where
      by_test : (b : Bool) → is_entered whole.orders o.key ≡ b
          → IsShard own (books_with whole o) shard
      by_test true known =
          subst (λ (b : Books). IsShard own b shard) (sym (laws.known whole o distinct known))
          is_shard
      by_test false new =
          subst (λ (b : Books). IsShard own b shard) (sym (laws.last whole o distinct new))
          (record {
            accounts = is_shard.accounts;
            orders =
                is_shard.orders
                ∙ sym (filter-append (is_sent own) whole.orders (o ∷ [])
                ∙ ap (λ b. sent_to own whole.orders ++ cond b (o ∷ []) []) off
                ∙ append-nil (sent_to own whole.orders));
          })

  -- all of these orders, where both have room
  pub handled : (orders : List Instruction) → KeysGoTogether own (whole.orders ++ orders)
      → IsRoomForAll whole orders → IsRoomForAll shard (sent_to own orders)
      → IsShard own (books_after whole orders) (books_after shard (sent_to own orders))
  handled orders go room its_room = record {
    accounts = is_shard.accounts;
    orders =
        take_all shard.limit (firsts (shard.orders ++ sent_to own orders)) its_room
        ∙ ap (λ (os : List Instruction). firsts (os ++ sent_to own orders)) is_shard.orders
        ∙ ap firsts (sym (filter-append (is_sent own) whole.orders orders))
        ∙ firsts_sent own (whole.orders ++ orders) go
        ∙ ap (sent_to own) (sym (take_all whole.limit (firsts (whole.orders ++ orders)) room));
  }

-- ---- lists of orders

module _ (laws : IssuerLaws) (own : AccountNumber → Bool) where
  -- the keys that are left to come, behind the order that came
  go_on : (b : Books) (o : Instruction) (os : List Instruction) → HasDistinctKeys b.orders
      → KeysGoTogether own (b.orders ++ o ∷ os)
      → KeysGoTogether own ((books_with b o).orders ++ os)
  go_on b o os distinct go = by_test (is_entered b.orders o.key) refl
    where
      by_test : (t : Bool) → is_entered b.orders o.key ≡ t
          → KeysGoTogether own ((books_with b o).orders ++ os)
      by_test true known =
          subst (λ (c : Books). KeysGoTogether own (c.orders ++ os))
          (sym (laws.known b o distinct known)) (go_without own b.orders o os go)
      by_test false new =
          subst (λ (c : Books). KeysGoTogether own (c.orders ++ os))
          (sym (laws.last b o distinct new))
          (subst (KeysGoTogether own) (sym (append_assoc b.orders (o ∷ []) os)) go)

  abbrev AreTheSame : Books → Books → List (Result Outcome Refused) → List (Result Outcome Refused)
      → Type 0
  AreTheSame new_whole new_shard results its_results =
      (map unplaced_result its_results ≡ map unplaced_result results)
      × IsShard own new_whole new_shard

  -- one order, and what the whole made of it
  module _ (whole shard : Books) (o : Instruction) (os : List Instruction)
      (is : IsShard own whole shard) (distinct : HasDistinctKeys whole.orders)
      (go : KeysGoTogether own (whole.orders ++ o ∷ os)) where
    distinct_left : (r : Result Outcome Refused)
        → HasDistinctKeys (books_left_by whole o r).orders
    distinct_left (Ok a) = laws.distinct whole o distinct
    distinct_left (Err e) = distinct

    go_left : (r : Result Outcome Refused)
        → KeysGoTogether own ((books_left_by whole o r).orders ++ os)
    go_left (Ok a) = go_on whole o os distinct go
    go_left (Err e) = go_without own whole.orders o os go

    other_left : (r : Result Outcome Refused) → is_sent own o ≡ false
        → IsShard own (books_left_by whole o r) shard
    other_left (Ok a) off = others_leave_it laws own whole shard is o off distinct
    other_left (Err e) off = is

    both_left : (r q : Result Outcome Refused) → is_sent own o ≡ true → is_ok q ≡ is_ok r
        → IsAnswerFor whole o r → IsAnswerFor shard o q
        → (unplaced_result q ≡ unplaced_result r)
        × IsShard own (books_left_by whole o r) (books_left_by shard o q)
    both_left (Ok a) (Ok c) sent same answer its =
        let front = go_front own whole.orders o os go in (
          ap Some (ap unplaced its.0
              ∙ same_answer laws own whole shard is o sent front
              ∙ sym (ap unplaced answer.0)),
          same_books laws own whole shard is o sent front,
        )
    both_left (Ok a) (Err e) sent same answer its = cc
    both_left (Err e) (Ok c) sent same answer its = cc
    both_left (Err d) (Err e) sent same answer its = (refl, is)

  pub runs : (whole shard new_whole new_shard : Books) (orders : List Instruction)
      (results its_results : List (Result Outcome Refused))
      → IsShard own whole shard → HasDistinctKeys whole.orders
      → KeysGoTogether own (whole.orders ++ orders)
      → IsRun whole orders results new_whole
      → IsRun shard (sent_to own orders) its_results new_shard
      → map is_ok its_results ≡ map is_ok (results_in own orders results)
      → AreTheSame new_whole new_shard (results_in own orders results) its_results
  runs whole shard nw ns [] [] [] is distinct go run its same = (
    refl,
    subst (λ (b : Books). IsShard own b ns) (sym run)
        (subst (λ (b : Books). IsShard own whole b) (sym its) is),
  )
  runs whole shard nw ns [] [] (q ∷ qs) is distinct go run its same = absurd its
  runs whole shard nw ns [] (r ∷ rs) its_results is distinct go run its same = absurd run
  runs whole shard nw ns (o ∷ os) [] its_results is distinct go run its same = absurd run
  runs whole shard nw ns (o ∷ os) (r ∷ rs) its_results is distinct go run its same =
      by_test (is_sent own o) refl its_results its same
      (λ s qs now its same. runs (books_left_by whole o r) s nw ns os rs qs now
      (distinct_left whole shard o os is distinct go r)
      (go_left whole shard o os is distinct go r) run.1 its same)
    where
      Behind : Type 0
      Behind =
          (s : Books) (qs : List (Result Outcome Refused))
          → IsShard own (books_left_by whole o r) s → IsRun s (sent_to own os) qs ns
          → map is_ok qs ≡ map is_ok (results_in own os rs)
          → AreTheSame nw ns (results_in own os rs) qs

      by_result : (qs : List (Result Outcome Refused)) → is_sent own o ≡ true
          → IsRun shard (o ∷ sent_to own os) qs ns
          → map is_ok qs ≡ map is_ok (r ∷ results_in own os rs)
          → Behind → AreTheSame nw ns (r ∷ results_in own os rs) qs
      by_result [] sent its same behind = absurd its
      by_result (q ∷ qs) sent its same behind =
          let first : is_ok q ≡ is_ok r = cc in
          let others : map is_ok qs ≡ map is_ok (results_in own os rs) = cc in
          let here = both_left whole shard o os is distinct go r q sent first run.0 its.0 in
          let there = behind (books_left_by shard o q) qs here.1 its.1 others in (
            ap (λ x. x ∷ map unplaced_result qs) here.0
                ∙ ap (λ (xs : List (Option Outcome)). unplaced_result r ∷ xs) there.0,
            there.1,
          )

      by_test : (b : Bool) → is_sent own o ≡ b → (qs : List (Result Outcome Refused))
          → IsRun shard (cond b (o ∷ sent_to own os) (sent_to own os)) qs ns
          → map is_ok qs
          ≡ map is_ok (if b then r ∷ results_in own os rs else results_in own os rs)
          → Behind
          → AreTheSame nw ns (if b then r ∷ results_in own os rs else results_in own os rs) qs
      by_test true sent qs its same behind = by_result qs sent its same behind
      by_test false off qs its same behind =
          behind shard qs (other_left whole shard o os is distinct go r off) its same
