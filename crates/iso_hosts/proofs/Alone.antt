-- How answers stay where orders follow, and what a host that is alone keeps where an order comes.
use Rattle.std.proofs.Common.{◌≡◌, Bool, true, false, refl, arith, ap, sym, ◌∙◌}
use Rattle.std.proofs.Common.{subst, List, [], ◌∷◌, ◌++◌, length, append_assoc, length-append}
use Rattle.std.specs.Prelude.{Option, Some, None, is_some, nat_le, if◌then◌else◌}
use Rattle.std.specs.List.{AllByRecursion}
use Rattle.iso_order.specs.Order.{Instruction, same_order}
use Rattle.iso_order.specs.Outcome.{code_alone}
use Rattle.iso_issuer.specs.declared.account.Account.{Account}
use Rattle.iso_issuer.specs.declared.journal.Entry.{Entry}
use Rattle.iso_issuer.specs.Books.{Books, journal, books_with}
use Rattle.iso_issuer.specs.Journal.{is_entered, entry_at, HasDistinctKeys}
use Rattle.iso_issuer.specs.Decision.{new_entry, journal_of, answer_for, answer_by}
use Rattle.iso_issuer.specs.Laws.{AnswersAreKept, EnteredHasEntry, JournalsGrow}
use Rattle.iso_issuer.specs.Laws.{NewIsFound, NewComesLast, KeysStayDistinct}
use Rattle.iso_durable.specs.Durable.{entered, books_of, comes}
use Rattle.iso_durable.specs.StartLaws.{StartLaws}
use Rattle.iso_durable.specs.World.{World, Told, Comes, happens, waiting_after, IsAnswered, IsStart}

-- what the laws of the issuer, of the orders and of starts say
pub record IssuerLaws : Type 0 where
  pub kept : AnswersAreKept
  pub has : EnteredHasEntry
  pub grow : JournalsGrow
  pub found : NewIsFound
  pub self : (o : Instruction) → same_order o o ≡ true
  pub one : (o p : Instruction) → same_order o p ≡ true → o ≡ p
  pub last : NewComesLast
  pub distinct : KeysStayDistinct
  pub starts : StartLaws

-- these orders give all these answers
abbrev pub AllAnswered : List Account → List Instruction → List Told → Type 0
AllAnswered accounts orders ts = AllByRecursion (IsAnswered accounts orders) ts

pub all_append : (accounts : List Account) (xs : List Instruction) (ts us : List Told)
    → AllAnswered accounts xs ts → AllAnswered accounts xs us → AllAnswered accounts xs (ts ++ us)
all_append accounts xs [] us h k = k
all_append accounts xs (t ∷ ts) us h k = (h.0, all_append accounts xs ts us h.1 k)

module _ (laws : IssuerLaws) (accounts : List Account) where
  stays_by : (xs ys : List Instruction) (t : Told) (f : Option Entry)
      → entry_at (journal_of accounts xs) t.order.key ≡ f → is_some f ≡ true
      → answer_for accounts (journal_of accounts xs) t.order ≡ t.answer
      → IsAnswered accounts (xs ++ ys) t
  stays_by xs ys t None e h same = cc
  stays_by xs ys t (Some entry) e h same =
      let later = laws.kept accounts xs ys t.order.key entry e in
      record {
        known = laws.has accounts (xs ++ ys) t.order.key ∙ ap is_some later;
        same =
            ap (answer_by accounts (journal_of accounts (xs ++ ys)) t.order) later
            ∙ sym (ap (answer_by accounts (journal_of accounts xs) t.order) e)
            ∙ same;
      }

  -- an answer stays where orders follow
  pub stays : (xs ys : List Instruction) (t : Told)
      → IsAnswered accounts xs t → IsAnswered accounts (xs ++ ys) t
  stays xs ys t h =
      stays_by xs ys t (entry_at (journal_of accounts xs) t.order.key) refl
      (sym (laws.has accounts xs t.order.key) ∙ h.known) h.same

  pub all_stay : (xs ys : List Instruction) (ts : List Told)
      → AllAnswered accounts xs ts → AllAnswered accounts (xs ++ ys) ts
  all_stay xs ys [] h = h
  all_stay xs ys (t ∷ ts) h = (stays xs ys t h.0, all_stay xs ys ts h.1)

  -- a new order is answered once it is there
  new_answered : (xs : List Instruction) (o : Instruction) → is_entered xs o.key ≡ false
      → IsAnswered accounts (xs ++ o ∷ [])
      (record { order = o; answer = answer_for accounts (journal_of accounts xs) o })
  new_answered xs o new =
      let j = journal_of accounts xs in
      let none : entry_at j o.key ≡ None =
      is_none (entry_at j o.key) (sym (laws.has accounts xs o.key) ∙ new) in
      let here : entry_at (journal_of accounts (xs ++ o ∷ [])) o.key
      ≡ Some (new_entry accounts j o) =
      ap (λ (es : List Entry). entry_at es o.key) (laws.grow accounts xs o)
      ∙ laws.found j (new_entry accounts j o) none in
      record {
        known = laws.has accounts (xs ++ o ∷ []) o.key ∙ ap is_some here;
        same =
            ap (answer_by accounts (journal_of accounts (xs ++ o ∷ [])) o) here
            ∙ ap (λ (b : Bool). if b then (new_entry accounts j o).answer else code_alone 94)
            (laws.self o)
            ∙ sym (ap (answer_by accounts j o) none);
      }
    where
      is_none : (f : Option Entry) → is_some f ≡ false → f ≡ None
      is_none None h = refl
      is_none (Some e) h = cc

-- ---- a host that is alone

-- a host can start on its orders, and they give the answers that wait
pub record IsSoundAlone (w : World) : Type 0 where
  pub start : IsStart w.host.limit (entered w.host)
  pub waiting : AllAnswered w.host.accounts (entered w.host) w.waiting

-- the answer that a host makes for an order that comes
abbrev made : World → Instruction → Told
made w o = record {
  order = o;
  answer = answer_for w.host.accounts (journal (books_of w.host)) o;
}

module _ (laws : IssuerLaws) where
  -- by whether the key is known, and whether there is no room
  comes_by : (w : World) (o : Instruction) (known full : Bool)
      → is_entered (entered w.host) o.key ≡ known
      → nat_le w.host.limit (length (entered w.host)) ≡ full
      → IsSoundAlone w → IsSoundAlone (happens w (Comes o))
  comes_by w o true full k f sound =
      let same : comes w.host o ≡ w.host = rw k refl in
      let waits : waiting_after w o ≡ w.waiting ++ made w o ∷ [] = rw k refl in
      let answered : IsAnswered w.host.accounts (entered w.host) (made w o) =
      record { known = k; same = refl } in
      rw (same, waits) (record {
        start = sound.start;
        waiting =
            all_append w.host.accounts (entered w.host) w.waiting _ sound.waiting (answered, tt);
      })
  comes_by w o false true k f sound =
      let same : comes w.host o ≡ w.host = rw (k, f) refl in
      let waits : waiting_after w o ≡ w.waiting = rw (k, f) refl in
      rw (same, waits) (record { start = sound.start; waiting = sound.waiting })
  comes_by w o false false k f sound =
      let accounts = w.host.accounts in
      let os = entered w.host in
      let more : comes w.host o ≡ record {
        accounts = w.host.accounts;
        limit = w.host.limit;
        synced = w.host.synced;
        pending = w.host.pending ++ o ∷ [];
      } = rw (k, f) refl in
      let waits : waiting_after w o ≡ w.waiting ++ made w o ∷ [] = rw (k, f) refl in
      let all : w.host.synced ++ (w.host.pending ++ o ∷ []) ≡ os ++ o ∷ [] =
      sym (append_assoc w.host.synced w.host.pending (o ∷ [])) in
      let last : books_with (books_of w.host) o ≡ record {
        accounts = w.host.accounts;
        limit = w.host.limit;
        orders = os ++ o ∷ [];
      } = laws.last (books_of w.host) o sound.start.once k in
      let once : HasDistinctKeys (os ++ o ∷ []) =
      subst (λ (b : Books). HasDistinctKeys b.orders) last
      (laws.distinct (books_of w.host) o sound.start.once) in
      rw (more, waits) (record {
        start = rw all (record {
          once = once;
          few = grind (arith, f, length-append os (o ∷ []));
        });
        waiting = rw all (all_append accounts (os ++ o ∷ []) w.waiting _
            (all_stay laws accounts os (o ∷ []) w.waiting sound.waiting)
            (new_answered laws accounts os o k, tt));
      })

  -- an order comes
  pub comes_sound : (w : World) (o : Instruction)
      → IsSoundAlone w → IsSoundAlone (happens w (Comes o))
  comes_sound w o sound =
      comes_by w o (is_entered (entered w.host) o.key)
      (nat_le w.host.limit (length (entered w.host))) refl refl sound
