-- What holds of a host's orders and of the answers that wait, and how it goes on to hold when an order comes.
use Rattle.std.proofs.Common.{◌≡◌, ◌≢◌, ◌⊎◌, ℕ, Bool, true, false, refl, arith, ap, sym, ◌∙◌, subst, List, [], ◌∷◌, ◌++◌, length, append_assoc, length-append, inl, inr}
use Rattle.std.specs.Prelude.{Option, Some, None, is_some, nat_le, slice_get, if◌then◌else◌}
use Rattle.std.specs.List.{AllByRecursion}
use Rattle.iso_order.specs.Order.{Instruction, is_valid, same_order}
use Rattle.iso_order.specs.Outcome.{Outcome, code_alone}
use Rattle.iso_issuer.specs.declared.account.Account.{Account}
use Rattle.iso_issuer.specs.declared.journal.Entry.{Entry}
use Rattle.iso_issuer.specs.Journal.{is_entered, entry_at, HasDistinctKeys}
use Rattle.iso_issuer.specs.Books.{Books, journal, books_with}
use Rattle.iso_issuer.specs.Decision.{new_entry, journal_of, answer_for, answer_by}
use Rattle.iso_issuer.specs.Laws.{AnswersAreKept, EnteredHasEntry, JournalsGrow, NewIsFound, NewComesLast, KeysStayDistinct, KnownChangesNothing}
use Rattle.iso_durable.specs.Durable.{Durable, entered, books_of, comes, outcome}
use Rattle.iso_durable.specs.StartLaws.{StartLaws}
use Rattle.iso_durable.specs.World.{IsStart}
use Rattle.iso_acquirer.specs.declared.event.Given.{Given}
use Rattle.iso_outages.proofs.Lists.{all-weaker, all-join, at-more}

-- what the laws of the issuer and of starts say
pub record IssuerLaws : Type 0 where
  pub kept : AnswersAreKept
  pub has : EnteredHasEntry
  pub grow : JournalsGrow
  pub found : NewIsFound
  pub self : (o : Instruction) → same_order o o ≡ true
  pub known : KnownChangesNothing
  pub last : NewComesLast
  pub distinct : KeysStayDistinct
  pub starts : StartLaws

-- an order that can be delivered: the acquirer sent it, or it is a valid one of others
abbrev pub CanBring : ℕ → List Instruction → Instruction → Type 0
CanBring id sent o = ((place : ℕ) × (slice_get sent place ≡ Some o)) ⊎ ((o.key.acquirer ≢ id) × (is_valid o ≡ true))

-- the orders give the answer to one that was sent
pub record IsPromised (accounts : List Account) (sent orders : List Instruction) (g : Given) : Type 0 where
  pub order : Instruction
  pub place : ℕ
  pub found : slice_get sent place ≡ Some order
  pub key : g.key ≡ order.key
  pub known : is_entered orders order.key ≡ true
  pub same : answer_for accounts (journal_of accounts orders) order ≡ g.answer

-- an answer that waits is promised, or is a 96
abbrev pub Waits : List Account → List Instruction → List Instruction → Given → Type 0
Waits accounts sent orders g = IsPromised accounts sent orders g ⊎ (g.answer.code ≡ 96)

pub record IsCarried (id : ℕ) (sent : List Instruction) (d : Durable) (waiting : List Given) : Type 0 where
  pub bring : AllByRecursion (CanBring id sent) d.pending
  pub waits : AllByRecursion (Waits d.accounts sent (entered d)) waiting
  pub start : IsStart d.limit (entered d)

-- ---- the acquirer sends more

bring-more : (id : ℕ) (sent more : List Instruction) (o : Instruction) → CanBring id sent o → CanBring id (sent ++ more) o
bring-more id sent more o (inl at) = inl (at.0, at-more sent more at.0 o at.1)
bring-more id sent more o (inr other) = inr other

waits-more : (accounts : List Account) (sent more orders : List Instruction) (g : Given) → Waits accounts sent orders g → Waits accounts (sent ++ more) orders g
waits-more accounts sent more orders g (inl p) = inl (record {
  order = p.order;
  place = p.place;
  found = at-more sent more p.place p.order p.found;
  key = p.key;
  known = p.known;
  same = p.same;
})
waits-more accounts sent more orders g (inr full) = inr full

pub carried-more : (id : ℕ) (sent more : List Instruction) (d : Durable) (waiting : List Given) → IsCarried id sent d waiting → IsCarried id (sent ++ more) d waiting
carried-more id sent more d waiting h = record {
  bring = all-weaker (CanBring id sent) (CanBring id (sent ++ more)) d.pending (bring-more id sent more) h.bring;
  waits = all-weaker (Waits d.accounts sent (entered d)) (Waits d.accounts (sent ++ more) (entered d)) waiting (waits-more d.accounts sent more (entered d)) h.waits;
  start = h.start;
}

-- ---- an order comes

module _ (laws : IssuerLaws) (accounts : List Account) (sent : List Instruction) where
  -- a promised answer stays where orders follow
  stays_by : (xs ys : List Instruction) (g : Given) (p : IsPromised accounts sent xs g) (f : Option Entry) → entry_at (journal_of accounts xs) p.order.key ≡ f → is_some f ≡ true
      → IsPromised accounts sent (xs ++ ys) g
  stays_by xs ys g p None e h = cc
  stays_by xs ys g p (Some entry) e h =
      let later = laws.kept accounts xs ys p.order.key entry e in
      record {
        order = p.order;
        place = p.place;
        found = p.found;
        key = p.key;
        known = laws.has accounts (xs ++ ys) p.order.key ∙ ap is_some later;
        same =
            ap (answer_by accounts (journal_of accounts (xs ++ ys)) p.order) later ∙ sym (ap (answer_by accounts (journal_of accounts xs) p.order) e) ∙ p.same;
      }

  waits-on : (xs ys : List Instruction) (g : Given) → Waits accounts sent xs g → Waits accounts sent (xs ++ ys) g
  waits-on xs ys g (inl p) = inl (stays_by xs ys g p (entry_at (journal_of accounts xs) p.order.key) refl (sym (laws.has accounts xs p.order.key) ∙ p.known))
  waits-on xs ys g (inr full) = inr full

  -- a new order is promised its answer once it is there
  new-promised : (xs : List Instruction) (o : Instruction) (place : ℕ) → slice_get sent place ≡ Some o → is_entered xs o.key ≡ false
      → IsPromised accounts sent (xs ++ o ∷ []) (record { key = o.key; answer = answer_for accounts (journal_of accounts xs) o })
  new-promised xs o place at new =
      let j = journal_of accounts xs in
      let none : entry_at j o.key ≡ None = is_none (entry_at j o.key) (sym (laws.has accounts xs o.key) ∙ new) in
      let here : entry_at (journal_of accounts (xs ++ o ∷ [])) o.key ≡ Some (new_entry accounts j o) =
      ap (λ (es : List Entry). entry_at es o.key) (laws.grow accounts xs o) ∙ laws.found j (new_entry accounts j o) none in
      record {
        order = o;
        place = place;
        found = at;
        key = refl;
        known = laws.has accounts (xs ++ o ∷ []) o.key ∙ ap is_some here;
        same =
            ap (answer_by accounts (journal_of accounts (xs ++ o ∷ [])) o) here
            ∙ ap (λ (b : Bool). if b then (new_entry accounts j o).answer else code_alone 94) (laws.self o)
            ∙ sym (ap (answer_by accounts j o) none);
      }
    where
      is_none : (f : Option Entry) → is_some f ≡ false → f ≡ None
      is_none None h = refl
      is_none (Some e) h = cc

module _ (laws : IssuerLaws) (id : ℕ) (sent : List Instruction) (d : Durable) (waiting : List Given) (h : IsCarried id sent d waiting) (o : Instruction) where
  -- the host with a new order behind the others
  abbrev with-new : Durable
  with-new = record { accounts = d.accounts; limit = d.limit; synced = d.synced; pending = d.pending ++ o ∷ [] }

  all-orders : entered with-new ≡ entered d ++ o ∷ []
  all-orders = sym (append_assoc d.synced d.pending (o ∷ []))

  carried-new : CanBring id sent o → is_entered (entered d) o.key ≡ false → nat_le d.limit (length (entered d)) ≡ false → IsCarried id sent with-new waiting
  carried-new can new room =
      let os = entered d in
      let last : books_with (books_of d) o ≡ record { accounts = d.accounts; limit = d.limit; orders = os ++ o ∷ [] } = laws.last (books_of d) o h.start.once new in
      let once : HasDistinctKeys (os ++ o ∷ []) = subst (λ (b : Books). HasDistinctKeys b.orders) last (laws.distinct (books_of d) o h.start.once) in
      record {
        bring = all-join (CanBring id sent) d.pending (o ∷ []) h.bring (can, tt);
        waits = rw all-orders (all-weaker (Waits d.accounts sent os) (Waits d.accounts sent (os ++ o ∷ [])) waiting (waits-on laws d.accounts sent os (o ∷ [])) h.waits);
        start = rw all-orders (record { once = once; few = grind (arith, room, length-append os (o ∷ [])) });
      }

  -- whether its key is known, and whether there is room
  comes_by : CanBring id sent o → (known full : Bool) → is_entered (entered d) o.key ≡ known → nat_le d.limit (length (entered d)) ≡ full → IsCarried id sent (comes d o) waiting
  comes_by can true full k f = let same : comes d o ≡ d = rw k refl in rw same h
  comes_by can false true k f = let same : comes d o ≡ d = rw (k, f) refl in rw same h
  comes_by can false false k f = let more : comes d o ≡ with-new = rw (k, f) refl in rw more (carried-new can k f)

  -- an order comes
  pub carried-comes : CanBring id sent o → IsCarried id sent (comes d o) waiting
  carried-comes can = comes_by can (is_entered (entered d) o.key) (nat_le d.limit (length (entered d))) refl refl

  abbrev answered : Given
  answered = record { key = o.key; answer = outcome d o }

  waits_at : (new : Durable) (a : Outcome) → comes d o ≡ new → outcome d o ≡ a → Waits d.accounts sent (entered new) (record { key = o.key; answer = a }) → Waits d.accounts sent (entered (comes d o)) answered
  waits_at new a same told waits =
      subst (λ (x : Durable). Waits d.accounts sent (entered x) answered) (sym same)
      (subst (λ (y : Outcome). Waits d.accounts sent (entered new) (record { key = o.key; answer = y })) (sym told) waits)

  -- by the same two tests, the answer to one that the acquirer sent
  waits_by : (place : ℕ) → slice_get sent place ≡ Some o → (known full : Bool) → is_entered (entered d) o.key ≡ known → nat_le d.limit (length (entered d)) ≡ full
      → Waits d.accounts sent (entered (comes d o)) answered
  waits_by place at true full k f =
      waits_at d (answer_for d.accounts (journal (books_of d)) o) (rw k refl) (rw k refl)
      (inl (record { order = o; place = place; found = at; key = refl; known = k; same = refl }))
  waits_by place at false true k f = waits_at d (code_alone 96) (rw (k, f) refl) (rw (k, f) refl) (inr refl)
  waits_by place at false false k f =
      waits_at with-new (answer_for d.accounts (journal (books_of d)) o) (rw (k, f) refl) (rw (k, f) refl)
      (rw all-orders (inl (new-promised laws d.accounts sent (entered d) o place at k)))

  pub carried-answered : (place : ℕ) → slice_get sent place ≡ Some o → IsCarried id sent (comes d o) (waiting ++ answered ∷ [])
  carried-answered place at =
      let came = carried-comes (inl (place, at)) in
      record {
        bring = came.bring;
        waits = all-join (Waits d.accounts sent (entered (comes d o))) waiting (answered ∷ []) came.waits
            (waits_by place at (is_entered (entered d) o.key) (nat_le d.limit (length (entered d))) refl refl, tt);
        start = came.start;
      }
