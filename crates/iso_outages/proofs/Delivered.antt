-- Without crashes: the orders that were kept are delivered, and those whose answers are given are delivered once more.
use Rattle.std.proofs.Common.{◌≡◌, ℕ, Bool, true, false, refl, arith, ap, sym, ◌∙◌, subst, List, [], ◌∷◌, ◌++◌, length, append_assoc, append-nil, length-append, inl, inr}
use Rattle.std.specs.Prelude.{None, nat_le, not, ◌&&◌}
use Rattle.std.specs.List.{AllByRecursion}
use Rattle.std.proofs.lemmas.Bool.Decides.{nat_tests}
use Rattle.iso_order.specs.declared.key.TxKey.{TxKey}
use Rattle.iso_order.specs.Order.{Instruction}
use Rattle.iso_order.specs.Outcome.{Outcome}
use Rattle.iso_issuer.specs.declared.account.Account.{Account}
use Rattle.iso_issuer.specs.Journal.{is_entered, HasDistinctKeys}
use Rattle.iso_issuer.specs.Books.{Books, journal, books_with, IsFullFor}
use Rattle.iso_issuer.specs.Decision.{answer_for}
use Rattle.iso_durable.specs.World.{IsStart}
use Rattle.iso_acquirer.specs.declared.event.Event.{Event as Passing}
use Rattle.iso_acquirer.specs.declared.event.Event.TheVariants.{Deliver, Other}
use Rattle.iso_acquirer.specs.declared.event.Given.{Given}
use Rattle.iso_acquirer.specs.Acquirer.{Party}
use Rattle.iso_acquirer.specs.World.{World as BothEnds, IsRan, IsMade}
use Rattle.iso_acquirer.specs.Runs.{IsRun}
use Rattle.iso_acquirer.specs.Runs.{CanHappen as CanPass}
use Rattle.iso_outages.specs.Laws.{IsAmong}
use Rattle.iso_outages.proofs.Lists.{all-join, at-more, at-last}
use Rattle.iso_outages.proofs.Carried.{IssuerLaws, CanBring, IsPromised, Waits}

-- ---- runs

pub run-none : (w : BothEnds) → IsRun w [] 0 w
run-none w = record { can = tt; ran = (refl, refl) }

pub run-first : (a b c : BothEnds) (e : Passing) (es : List Passing) → CanPass e → IsMade a e b → IsRun b es 0 c → IsRun a (e ∷ es) 0 c
run-first a b c e es can made rest = record { can = (can, rest.can); ran = (b, None, 0, made, rest.ran, refl) }

ran-join : (a b c : BothEnds) (es fs : List Passing) (n : ℕ) → IsRan a es n b → IsRan b fs 0 c → IsRan a (es ++ fs) n c
ran-join a b c [] fs n first rest =
    subst (λ (k : ℕ). IsRan a fs k c) (sym first.0) (subst (λ (w : BothEnds). IsRan w fs 0 c) first.1 rest)
ran-join a b c (e ∷ es) fs n (mid, f, m, step, ran, count) rest = (mid, f, m, step, ran-join mid b c es fs m ran rest, count)

pub run-join : (a b c : BothEnds) (es fs : List Passing) → IsRun a es 0 b → IsRun b fs 0 c → IsRun a (es ++ fs) 0 c
run-join a b c es fs first rest = record {
  can = all-join CanPass es fs first.can rest.can;
  ran = ran-join a b c es fs 0 first.ran rest.ran;
}

-- ---- answers that were given stay

abbrev pub Keeps : List Given → List Given → Type 0
Keeps old new = (g : Given) → IsAmong old g → IsAmong new g

pub keeps-more : (old more : List Given) → Keeps old (old ++ more)
keeps-more old more g (inl at) = inl (at.0, at-more old more at.0 g at.1)
keeps-more old more g (inr full) = inr full

module _ (laws : IssuerLaws) (p : Party) (sent : List Instruction) (accounts : List Account) (limit : ℕ) where
  -- the books with these orders
  abbrev books : List Instruction → Books
  books orders = record { accounts = accounts; limit = limit; orders = orders }

  -- both ends with these orders and these answers
  abbrev ends : List Instruction → List Given → BothEnds
  ends orders given = record { acquirer = p; sent = sent; given = given; issuer = books orders }

  abbrev answer : List Instruction → Instruction → Given
  answer orders o = record { key = o.key; answer = answer_for accounts (journal (books orders)) o }

  -- a run that delivers: the answers that were given before it stay
  pub record Delivers (from : List Instruction) (given : List Given) (to : List Instruction) : Type 0 where
    pub events : List Passing
    pub after : List Given
    pub ran : IsRun (ends from given) events 0 (ends to after)
    pub keeps : Keeps given after

  not_full : (orders : List Instruction) (k : TxKey) → nat_le limit (length orders) ≡ false → IsFullFor (books orders) k → ⊥
  not_full orders k room full = go (is_entered orders k) (nat_le limit (length orders)) room full
    where
      go : (known most : Bool) → most ≡ false → (not known && most) ≡ true → ⊥
      go true most e h = cc
      go false true e h = cc
      go false false e h = cc

  not_full_known : (orders : List Instruction) (k : TxKey) → is_entered orders k ≡ true → IsFullFor (books orders) k → ⊥
  not_full_known orders k known full = go (is_entered orders k) known full
    where
      go : (t : Bool) → t ≡ true → (not t && nat_le limit (length orders)) ≡ true → ⊥
      go true e h = cc
      go false e h = cc

  -- a new order is delivered
  one : (orders : List Instruction) (given : List Given) (o : Instruction) → CanBring p.id sent o → HasDistinctKeys orders → is_entered orders o.key ≡ false → nat_le limit (length orders) ≡ false
      → Delivers orders given (orders ++ o ∷ [])
  one orders given o (inl at) distinct new room =
      let g = answer orders o in
      let last : books_with (books orders) o ≡ books (orders ++ o ∷ []) = laws.last (books orders) o distinct new in
      record {
        events = Deliver at.0 ∷ [];
        after = given ++ g ∷ [];
        ran = run-first (ends orders given) (ends (orders ++ o ∷ []) (given ++ g ∷ [])) (ends (orders ++ o ∷ []) (given ++ g ∷ [])) (Deliver at.0) [] tt
            (record {
              order = o;
              found = at.1;
              room = not_full orders o.key room;
              after = ap (λ (b : Books). record { acquirer = p; sent = sent; given = given ++ g ∷ []; issuer = b }) (sym last);
            })
            (run-none (ends (orders ++ o ∷ []) (given ++ g ∷ [])));
        keeps = keeps-more given (g ∷ []);
      }
  one orders given o (inr other) distinct new room =
      let last : books_with (books orders) o ≡ books (orders ++ o ∷ []) = laws.last (books orders) o distinct new in
      record {
        events = Other o ∷ [];
        after = given;
        ran = run-first (ends orders given) (ends (orders ++ o ∷ []) given) (ends (orders ++ o ∷ []) given) (Other o) [] other.1
            (record {
              others_own = other.0;
              room = not_full orders o.key room;
              after = ap (λ (b : Books). record { acquirer = p; sent = sent; given = given; issuer = b }) (sym last);
            })
            (run-none (ends (orders ++ o ∷ []) given));
        keeps = λ g among. among;
      }

  -- orders that were kept are delivered, in their order
  pub deliver-all : (os orders : List Instruction) (given : List Given) → AllByRecursion (CanBring p.id sent) os → IsStart limit (orders ++ os) → Delivers orders given (orders ++ os)
  deliver-all [] orders given can start =
      subst (λ (l : List Instruction). Delivers orders given l) (sym (append-nil orders))
      (record { events = []; after = given; ran = run-none (ends orders given); keeps = λ g among. among })
  deliver-all (o ∷ os) orders given can start =
      let split : orders ++ o ∷ os ≡ (orders ++ o ∷ []) ++ os = sym (append_assoc orders (o ∷ []) os) in
      let front : IsStart limit orders = laws.starts.front limit orders (o ∷ os) start in
      let room : nat_le limit (length orders) ≡ false = grind (arith, nat_tests, start.few, length-append orders (o ∷ os)) in
      let first = one orders given o can.0 front.once (laws.starts.new limit orders os o start) room in
      let rest = deliver-all os (orders ++ o ∷ []) first.after can.1 (subst (IsStart limit) split start) in
      subst (λ (l : List Instruction). Delivers orders given l) (sym split)
      (record {
        events = first.events ++ rest.events;
        after = rest.after;
        ran = run-join (ends orders given) (ends (orders ++ o ∷ []) first.after) (ends ((orders ++ o ∷ []) ++ os) rest.after) first.events rest.events first.ran rest.ran;
        keeps = λ g among. rest.keeps g (first.keeps g among);
      })

  -- ---- answers are given

  -- an order that is entered is delivered again, and gets the promised answer
  again : (orders : List Instruction) (given : List Given) (g : Given) → HasDistinctKeys orders → (h : IsPromised accounts sent orders g)
      → IsRun (ends orders given) (Deliver h.place ∷ []) 0 (ends orders (given ++ g ∷ []))
  again orders given g distinct h =
      let stays : books_with (books orders) h.order ≡ books orders = laws.known (books orders) h.order distinct h.known in
      let told : answer orders h.order ≡ g =
      ap (λ (k : TxKey). record { key = k; answer = answer_for accounts (journal (books orders)) h.order }) (sym h.key)
      ∙ ap (λ (a : Outcome). record { key = g.key; answer = a }) h.same in
      run-first (ends orders given) (ends orders (given ++ g ∷ [])) (ends orders (given ++ g ∷ [])) (Deliver h.place) [] tt
      (record {
        order = h.order;
        found = h.found;
        room = not_full_known orders h.order.key h.known;
        after =
            ap (λ (x : Given). ends orders (given ++ x ∷ [])) (sym told)
            ∙ ap (λ (b : Books). record { acquirer = p; sent = sent; given = given ++ answer orders h.order ∷ []; issuer = b }) (sym stays);
      })
      (run-none (ends orders (given ++ g ∷ [])))

  -- deliveries after which these answers are given too
  pub record Gives (orders : List Instruction) (given gs : List Given) : Type 0 where
    pub delivers : Delivers orders given orders
    pub among : AllByRecursion (IsAmong delivers.after) gs

  pub give-all : (gs : List Given) (orders : List Instruction) (given : List Given) → HasDistinctKeys orders → AllByRecursion (Waits accounts sent orders) gs → Gives orders given gs
  give-all [] orders given distinct waits = record {
    delivers = record { events = []; after = given; ran = run-none (ends orders given); keeps = λ g among. among };
    among = tt;
  }
  give-all (g ∷ gs) orders given distinct waits = by_wait waits.0 (λ from. give-all gs orders from distinct waits.1)
    where
      by_wait : Waits accounts sent orders g → ((from : List Given) → Gives orders from gs) → Gives orders given (g ∷ gs)
      by_wait (inl h) others =
          let rest = others (given ++ g ∷ []) in
          let all = rest.delivers in
          record {
            delivers = record {
              events = Deliver h.place ∷ all.events;
              after = all.after;
              ran = run-join (ends orders given) (ends orders (given ++ g ∷ [])) (ends orders all.after) (Deliver h.place ∷ []) all.events (again orders given g distinct h) all.ran;
              keeps = λ x among. all.keeps x (keeps-more given (g ∷ []) x among);
            };
            among = (all.keeps g (inl (at-last given g)), rest.among);
          }
      by_wait (inr full) others =
          let rest = others given in
          record { delivers = rest.delivers; among = (inr full, rest.among) }
