-- What was handed out stands: each answer is one that a run of the issuer over its log has told.
use Rattle.std.proofs.Common.{◌≡◌, ◌∙◌, ◌++◌, ◌⊎◌, inl, inr, ℕ, Bool, true, false, refl, sym, ap, subst, List, [], ◌∷◌, length}
use Rattle.std.specs.Prelude.{Option, Some, None, option_map, nat_le, not, ◌&&◌, if◌then◌else◌}
use Rattle.std.specs.List.{AllByRecursion}
use Rattle.iso_table.specs.Layout.{Layout}
use Rattle.iso_wire.specs.declared.header.Header.{Header}
use Rattle.iso_wire.specs.Contents.{Contents}
use Rattle.iso_order.specs.declared.verdict.Verdict.{Verdict}
use Rattle.iso_order.specs.declared.verdict.Verdict.TheVariants as asks
use Rattle.iso_order.specs.Verdict.{verdict}
use Rattle.iso_order.specs.Order.{Instruction}
use Rattle.iso_order.specs.Outcome.{Outcome, code_alone}
use Rattle.iso_issuer.specs.declared.account.Account.{Account}
use Rattle.iso_issuer.specs.Books.{Books, is_full, journal}
use Rattle.iso_issuer.specs.Journal.{is_entered}
use Rattle.iso_issuer.specs.Decision.{answer_for}
use Rattle.iso_durable.specs.Durable.{Durable, books_of, comes, come_all, syncs, crashes}
use Rattle.iso_durable.specs.World.{World, Told, Event, happens, run, begins, IsAnswered, ToldOutlive}
use Rattle.iso_durable.specs.World as runs
use Rattle.iso_host.specs.Asking.{asked_of, message_in, orders_in}
use Rattle.iso_host.specs.Output.{IsAnswer, IsAnswerTo, IsFramed, outcome_for, outcome_of, response_with}
use Rattle.iso_peers.specs.World.{Reply, Serving, Step, Answers, Enters, Keeps, Crashes, goes, goes_on, IsMade, AreMade, starts, disk_of, response_as, IsOfFull, IsStanding, HandedOutStands}

-- ---- members of a list

abbrev among : Told → List Told → Type 0
among t [] = ⊥
among t (u ∷ us) = (u ≡ t) ⊎ among t us

among_front : (t : Told) (xs ys : List Told) → among t xs → among t (xs ++ ys)
among_front t [] ys h = absurd h
among_front t (x ∷ xs) ys (inl is) = inl is
among_front t (x ∷ xs) ys (inr rest) = inr (among_front t xs ys rest)

among_back : (t : Told) (xs ys : List Told) → among t ys → among t (xs ++ ys)
among_back t [] ys h = h
among_back t (x ∷ xs) ys h = inr (among_back t xs ys h)

among_all : (P : Told → Type 0) (ts : List Told) → AllByRecursion P ts → (t : Told) → among t ts → P t
among_all P [] all t h = absurd h
among_all P (u ∷ us) all t (inl is) = subst P is all.0
among_all P (u ∷ us) all t (inr rest) = among_all P us all.1 t rest

all_map : (P Q : Reply → Type 0) → ((r : Reply) → P r → Q r) → (rs : List Reply) → AllByRecursion P rs → AllByRecursion Q rs
all_map P Q f [] all = all
all_map P Q f (r ∷ rs) all = (f r all.0, all_map P Q f rs all.1)

all_append : (P : Reply → Type 0) (rs ss : List Reply) → AllByRecursion P rs → AllByRecursion P ss → AllByRecursion P (rs ++ ss)
all_append P [] ss all more = more
all_append P (r ∷ rs) ss all more = (all.0, all_append P rs ss all.1 more)

-- ---- an answer, and what was told

-- the bytes are the response with the answer of one of these, or of a full journal
record OfTold (P : Told → Type 0) (t : Layout) (h : Header) (message : Option Contents) (bytes : List ℕ) (o : Instruction) : Type 0 where
  told : Told
  order : told.order ≡ o
  holds : P told
  framed : IsFramed t h (response_as message told.answer) bytes

-- by what the message asks: an order is told, and the answer to anything else is the same at all books
abbrev Tells : (Told → Type 0) → Layout → Header → Option Contents → List ℕ → Option Verdict → Type 0
Tells P t h message bytes (Some (asks.Order o)) = OfTold P t h message bytes o ⊎ IsFramed t h (response_as message (code_alone 96)) bytes
Tells P t h message bytes (Some (asks.Reply code)) = (b : Books) → IsAnswerTo t h b message bytes
Tells P t h message bytes (Some asks.Silent) = (b : Books) → IsAnswerTo t h b message bytes
Tells P t h message bytes None = (b : Books) → IsAnswerTo t h b message bytes

-- the reply is one of what was told
abbrev By : (Told → Type 0) → Reply → Type 0
By P r = Tells P r.link.table r.link.header (message_in r.link.table r.body) r.bytes (asked_of r.link.table r.body)

tells_map : (P Q : Told → Type 0) → ((t : Told) → P t → Q t) → (t : Layout) (h : Header) (message : Option Contents) (bytes : List ℕ) (v : Option Verdict) → Tells P t h message bytes v → Tells Q t h message bytes v
tells_map P Q f t h message bytes (Some (asks.Order o)) (inl of) = inl (record { told = of.told; order = of.order; holds = f of.told of.holds; framed = of.framed })
tells_map P Q f t h message bytes (Some (asks.Order o)) (inr full) = inr full
tells_map P Q f t h message bytes (Some (asks.Reply code)) same = same
tells_map P Q f t h message bytes (Some asks.Silent) same = same
tells_map P Q f t h message bytes None same = same

by_map : (P Q : Told → Type 0) → ((t : Told) → P t → Q t) → (r : Reply) → By P r → By Q r
by_map P Q f r by = tells_map P Q f r.link.table r.link.header (message_in r.link.table r.body) r.bytes (asked_of r.link.table r.body) by

-- ---- a body comes

-- what is told of an order that comes
abbrev told_of : Durable → Instruction → Told
told_of d o = record { order = o; answer = answer_for d.accounts (journal (books_of d)) o }

-- the events of a body
abbrev events_of : List Instruction → List Event
events_of [] = []
events_of (o ∷ os) = runs.Comes o ∷ events_of os

run_append : (es fs : List Event) (w : World) → run (es ++ fs) w ≡ run fs (run es w)
run_append [] fs w = refl
run_append (e ∷ es) fs w = run_append es fs (happens w e)

events_host : (os : List Instruction) (w : World) → (run (events_of os) w).host ≡ come_all w.host os
events_host [] w = refl
events_host (o ∷ os) w = events_host os (happens w (runs.Comes o))

events_told : (os : List Instruction) (w : World) → (run (events_of os) w).told ≡ w.told
events_told [] w = refl
events_told (o ∷ os) w = events_told os (happens w (runs.Comes o))

waits_by : (w : World) (o : Instruction) (full : Bool) (t : Told) → among t w.waiting → among t (if full then w.waiting else w.waiting ++ told_of w.host o ∷ [])
waits_by w o true t h = h
waits_by w o false t h = among_front t w.waiting (told_of w.host o ∷ []) h

events_waiting : (os : List Instruction) (w : World) (t : Told) → among t w.waiting → among t (run (events_of os) w).waiting
events_waiting [] w t h = h
events_waiting (o ∷ os) w t h = events_waiting os (happens w (runs.Comes o)) t (waits_by w o (is_full (books_of w.host) o.key) t h)

-- the answer to an order that comes waits, or the journal is full
order_by : (w : World) (t : Layout) (h : Header) (message : Option Contents) (bytes : List ℕ) (o : Instruction) (full : Bool)
    → IsFramed t h (response_as message (if full then code_alone 96 else answer_for w.host.accounts (journal (books_of w.host)) o)) bytes
    → Tells (λ u. among u (if full then w.waiting else w.waiting ++ told_of w.host o ∷ [])) t h message bytes (Some (asks.Order o))
order_by w t h message bytes o true framed = inr framed
order_by w t h message bytes o false framed =
    inl (record { told = told_of w.host o; order = refl; holds = among_back (told_of w.host o) w.waiting (told_of w.host o ∷ []) (inl refl); framed = framed })

by_verdict : (w : World) (t : Layout) (h : Header) (m : Contents) (bytes : List ℕ) (v : Verdict) → verdict m ≡ v → IsFramed t h (response_with m (outcome_of (books_of w.host) v)) bytes
    → Tells (λ u. among u (run (events_of (orders_in (Some v))) w).waiting) t h (Some m) bytes (Some v)
unfolding IsAnswerTo
by_verdict w t h m bytes (asks.Order o) is framed = order_by w t h (Some m) bytes o (is_full (books_of w.host) o.key) framed
by_verdict w t h m bytes (asks.Reply code) is framed = λ b. subst (λ (v : Verdict). IsFramed t h (response_with m (outcome_of b v)) bytes) (sym is) framed
by_verdict w t h m bytes asks.Silent is framed = λ b. subst (λ (v : Verdict). IsFramed t h (response_with m (outcome_of b v)) bytes) (sym is) framed

by_message : (w : World) (t : Layout) (h : Header) (message : Option Contents) (bytes : List ℕ) → IsAnswerTo t h (books_of w.host) message bytes
    → Tells (λ u. among u (run (events_of (orders_in (option_map verdict message))) w).waiting) t h message bytes (option_map verdict message)
unfolding IsAnswerTo
by_message w t h None bytes answer = λ b. answer
by_message w t h (Some m) bytes answer = by_verdict w t h m bytes (verdict m) refl answer

-- ---- a run of the host is one of the issuer over its log

record Follows (s : Serving) (w : World) : Type 0 where
  host : w.host ≡ s.host
  waiting : AllByRecursion (By (λ t. among t w.waiting)) s.waiting
  handed : AllByRecursion (By (λ t. among t w.told)) s.handed

abbrev events_at : Step → List Event
events_at (Answers r) = events_of (orders_in (asked_of r.link.table r.body))
events_at (Enters link body) = events_of (orders_in (asked_of link.table body))
events_at Keeps = runs.Syncs ∷ []
events_at (Crashes n) = runs.Crashes n ∷ []

follows_body : (s : Serving) (w : World) (os : List Instruction) → Follows s w
    → Follows (record { host = come_all s.host os; waiting = s.waiting; handed = s.handed }) (run (events_of os) w)
follows_body s w os f = record {
  host = events_host os w ∙ ap (λ (d : Durable). come_all d os) f.host;
  waiting = all_map _ _ (by_map _ _ (events_waiting os w)) s.waiting f.waiting;
  handed = subst (λ (ts : List Told). AllByRecursion (By (λ t. among t ts)) s.handed) (sym (events_told os w)) f.handed;
}

follows_step : (s : Serving) (w : World) (step : Step) → IsMade s.host step → Follows s w → Follows (goes s step) (run (events_at step) w)
follows_step s w (Answers r) made f =
    let os = orders_in (asked_of r.link.table r.body) in
    let rest = follows_body s w os f in
    let here : IsAnswer r.link.table r.link.header (books_of w.host) r.body r.bytes = subst (λ (d : Durable). IsAnswer r.link.table r.link.header (books_of d) r.body r.bytes) (sym f.host) made in
    record {
      host = rest.host;
      waiting = all_append _ s.waiting (r ∷ []) rest.waiting (by_message w r.link.table r.link.header (message_in r.link.table r.body) r.bytes here, tt);
      handed = rest.handed;
    }
follows_step s w (Enters link body) made f = follows_body s w (orders_in (asked_of link.table body)) f
follows_step s w Keeps made f = record {
  host = ap syncs f.host;
  waiting = tt;
  handed = all_append _ s.handed s.waiting (all_map _ _ (by_map _ _ (λ t h. among_front t w.told w.waiting h)) s.handed f.handed)
      (all_map _ _ (by_map _ _ (λ t h. among_back t w.told w.waiting h)) s.waiting f.waiting);
}
follows_step s w (Crashes n) made f = record { host = ap (crashes n) f.host; waiting = tt; handed = f.handed }

abbrev events_on : List Step → List Event
events_on [] = []
events_on (step ∷ steps) = events_at step ++ events_on steps

follows : (steps : List Step) (s : Serving) (w : World) → AreMade steps s → Follows s w → Follows (goes_on steps s) (run (events_on steps) w)
follows [] s w made f = f
follows (step ∷ steps) s w made f =
    subst (Follows (goes_on steps (goes s step))) (sym (run_append (events_at step) (events_on steps) w))
    (follows steps (goes s step) (run (events_at step) w) made.1 (follows_step s w step made.0 f))

-- ---- what was told outlives each crash

stands_by : (b : Books) (t : Layout) (h : Header) (m : Contents) (bytes : List ℕ) (o : Instruction) → verdict m ≡ asks.Order o → is_entered b.orders o.key ≡ true
    → IsFramed t h (response_as (Some m) (answer_for b.accounts (journal b) o)) bytes → IsAnswerTo t h b (Some m) bytes
unfolding IsAnswerTo
stands_by b t h m bytes o is known framed =
    let full : is_full b o.key ≡ false = ap (λ (e : Bool). not e && nat_le b.limit (length b.orders)) known in
    let same : outcome_for b o ≡ answer_for b.accounts (journal b) o = ap (λ (e : Bool). if e then code_alone 96 else answer_for b.accounts (journal b) o) full in
    subst (λ (v : Verdict). IsFramed t h (response_with m (outcome_of b v)) bytes) (sym is)
    (subst (λ (a : Outcome). IsFramed t h (response_with m (Some a)) bytes) (sym same) framed)

false_true : false ≡ true → ⊥
false_true h = cc

abbrev is_order : Option Verdict → Bool
is_order (Some (asks.Order o)) = true
is_order (Some (asks.Reply code)) = false
is_order (Some asks.Silent) = false
is_order None = false

abbrev order_or : Instruction → Option Verdict → Instruction
order_or other (Some (asks.Order o)) = o
order_or other (Some (asks.Reply code)) = other
order_or other (Some asks.Silent) = other
order_or other None = other

-- the order is entered, and the answer is the same; or it is the one of a full journal
abbrev Stands : Books → Layout → Header → Option Contents → List ℕ → Type 0
Stands b t h message bytes =
    (((o : Instruction) → option_map verdict message ≡ Some (asks.Order o) → is_entered b.orders o.key ≡ true) × IsAnswerTo t h b message bytes)
    ⊎ IsFramed t h (response_as message (code_alone 96)) bytes

stands_verdict : (b : Books) (t : Layout) (h : Header) (m : Contents) (bytes : List ℕ) (v : Verdict) → verdict m ≡ v → Tells (IsAnswered b.accounts b.orders) t h (Some m) bytes (Some v) → Stands b t h (Some m) bytes
stands_verdict b t h m bytes (asks.Order o) is (inl of) =
    let known : is_entered b.orders o.key ≡ true = subst (λ (p : Instruction). is_entered b.orders p.key ≡ true) of.order of.holds.known in
    let answer : of.told.answer ≡ answer_for b.accounts (journal b) o = sym of.holds.same ∙ ap (λ (p : Instruction). answer_for b.accounts (journal b) p) of.order in
    let framed = subst (λ (a : Outcome). IsFramed t h (response_as (Some m) a) bytes) answer of.framed in
    inl (
      λ p asked. subst (λ (q : Instruction). is_entered b.orders q.key ≡ true) (ap (order_or p) (ap Some (sym is) ∙ asked)) known,
      stands_by b t h m bytes o is known framed,
    )
stands_verdict b t h m bytes (asks.Order o) is (inr full) = inr full
stands_verdict b t h m bytes (asks.Reply code) is same =
    inl (λ p asked. absurd (false_true (ap is_order (ap Some (sym is) ∙ asked))), same b)
stands_verdict b t h m bytes asks.Silent is same =
    inl (λ p asked. absurd (false_true (ap is_order (ap Some (sym is) ∙ asked))), same b)

stands_message : (b : Books) (t : Layout) (h : Header) (message : Option Contents) (bytes : List ℕ) → Tells (IsAnswered b.accounts b.orders) t h message bytes (option_map verdict message) → Stands b t h message bytes
stands_message b t h None bytes same = inl (λ p asked. absurd (false_true (ap is_order asked)), same b)
stands_message b t h (Some m) bytes tells = stands_verdict b t h m bytes (verdict m) refl tells

stands : (d : Durable) (r : Reply) → By (IsAnswered d.accounts d.synced) r → IsStanding (disk_of d) r ⊎ IsOfFull r
stands d r by = as_reply (stands_message (disk_of d) r.link.table r.link.header (message_in r.link.table r.body) r.bytes by)
  where
    as_reply : Stands (disk_of d) r.link.table r.link.header (message_in r.link.table r.body) r.bytes → IsStanding (disk_of d) r ⊎ IsOfFull r
    as_reply (inl is) = inl (record { entered = is.0; same = is.1 })
    as_reply (inr full) = inr full

same_accounts : (steps : List Step) (s : Serving) → (goes_on steps s).host.accounts ≡ s.host.accounts
same_accounts [] s = refl
same_accounts (step ∷ steps) s = same_accounts steps (goes s step) ∙ by_step step
  where
    came : (d : Durable) (os : List Instruction) → (come_all d os).accounts ≡ d.accounts
    came d [] = refl
    came d (o ∷ os) = came (comes d o) os

    by_step : (x : Step) → (goes s x).host.accounts ≡ s.host.accounts
    by_step (Answers r) = came s.host (orders_in (asked_of r.link.table r.body))
    by_step (Enters link body) = came s.host (orders_in (asked_of link.table body))
    by_step Keeps = refl
    by_step (Crashes n) = refl

pub handed_stands : ToldOutlive → HandedOutStands
handed_stands law accounts limit orders steps start made =
    let w = run (events_on steps) (begins accounts limit orders) in
    let end = goes_on steps (starts accounts limit orders) in
    let f : Follows end w = follows steps (starts accounts limit orders) (begins accounts limit orders) made (record { host = refl; waiting = tt; handed = tt }) in
    let told : AllByRecursion (IsAnswered accounts w.host.synced) w.told = law accounts limit orders (events_on steps) start in
    let kept : AllByRecursion (IsAnswered end.host.accounts end.host.synced) w.told =
    subst (λ (d : Durable). AllByRecursion (IsAnswered end.host.accounts d.synced) w.told) f.host
    (subst (λ (a : List Account). AllByRecursion (IsAnswered a w.host.synced) w.told) (sym (same_accounts steps (starts accounts limit orders))) told) in
    all_map _ _ (λ r by. stands end.host r (by_map _ _ (among_all (IsAnswered end.host.accounts end.host.synced) w.told kept) r by)) end.handed f.handed
