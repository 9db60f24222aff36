-- The answers of a call are told in its run.
use Rattle.std.proofs.Common.{◌≡◌, ◌⊎◌, inl, inr, ℕ, suc, Bool, true, false, refl}
use Rattle.std.proofs.Common.{ap, sym, ◌∙◌, subst, List, [], ◌∷◌, ◌++◌, length}
use Rattle.std.specs.Prelude.{None, if◌then◌else◌}
use Rattle.iso_order.specs.Order.{Instruction}
use Rattle.iso_order.specs.Outcome.{Outcome, code_alone}
use Rattle.iso_issuer.specs.Journal.{is_entered}
use Rattle.iso_issuer.specs.Books.{is_full, journal}
use Rattle.iso_issuer.specs.Decision.{answer_for}
use Rattle.iso_durable.specs.Durable.{Durable, books_of, entered, outcome, outcomes}
use Rattle.iso_durable.specs.World.{World as Alone, Told, waiting_after, IsAnswered}
use Rattle.iso_hosts.specs.World.{World, Host, Event, seen_by, doubted, alone, host_at, with_host}
use Rattle.iso_hosts.specs.World.{known_answer, decides, receives, to_send, after_events}
use Rattle.iso_hosts.specs.Laws.{syncing, IsAmong, AreTold}
use Rattle.iso_hosts.proofs.Lists.{at-more, get-last}
use Rattle.iso_hosts.proofs.Alone.{IssuerLaws, stays}
use Rattle.iso_hosts.proofs.Batches.{self_same}
use Rattle.iso_hosts.proofs.Calls.{sync_succeeds, Received, received, same_syncing}

-- ---- what is among answers

among_front : (ts us : List Told) (t : Told) → IsAmong ts t → IsAmong (ts ++ us) t
among_front ts us t at = (at.0, at-more ts us at.0 t at.1)

among_back : (ts us : List Told) (t : Told) → IsAmong us t → IsAmong (ts ++ us) t
among_back [] us t at = at
among_back (x ∷ ts) us t at = let rest = among_back ts us t at in (suc rest.0, rest.1)

among_last : (ts : List Told) (t : Told) → IsAmong (ts ++ t ∷ []) t
among_last ts t = (length ts, get-last ts t)

-- ---- a host that is alone

-- what waits goes on to wait
waits_more : (a : Alone) (o : Instruction) (t : Told) → IsAmong a.waiting t
    → IsAmong (waiting_after a o) t
waits_more a o t at = by_test (is_full (books_of a.host) o.key)
  where
    new : Told
    new = record { order = o; answer = answer_for a.host.accounts (journal (books_of a.host)) o }

    by_test : (full : Bool) → IsAmong (if full then a.waiting else a.waiting ++ new ∷ []) t
    by_test true = at
    by_test false = among_front a.waiting (new ∷ []) t at

-- the answer to an order that comes waits, or is a 96
new_waits : (a : Alone) (o : Instruction)
    → IsAmong (waiting_after a o) (record { order = o; answer = outcome a.host o })
    ⊎ ((outcome a.host o).code ≡ 96)
new_waits a o = by_test (is_full (books_of a.host) o.key)
  where
    made : Outcome
    made = answer_for a.host.accounts (journal (books_of a.host)) o

    by_test : (full : Bool)
        → IsAmong
        (if full then a.waiting else a.waiting ++ record { order = o; answer = made } ∷ [])
        (record { order = o; answer = if full then code_alone 96 else made })
        ⊎ ((if full then code_alone 96 else made).code ≡ 96)
    by_test true = inr refl
    by_test false = inl (among_last a.waiting (record { order = o; answer = made }))

-- ---- an order comes to a host

-- an answer was told, or waits at this host
abbrev IsMade : World → ℕ → Told → Type 0
IsMade w n t = IsAmong w.told t ⊎ IsAmong (w.hosts n).behind.answers t

-- it goes on to be so
made_stays : (w : World) (n : ℕ) (o : Instruction) (t : Told) → IsMade w n t
    → IsMade (receives w n (w.hosts n) o) n t
made_stays w n o t made = by_test (is_entered (seen_by w (w.hosts n)) o.key) made
  where
    by_test : (known : Bool) → IsMade w n t → IsMade (if known
        then record w { told = w.told ++ known_answer w (w.hosts n) o ∷ [] }
        else record w { hosts = with_host w.hosts n (decides w (w.hosts n) o) }) n t
    by_test true (inl at) = inl (among_front w.told (known_answer w (w.hosts n) o ∷ []) t at)
    by_test true (inr at) = inr at
    by_test false (inl at) = inl at
    by_test false (inr at) =
        inr (rw (self_same n) (waits_more (alone w (w.hosts n)) o t at))

-- what a host has seen gives the answer that all its orders give
known_outcome : (laws : IssuerLaws) (w : World) (h : Host) (o : Instruction)
    → is_entered (seen_by w h) o.key ≡ true
    → known_answer w h o ≡ record { order = o; answer = outcome (alone w h).host o }
known_outcome laws w h o known =
    let d : Durable = (alone w h).host in
    let t : Told = known_answer w h o in
    let seen : IsAnswered w.accounts (seen_by w h) t = record { known = known; same = refl } in
    let all : IsAnswered w.accounts (entered d) t =
    stays laws w.accounts (seen_by w h ++ doubted h.in_doubt) h.behind.orders t
    (stays laws w.accounts (seen_by w h) (doubted h.in_doubt) t seen) in
    let same : outcome d o ≡ answer_for w.accounts (journal (books_of d)) o =
    rw all.known refl in
    ap (λ (a : Outcome). record { order = o; answer = a }) (sym (same ∙ all.same))

-- the answer to an order that comes was told, or waits, or is a 96
answer_is_made : (laws : IssuerLaws) (w : World) (n : ℕ) (o : Instruction)
    → IsMade (receives w n (w.hosts n) o) n
    (record { order = o; answer = outcome (host_at w n) o })
    ⊎ ((outcome (host_at w n) o).code ≡ 96)
answer_is_made laws w n o = by_test (is_entered (seen_by w (w.hosts n)) o.key) refl
  where
    answer : Told
    answer = record { order = o; answer = outcome (host_at w n) o }

    by_test : (known : Bool) → is_entered (seen_by w (w.hosts n)) o.key ≡ known
        → IsMade (if known
        then record w { told = w.told ++ known_answer w (w.hosts n) o ∷ [] }
        else record w { hosts = with_host w.hosts n (decides w (w.hosts n) o) }) n answer
        ⊎ ((outcome (host_at w n) o).code ≡ 96)
    by_test true k =
        let t : Told = known_answer w (w.hosts n) o in
        inl (inl (subst (IsAmong (w.told ++ t ∷ [])) (known_outcome laws w (w.hosts n) o k)
        (among_last w.told t)))
    by_test false k = by_wait (new_waits (alone w (w.hosts n)) o)
      where
        by_wait : IsAmong (waiting_after (alone w (w.hosts n)) o) answer
            ⊎ ((outcome (host_at w n) o).code ≡ 96)
            → IsMade (record w { hosts = with_host w.hosts n (decides w (w.hosts n) o) }) n answer
            ⊎ ((outcome (host_at w n) o).code ≡ 96)
        by_wait (inl at) = inl (inr (rw (self_same n) at))
        by_wait (inr code) = inr code

-- ---- a call

-- what was told or waits is told in the end
made_is_told : (laws : IssuerLaws) (w : World) (n : ℕ) (os : List Instruction) (t : Told)
    → (w.hosts n).seen ≡ length w.kept → (w.hosts n).in_doubt ≡ None → IsMade w n t
    → IsAmong (after_events (syncing w n os) w).told t
made_is_told laws w n [] t all sure made = at_end made
  where
    told : (after_events (syncing w n []) w).told ≡ w.told ++ (w.hosts n).behind.answers
    told =
        let own : (to_send (w.hosts n).in_doubt (w.hosts n).behind).answers
        ≡ (w.hosts n).behind.answers = rw sure refl in
        (sync_succeeds laws w n all).1 ∙ ap (λ (ts : List Told). w.told ++ ts) own

    at_end : IsMade w n t → IsAmong (after_events (syncing w n []) w).told t
    at_end (inl at) =
        subst (λ (ts : List Told). IsAmong ts t) (sym told)
        (among_front w.told (w.hosts n).behind.answers t at)
    at_end (inr at) =
        subst (λ (ts : List Told). IsAmong ts t) (sym told)
        (among_back w.told (w.hosts n).behind.answers t at)
made_is_told laws w n (o ∷ os) t all sure made =
    let new = receives w n (w.hosts n) o in
    let step : Received w new n o = received w n o all sure in
    subst (λ (es : List Event). IsAmong (after_events es new).told t)
    (same_syncing w new n os step.sent)
    (made_is_told laws new n os t step.all step.sure (made_stays w n o t made))

pub calls_are_told : (laws : IssuerLaws) (w : World) (n : ℕ) (orders : List Instruction)
    → (w.hosts n).seen ≡ length w.kept → (w.hosts n).in_doubt ≡ None
    → AreTold (after_events (syncing w n orders) w).told orders (outcomes (host_at w n) orders)
calls_are_told laws w n [] all sure = tt
calls_are_told laws w n (o ∷ os) all sure =
    let new = receives w n (w.hosts n) o in
    let step : Received w new n o = received w n o all sure in
    let later :
    AreTold (after_events (syncing new n os) new).told os (outcomes (host_at new n) os) =
    calls_are_told laws new n os step.all step.sure in
    let rest : AreTold (after_events (syncing w n os) new).told os (outcomes (host_at new n) os) =
    subst (λ (es : List Event).
    AreTold (after_events es new).told os (outcomes (host_at new n) os))
    (same_syncing w new n os step.sent) later in (
      first step (answer_is_made laws w n o),
      subst (λ (d : Durable).
          AreTold (after_events (syncing w n os) new).told os (outcomes d os)) step.host rest,
    )
  where
    answer : Told
    answer = record { order = o; answer = outcome (host_at w n) o }

    first : Received w (receives w n (w.hosts n) o) n o
        → IsMade (receives w n (w.hosts n) o) n answer ⊎ (answer.answer.code ≡ 96)
        → IsAmong (after_events (syncing w n os) (receives w n (w.hosts n) o)).told answer
        ⊎ (answer.answer.code ≡ 96)
    first step (inl made) =
        let new = receives w n (w.hosts n) o in
        inl (subst (λ (es : List Event). IsAmong (after_events es new).told answer)
        (same_syncing w new n os step.sent)
        (made_is_told laws new n os answer step.all step.sure made))
    first step (inr code) = inr code
