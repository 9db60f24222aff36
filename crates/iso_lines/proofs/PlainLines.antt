-- What is heard of a peer of a line without a guard.
use Rattle.std.proofs.Common.{◌≡◌, ◌∙◌, ◌++◌, ◌≤◌, ℕ, Bool, true, false, inl, inr, refl, sym, ap, subst, arith, List, [], ◌∷◌, length, drop, append-nil}
use Rattle.std.specs.Prelude.{Option, Some, None, Result, Ok, Err, IfOk, OnErr, eqb, not, ◌||◌, nat_lt, if◌then◌else◌}
use Rattle.std.proofs.Math.Dec.{eqb-suc-zero}
use Rattle.std.proofs.lemmas.Bool.{le-ltb, ltb-false}
use Rattle.iso_table.specs.Layout.{Layout}
use Rattle.iso_wire.specs.declared.header.Header.{Header}
use Rattle.iso_wire.specs.Contents.{Contents}
use Rattle.iso_wire.specs.FrameLaws.{FrameLaws}
use Rattle.iso_wire.specs.Framing.{frame_of, frames_of, NoFrame, largest}
use Rattle.iso_order.specs.declared.verdict.Verdict.{Verdict}
use Rattle.iso_order.specs.declared.verdict.Verdict.TheVariants.{Order, Reply, Silent}
use Rattle.iso_issuer.specs.Books.{Books}
use Rattle.iso_host.specs.Asking.{asked_of, message_in}
use Rattle.iso_host.specs.Entering.{books_after_bodies, BodiesGoOn, StaysWithout}
use Rattle.iso_host.specs.Handling.{books_after_body, BodyAlone}
use Rattle.iso_host.specs.Links.{agreed}
use Rattle.iso_host.specs.Output.{IsAnswerTo, IsAnswer, IsFramed, IsOutputFrom, IsOutput, response_to}
use Rattle.iso_host.specs.declared.peer.PeerFault.{PeerFault}
use Rattle.iso_host.specs.declared.peer.PeerFault.TheVariants as fault
use Rattle.iso_peers.specs.Connection.{ConnectionState}
use Rattle.iso_peers.specs.Turn.{StopsAt, TakesAll, at_books}
use Rattle.iso_peers.specs.declared.turn.Turned.{Turned}
use Rattle.iso_guard.specs.Guarding.{Guard, foreign_of}
use Rattle.iso_guard.specs.Entering.{entering_unless, entering_of, entering_all, books_after_guarded}
use Rattle.iso_guard.specs.Answering.{response_unless, response_behind, IsFramedBehind, IsGuardedAnswer, IsGuardedOutputFrom, IsGuardedOutput}
use Rattle.iso_durable.specs.declared.log.LogFailed.{LogFailed}
use Rattle.iso_lines.specs.declared.line.Line.{Line}
use Rattle.iso_lines.specs.declared.peer.Peer.{Peer}
use Rattle.iso_lines.specs.declared.standing.Closing.{Closing}
use Rattle.iso_lines.specs.Guarded.{guard_at, is_guarded}
use Rattle.iso_lines.specs.Hearing.{growth, Dealing, dealing_by, dealing_of, HearsBytes, ended_of, ended_after}
use Rattle.iso_lines.proofs.Turns.{ended_goes_on}
use Rattle.iso_lines.proofs.Taken.{Made, made_all, made_one_more, made_heard, split_at, is_off, no_both}

abbrev guard_by : Layout → Header → List ℕ → ℕ → Guard
guard_by t h acquirers skip = record { table = t; header = h; acquirers = acquirers; skip = skip }

abbrev plain : Layout → Header → Guard
plain t h = guard_by t h [] 0

none_foreign : (v : Option Verdict) → foreign_of [] v ≡ None
none_foreign (Some (Order o)) = refl
none_foreign (Some (Reply code)) = refl
none_foreign (Some Silent) = refl
none_foreign None = refl

none_below : (n : ℕ) → nat_lt n 0 ≡ false
none_below n = le-ltb n 0 (omega arith)

entering_plain : (t : Layout) (h : Header) (body : List ℕ) → entering_of (plain t h) body ≡ body ∷ []
unfolding entering_of
entering_plain t h body =
    ap (λ (x : Bool). if x then [] else entering_unless (foreign_of [] (asked_of t body)) body) (none_below (length body))
    ∙ ap (λ k. entering_unless k body) (none_foreign (asked_of t body))

entering_plain_all : (t : Layout) (h : Header) (bodies : List (List ℕ)) → entering_all (plain t h) bodies ≡ bodies
entering_plain_all t h [] = refl
entering_plain_all t h (x ∷ xs) =
    ap (λ (l : List (List ℕ)). l ++ entering_all (plain t h) xs) (entering_plain t h x) ∙ ap (λ (l : List (List ℕ)). x ∷ l) (entering_plain_all t h xs)

books_plain : (t : Layout) (h : Header) (b : Books) (bodies : List (List ℕ)) → books_after_guarded (plain t h) b bodies ≡ books_after_bodies t b bodies
books_plain t h b bodies = ap (books_after_bodies t b) (entering_plain_all t h bodies)

response_plain : (t : Layout) (h : Header) (b : Books) (body : List ℕ) → response_behind (plain t h) b body ≡ response_to b (message_in t body)
response_plain t h b body =
    ap (λ (x : Bool). if x then None else response_unless b (foreign_of [] (asked_of t body)) (message_in t body)) (none_below (length body))
    ∙ ap (λ k. response_unless b k (message_in t body)) (none_foreign (asked_of t body))

answer_plain : (t : Layout) (h : Header) (b : Books) (body bytes : List ℕ) → IsAnswer t h b body bytes → IsGuardedAnswer (plain t h) b body bytes
unfolding IsGuardedAnswer IsAnswerTo
answer_plain t h b body bytes is = subst (λ (r : Option Contents). IsFramedBehind t h [] r bytes) (sym (response_plain t h b body)) (behind (response_to b (message_in t body)) is)
  where
    behind : (r : Option Contents) → IsFramed t h r bytes → IsFramedBehind t h [] r bytes
    behind None is = is
    behind (Some r) is = is

output_plain : (t : Layout) (h : Header) (b : Books) (earlier bodies : List (List ℕ)) (out : List ℕ) → IsOutputFrom (agreed t h) b earlier bodies out → IsGuardedOutputFrom (plain t h) b earlier bodies out
output_plain t h b earlier [] out is = is
output_plain t h b earlier (x ∷ xs) out is = (
  is.0,
  is.1,
  subst (λ (c : Books). IsGuardedAnswer (plain t h) c x is.0) (sym (books_plain t h b earlier)) (answer_plain t h (books_after_bodies t b earlier) x is.0 is.2),
  output_plain t h b (earlier ++ x ∷ []) xs is.1 is.3,
  is.4,
)

outputs_plain : (t : Layout) (h : Header) (b : Books) (bodies : List (List ℕ)) (out : List ℕ) → IsOutput t h b bodies out → IsGuardedOutput (plain t h) b bodies out
unfolding IsOutput IsGuardedOutput
outputs_plain t h b bodies out is = output_plain t h b [] bodies out is

made_direct : (key : ℕ) (c0 c1 : ConnectionState) (before after : Books) (bytes : List ℕ) (turned : Turned) (e0 e1 : Option Closing) → FrameLaws → BodyAlone → BodiesGoOn → StaysWithout before
    → c1.peer.table ≡ c0.peer.table → c1.peer.header ≡ c0.peer.header → TakesAll (at_books c0 before) (at_books c1 after) bytes turned → e0 ≡ None → e1 ≡ ended_of e0 turned.stopped
    → Made key (plain c0.peer.table c0.peer.header) c0.peer.held c1.peer.held c0.waiting c1.waiting e0 e1 before after bytes
made_direct key c0 c1 before after bytes turned e0 e1 joins alone law without table header took none ends = go turned.stopped took.stops ends
  where
    t : Layout
    t = c0.peer.table

    h : Header
    h = c0.peer.header

    stays : books_after_guarded (plain c0.peer.table c0.peer.header) before [] ≡ before
    stays = without c0.peer.table

    output : IsGuardedOutput (plain c0.peer.table c0.peer.header) before took.bodies took.answers
    output = outputs_plain c0.peer.table c0.peer.header before took.bodies took.answers took.output

    front : c0.peer.held ++ bytes ≡ frames_of c0.peer.header took.bodies ++ (c1.peer.held ++ drop turned.used bytes)
    front = split_at c0.peer.held bytes c1.peer.held c0.peer.header took.bodies turned.used took.joined

    books : books_after_bodies c0.peer.table before took.bodies ≡ books_after_guarded (plain c0.peer.table c0.peer.header) before took.bodies
    books = sym (books_plain c0.peer.table c0.peer.header before took.bodies)

    same : (why : Closing) → e1 ≡ Some why → after ≡ books_after_bodies c0.peer.table before took.bodies
        → Made key (plain c0.peer.table c0.peer.header) c0.peer.held c1.peer.held c0.waiting c1.waiting e0 e1 before after bytes
    same why some is =
        made_all key (plain c0.peer.table c0.peer.header) c0.peer.held c1.peer.held c0.waiting c1.waiting e0 e1 before after bytes (c1.peer.held ++ drop turned.used bytes) took.bodies
        took.answers law stays front took.fit output took.waits (is ∙ books) none (λ is_none. absurd (ended_goes_on why (sym some ∙ is_none)))

    go : (s : Option PeerFault) → StopsAt c1.peer (books_after_bodies c0.peer.table before took.bodies) after (drop turned.used bytes) s → e1 ≡ ended_of e0 s
        → Made key (plain c0.peer.table c0.peer.header) c0.peer.held c1.peer.held c0.waiting c1.waiting e0 e1 before after bytes
    go None stops ends =
        made_all key (plain c0.peer.table c0.peer.header) c0.peer.held c1.peer.held c0.waiting c1.waiting e0 e1 before after bytes c1.peer.held took.bodies took.answers law stays
        (front ∙ ap (λ (l : List ℕ). frames_of c0.peer.header took.bodies ++ l) (ap (λ (l : List ℕ). c1.peer.held ++ l) stops.0 ∙ append-nil c1.peer.held))
        took.fit output took.waits (stops.2 ∙ books) none (λ is_none. (refl, subst (λ (x : Header). NoFrame x c1.peer.held) header stops.1))
    go (Some fault.BadHeader) stops ends = same _ ends stops.0
    go (Some fault.Memory) (inl is) ends = same _ ends is
    go (Some fault.Memory) (inr (body, more, is, fits, enters)) ends =
        made_one_more key (plain c0.peer.table c0.peer.header) c0.peer.held c1.peer.held c0.waiting c1.waiting e0 e1 before after bytes more took.bodies body took.answers joins law stays
        (front ∙ ap (λ (l : List ℕ). frames_of c0.peer.header took.bodies ++ l) (is ∙ ap (λ (x : Header). frame_of x body ++ more) header))
        took.fit (subst (λ (x : Header). length body ≤ largest x) header fits) output took.waits
        (enters.0 ∙ ap (λ (x : Layout). books_after_body x (books_after_bodies c0.peer.table before took.bodies) body) table
        ∙ alone c0.peer.table (books_after_bodies c0.peer.table before took.bodies) body
        ∙ sym (books_plain c0.peer.table c0.peer.header (books_after_bodies c0.peer.table before took.bodies) (body ∷ []))
        ∙ ap (λ (b : Books). books_after_guarded (plain c0.peer.table c0.peer.header) b (body ∷ [])) books)
        none (λ is_none. ended_goes_on _ (sym ends ∙ is_none))

neither : (a b : Bool) → (a || b) ≡ false → (a ≡ false) × (b ≡ false)
neither true b is = absurd (subst is_off (sym is) tt)
neither false b is = (refl, is)

none_named : (l : List ℕ) → not (eqb (length l) 0) ≡ false → l ≡ []
none_named [] is = refl
none_named (x ∷ xs) is = absurd (subst is_off (sym is ∙ ap not (eqb-suc-zero (length xs))) tt)

unguarded : (n : ℕ) (l : List ℕ) → (nat_lt 0 n || not (eqb (length l) 0)) ≡ false → (n ≡ 0) × (l ≡ [])
unguarded n l is =
    let both = neither (nat_lt 0 n) (not (eqb (length l) 0)) is in
    (omega (arith, ltb-false 0 n both.0), none_named l both.1)

-- what was taken is heard
pub direct_heard : {S : Type 0} (key : ℕ) (p q : Peer S) (before after : Books) (bytes : List ℕ) (r : Result Turned LogFailed) (failed : Bool) → FrameLaws → BodyAlone → BodiesGoOn → StaysWithout before
    → is_guarded p.line.terms.now ≡ false → q.line ≡ p.line → q.connection.peer.table ≡ p.connection.peer.table → q.connection.peer.header ≡ p.connection.peer.header
    → IfOk r (TakesAll (at_books p.connection before) (at_books q.connection after) bytes) → OnErr r (failed ≡ true) → failed ≡ false
    → p.standing.ended ≡ None → q.standing.ended ≡ ended_after p.standing.ended r → HearsBytes key (dealing_of p) (dealing_of q) (growth before after) bytes
direct_heard key p q before after bytes (Err e) failed joins alone law without off line table header took refused sound none ends = absurd (no_both failed refused sound)
direct_heard key p q before after bytes (Ok turned) failed joins alone law without off line table header took refused sound none ends =
    let d : dealing_of p ≡ dealing_by false p.line p.connection p.guarded p.standing.ended =
    ap (λ (t : Bool). dealing_by t p.line p.connection p.guarded p.standing.ended) off in
    let e : dealing_of q ≡ dealing_by false p.line q.connection q.guarded q.standing.ended =
    ap (λ (l : Line). dealing_by (is_guarded l.terms.now) l q.connection q.guarded q.standing.ended) line
    ∙ ap (λ (t : Bool). dealing_by t p.line q.connection q.guarded q.standing.ended) off in
    let neither_is = unguarded p.line.terms.now.skip p.line.terms.now.acquirers.items off in
    let guard : plain p.connection.peer.table p.connection.peer.header ≡ guard_at p.line =
    ap (λ (t : Layout). guard_by t p.connection.peer.header [] 0) p.agreed.0
    ∙ ap (λ (h : Header). guard_by p.line.link.now.table h [] 0) p.agreed.1
    ∙ ap (λ (l : List ℕ). guard_by p.line.link.now.table p.line.link.now.header l 0) (sym neither_is.1)
    ∙ ap (λ (n : ℕ). guard_by p.line.link.now.table p.line.link.now.header p.line.terms.now.acquirers.items n) (sym neither_is.0) in
    let made = made_direct key p.connection q.connection before after bytes turned p.standing.ended q.standing.ended joins alone law without table header took none ends in
    let of_line : Made key (guard_at p.line) p.connection.peer.held q.connection.peer.held p.connection.waiting q.connection.waiting p.standing.ended q.standing.ended before after bytes =
    subst (λ (g : Guard). Made key g p.connection.peer.held q.connection.peer.held p.connection.waiting q.connection.waiting p.standing.ended q.standing.ended before after bytes) guard made in
    subst (λ (x : Dealing). HearsBytes key x (dealing_of q) (growth before after) bytes) (sym d)
    (subst (λ (x : Dealing). HearsBytes key (dealing_by false p.line p.connection p.guarded p.standing.ended) x (growth before after) bytes) (sym e)
    (made_heard key (dealing_by false p.line p.connection p.guarded p.standing.ended) (dealing_by false p.line q.connection q.guarded q.standing.ended) before after bytes refl of_line))
