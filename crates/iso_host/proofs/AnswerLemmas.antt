-- A body that is answered, or not.
use Rattle.std.proofs.Common.{◌≡◌, ℕ, List, [], length, inr, Option, Some, None, Result, Ok, Err, refl, sym, ap, subst, append-nil, ◌∙◌, cond, eqb, Bool, true, false, arith}
use Rattle.std.specs.Prelude.{option_map, OnOk}
use Rattle.std.proofs.lemmas.Bool.{eqb-true}
use Rattle.iso_table.specs.Layout.{Layout}
use Rattle.iso_wire.specs.declared.header.Header.{Header}
use Rattle.iso_wire.specs.Contents.{Contents}
use Rattle.iso_order.specs.Outcome.{Outcome}
use Rattle.iso_order.specs.Response.{response}
use Rattle.iso_order.specs.Verdict.{verdict}
use Rattle.iso_issuer.specs.Books.{Books}
use Rattle.iso_issuer.specs.Laws.{books_after}
use Rattle.iso_host.specs.Asking.{asked_of, message_in, orders_in, whole_by}
use Rattle.iso_host.specs.Output.{IsAnswerTo, IsFramed, outcome_of, response_with}
use Rattle.iso_host.specs.Hosting.{AnswersMessage, IsBodyFault, IsHandled, IsHandledBy, replying}
use Rattle.iso_host.specs.Links.{agreed}
use Rattle.iso_host.specs.Handling.{EntersOrKeeps}
use Rattle.iso_host.specs.declared.handled.BodyFault.{BodyFault}
use Rattle.iso_host.specs.declared.handled.BodyFault.TheVariants.{Stops, Behind}
use Rattle.iso_host.specs.declared.handled.Handled.{Handled}
use Rattle.iso_host.specs.declared.handled.Handled.TheVariants as handled

-- where there is no message
pub answers_none : (t : Layout) (h : Header) (books : Books) (message : Option Contents) (out : List ℕ) → message ≡ None → books_after books [] ≡ books → AnswersMessage (agreed t h) (replying books out) (replying books out) message
unfolding IsAnswerTo
answers_none t h books message out none kept =
    subst (AnswersMessage (agreed t h) (replying books out) (replying books out)) (sym none) (sym kept, ([], refl, sym (append-nil out)))

pub handled_some : (t : Layout) (books : Books) (body : List ℕ) (m : Contents) (handled : Handled) → message_in t body ≡ Some m → IsHandledBy books (verdict m) handled → IsHandled t books body handled
unfolding IsHandled
handled_some t books body m (handled.Unreadable fault) is told = absurd told
handled_some t books body m handled.Silent is told = ap (option_map verdict) is ∙ ap Some told
handled_some t books body m (handled.Replied code) is told = ap (option_map verdict) is ∙ ap Some told
handled_some t books body m (handled.Ordered key code seq) is (o, told, key_is, code_is, seq_is) = (o, ap (option_map verdict) is ∙ ap Some told, key_is, code_is, seq_is)

pub handled_none : (t : Layout) (books : Books) (body : List ℕ) (fault : BodyFault) → IsBodyFault t body fault → IsHandled t books body (handled.Unreadable fault)
unfolding IsHandled
handled_none t books body fault is = is

-- a body with a fault is no message
pub no_message : (t : Layout) (body : List ℕ) (fault : BodyFault) → IsBodyFault t body fault → message_in t body ≡ None
unfolding message_in
no_message t body (Stops e) is = ap (whole_by (length body)) is
no_message t body (Behind end) ((m, is), before) = ap (whole_by (length body)) is ∙ by_test (eqb end (length body)) refl
  where
    by_test : (b : Bool) → eqb end (length body) ≡ b → cond b (Some m) None ≡ None
    by_test true same = absurd (omega (arith, before, eqb-true end (length body) same))
    by_test false same = refl

-- a message that gets no answer
pub answers_nothing : (t : Layout) (h : Header) (old new : Books) (m : Contents) (answer : Option Outcome) (out : List ℕ) → answer ≡ outcome_of old (verdict m) → answer ≡ None
    → new ≡ books_after old (orders_in (Some (verdict m))) → AnswersMessage (agreed t h) (replying old out) (replying new out) (Some m)
unfolding IsAnswerTo
answers_nothing t h old new m answer out same none entered = (
  entered,
  ([], subst (λ (o : Option Outcome). IsFramed t h (response_with m o) []) (sym none ∙ same) refl, sym (append-nil out)),
)

-- what came of a body whose message was answered
pub handled_body : (X E : Type 0) (t : Layout) (books : Books) (body : List ℕ) (m : Contents) (told : Handled) (result : Result X E) → message_in t body ≡ Some m → OnOk result (IsHandledBy books (verdict m) told) → OnOk result (IsHandled t books body told)
handled_body X E t books body m told (Ok x) is by_verdict = handled_some t books body m told is by_verdict
handled_body X E t books body m told (Err e) is by_verdict = by_verdict

-- a message was entered, and has an answer
pub enters_answered : (t : Layout) (h : Header) (old new : Books) (m : Contents) (given : Outcome) (answer : Option Outcome) → answer ≡ outcome_of old (verdict m) → answer ≡ Some given
    → new ≡ books_after old (orders_in (Some (verdict m))) → (bytes : List ℕ) × IsFramed t h (Some (response m given)) bytes → EntersOrKeeps t h old new (Some m)
unfolding IsAnswerTo
enters_answered t h old new m given answer same is entered (bytes, framed) =
    inr (entered, (bytes, subst (λ (o : Option Outcome). IsFramed t h (response_with m o) bytes) (sym is ∙ same) framed))

-- an unreadable body asks nothing
pub asks_nothing : (t : Layout) (books : Books) (body : List ℕ) (fault : BodyFault) → IsHandled t books body (handled.Unreadable fault) → asked_of t body ≡ None
unfolding IsHandled
asks_nothing t books body fault is = ap (option_map verdict) (no_message t body fault is)
