use Rattle.std.proofs.Common.{◌≡◌, refl, ap, sym, ◌∙◌, arith, length, ◌++◌, [], ◌∷◌, List}
use Rattle.std.specs.Prelude.{is_some, Some, None, map}
use Rattle.std.proofs.lemmas.List.{length-map}
use Rattle.iso_order.specs.Outcome.{Outcome}
use Rattle.iso_order.specs.Order.{Instruction}
use Rattle.iso_issuer.specs.declared.journal.Entry.{Entry}
use Rattle.iso_issuer.specs.Books.{Books}
use Rattle.iso_issuer.specs.Decision.{answer_for, answer_by, journal_of, is_shown_for}
use Rattle.iso_issuer.specs.Journal.{firsts, entry_at}
use Rattle.iso_issuer.specs.Balances.{accounts_of}
use Rattle.iso_issuer.proofs.Firsts.{firsts-known, firsts-new, firsts-distinct}
use Rattle.iso_issuer.proofs.Kept.{kept-known, kept-new, kept-full, granted}
use Rattle.iso_issuer.proofs.Shown.{answer-shown}
use Rattle.iso_issuer.proofs.Entries.{entered-found, never, full-new, full-known}
use Rattle.iso_issuer.proofs.issuer.Issuer.handle.Goals as goal

pub returns-in-Some-clause-entered : goal.returns-in-Some-clause-entered
returns-in-Some-clause-entered c =
    let es = c.self.inside.journal in
    let orders = map (λ (e : Entry). e.order) es in
    let found : entry_at es c.args.order.key ≡ Some c.in-Some.entry = sym (c.in-Some.ensures ∙ ap (entry_at es) c.key.ensures.value) in
    let same : firsts (orders ++ c.args.order ∷ []) ≡ orders =
    firsts-known orders c.args.order (entered-found es c.args.order.key ∙ ap is_some found) ∙ firsts-distinct orders c.self.invariant.0.distinct in
    rw (← c.self.view_is) (ap (λ (xs : List Instruction). record { accounts = accounts_of c.self.inside.balances; limit = c.self.inside.limit; orders = xs }) (sym same))

pub returns-in-Some-clause-kept : goal.returns-in-Some-clause-kept
returns-in-Some-clause-kept c = λ other.
    let es = c.self.inside.journal in
    let orders = map (λ (e : Entry). e.order) es in
    let found : entry_at es c.args.order.key ≡ Some c.in-Some.entry = sym (c.in-Some.ensures ∙ ap (entry_at es) c.key.ensures.value) in
    let same = kept-known c.self.inside.limit orders c.args.order c.self.invariant.0.distinct (omega (arith, c.self.invariant.0.few, length-map es (λ (e : Entry). e.order)))
    (entered-found es c.args.order.key ∙ ap is_some found) in
    rw (← c.self.view_is) (ap (λ (xs : List Instruction). record { accounts = accounts_of c.self.inside.balances; limit = c.self.inside.limit; orders = xs }) (sym same))

pub returns-in-Some-clause-shown : goal.returns-in-Some-clause-shown
returns-in-Some-clause-shown c =
    let es = c.self.inside.journal in
    let accounts = accounts_of c.self.inside.balances in
    let orders = map (λ (e : Entry). e.order) es in
    let found : entry_at es c.args.order.key ≡ Some c.in-Some.entry = sym (c.in-Some.ensures ∙ ap (entry_at es) c.key.ensures.value) in
    let answer : c.repeat_answer.result ≡ answer_for accounts (journal_of accounts orders) c.args.order =
    c.repeat_answer.ensures ∙ sym (ap (answer_by accounts es c.args.order) found) ∙ ap (λ (j : List Entry). answer_for accounts j c.args.order) c.self.invariant.0.decided in
    ap (λ (a : Outcome). is_shown_for c.args.order.act a.shown) answer ∙ answer-shown accounts orders c.args.order

pub returns-in-Some-clause-full : goal.returns-in-Some-clause-full
returns-in-Some-clause-full c =
    let found : entry_at c.self.inside.journal c.args.order.key ≡ Some c.in-Some.entry = sym (c.in-Some.ensures ∙ ap (entry_at c.self.inside.journal) c.key.ensures.value) in
    let books : Books = record { accounts = accounts_of c.self.inside.balances; limit = c.self.inside.limit; orders = map (λ (e : Entry). e.order) c.self.inside.journal } in
    let known = full-known books c.args.order.key (entered-found c.self.inside.journal c.args.order.key ∙ ap is_some found) in
    rw (← c.self.view_is) ((λ e. cc), (λ h. absurd (known h)))

pub returns-then-len-self-clause-repeat : goal.returns-then-len-self-clause-repeat
returns-then-len-self-clause-repeat c =
    let es = c.self.inside.journal in
    let found : entry_at es c.args.order.key ≡ None = ap (entry_at es) (sym c.key.ensures.value) ∙ sym c.get.ensures ∙ c.in_default.is in
    rw (← c.self.view_is) (λ h. absurd (never _ (entered-found es c.args.order.key ∙ ap is_some found) h))

pub returns-then-len-self-clause-kept : goal.returns-then-len-self-clause-kept
returns-then-len-self-clause-kept c = λ other.
    let es = c.self.inside.journal in
    let orders = map (λ (e : Entry). e.order) es in
    let found : entry_at es c.args.order.key ≡ None = ap (entry_at es) (sym c.key.ensures.value) ∙ sym c.get.ensures ∙ c.in_default.is in
    let full : length orders ≡ c.self.inside.limit =
    omega (arith, length-map es (λ (e : Entry). e.order), c.if-len-self.true, c.len.ensures, c.self.invariant.0.few) in
    let same = kept-full c.self.inside.limit orders c.args.order c.self.invariant.0.distinct full (entered-found es c.args.order.key ∙ ap is_some found) in
    rw (← c.self.view_is) (ap (λ (xs : List Instruction). record { accounts = accounts_of c.self.inside.balances; limit = c.self.inside.limit; orders = xs }) (sym same))

pub returns-then-len-self-clause-full : goal.returns-then-len-self-clause-full
returns-then-len-self-clause-full c =
    let es = c.self.inside.journal in
    let found : entry_at es c.args.order.key ≡ None = ap (entry_at es) (sym c.key.ensures.value) ∙ sym c.get.ensures ∙ c.in_default.is in
    let books : Books = record { accounts = accounts_of c.self.inside.balances; limit = c.self.inside.limit; orders = map (λ (e : Entry). e.order) es } in
    let full = full-new books c.args.order.key (entered-found es c.args.order.key ∙ ap is_some found)
    (omega (arith, length-map es (λ (e : Entry). e.order), c.if-len-self.true, c.len.ensures)) in
    rw (← c.self.view_is) ((λ e. full), (λ h. refl))

pub enter-requires-clause-new : goal.enter-requires-clause-new
enter-requires-clause-new c =
    let es = c.self.inside.journal in
    let found : entry_at es c.args.order.key ≡ None = ap (entry_at es) (sym c.key.ensures.value) ∙ sym c.get.ensures ∙ c.in_default.is in
    rw (← c.self.view_is) (entered-found es c.args.order.key ∙ ap is_some found)

pub returns-clause-repeat : goal.returns-clause-repeat
returns-clause-repeat c =
    let es = c.self.inside.journal in
    let found : entry_at es c.args.order.key ≡ None = ap (entry_at es) (sym c.key.ensures.value) ∙ sym c.get.ensures ∙ c.in_default.is in
    rw (← c.self.view_is) (λ h. absurd (never _ (entered-found es c.args.order.key ∙ ap is_some found) h))

pub returns-clause-entered : goal.returns-clause-entered
returns-clause-entered c =
    let es = c.self.inside.journal in
    let orders = map (λ (e : Entry). e.order) es in
    let found : entry_at es c.args.order.key ≡ None = ap (entry_at es) (sym c.key.ensures.value) ∙ sym c.get.ensures ∙ c.in_default.is in
    let same : firsts (c.args.self.now.orders ++ c.args.order ∷ []) ≡ c.args.self.now.orders ++ c.args.order ∷ [] =
    rw (← c.self.view_is)
    (firsts-new orders c.args.order (entered-found es c.args.order.key ∙ ap is_some found)
    ∙ ap (λ (xs : List Instruction). xs ++ c.args.order ∷ []) (firsts-distinct orders c.self.invariant.0.distinct)) in
    rw same c.enter.ensures.entered

pub returns-clause-kept : goal.returns-clause-kept
returns-clause-kept c = λ other.
    let es = c.self.inside.journal in
    let orders = map (λ (e : Entry). e.order) es in
    let found : entry_at es c.args.order.key ≡ None = ap (entry_at es) (sym c.key.ensures.value) ∙ sym c.get.ensures ∙ c.in_default.is in
    let same = kept-new c.self.inside.limit orders c.args.order c.self.invariant.0.distinct
    (omega (arith, length-map es (λ (e : Entry). e.order), c.if-len-self.false, c.len.ensures))
    (entered-found es c.args.order.key ∙ ap is_some found) in
    granted c.enter.result other c.enter.ensures.memory c.enter.ensures.entered
    ∙ rw (← c.self.view_is) (ap (λ (xs : List Instruction). record { accounts = accounts_of c.self.inside.balances; limit = c.self.inside.limit; orders = xs }) (sym same))

pub returns-clause-memory : goal.returns-clause-memory
returns-clause-memory c = λ memory.
    let es = c.self.inside.journal in
    let found : entry_at es c.args.order.key ≡ None = ap (entry_at es) (sym c.key.ensures.value) ∙ sym c.get.ensures ∙ c.in_default.is in
    rw (← c.self.view_is)
    record {
      below = omega (arith, length-map es (λ (e : Entry). e.order), c.if-len-self.false, c.len.ensures);
      new = entered-found es c.args.order.key ∙ ap is_some found;
    }
