use Rattle.std.proofs.Common.{◌≡◌, ap, sym, ◌∙◌, arith, length, ◌<◌, ◌*◌, ◌+◌, ◌++◌, [], ◌∷◌, length-append}
use Rattle.std.specs.Prelude.{None, List, map, All}
use Rattle.std.proofs.lemmas.List.{map-append, length-map}
use Rattle.iso_order.specs.Order.{Instruction}
use Rattle.iso_issuer.specs.declared.account.Account.{Account}
use Rattle.iso_issuer.specs.declared.journal.Entry.{Entry}
use Rattle.iso_issuer.specs.Journal.{entry_at}
use Rattle.iso_issuer.specs.Found.{reversed_by, released_by}
use Rattle.iso_issuer.specs.Decision.{new_answer}
use Rattle.iso_issuer.specs.Balances.{accounts_of, IsNear}
use Rattle.iso_issuer.specs.Index.{account_place}
use Rattle.iso_issuer.specs.Books.{Books}
use Rattle.iso_issuer.proofs.Entries.{entered-found, kept-push}
use Rattle.iso_issuer.proofs.Documents.{is_none-of}
use Rattle.iso_issuer.proofs.Room.{near-more}
use Rattle.iso_issuer.proofs.Seen.{entry-touched, weight-touched, found-entered, effect-money}
use Rattle.iso_issuer.proofs.Summed.{settled, settled-thrice, accounts-settled, sums-settled}
use Rattle.iso_issuer.proofs.issuer.Issuer.enter.Goals as goal

pub enter-requires-clause-new : goal.enter-requires-clause-new
enter-requires-clause-new c =
    let es = c.self.inside.journal in
    let told = rw (← c.self.view_is) at c.requires.new in
    is_none-of (entry_at es c.args.order.now.key) (sym (entered-found es c.args.order.now.key) ∙ told)

pub post_all-requires-clause-place : goal.post_all-requires-clause-place
post_all-requires-clause-place c = λ f told.
    let e = effect-money c.args.order.now.key c.args.order.now.act f (sym c.effect_of-effect.ensures.value ∙ told) in
    c.place_in.ensures ∙ c.balance_for-placed.ensures.place e.0 e.1 ∙ ap (account_place (accounts_of c.self.inside.balances)) e.2

pub post_all-requires-clause-found : goal.post_all-requires-clause-found
post_all-requires-clause-found c =
    let es = c.self.inside.journal in
    let entry : Entry = record { order = c.args.order.now; answer = c.new_answer-answer.result } in
    rw (c.in_ok-enter.ensures.ok) (found-entered es entry c.find-found.result c.find-found.ensures.found c.find-found.ensures.apart)

pub invariant_of-self-2 : goal.invariant_of-self-2
invariant_of-self-2 c =
    let es = c.self.inside.journal in
    let balances = c.self.inside.balances in
    let o = c.args.order.now in
    let entry : Entry = record { order = o; answer = c.new_answer-answer.result } in
    let answer : c.new_answer-answer.result ≡ new_answer (accounts_of balances) es o = c.new_answer-answer.ensures balances c.self.invariant.1.sums c.balance_for-placed.ensures in
    let told = rw (← c.self.view_is) at c.requires.new in
    let new : entry_at es o.key ≡ None = is_none-of (entry_at es o.key) (sym (entered-found es o.key) ∙ told) in
    let room = rw (← c.self.view_is) at c.requires.below in
    let below : length es < c.self.inside.limit = omega (arith, room, length-map es (λ (e : Entry). e.order)) in
    let kept = c.self.invariant.0 in
    let after : c.enter.new.self ≡ es ++ entry ∷ [] = c.in_ok-enter.ensures.ok in
    let is : c.post_all.new.balances ≡ map (settled es entry) balances =
    (rw (after, c.find-found.ensures.found.reversed, c.find-found.ensures.found.released, entry-touched es (reversed_by es o), entry-touched es (released_by es o), weight-touched es (reversed_by es o), weight-touched es (released_by es o)) at c.post_all.ensures.moved) ∙ settled-thrice es entry balances in
    let near : All (IsNear (3 * length (es ++ entry ∷ []))) c.post_all.new.balances =
    near-more (3 * length es + 3) (3 * length (es ++ entry ∷ [])) c.post_all.new.balances (omega (arith, length-append es (entry ∷ []))) (c.post_all.ensures.near (3 * length es) c.self.invariant.1.near) in
    let same : accounts_of c.post_all.new.balances ≡ accounts_of balances = ap accounts_of is ∙ accounts-settled es entry balances in
    rw (after, same) (
      rw answer (kept-push (accounts_of balances) c.self.inside.limit es o kept below new),
      record { sums = rw is (sums-settled es entry balances kept.distinct c.find-found.ensures.apart c.self.invariant.1.sums); near = near },
    )

pub returns-clause-entered : goal.returns-clause-entered
returns-clause-entered c =
    let es = c.self.inside.journal in
    let o = c.args.order.now in
    let balances = c.self.inside.balances in
    let entry : Entry = record { order = c.args.order.now; answer = c.new_answer-answer.result } in
    let books : List Account → List Instruction → Books = λ accounts orders. record { accounts = accounts; limit = c.self.inside.limit; orders = orders } in
    let after : c.enter.new.self ≡ es ++ entry ∷ [] = c.in_ok-enter.ensures.ok in
    let orders : map (λ (e : Entry). e.order) c.enter.new.self ≡ map (λ (e : Entry). e.order) es ++ c.args.order.now ∷ [] =
    ap (map (λ (e : Entry). e.order)) after ∙ map-append (λ (e : Entry). e.order) es (entry ∷ []) in
    let is : c.post_all.new.balances ≡ map (settled es entry) balances =
    (rw (after, c.find-found.ensures.found.reversed, c.find-found.ensures.found.released, entry-touched es (reversed_by es o), entry-touched es (released_by es o), weight-touched es (reversed_by es o), weight-touched es (released_by es o)) at c.post_all.ensures.moved) ∙ settled-thrice es entry balances in
    let same : accounts_of c.post_all.new.balances ≡ accounts_of balances = ap accounts_of is ∙ accounts-settled es entry balances in
    rw (← c.self.view_is)
    (ap (λ accounts. books accounts (map (λ (e : Entry). e.order) c.enter.new.self)) same ∙ ap (books (accounts_of balances)) orders)
