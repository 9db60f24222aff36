use Rattle.std.proofs.Common.{◌≡◌, ap, sym, ◌∙◌, take, [], ◌∷◌, ◌++◌, ◌+◌, Some, None, true, false, refl}
use Rattle.std.specs.Prelude.{is_some}
use Rattle.std.proofs.lemmas.List.{map-append, take_more, take_all, at_drop_all, length-take-le}
use Rattle.std.proofs.lemmas.Result.{err_from_is_err_and}
use Rattle.iso_issuer.specs.declared.balances.Balance.{Balance}
use Rattle.iso_issuer.specs.Balances.{accounts_of, balance_at, opening_balance}
use Rattle.iso_issuer.specs.declared.document.Listed.{Listed}
use Rattle.iso_issuer.specs.declared.fault.AccountsFault.TheVariants.{Twice, OutOfRange}
use Rattle.iso_issuer.specs.Document.{accounts_fault, as_listed, is_listed, is_out_of_range}
use Rattle.iso_issuer.proofs.Documents.{listed-found, fault_at, fault-twice, fault-range, fault-none, ranged, out_of_range, is_none-of}
use Rattle.iso_issuer.proofs.accounts.opening_balances.Goals as goal

pub open-requires : goal.open-requires
open-requires c =
    let none : is_some (balance_at c.loop-i.balances c.in-Some.account.pan) ≡ false = cc in
    record { new = is_none-of (balance_at c.loop-i.balances c.in-Some.account.pan) none }

pub returns-then-is_some-clause-fault : goal.returns-then-is_some-clause-fault
returns-then-is_some-clause-fault c = λ not_memory.
    let rows = c.args.listed.now in
    let row = c.index-listed-i.result in
    let balances = c.loop-i.balances in
    let made = ranged (is_out_of_range row.opening) (as_listed c.in-Some.account) row c.in-Some.ensures in
    let found : is_some (balance_at balances c.in-Some.account.pan) ≡ true = cc in
    let known : is_listed (take c.loop-i.i rows) row.pan ≡ true =
    ap (λ earlier. is_listed earlier row.pan) (sym c.loop-i.invariant.same) ∙ listed-found balances row.pan
    ∙ ap (λ (r : Listed). is_some (balance_at balances r.pan)) (sym made.1) ∙ found in
    let count = length-take-le c.loop-i.i rows c.loop-i.auto.i-end in
    fault_at rows c.loop-i.i row (Some (Twice c.loop-i.i)) c.loop-i-test.true c.index-listed-i.is c.loop-i.invariant.rest
    (fault-twice (take c.loop-i.i rows) row c.loop-i.i made.0 known count)

pub loop-i-preserved : goal.loop-i-preserved
loop-i-preserved c =
    let rows = c.args.listed.now in
    let row = c.index-listed-i.result in
    let balances = c.loop-i.balances in
    let made = ranged (is_out_of_range row.opening) (as_listed c.in-Some.account) row c.in-Some.ensures in
    let none : is_some (balance_at balances c.in-Some.account.pan) ≡ false = cc in
    let new : is_listed (take c.loop-i.i rows) row.pan ≡ false =
    ap (λ earlier. is_listed earlier row.pan) (sym c.loop-i.invariant.same) ∙ listed-found balances row.pan
    ∙ ap (λ (r : Listed). is_some (balance_at balances r.pan)) (sym made.1) ∙ none in
    let more : take (c.loop-i.i + 1) rows ≡ take c.loop-i.i rows ++ row ∷ [] =
    take_more rows c.loop-i.i row c.loop-i-test.true ∙ ap (λ (r : Listed). take c.loop-i.i rows ++ r ∷ []) (sym c.index-listed-i.is) in
    let grown : accounts_of (balances ++ opening_balance c.in-Some.account ∷ []) ≡ accounts_of balances ++ c.in-Some.account ∷ [] = map-append (λ (b : Balance). b.account) balances (opening_balance c.in-Some.account ∷ []) in
    rw (c.in_ok-open.ensures.ok, more, grown)
    record {
      same = map-append as_listed (accounts_of balances) (c.in-Some.account ∷ []) ∙ ap (λ xs. xs ++ as_listed c.in-Some.account ∷ []) c.loop-i.invariant.same
          ∙ ap (λ (r : Listed). take c.loop-i.i rows ++ r ∷ []) made.1;
      opened = ap (λ xs. xs ++ opening_balance c.in-Some.account ∷ []) c.loop-i.invariant.opened ∙ sym (map-append opening_balance (accounts_of balances) (c.in-Some.account ∷ []));
      rest = fault_at rows c.loop-i.i row None c.loop-i-test.true c.index-listed-i.is c.loop-i.invariant.rest (fault-none (take c.loop-i.i rows) row made.0 new);
    }

pub loop-i-init : goal.loop-i-init
loop-i-init c = rw c.new-balances.ensures (record { same = refl; opened = refl; rest = refl })

pub returns-clause-ok : goal.returns-clause-ok
returns-clause-ok c = c.loop-i.invariant.same ∙ take_all c.loop-i.i c.args.listed.now c.loop-i-test.false

pub returns-clause-opened : goal.returns-clause-opened
returns-clause-opened c = c.loop-i.invariant.opened

pub returns-clause-none : goal.returns-clause-none
returns-clause-none c = c.loop-i.invariant.rest ∙ at_drop_all (accounts_fault (take c.loop-i.i c.args.listed.now)) c.args.listed.now c.loop-i.i c.loop-i-test.false

pub returns-in_default-clause-fault : goal.returns-in_default-clause-fault
returns-in_default-clause-fault c = λ _.
    let rows = c.args.listed.now in
    let row = c.index-listed-i.result in
    fault_at rows c.loop-i.i row (Some (OutOfRange c.loop-i.i)) c.loop-i-test.true c.index-listed-i.is c.loop-i.invariant.rest
    (fault-range (take c.loop-i.i rows) row c.loop-i.i (out_of_range (is_out_of_range row.opening) row c.in_default.ensures) (length-take-le c.loop-i.i rows c.loop-i.auto.i-end))

pub returns-in_err-open-clause-fault : goal.returns-in_err-open-clause-fault
returns-in_err-open-clause-fault c =
    let p = err_from_is_err_and c.from_residual.result c.from_residual.ensures.1 in
    rw (p.1, p.2) (λ other. absurd (other refl))

pub returns-in_err-open-clause-json : goal.returns-in_err-open-clause-json
returns-in_err-open-clause-json c =
    let p = err_from_is_err_and c.from_residual.result c.from_residual.ensures.1 in
    rw (p.1, p.2) (λ json. cc)
