use Rattle.std.proofs.Common.{subst}
use Rattle.iso_books.specs.Replays.{Enters}
use Rattle.iso_books.specs.declared.replaying.Next.{Next}
use Rattle.iso_books.proofs.Entering.{still_of, one_more, bad_found, last_found}
use Rattle.iso_books.proofs.replaying.replay_from.Goals as goal

pub returns-in-Damaged-clause-found : goal.returns-in-Damaged-clause-found
returns-in-Damaged-clause-found g c =
    let l = c.loop-count in
    let Then : Next → Type 0 = λ next. Enters l.issuer c.enter_next.new.issuer next l.window.ahead c.enter_next.new.window.ahead in
    let bad = subst Then c.in-Damaged.is c.in_ok-enter_next.ensures.enters in
    bad_found c.args.accounts l.count l.issuer c.args.window.now.ahead l.window.ahead l.invariant.is_of l.invariant.so bad

pub returns-in-End-clause-found : goal.returns-in-End-clause-found
returns-in-End-clause-found g c =
    let l = c.loop-count in
    let new = c.enter_next.new in
    let Then : Next → Type 0 = λ next. Enters l.issuer new.issuer next l.window.ahead new.window.ahead in
    let last = subst Then c.in-End.is c.in_ok-enter_next.ensures.enters in
    last_found c.args.accounts l.count l.issuer new.issuer c.in_ok-clear-in-End.clear c.replayed_at_end.result c.args.window.now.ahead l.window.ahead new.window.ahead
    l.invariant.is_of l.invariant.so last.0 last.1 last.2 c.in_ok-clear-in-End.ensures.clear c.replayed_at_end.ensures

pub loop-count-preserved : goal.loop-count-preserved
loop-count-preserved g c =
    let l = c.loop-count in
    let new = c.enter_next.new in
    let Then : Next → Type 0 = λ next. Enters l.issuer new.issuer next l.window.ahead new.window.ahead in
    let entered = subst Then c.in-Entered.is c.in_ok-enter_next.ensures.enters in
    record {
      is_of = still_of c.args.accounts l.issuer new.issuer l.invariant.is_of entered.0;
      so = one_more c.args.accounts l.count l.issuer new.issuer c.args.window.now.ahead l.window.ahead new.window.ahead l.invariant.is_of l.invariant.so entered.1;
    }
