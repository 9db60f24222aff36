use Rattle.std.proofs.Common.{◌≡◌, List, [], ◌∷◌, ◌++◌, arith, sym, ap, ◌∙◌, subst, length}
use Rattle.iso_order.specs.declared.key.TxKey.{TxKey}
use Rattle.iso_drive.specs.declared.made.Made.{Made}
use Rattle.iso_waits.specs.declared.due.Due.{Due}
use Rattle.iso_waits.specs.Waits.{AreInTime}
use Rattle.iso_drive.proofs.Boarded.{board-begun}
use Rattle.iso_drive.proofs.Tabled.{made-begun, made-length}
use Rattle.iso_drive.proofs.board.begin_again.Goals as goal

pub returns-clause-board : goal.returns-clause-board
returns-clause-board c = λ slots b.
    let old = c.args.board.now in
    let o = c.args.order.now in
    let key : c.key-key.result ≡ o.key = c.key-key.ensures.value in
    let lengths : c.len-made.result ≡ length slots = c.len-made.ensures ∙ old.made.ok.0 ∙ made-length old.made.items slots b.tabled in
    board-begun c.who_waits.ensures.who old c.begin.new.board slots o 0 b (omega (arith, lengths, c.if-made.false)) (sym (ap (λ (k : TxKey). k.stan) key) ∙ omega (arith, lengths, c.if-key-made.false))
    (c.begin.ensures.made ∙ ap (λ (m : Made). old.made.items ++ m ∷ []) (made-begun o c.key-key.result c.in-Debit.money key c.in-Debit.ensures.value))
    (c.begin.ensures.waiting ∙ ap (λ (k : TxKey). old.waiting.items ++ record { stan = k.stan; at = 0 } ∷ []) key)

pub returns-clause-time : goal.returns-clause-time
returns-clause-time c = λ t.
    subst (λ (w : List Due). AreInTime 0 w) (sym c.begin.ensures.waiting)
    (c.who_waits.ensures.in_time.more 0 c.args.board.now.waiting.items (record { stan = c.key-key.result.stan; at = 0 }) (omega arith) t)
