-- The orders that are made.
use Rattle.std.specs.Prelude.{◌≡◌, ◌+◌, ◌-◌, ◌*◌, ◌%◌, ◌==◌, ℕ, Option, Some, None, nat_lt, if◌then◌else◌}
use Rattle.iso_order.specs.declared.act.Act.{Act}
use Rattle.iso_order.specs.declared.act.Act.TheVariants as act
use Rattle.iso_order.specs.declared.act.Money.{Money}
use Rattle.iso_order.specs.declared.key.TxKey.{TxKey}
use Rattle.iso_order.specs.Order.{Instruction, is_valid}
use Rattle.iso_mix.specs.declared.draft.Draft.{Draft}
use Rattle.iso_mix.specs.declared.mix.Kind.{Kind}
use Rattle.iso_mix.specs.declared.mix.Kind.TheVariants.{Purchase, Hold, Complete, Inquiry, Undo}

-- the order, where a message can carry it
abbrev pub valid_order : TxKey → Act → Option Instruction
valid_order key a =
    if is_valid (record { key = key; act = a }) then Some (record { key = key; act = a }) else None

-- ---- a hold or an inquiry

-- the trace number of the next one, where it and its follower's are above others'
abbrev pub next_stan : ℕ → ℕ → Option ℕ
next_stan count highest =
    if nat_lt (highest + 2 * count + 1) 999999 then Some (999999 - 2 * count) else None

-- no amount, of the same account and currency
abbrev pub nothing_of : Money → Money
nothing_of m = record { pan = m.pan; amount = 0; currency = m.currency }

-- what it asks: an inquiry names no amount
abbrev pub opening_act : Kind → Money → Act
opening_act Inquiry m = act.Inquiry (nothing_of m)
opening_act Hold m = act.Debit m
opening_act Purchase m = act.Debit m
opening_act Complete m = act.Debit m
opening_act Undo m = act.Debit m

-- its key: an authorization request (0100)
abbrev pub opening_key : Draft → ℕ → TxKey
opening_key d stan = record { base = 100; stan = stan; sent = d.sent; acquirer = d.acquirer }

-- the order, where a trace number is left and a message can carry it
abbrev pub opening_by : Kind → Draft → Option ℕ → Option Instruction
opening_by kind d None = None
opening_by kind d (Some stan) = valid_order (opening_key d stan) (opening_act kind d.money)

-- the order, where so many were made
abbrev pub opening_order : Kind → Draft → ℕ → Option Instruction
opening_order kind d count = opening_by kind d (next_stan count d.highest)

-- ---- what follows a hold

-- from 1 to the whole that is held
abbrev pub completed : ℕ → ℕ → ℕ
completed held share = share % held + 1

-- from 1 to one less than is held
abbrev pub left_of : ℕ → ℕ → ℕ
left_of held share = share % (held - 1) + 1

-- a completion of some or all of a hold, where it holds anything
abbrev pub completion : Money → TxKey → ℕ → Option Act
completion held hold share =
    if held.amount == 0 then None
    else Some (act.Complete
    (record { pan = held.pan; amount = completed held.amount share; currency = held.currency })
    hold)

-- a reversal that leaves a part of a hold, where it can be parted
abbrev pub undoing : Money → TxKey → ℕ → Option Act
undoing held hold share =
    if nat_lt held.amount 2 then None else Some (act.Undo hold (left_of held.amount share))

-- what is asked behind a hold of that money, by its kind
abbrev pub follower_by : Kind → Money → TxKey → ℕ → Option Act
follower_by Complete held hold share = completion held hold share
follower_by Undo held hold share = undoing held hold share
follower_by Purchase held hold share = None
follower_by Hold held hold share = None
follower_by Inquiry held hold share = None

-- the same behind what was asked first, which has to be a debit
abbrev pub follower_in : Kind → TxKey → ℕ → Act → Option Act
follower_in kind hold share (act.Debit held) = follower_by kind held hold share
follower_in kind hold share (act.Credit m) = None
follower_in kind hold share (act.Inquiry m) = None
follower_in kind hold share (act.Undo original left) = None
follower_in kind hold share (act.Complete m of) = None

-- what a completion or a partial reversal of a hold asks
abbrev pub follower_act : Kind → Instruction → ℕ → Option Act
follower_act kind hold share = follower_in kind hold.key share hold.act

-- an advice of a completion (0220), or of a reversal (0420)
abbrev pub follower_base : Kind → ℕ
follower_base Complete = 220
follower_base Purchase = 420
follower_base Hold = 420
follower_base Inquiry = 420
follower_base Undo = 420

-- the trace number of the order that follows the hold at a place, if it is above others'
abbrev pub follower_stan : ℕ → ℕ → Option ℕ
follower_stan place highest =
    if nat_lt (highest + 2 * place + 1) 999999 then Some (999998 - 2 * place) else None

-- the key of the order that follows the hold: that of an advice
abbrev pub follower_key : Kind → Draft → ℕ → TxKey
follower_key kind d stan =
    record { base = follower_base kind; stan = stan; sent = d.sent; acquirer = d.acquirer }

-- the order follows that hold, under that trace number
pub record IsFollower (kind : Kind) (d : Draft) (hold : Instruction) (stan : ℕ)
    (o : Instruction) : Type 0 where
  pub key : o.key ≡ follower_key kind d stan
  pub asks : follower_act kind hold d.share ≡ Some o.act
