use Rattle.std.proofs.Common.{◌≡◌, ℤ, ℕ, List, Option, subst, sym, w64, to_z, of_z}
use Rattle.std.proofs.Math.Facts.{to_z-of_z}
use Rattle.iso_table.specs.Layout.{Layout}
use Rattle.iso_c.specs.Spreading.{IsSpreadHeld}
use Rattle.iso_c.specs.Unpacking.{Holding, Holdings, IsUnpackReply, IsReadFaultHeld}
use Rattle.iso_c.proofs.UnpackingLemmas.{within, given, not_read}
use Rattle.iso_c.proofs.unpacking.rumpadol_unpack.Goals as goal

pub give_message-requires : goal.give_message-requires
give_message-requires c = within c.replace-table.result c.args.bytes.now c.in-Ok.found c.in-Ok.ensures.ok

pub returns-in-Ok-clause-reply : goal.returns-in-Ok-clause-reply
returns-in-Ok-clause-reply c =
    let z : ℤ = c.give_message.result in
    let same : to_z w64 (of_z w64 z) ≡ z = to_z-of_z {w = w64} (record { sfits = c.give_message.type_inv }) in
    let held : Holdings = record {
      old = record { message = c.args.message.now; parts = c.args.parts.now; values = c.args.values.now };
      new = record { message = c.give_message.new.message; parts = c.give_message.new.parts; values = c.give_message.new.values };
    } in
    let reply = λ (t : Option Layout). λ (y : ℤ). IsUnpackReply t c.args.bytes.now y held c.give_message.new.fault in
    let is : IsSpreadHeld c.args.slot.now.value c.args.bytes.now c.in-Ok.found =
    subst (λ (t : Option Layout). IsSpreadHeld t c.args.bytes.now c.in-Ok.found) c.replace-table.ensures.0 c.in-Ok.ensures.ok in
    subst (reply c.args.slot.now.value) (sym same)
    (given c.args.slot.now.value c.args.bytes.now c.in-Ok.found z held c.give_message.new.fault is c.give_message.ensures.reply)

pub returns-in-Err-clause-reply : goal.returns-in-Err-clause-reply
returns-in-Err-clause-reply c =
    let t : Option Layout = c.args.slot.now.value in
    let b : List ℕ = c.args.bytes.now in
    let held : Holding = record { message = c.args.message.now; parts = c.args.parts.now; values = c.args.values.now } in
    let is : IsReadFaultHeld t b c.in-Err.reason = subst (λ (x : Option Layout). IsReadFaultHeld x b c.in-Err.reason) c.replace-table.ensures.0 c.in-Err.ensures.fault in
    rw c.refuse.ensures.answer (rw c.refuse.ensures.fault (not_read t b held c.in-Err.reason is))
