-- What is found is what is given.
use Rattle.std.proofs.Common.{◌≡◌, ℕ, ◌≤◌, ℤ, pos, negsuc, List, [], ◌++◌, length, take, drop, Option, Some, None, Result, Ok, Err, refl, sym, ap, subst, ◌∙◌}
use Rattle.std.proofs.lemmas.List.{take-append-drop}
use Rattle.iso_table.specs.Layout.{Layout}
use Rattle.iso_wire.specs.declared.fault.UnpackFault.{UnpackFault}
use Rattle.iso_wire.specs.Contents.{Contents}
use Rattle.iso_wire.specs.Reading.{message_at}
use Rattle.iso_wire.specs.Spelling.{BeginsWith}
use Rattle.iso_c.specs.declared.fault.RumpadolFault.{RumpadolFault}
use Rattle.iso_c.specs.declared.parts.RumpadolMessage.{RumpadolMessage}
use Rattle.iso_c.specs.declared.unpacking.SpreadMessage.{SpreadMessage}
use Rattle.iso_c.specs.Parts.{elements_in, parts_from, values_of}
use Rattle.iso_c.specs.Spreading.{IsSpread, IsSpreadHeld, GivesMessage, GivesSpread}
use Rattle.iso_c.specs.Unpacking.{Holding, Holdings, IsReadFaultHeld, Unpacks, IsUnpackReply, read_fault, given_fault, room_fault}
use Rattle.iso_c.proofs.SpreadingLemmas.{Values, told, length_parts}

pub within : (t : Option Layout) (b : List ℕ) (found : SpreadMessage) → IsSpreadHeld t b found → found.used ≤ length b
within (Some t) b found is = is.begins.0
within None b found is = absurd is

unpacks : (t : Layout) (b : List ℕ) (found : SpreadMessage) (used : ℕ) (held : Holdings)
    → IsSpread t b found → GivesSpread found used held → Unpacks t b used held
unpacks t b found used held is gives =
    let parts = held.new.parts in
    let values = held.new.values in
    let es : Values = is.m.elements in
    let k : ℕ = length found.parts.items in
    let n : ℕ = length found.values.items in
    let parts_are : take k parts ≡ parts_from 0 es = gives.parts_are ∙ is.parts in
    let values_are : take n values ≡ values_of es = gives.values_are ∙ is.values in
    let split : values ≡ values_of es ++ drop n values = sym (take-append-drop n values) ∙ ap (λ (l : List ℕ). l ++ drop n values) values_are in
    subst (λ (m : RumpadolMessage). Unpacks t b used (record { old = held.old; new = record { message = m; parts = parts; values = values } })) (sym gives.message) (record {
      m = is.m;
      begins = subst (λ (u : ℕ). BeginsWith t is.m u b) (sym gives.used_is) is.begins;
      mti = is.mti;
      few = gives.few;
      room = gives.room;
      parts_are = parts_are;
      values_are = values_are;
      parts_behind = gives.parts_behind;
      values_behind = gives.values_behind;
      lies = ap (elements_in values) parts_are ∙ ap (λ (l : List ℕ). elements_in l (parts_from 0 es)) split ∙ told [] es (drop n values);
    })

pub given : (t : Option Layout) (b : List ℕ) (found : SpreadMessage) (z : ℤ) (held : Holdings) (f : RumpadolFault)
    → IsSpreadHeld t b found → GivesMessage found z held f → IsUnpackReply t b z held f
given None b found z held f is gives = absurd is
given (Some t) b found (pos used) held f is gives = unpacks t b found used held is gives
given (Some t) b found (negsuc k) held f is gives =
    let places : ℕ = length held.old.parts in
    let room : ℕ = length held.old.values in
    let many : length found.parts.items ≡ length is.m.elements = ap length is.parts ∙ length_parts 0 is.m.elements in (
      gives.0,
      gives.1,
      λ ne. ap (λ (r : Result (Contents × ℕ) UnpackFault). given_fault r places room) is.read
          ∙ sym (ap (λ (n : ℕ). room_fault n (length (values_of is.m.elements)) places room) many)
          ∙ sym (ap (λ (l : List ℕ). room_fault (length found.parts.items) (length l) places room) is.values) ∙ gives.2,
    )

given_by : (r : Result (Contents × ℕ) UnpackFault) (places room : ℕ) (f : RumpadolFault) → read_fault r ≡ Some f → given_fault r places room ≡ Some f
given_by (Ok x) places room f h = absurd cc
given_by (Err e) places room f h = h

pub not_read : (t : Option Layout) (b : List ℕ) (held : Holding) (f : RumpadolFault)
    → IsReadFaultHeld t b f → IsUnpackReply t b (negsuc 0) (record { old = held; new = held }) f
not_read (Some t) b held f is =
    (refl, record { message = refl; parts_kept = refl; values_kept = refl }, λ ne. given_by (message_at t b) (length held.parts) (length held.values) f (is ne))
not_read None b held f is = (refl, record { message = refl; parts_kept = refl; values_kept = refl }, is)
