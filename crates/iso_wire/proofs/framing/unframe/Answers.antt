use Rattle.std.proofs.Common.{◌≡◌, ◌<◌, ℕ, List, ◌++◌, get_or, length, take, drop, Some, refl, true, sym, ap, ◌∙◌, arith, rules}
use Rattle.std.proofs.lemmas.List.{take-append-drop}
use Rattle.iso_wire.specs.Spelling.{AreBytes}
use Rattle.iso_wire.proofs.Bytes.{bytes_take}
use Rattle.iso_wire.specs.Framing.{header_size, header_length, is_bad_header, NeedsMore}
use Rattle.iso_wire.specs.declared.header.Header.{Header}
use Rattle.iso_wire.proofs.FrameFronts.{short_needs_more, bad_front, bad_no_frame, rest_needs_more, counted_header, got_front, no_fault_here}
use Rattle.iso_wire.proofs.FrameHeaders.{IsHeader, header_takes, frame_begins}
use Rattle.iso_wire.proofs.framing.unframe.Goals as goal

-- what is in front of the rest is the header of the length that it tells
counts : (h : Header) (n size : ℕ) (input front rest : List ℕ) → size ≡ header_size h → ((i : ℕ) → get_or input i 0 < 256) → front ≡ take size input → rest ≡ drop size input → Some n ≡ header_length h front → IsHeader h n front
counts h n size input front rest is fits e d told =
    let bytes : AreBytes front = rw e (bytes_take size input fits) in
    header_takes h n front bytes (sym told)

pub returns-then-input-size-clause-front : goal.returns-then-input-size-clause-front
returns-then-input-size-clause-front c = short_needs_more c.args.header c.args.input.now (rw c.size-size.ensures at c.if-input-size.true)

pub returns-then-input-size-clause-got : goal.returns-then-input-size-clause-got
returns-then-input-size-clause-got c = (short_needs_more c.args.header c.args.input.now (rw c.size-size.ensures at c.if-input-size.true)).no_frame

pub returns-then-input-size-clause-bad : goal.returns-then-input-size-clause-bad
returns-then-input-size-clause-bad c = no_fault_here _ _ (short_needs_more c.args.header c.args.input.now (rw c.size-size.ensures at c.if-input-size.true)).no_fault

-- the front and the rest are the input
parted : (size : ℕ) (input front rest : List ℕ) → front ≡ take size input → rest ≡ drop size input → input ≡ front ++ rest
parted size input front rest e d = sym (ap (λ l. l ++ rest) e ∙ ap (λ l. take size input ++ l) d ∙ take-append-drop size input)

is_bad : (c : goal.In_default) → is_bad_header c.args.header c.args.input.now ≡ true
is_bad c =
    let size = c.size-size.result in
    let input = c.args.input.now in
    let front = c.split_at.result.0.now in
    let rest = c.split_at.result.1.now in
    let length_is : length front ≡ header_size c.args.header = c.split_at.ensures.front_len ∙ c.size-size.ensures in
    ap (is_bad_header c.args.header) (parted size input front rest c.split_at.ensures.front c.split_at.ensures.back) ∙ bad_front c.args.header front rest length_is c.in_default.ensures

pub returns-in_default-clause-front : goal.returns-in_default-clause-front
returns-in_default-clause-front c = (refl, is_bad c)

pub returns-in_default-clause-got : goal.returns-in_default-clause-got
returns-in_default-clause-got c = bad_no_frame c.args.header c.args.input.now (is_bad c)

pub returns-in_default-clause-bad : goal.returns-in_default-clause-bad
returns-in_default-clause-bad c = (λ _. is_bad c, λ _. refl)

-- fewer bytes follow than the header counts
more_here : (c : goal.Then-rest-length) → NeedsMore c.args.header c.args.input.now
more_here c =
    let size = c.size-size.result in
    let input = c.args.input.now in
    let front = c.split_at.result.0.now in
    let rest = c.split_at.result.1.now in
    let header = counts c.args.header c.in-Some.length size input front rest c.size-size.ensures (λ i. omega (arith, c.type_inv.input i)) c.split_at.ensures.front c.split_at.ensures.back c.in-Some.ensures in
    rest_needs_more c.args.header c.in-Some.length input rest (parted size input front rest c.split_at.ensures.front c.split_at.ensures.back ∙ ap (λ l. l ++ rest) header.same) header.fits c.if-rest-length.true

pub returns-then-rest-length-clause-front : goal.returns-then-rest-length-clause-front
returns-then-rest-length-clause-front c = more_here c

pub returns-then-rest-length-clause-got : goal.returns-then-rest-length-clause-got
returns-then-rest-length-clause-got c = (more_here c).no_frame

pub returns-then-rest-length-clause-bad : goal.returns-then-rest-length-clause-bad
returns-then-rest-length-clause-bad c = no_fault_here _ _ (more_here c).no_fault

pub returns-clause-front : goal.returns-clause-front
returns-clause-front c =
    let input = c.args.input.now in
    let front = c.split_at.result.0.now in
    let rest = c.split_at.result.1.now in
    let size = c.size-size.result in
    let header = counts c.args.header c.in-Some.length size input front rest c.size-size.ensures (λ i. omega (arith, c.type_inv.input i)) c.split_at.ensures.front c.split_at.ensures.back c.in-Some.ensures in
    rw c.size-size.ensures (frame_begins c.args.header c.in-Some.length input front rest (parted size input front rest c.split_at.ensures.front c.split_at.ensures.back) header c.if-rest-length.false)

pub returns-clause-got : goal.returns-clause-got
returns-clause-got c = λ body more p e.
    let input = c.args.input.now in
    let front = c.split_at.result.0.now in
    let rest = c.split_at.result.1.now in
    let size = c.size-size.result in
    let header = counts c.args.header c.in-Some.length size input front rest c.size-size.ensures (λ i. omega (arith, c.type_inv.input i)) c.split_at.ensures.front c.split_at.ensures.back c.in-Some.ensures in
    rw c.size-size.ensures
    (got_front c.args.header c.in-Some.length input rest body more (parted size input front rest c.split_at.ensures.front c.split_at.ensures.back ∙ ap (λ l. l ++ rest) header.same) header.fits p e)

pub returns-clause-bad : goal.returns-clause-bad
returns-clause-bad c =
    let input = c.args.input.now in
    let front = c.split_at.result.0.now in
    let rest = c.split_at.result.1.now in
    let size = c.size-size.result in
    let header = counts c.args.header c.in-Some.length size input front rest c.size-size.ensures (λ i. omega (arith, c.type_inv.input i)) c.split_at.ensures.front c.split_at.ensures.back c.in-Some.ensures in
    no_fault_here _ _ (counted_header c.args.header c.in-Some.length input rest (parted size input front rest c.split_at.ensures.front c.split_at.ensures.back ∙ ap (λ l. l ++ rest) header.same) header.fits)

pub returns-clause-read : goal.returns-clause-read
returns-clause-read c = search rules
