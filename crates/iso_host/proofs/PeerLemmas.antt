-- Bytes behind those that a peer holds.
use Rattle.std.proofs.Common.{◌≡◌, ◌≢◌, ℕ, zero, suc, ◌+◌, ◌-◌, ◌<◌, ◌≤◌, Bool, true, false, eqb, leb, ◌&&◌, List, [], ◌∷◌, ◌++◌, length, take, drop, slice_index_or, Some, None, inl, inr, refl, sym, subst, ap, ◌∙◌, arith, length-append, length-take, length-drop, append_assoc, append-nil, take-append-drop}
use Rattle.std.specs.Prelude.{Result, Ok, Err, IfOk, IfErr, OnOk, OnErr}
use Rattle.std.proofs.Math.Seq.{take-add}
use Rattle.std.proofs.lemmas.Bool.{eqb-true, eq-eqb, leb-true}
use Rattle.iso_table.specs.Layout.{Layout}
use Rattle.iso_wire.specs.declared.header.Header.{Header}
use Rattle.iso_wire.specs.declared.header.Header.TheVariants.{Binary2, Ascii4, Bcd2}
use Rattle.iso_wire.specs.FrameLaws.{FrameLaws}
use Rattle.iso_wire.specs.Framing.{header_of, header_size, frame_of, largest, NeedsMore, is_bad_header, BadStays}
use Rattle.iso_issuer.specs.Books.{Books}
use Rattle.iso_host.specs.Asking.{message_in}
use Rattle.iso_host.specs.Beginning.{head_of, held_of, IsBegun, IsInBody, IsInHeader}
use Rattle.iso_host.specs.Handling.{EntersOrKeeps}
use Rattle.iso_host.specs.Hosting.{Answers, IsHandled, replying}
use Rattle.iso_host.specs.Links.{agreed}
use Rattle.iso_host.specs.Peers.{Refuses, Takes, one_peer, unfinished}
use Rattle.iso_host.specs.Stepping.{taken_as}
use Rattle.iso_host.specs.declared.handled.Handled.{Handled}
use Rattle.iso_host.specs.declared.peer.PeerFault.{PeerFault}
use Rattle.iso_host.specs.declared.peer.PeerFault.TheVariants.{Memory}
use Rattle.iso_host.specs.declared.taking.Begun.{Begun}
use Rattle.iso_host.specs.declared.taking.Step.{Step}

-- ---- headers

size_least : (h : Header) → 2 ≤ header_size h
size_least Binary2 = omega arith
size_least Ascii4 = omega arith
size_least Bcd2 = omega arith

-- bytes that are fewer than a header need more
short_needs : FrameLaws → (h : Header) (b : List ℕ) → length b < header_size h → NeedsMore h b
short_needs laws h b short = record { no_frame = none; no_fault = fault h short }
  where
    none : (body more : List ℕ) → length body ≤ largest h → b ≡ frame_of h body ++ more → ⊥
    none body more fits is =
        omega (arith, short, ap length is, length-append (frame_of h body) more, length-append (header_of h (length body)) body, laws.header h (length body))

    few : (n : ℕ) (t : Bool) → length b < n → (leb n (length b) && t) ≡ false
    few n t less = by_test (leb n (length b)) refl
      where
        by_test : (x : Bool) → leb n (length b) ≡ x → (x && t) ≡ false
        by_test true same = absurd (omega (arith, less, leb-true n (length b) same))
        by_test false same = refl

    fault : (k : Header) → length b < header_size k → is_bad_header k b ≡ false
    fault Binary2 less = refl
    fault Ascii4 less = few 4 _ less
    fault Bcd2 less = few 2 _ less

-- ---- a frame that lies whole at the front

-- its header is there
has_header : FrameLaws → (h : Header) (bytes : List ℕ) (n : ℕ) → take (header_size h) bytes ≡ header_of h n → header_size h ≤ length bytes
has_header laws h bytes n header = omega (arith, ap length header, laws.header h n, length-take (header_size h) bytes)

module _ (h : Header) (bytes : List ℕ) (n : ℕ) (header : take (header_size h) bytes ≡ header_of h n) (fits : n ≤ largest h) (here : n ≤ length bytes - header_size h) where
  body_size : length (take n (drop (header_size h) bytes)) ≡ n
  body_size = omega (arith, here, length-take n (drop (header_size h) bytes), length-drop (header_size h) bytes)

  pub whole_frame : take (header_size h + n) bytes ≡ frame_of h (take n (drop (header_size h) bytes))
  whole_frame =
      let body = take n (drop (header_size h) bytes) in
      take-add (header_size h) n bytes ∙ ap (λ (l : List ℕ). l ++ body) (header ∙ ap (header_of h) (sym body_size))

  pub takes_whole : FrameLaws → (t : Layout) (held kept : List ℕ) (old new : Books) (out grown : List ℕ) (used : ℕ) (handled : Handled) → held ≡ [] → kept ≡ [] → used ≡ header_size h + n
      → Answers (agreed t h) (replying old out) (replying new grown) (take n (drop (header_size h) bytes)) → IsHandled t old (take n (drop (header_size h) bytes)) handled
      → Takes (agreed t h) (one_peer held old out) (one_peer kept new grown) bytes (record { used = used; handled = Some handled })
  takes_whole laws t held kept old new out grown used handled none none_kept all answers tells =
      let body = take n (drop (header_size h) bytes) in
      let front : held ++ take used bytes ≡ frame_of h body = ap (λ (l : List ℕ). l ++ take used bytes) none ∙ ap (λ (k : ℕ). take k bytes) all ∙ whole_frame in
      record {
        within = omega (arith, all, here, has_header laws h bytes n header);
        piece = (body, front, omega (arith, body_size, fits), none_kept, answers, tells);
        some = λ _ e. omega (arith, e, all, size_least h);
      }

  pub refuses_front : (t : Layout) (held : List ℕ) (old new : Books) → held ≡ [] → EntersOrKeeps t h old new (message_in t (take n (drop (header_size h) bytes))) → Refuses (unfinished (agreed t h) held) old new bytes Memory
  refuses_front t held old new none (inl kept) = inl kept
  refuses_front t held old new none (inr enters) =
      let body = take n (drop (header_size h) bytes) in
      let joined : held ++ bytes ≡ frame_of h body ++ drop (header_size h + n) bytes =
      ap (λ (l : List ℕ). l ++ bytes) none ∙ sym (take-append-drop (header_size h + n) bytes) ∙ ap (λ (l : List ℕ). l ++ drop (header_size h + n) bytes) whole_frame in
      inr (body, drop (header_size h + n) bytes, joined, omega (arith, body_size, fits), enters)

-- ---- a frame that ends behind held bytes

pub refuses_behind : (t : Layout) (h : Header) (held : List ℕ) (old new : Books) (bytes body more : List ℕ) → held ++ bytes ≡ frame_of h body ++ more → length body ≤ largest h → EntersOrKeeps t h old new (message_in t body)
    → Refuses (unfinished (agreed t h) held) old new bytes Memory
refuses_behind t h held old new bytes body more is fits (inl kept) = inl kept
refuses_behind t h held old new bytes body more is fits (inr enters) = inr (body, more, is, fits, enters)

take_all : (k : ℕ) (l : List ℕ) → length l ≤ k → take k l ≡ l
take_all zero [] few = refl
take_all zero (x ∷ l) few = absurd (omega arith)
take_all (suc k) [] few = refl
take_all (suc k) (x ∷ l) few = ap (λ (r : List ℕ). x ∷ r) (take_all k l (omega arith))

pub first_of : (l : List ℕ) → length l ≢ 0 → l ≡ slice_index_or l 0 0 ∷ drop 1 l
first_of [] some = absurd (some refl)
first_of (x ∷ l) some = refl

-- the byte that ends the frame of an empty body
pub empty_frame : (h : Header) (held head : List ℕ) (byte n : ℕ) → head ≡ held ++ (byte ∷ []) → length held < header_size h → take (header_size h) head ≡ header_of h n → n ≡ 0 → held ++ (byte ∷ []) ≡ frame_of h []
empty_frame h held head byte n front short header none =
    let few : length head ≤ header_size h = omega (arith, short, ap length front, length-append held (byte ∷ [])) in
    sym front ∙ sym (take_all (header_size h) head few) ∙ header ∙ ap (header_of h) none ∙ sym (append-nil (header_of h 0))

-- and the bytes behind it
pub ends_empty : (h : Header) (held bytes : List ℕ) (byte : ℕ) → held ++ (byte ∷ []) ≡ frame_of h [] → bytes ≡ byte ∷ drop 1 bytes → held ++ bytes ≡ frame_of h [] ++ drop 1 bytes
ends_empty h held bytes byte whole first =
    let rest = drop 1 bytes in
    ap (λ (l : List ℕ). held ++ l) first ∙ sym (append_assoc held (byte ∷ []) rest) ∙ ap (λ (l : List ℕ). l ++ rest) whole

-- that body is answered
pub takes_empty : (t : Layout) (h : Header) (held : List ℕ) (first last : Begun) (old new : Books) (bytes out grown : List ℕ) (byte : ℕ) (told : Handled) (r : Result Step PeerFault)
    → held ++ (byte ∷ []) ≡ frame_of h [] → bytes ≡ byte ∷ drop 1 bytes → IfOk r (λ s. s ≡ record { used = 1; ended = true })
    → OnOk r (Answers (agreed t h) (replying old out) (replying new grown) []) → OnOk r (IsHandled t old [] told) → OnOk r (last ≡ record first { count = 0 })
    → IfOk r (λ s. Takes (agreed t h) (one_peer held old out) (one_peer (head_of last) new grown) bytes (taken_as s told))
takes_empty t h held first last old new bytes out grown byte told (Ok step) whole is tells answers handled none =
    subst (λ (s : Step). Takes (agreed t h) (one_peer held old out) (one_peer (head_of last) new grown) bytes (taken_as s told)) (sym tells) (record {
      within = omega (arith, ap length is);
      piece = ([], ap (λ (l : List ℕ). held ++ take 1 l) is ∙ whole, omega arith, ap head_of none, answers, handled);
      some = λ _ e. omega (arith, e);
    })
takes_empty t h held first last old new bytes out grown byte told (Err e) whole is tells answers handled none = tt

-- or not, without memory
pub refuses_empty : (t : Layout) (h : Header) (held : List ℕ) (old new : Books) (bytes : List ℕ) (r : Result Step PeerFault) → held ++ bytes ≡ frame_of h [] ++ drop 1 bytes → IfErr r (λ e. e ≡ Memory)
    → OnErr r (EntersOrKeeps t h old new (message_in t [])) → IfErr r (Refuses (unfinished (agreed t h) held) old new bytes)
refuses_empty t h held old new bytes (Ok step) joined memory enters = tt
refuses_empty t h held old new bytes (Err e) joined memory enters =
    subst (Refuses (unfinished (agreed t h) held) old new bytes) (sym memory) (refuses_behind t h held old new bytes [] (drop 1 bytes) joined (omega arith) enters)

-- the byte that shows that a header isn't of digits
pub bad_behind : BadStays → (h : Header) (held head bytes : List ℕ) (byte : ℕ) → head ≡ held ++ (byte ∷ []) → bytes ≡ byte ∷ drop 1 bytes → is_bad_header h head ≡ true → is_bad_header h (held ++ bytes) ≡ true
bad_behind stays h held head bytes byte front first bad =
    let joined : head ++ drop 1 bytes ≡ held ++ bytes =
    ap (λ (l : List ℕ). l ++ drop 1 bytes) front ∙ append_assoc held (byte ∷ []) (drop 1 bytes) ∙ ap (λ (l : List ℕ). held ++ l) (sym first) in
    subst (λ (l : List ℕ). is_bad_header h l ≡ true) joined (stays h head (drop 1 bytes) bad)

-- bytes that end a body behind its first ones
pub refuses_body : (t : Layout) (h : Header) (b : Begun) (part : List ℕ) (old new : Books) (bytes : List ℕ) → IsInBody h b part → b.left ≤ length bytes → EntersOrKeeps t h old new (message_in t (part ++ take b.left bytes))
    → Refuses (unfinished (agreed t h) (held_of b part)) old new bytes Memory
refuses_body t h b part old new bytes inside room enters =
    let piece = take b.left bytes in
    let rest = drop b.left bytes in
    let size : length (part ++ piece) ≡ length part + b.left = omega (arith, length-append part piece, length-take b.left bytes, room) in
    let joined : held_of b part ++ bytes ≡ frame_of h (part ++ piece) ++ rest =
    ap (λ (l : List ℕ). held_of b part ++ l) (sym (take-append-drop b.left bytes)) ∙ append_assoc (head_of b) part (piece ++ rest)
    ∙ ap (λ (l : List ℕ). head_of b ++ l) (sym (append_assoc part piece rest)) ∙ sym (append_assoc (head_of b) (part ++ piece) rest)
    ∙ ap (λ (l : List ℕ). (l ++ (part ++ piece)) ++ rest) (inside.head ∙ ap (header_of h) (sym size)) in
    refuses_behind t h (held_of b part) old new bytes (part ++ piece) rest joined (omega (arith, size, inside.fits)) enters

-- ---- between two frames

size_most : (h : Header) → header_size h ≤ 4
size_most Binary2 = omega arith
size_most Ascii4 = omega arith
size_most Bcd2 = omega arith

pub head_few : (h : Header) (b : Begun) (part : List ℕ) → IsBegun h b part → b.count ≤ 4
head_few h b part begun = by_left b.left refl
  where
    by_left : (n : ℕ) → b.left ≡ n → b.count ≤ 4
    by_left zero none = omega (arith, (begun.outside none).short, size_most h)
    by_left (suc n) some = omega (arith, (begun.inside (omega (arith, some))).size, size_most h)

pub none_of : (l : List ℕ) → length l ≡ 0 → l ≡ []
none_of [] e = refl
none_of (x ∷ l) e = absurd (omega arith)

pub between : FrameLaws → (h : Header) (b : Begun) (part : List ℕ) (n : ℕ) → IsBegun h b part → n ≡ length (head_of b) → (eqb n 0 ≡ true → held_of b part ≡ []) × (held_of b part ≡ [] → eqb n 0 ≡ true)
between laws h b part n begun same = (
  λ is. by_left b.left refl (eqb-true n 0 is),
  λ none. eq-eqb n 0 (omega (arith, same, ap length none, length-append (head_of b) part)),
)
  where
    by_left : (k : ℕ) → b.left ≡ k → n ≡ 0 → held_of b part ≡ []
    by_left zero none is = ap (λ (l : List ℕ). head_of b ++ l) (begun.outside none).none ∙ append-nil (head_of b) ∙ none_of (head_of b) (omega (arith, same, is))
    by_left (suc k) some is =
        let inside = begun.inside (omega (arith, some)) in
        absurd (omega (arith, same, is, ap length inside.head, laws.header h (length part + b.left), size_least h))

-- ---- no byte

pub takes_none : FrameLaws → (t : Layout) (h : Header) (b : Begun) (books : Books) (bytes out : List ℕ) → IsInHeader h b [] → bytes ≡ [] → Takes (agreed t h) (one_peer (head_of b) books out) (one_peer (head_of b) books out) bytes (record { used = 0; handled = None })
takes_none laws t h b books bytes out header none = record {
  within = omega arith;
  piece = (sym (append-nil (head_of b)), short_needs laws h (head_of b) (omega (arith, header.short, length-take b.count b.head)), refl, refl);
  some = λ there _. there none;
}

-- no frame has begun
pub not_begun : (h : Header) (b : Begun) (part : List ℕ) → b.count ≡ 0 → b.left ≡ 0 → part ≡ [] → IsBegun h b part
not_begun h b part first second none = record {
  outside = λ _. record { none = none; short = omega (arith, first, size_least h) };
  inside = λ more. absurd (omega (arith, second, more));
}

-- and no byte is held
pub held_none : (b : Begun) (part : List ℕ) → b.count ≡ 0 → part ≡ [] → held_of b part ≡ []
held_none b part first none = ap (λ (k : ℕ). take k b.head ++ part) first ∙ none
