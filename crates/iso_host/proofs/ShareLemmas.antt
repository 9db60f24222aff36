-- Peers at one host, call after call.
use Rattle.std.proofs.Common.{◌≡◌, ◌≢◌, ℕ, ◌≤◌, ◌==◌, Bool, true, false, cond, leb, List, [], ◌∷◌, ◌++◌, length, take, map, ◌&&◌, Option, Some, None, Result, Ok, Err, inl, inr, refl, sym, ap, subst, ◌∙◌, arith, length-append, append_assoc, append-nil}
use Rattle.std.specs.Prelude.{flat_map, filter, IsOk}
use Rattle.std.proofs.Math.Seq.{take-length}
use Rattle.std.proofs.lemmas.Bool.{eqb-true, eqb-false, eq-eqb, leb-true, leb-false}
use Rattle.std.proofs.lemmas.Grind.{flat_map-append}
use Rattle.std.proofs.lemmas.List.{take-append-le, map-append}
use Rattle.std.proofs.lemmas.List.Elements.{filter-append}
use Rattle.iso_wire.specs.declared.header.Header.{Header}
use Rattle.iso_wire.specs.FrameLaws.{FrameLaws}
use Rattle.iso_wire.specs.Framing.{frame_of, frames_of, largest, NoFrame, Splits}
use Rattle.iso_issuer.specs.Books.{Books}
use Rattle.iso_order.specs.Order.{Instruction}
use Rattle.iso_issuer.specs.Journal.{firsts}
use Rattle.iso_issuer.specs.Laws.{FirstsGoOn, books_after}
use Rattle.iso_host.proofs.FrameLemmas.{frames_more, fit_more}
use Rattle.iso_host.proofs.ServeLemmas.{no_byte}
use Rattle.iso_host.specs.Entering.{books_after_bodies}
use Rattle.iso_host.specs.Handling.{books_after_body}
use Rattle.iso_host.specs.Output.{IsAnswer, IsOutput, IsOutputFrom}
use Rattle.iso_host.specs.declared.handled.Handled.{Handled}
use Rattle.iso_host.specs.Asking.{asked_of, orders_in, orders_of}
use Rattle.iso_host.specs.Links.{Agreed, agreed}
use Rattle.iso_host.specs.Sharing.{Call, Calls, Peers, Goes, GoesOn, Entry, taken_of, bytes_of, bodies_of, orders_by, books_after_entries, AreFrames, InOrder, IsAnswerIf, IsShareFrom, Shares, PeersShare, AreOf, PeerAlone, opening, peer_of}

-- ---- one peer's bytes

-- bytes that stay behind the rest
split_kept : (h : Header) (bytes piece : List ℕ) (bodies : List (List ℕ)) (rest kept : List ℕ) → Splits h bytes bodies rest → kept ≡ rest ++ piece → NoFrame h kept → Splits h (bytes ++ piece) bodies kept
split_kept h bytes piece bodies rest kept split is none = record {
  joined = ap (λ (l : List ℕ). l ++ piece) split.joined ∙ append_assoc (frames_of h bodies) rest piece ∙ ap (λ (l : List ℕ). frames_of h bodies ++ l) (sym is);
  fit = split.fit;
  partial = none;
}

-- bytes that end a frame
split_ended : FrameLaws → (h : Header) (bytes piece : List ℕ) (bodies : List (List ℕ)) (rest kept body : List ℕ) → Splits h bytes bodies rest → rest ++ piece ≡ frame_of h body → length body ≤ largest h → kept ≡ []
    → Splits h (bytes ++ piece) (bodies ++ body ∷ []) kept
split_ended joins h bytes piece bodies rest kept body split is fits none = record {
  joined = ap (λ (l : List ℕ). l ++ piece) split.joined ∙ append_assoc (frames_of h bodies) rest piece
      ∙ ap (λ (l : List ℕ). frames_of h bodies ++ l) (is ∙ sym (append-nil (frame_of h body)))
      ∙ sym (frames_more joins h bodies body []) ∙ ap (λ (l : List ℕ). frames_of h (bodies ++ body ∷ []) ++ l) (sym none);
  fit = fit_more joins h bodies body split.fit fits;
  partial = subst (NoFrame h) (sym none) (no_byte h);
}

-- no bytes
split_same : (h : Header) (bytes : List ℕ) (bodies : List (List ℕ)) (rest kept : List ℕ) → Splits h bytes bodies rest → kept ≡ rest → Splits h (bytes ++ []) (bodies ++ []) kept
split_same h bytes bodies rest kept split same =
    subst (λ (l : List ℕ). Splits h l (bodies ++ []) kept) (sym (append-nil bytes))
    (subst (λ (l : List (List ℕ)). Splits h bytes l kept) (sym (append-nil bodies))
    (subst (Splits h bytes bodies) (sym same) split))

-- ---- lists that grow

bytes_more : (s : ℕ) (calls : List Call) (call : Call) → bytes_of s (calls ++ call ∷ []) ≡ bytes_of s calls ++ bytes_of s (call ∷ [])
bytes_more s calls call =
    ap (flat_map (λ (c : Call). taken_of c.result c.bytes)) (filter-append (λ (c : Call). c.peer == s) calls (call ∷ []))
    ∙ flat_map-append (λ (c : Call). taken_of c.result c.bytes) (filter (λ (c : Call). c.peer == s) calls) (filter (λ (c : Call). c.peer == s) (call ∷ []))

bodies_more : (s : ℕ) (ended more : List Entry) → bodies_of s (ended ++ more) ≡ bodies_of s ended ++ bodies_of s more
bodies_more s ended more =
    ap (map (λ (e : Entry). e.body)) (filter-append (λ (e : Entry). (e.peer == s) && e.answered) ended more)
    ∙ map-append (λ (e : Entry). e.body) (filter (λ (e : Entry). (e.peer == s) && e.answered) ended) (filter (λ (e : Entry). (e.peer == s) && e.answered) more)

-- whichever of two lists is meant, by a test
piece_if : (s : ℕ) (call : Call) (b : Bool) → (call.peer == s) ≡ b → bytes_of s (call ∷ []) ≡ cond b (taken_of call.result call.bytes ++ []) []
piece_if s call b is = ap (λ (t : Bool). flat_map (λ (c : Call). taken_of c.result c.bytes) (cond t (call ∷ []) [])) is ∙ by_test b
  where
    by_test : (t : Bool) → flat_map (λ (c : Call). taken_of c.result c.bytes) (cond t (call ∷ []) []) ≡ cond t (taken_of call.result call.bytes ++ []) []
    by_test true = refl
    by_test false = refl

body_if : (s : ℕ) (e : Entry) (b : Bool) → ((e.peer == s) && e.answered) ≡ b → bodies_of s (e ∷ []) ≡ cond b (e.body ∷ []) []
body_if s e b is = ap (λ (t : Bool). map (λ (x : Entry). x.body) (cond t (e ∷ []) [])) is ∙ by_test b
  where
    by_test : (t : Bool) → map (λ (x : Entry). x.body) (cond t (e ∷ []) []) ≡ cond t (e.body ∷ []) []
    by_test true = refl
    by_test false = refl

-- ---- the order

order_more : (links : ℕ → Agreed) (calls : List Call) (call : Call) (ended more : List Entry) → InOrder links calls ended → AreFrames links (calls ++ call ∷ []) (ended ++ more) → InOrder links (calls ++ call ∷ []) (ended ++ more)
order_more links calls call ended more order all n within = by_test (leb n (length calls)) refl
  where
    by_test : (b : Bool) → leb n (length calls) ≡ b → (k : ℕ) × (k ≤ length (ended ++ more)) × AreFrames links (take n (calls ++ call ∷ [])) (take k (ended ++ more))
    by_test true is =
        let before : n ≤ length calls = leb-true n (length calls) is in
        let earlier = order n before in
        let same_calls : take n (calls ++ call ∷ []) ≡ take n calls = take-append-le n calls (call ∷ []) before in
        let same_ended : take earlier.0 (ended ++ more) ≡ take earlier.0 ended = take-append-le earlier.0 ended more earlier.1 in (
          earlier.0,
          omega (arith, earlier.1, length-append ended more),
          subst (λ (l : List Call). AreFrames links l (take earlier.0 (ended ++ more))) (sym same_calls) (subst (AreFrames links (take n calls)) (sym same_ended) earlier.2),
        )
    by_test false is =
        let size : n ≡ length (calls ++ call ∷ []) = omega (arith, leb-false n (length calls) is, within, length-append calls (call ∷ [])) in
        let same_calls : take n (calls ++ call ∷ []) ≡ calls ++ call ∷ [] = ap (λ (k : ℕ). take k (calls ++ call ∷ [])) size ∙ take-length (calls ++ call ∷ []) in (
          length (ended ++ more),
          omega arith,
          subst (λ (l : List Call). AreFrames links l (take (length (ended ++ more)) (ended ++ more))) (sym same_calls)
              (subst (AreFrames links (calls ++ call ∷ [])) (sym (take-length (ended ++ more))) all),
        )

-- ---- what comes out

-- one more body
share_more : (links : ℕ → Agreed) (books : Books) (s : ℕ) (earlier ended : List Entry) (e : Entry) (out first : List ℕ)
    → IsShareFrom (opening links books) s earlier ended out → IsAnswerIf ((e.peer == s) && e.answered) (links s) (books_after_entries links books (earlier ++ ended)) e.body first → IsShareFrom (opening links books) s earlier (ended ++ e ∷ []) (out ++ first)
share_more links books s earlier [] e out first is answer = (
  first,
  [],
  subst (λ (l : List Entry). IsAnswerIf ((e.peer == s) && e.answered) (links s) (books_after_entries links books l) e.body first) (append-nil earlier) answer,
  refl,
  ap (λ (l : List ℕ). l ++ first) is ∙ sym (append-nil first),
)
share_more links books s earlier (x ∷ xs) e out first is answer =
    let later = subst (λ (l : List Entry). IsAnswerIf ((e.peer == s) && e.answered) (links s) (books_after_entries links books l) e.body first) (sym (append_assoc earlier (x ∷ []) xs)) answer in (
      is.0,
      is.1 ++ first,
      is.2,
      share_more links books s (earlier ++ x ∷ []) xs e is.1 first is.3 later,
      ap (λ (l : List ℕ). l ++ first) is.4 ∙ append_assoc is.0 is.1 first,
    )

-- ---- the books

orders_more : (links : ℕ → Agreed) (ended : List Entry) (e : Entry) → orders_by links (ended ++ e ∷ []) ≡ orders_by links ended ++ orders_in (asked_of (links e.peer).table e.body)
orders_more links [] e = append-nil (orders_in (asked_of (links e.peer).table e.body))
orders_more links (x ∷ xs) e =
    ap (λ (l : List Instruction). orders_in (asked_of (links x.peer).table x.body) ++ l) (orders_more links xs e)
    ∙ sym (append_assoc (orders_in (asked_of (links x.peer).table x.body)) (orders_by links xs) (orders_in (asked_of (links e.peer).table e.body)))

-- what was kept for the earlier bodies stands for all of them
entries_more : FirstsGoOn → (links : ℕ → Agreed) (books : Books) (ended : List Entry) (e : Entry)
    → books_after_entries links books (ended ++ e ∷ []) ≡ books_after_body (links e.peer).table (books_after_entries links books ended) e.body
unfolding books_after_entries
entries_more go_on links books ended e =
    let asked = orders_in (asked_of (links e.peer).table e.body) in
    ap (λ (l : List Instruction). record books { orders = l })
    (ap (λ (l : List Instruction). take books.limit (firsts (books.orders ++ l))) (orders_more links ended e)
    ∙ ap (λ (l : List Instruction). take books.limit (firsts l)) (sym (append_assoc books.orders (orders_by links ended) asked))
    ∙ sym (go_on books.limit (books.orders ++ orders_by links ended) asked))

-- before any body the books are as they were
entries_none : (links : ℕ → Agreed) (books : Books) → books_after books [] ≡ books → books_after_entries links books [] ≡ books
unfolding books_after_entries
entries_none links books kept = kept

-- ---- one peer alone

-- where all bodies are the peer's, it is the output
abbrev EndedOf : ℕ → List Entry → Type 0
EndedOf s [] = Unit {0}
EndedOf s (e ∷ es) = (e.peer ≡ s) × (((e.peer == s) && e.answered) ≡ true) × EndedOf s es

abbrev bodies_in : List Entry → List (List ℕ)
bodies_in entries = map (λ (e : Entry). e.body) entries

all_alone : (s : ℕ) (ended : List Entry) → EndedOf s ended → bodies_of s ended ≡ bodies_in ended
all_alone s [] of = refl
all_alone s (e ∷ es) of =
    bodies_more s (e ∷ []) es ∙ ap (λ (l : List (List ℕ)). l ++ bodies_of s es) (body_if s e true of.1) ∙ ap (λ (l : List (List ℕ)). e.body ∷ l) (all_alone s es of.2)

orders_alone : (links : ℕ → Agreed) (s : ℕ) (ended : List Entry) → EndedOf s ended → orders_by links ended ≡ orders_of (links s).table (bodies_in ended)
orders_alone links s [] of = refl
orders_alone links s (e ∷ es) of =
    ap (λ (n : ℕ). orders_in (asked_of (links n).table e.body) ++ orders_by links es) of.0
    ∙ ap (λ (l : List Instruction). orders_in (asked_of (links s).table e.body) ++ l) (orders_alone links s es of.2)

books_alone : (links : ℕ → Agreed) (s : ℕ) (books : Books) (ended : List Entry) → EndedOf s ended → books_after_entries links books ended ≡ books_after_bodies (links s).table books (bodies_in ended)
unfolding books_after_entries books_after_bodies
books_alone links s books ended of = ap (books_after books) (orders_alone links s ended of)

ended_more : (s : ℕ) (ended : List Entry) (e : Entry) → EndedOf s ended → e.peer ≡ s → ((e.peer == s) && e.answered) ≡ true → EndedOf s (ended ++ e ∷ [])
ended_more s [] e of own is = (own, is, tt)
ended_more s (x ∷ xs) e of own is = (of.0, of.1, ended_more s xs e of.2 own is)

share_alone : (links : ℕ → Agreed) (books : Books) (s : ℕ) (earlier ended : List Entry) (out : List ℕ) → EndedOf s earlier → EndedOf s ended → IsShareFrom (opening links books) s earlier ended out
    → IsOutputFrom (agreed (links s).table (links s).header) books (bodies_in earlier) (bodies_in ended) out
share_alone links books s earlier [] out before of is = is
share_alone links books s earlier (e ∷ es) out before of is =
    let answer = subst (λ (b : Bool). IsAnswerIf b (links s) (books_after_entries links books earlier) e.body is.0) of.1 is.2 in
    let rest = share_alone links books s (earlier ++ e ∷ []) es is.1 (ended_more s earlier e before of.0 of.1) of.2 is.3 in (
      is.0,
      is.1,
      subst (λ (b : Books). IsAnswer (links s).table (links s).header b e.body is.0) (books_alone links s books earlier before) answer,
      subst (λ (l : List (List ℕ)). IsOutputFrom (agreed (links s).table (links s).header) books l (bodies_in es) is.1) (map-append (λ (x : Entry). x.body) earlier (e ∷ [])) rest,
      is.4,
    )

and_false : (b : Bool) → (b && false) ≡ false
and_false true = refl
and_false false = refl

-- ---- one more call

module _ (go_on : FirstsGoOn) (joins : FrameLaws) (links : ℕ → Agreed) (calls : List Call) (call : Call) (old mid new : Peers) (ended : List Entry) (shares : Shares links calls old mid ended) (goes : Goes links call mid new) where
  -- a peer's frames, by what it took and what ended
  frames_by : (s : ℕ) (more : List Entry) (piece : List ℕ) (bodies : List (List ℕ)) → bytes_of s (call ∷ []) ≡ piece → bodies_of s more ≡ bodies → Splits (links s).header (bytes_of s calls ++ piece) (bodies_of s ended ++ bodies) (new.held s)
      → Splits (links s).header (bytes_of s (calls ++ call ∷ [])) (bodies_of s (ended ++ more)) (new.held s)
  frames_by s more piece bodies took ends split =
      subst (λ (l : List ℕ). Splits (links s).header l (bodies_of s (ended ++ more)) (new.held s)) (sym (bytes_more s calls call ∙ ap (λ (l : List ℕ). bytes_of s calls ++ l) took))
      (subst (λ (l : List (List ℕ)). Splits (links s).header (bytes_of s calls ++ piece) l (new.held s)) (sym (bodies_more s ended more ∙ ap (λ (l : List (List ℕ)). bodies_of s ended ++ l) ends)) split)

  -- what holds of the call's peer, and of each other one, holds of all
  each : (P : ℕ → Type 0) → P call.peer → ((s : ℕ) → (call.peer == s) ≡ false → P s) → (s : ℕ) → P s
  each P own other s = by_test (call.peer == s) refl
    where
      by_test : (b : Bool) → (call.peer == s) ≡ b → P s
      by_test true is = subst P (eqb-true call.peer s is) own
      by_test false is = other s is

  apart : (s : ℕ) → (call.peer == s) ≡ false → s ≢ call.peer
  apart s is e = eqb-false call.peer s is (sym e)

  own_piece : bytes_of call.peer (call ∷ []) ≡ taken_of call.result call.bytes
  own_piece = piece_if call.peer call true (eq-eqb call.peer call.peer refl) ∙ append-nil (taken_of call.result call.bytes)

  abbrev Step : Type 0
  Step = (more : List Entry) × Shares links (calls ++ call ∷ []) old new (ended ++ more) × ((s : ℕ) → EndedOf s ended → call.peer ≡ s → IsOk call.result → EndedOf s (ended ++ more))

  module _ (frames : (s : ℕ) → Splits (links s).header (bytes_of s (calls ++ call ∷ [])) (bodies_of s (ended ++ [])) (new.held s)) (books : new.books ≡ mid.books) (out : (s : ℕ) → new.out s ≡ mid.out s) where
    -- nothing ended
    step_kept : Step
    step_kept = (
      [],
      record {
        order = order_more links calls call ended [] shares.order (λ s. (new.held s, frames s));
        frames = frames;
        books = books ∙ shares.books ∙ ap (λ (l : List Entry). books_after_entries links old.books l) (sym (append-nil ended));
        out = λ s. (
          (shares.out s).0,
          subst (λ (l : List Entry). IsShareFrom (opening links old.books) s [] l (shares.out s).0) (sym (append-nil ended)) (shares.out s).1,
          out s ∙ (shares.out s).2,
        );
      },
      λ s of is ok. subst (EndedOf s) (sym (append-nil ended)) of,
    )

  abbrev Frames : List Entry → ℕ → Type 0
  Frames more s = Splits (links s).header (bytes_of s (calls ++ call ∷ [])) (bodies_of s (ended ++ more)) (new.held s)

  abbrev entry : List ℕ → Bool → Entry
  entry body answered = record { peer = call.peer; body = body; answered = answered }

  module _ (body : List ℕ) (answered : Bool) (frames : (s : ℕ) → Frames (entry body answered ∷ []) s) (books : new.books ≡ books_after_body (links call.peer).table mid.books body) (first : List ℕ)
      (answer : IsAnswerIf answered (links call.peer) mid.books body first) (grows : new.out call.peer ≡ mid.out call.peer ++ first)
      (all : (s : ℕ) → call.peer ≡ s → IsOk call.result → ((call.peer == s) && answered) ≡ true) where
    abbrev e : Entry
    e = entry body answered

    abbrev Out : ℕ → Type 0
    Out s = (bytes : List ℕ) × IsShareFrom (opening links old.books) s [] (ended ++ e ∷ []) bytes × (new.out s ≡ old.out s ++ bytes)

    own_out : Out call.peer
    own_out =
        let s = call.peer in
        let before = shares.out s in
        let here : IsAnswerIf answered (links s) (books_after_entries links old.books ended) body first = subst (λ (b : Books). IsAnswerIf answered (links s) b body first) shares.books answer in (
          before.0 ++ first,
          share_more links old.books s [] ended e before.0 first before.1
              (subst (λ (b : Bool). IsAnswerIf (b && answered) (links s) (books_after_entries links old.books ended) body first) (sym (eq-eqb s s refl)) here),
          grows ∙ ap (λ (l : List ℕ). l ++ first) before.2 ∙ append_assoc (old.out s) before.0 first,
        )

    other_out : (s : ℕ) → (call.peer == s) ≡ false → Out s
    other_out s is =
        let before = shares.out s in (
          before.0 ++ [],
          share_more links old.books s [] ended e before.0 [] before.1
              (subst (λ (b : Bool). IsAnswerIf (b && answered) (links s) (books_after_entries links old.books ended) body []) (sym is) refl),
          goes.others_out s (apart s is) ∙ before.2 ∙ ap (λ (l : List ℕ). old.out s ++ l) (sym (append-nil before.0)),
        )

    -- a body was entered
    step_entered : Step
    step_entered = (
      e ∷ [],
      record {
        order = order_more links calls call ended (e ∷ []) shares.order (λ s. (new.held s, frames s));
        frames = frames;
        books = books ∙ ap (λ (b : Books). books_after_body (links call.peer).table b body) shares.books ∙ sym (entries_more go_on links old.books ended e);
        out = each Out own_out other_out;
      },
      λ s of is ok. ended_more s ended e of is (all s is ok),
    )

  abbrev Result_of : Type 0
  Result_of = Result (Option Handled) (Unit {0})

  -- what the call's peer took, by the result
  took : (r : Result_of) → call.result ≡ r → bytes_of call.peer (call ∷ []) ≡ taken_of r call.bytes
  took r same = own_piece ∙ ap (λ (x : Result_of). taken_of x call.bytes) same

  -- the frames of a peer that took nothing, and of which no body was answered
  frames_same : (s : ℕ) (more : List Entry) → bytes_of s (call ∷ []) ≡ [] → bodies_of s more ≡ [] → new.held s ≡ mid.held s → Frames more s
  frames_same s more none no_body same = frames_by s more [] [] none no_body (split_same (links s).header (bytes_of s calls) (bodies_of s ended) (mid.held s) (new.held s) (shares.frames s) same)

  frames_other : (more : List Entry) → ((s : ℕ) → (call.peer == s) ≡ false → bodies_of s more ≡ []) → (s : ℕ) → (call.peer == s) ≡ false → Frames more s
  frames_other more none s is = frames_same s more (piece_if s call false is) (none s is) (goes.others_held s (apart s is))

  outs_same : new.out call.peer ≡ mid.out call.peer → (s : ℕ) → new.out s ≡ mid.out s
  outs_same own = each (λ s. new.out s ≡ mid.out s) own (λ s is. goes.others_out s (apart s is))

  step_by : (r : Result_of) → call.result ≡ r
      → Calls (links call.peer) (peer_of call.peer mid) (peer_of call.peer new) call.bytes r → Step
  step_by (Ok None) same takes = step_kept (each (Frames []) own (frames_other [] (λ s is. refl))) takes.2 (outs_same takes.3)
    where
      own : Frames [] call.peer
      own =
          let s = call.peer in
          let kept = split_kept (links s).header (bytes_of s calls) call.bytes (bodies_of s ended) (mid.held s) (new.held s) (shares.frames s) takes.0 takes.1.no_frame in
          frames_by s [] call.bytes [] (took (Ok None) same) refl
          (subst (λ (l : List (List ℕ)). Splits (links s).header (bytes_of s calls ++ call.bytes) l (new.held s)) (sym (append-nil (bodies_of s ended))) kept)
  step_by (Ok (Some handled)) same takes =
      step_entered takes.0 true (each (Frames (entry takes.0 true ∷ [])) own (frames_other (entry takes.0 true ∷ []) other)) takes.4.0 takes.4.1.0 takes.4.1.1 takes.4.1.2
      (λ s is ok. ap (λ (b : Bool). b && true) (eq-eqb call.peer s is))
    where
      other : (s : ℕ) → (call.peer == s) ≡ false → bodies_of s (entry takes.0 true ∷ []) ≡ []
      other s is = body_if s (entry takes.0 true) false (ap (λ (b : Bool). b && true) is)

      own : Frames (entry takes.0 true ∷ []) call.peer
      own =
          let s = call.peer in
          frames_by s (entry takes.0 true ∷ []) call.bytes (takes.0 ∷ []) (took (Ok (Some handled)) same)
          (body_if s (entry takes.0 true) true (ap (λ (b : Bool). b && true) (eq-eqb s s refl)))
          (split_ended joins (links s).header (bytes_of s calls) call.bytes (bodies_of s ended) (mid.held s) (new.held s) takes.0 (shares.frames s) takes.1 takes.2 takes.3)
  step_by (Err u) same (kept, grown, inl books) =
      step_kept (each (Frames []) (frames_same call.peer [] (took (Err u) same) refl kept) (frames_other [] (λ s is. refl))) books (outs_same grown)
  step_by (Err u) same (kept, grown, inr (body, more, is, fits, enters)) =
      step_entered body false
      (each (Frames (entry body false ∷ [])) (frames_same call.peer (entry body false ∷ []) (took (Err u) same) (none call.peer) kept) (frames_other (entry body false ∷ []) (λ s is. none s)))
      enters.0 [] refl (grown ∙ sym (append-nil (mid.out call.peer))) (λ s is ok. let no : false ≡ true = subst IsOk same ok in absurd cc)
    where
      none : (s : ℕ) → bodies_of s (entry body false ∷ []) ≡ []
      none s = body_if s (entry body false) false (and_false (call.peer == s))

  step : Step
  step = step_by call.result refl goes.calls

-- ---- all calls

shares_none : (links : ℕ → Agreed) (old : Peers) → books_after old.books [] ≡ old.books → ((s : ℕ) → old.held s ≡ []) → Shares links [] old old []
shares_none links old stays none = record {
  order = λ n within. let first : 0 ≡ n = omega (arith, within) in (0, omega arith, subst (λ (k : ℕ). AreFrames links (take k []) []) first (λ s. ([], record { joined = refl; fit = tt; partial = no_byte (links s).header })));
  frames = λ s. record { joined = sym (none s); fit = tt; partial = subst (NoFrame (links s).header) (sym (none s)) (no_byte (links s).header) };
  books = sym (entries_none links old.books stays);
  out = λ s. ([], refl, sym (append-nil (old.out s)));
}

runs : FirstsGoOn → FrameLaws → (links : ℕ → Agreed) (before calls : List Call) (old mid new : Peers) (ended : List Entry) → Shares links before old mid ended → GoesOn links calls mid new
    → (all : List Entry) × Shares links (before ++ calls) old new all × ((s : ℕ) → EndedOf s ended → AreOf s calls → EndedOf s all)
runs go_on joins links before [] old mid new ended shares same = (
  ended,
  subst (λ (l : List Call). Shares links l old new ended) (sym (append-nil before)) (subst (λ (x : Peers). Shares links before old x ended) (sym same) shares),
  λ s of are. of,
)
runs go_on joins links before (call ∷ calls) old mid new ended shares on =
    let one = step go_on joins links before call old mid on.0 ended shares on.1 in
    let rest = runs go_on joins links (before ++ call ∷ []) calls old on.0 new (ended ++ one.0) one.1 on.2 in (
      rest.0,
      subst (λ (l : List Call). Shares links l old new rest.0) (append_assoc before (call ∷ []) calls) rest.1,
      λ s of are. rest.2 s (one.2 s of are.0 are.1) are.2,
    )

pub peers_share : FirstsGoOn → FrameLaws → (books : Books) → books_after books [] ≡ books → PeersShare books
peers_share go_on joins books stays links calls old new same none on =
    let all = runs go_on joins links [] calls old old new [] (shares_none links old (subst (λ (b : Books). books_after b [] ≡ b) (sym same) stays) none) on in
    (all.0, all.1)

pub peer_alone : FirstsGoOn → FrameLaws → (books : Books) → books_after books [] ≡ books → PeerAlone books
unfolding IsOutput
peer_alone go_on joins books stays links s calls old new same none on are =
    let all = runs go_on joins links [] calls old old new [] (shares_none links old (subst (λ (b : Books). books_after b [] ≡ b) (sym same) stays) none) on in
    let of = all.2 s tt are in
    let out = all.1.out s in (
      bodies_in all.0,
      out.0,
      subst (λ (l : List (List ℕ)). Splits (links s).header (bytes_of s calls) l (new.held s)) (all_alone s all.0 of) (all.1.frames s),
      share_alone links old.books s [] all.0 out.0 tt of out.1,
      out.2,
      all.1.books ∙ books_alone links s old.books all.0 of,
    )
