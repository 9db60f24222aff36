-- What is heard of peers, piece after piece and peer after peer.
use Rattle.std.proofs.Common.{◌≡◌, ◌≢◌, ◌∙◌, ◌++◌, ◌+◌, ◌⊎◌, ◌<◌, ℕ, Bool, true, false, inl, inr, refl, sym, ap, subst, List, [], ◌∷◌, length, take, append_assoc, append-nil}
use Rattle.std.specs.Prelude.{Option, Some, None, slice_index_or, eqb, if◌then◌else◌}
use Rattle.std.specs.List.{AllByRecursion}
use Rattle.std.specs.Io.KnownBytes.{Consumes, Keeps}
use Rattle.std.proofs.lemmas.Bool.Decides.{eqb_tells}
use Rattle.std.proofs.lemmas.List.{take_more}
use Rattle.iso_wire.specs.FrameLaws.{FrameLaws}
use Rattle.iso_wire.specs.Framing.{frames_of, AllFit}
use Rattle.iso_issuer.specs.Books.{Books}
use Rattle.iso_guard.specs.Guarding.{Guard}
use Rattle.iso_links.specs.declared.limits.Limits.{Limits}
use Rattle.iso_lines.specs.declared.line.Line.{Line}
use Rattle.iso_lines.specs.declared.peer.Peer.{Peer}
use Rattle.iso_lines.specs.declared.peers.Peers.{Peers}
use Rattle.iso_lines.specs.declared.standing.Closing.{Closing}
use Rattle.iso_lines.specs.declared.standing.Doing.TheVariants.{Reads}
use Rattle.iso_lines.specs.declared.standing.Standing.{Standing}
use Rattle.iso_lines.specs.Standing.{closing_of, doing_of, doing_by, staying_of}
use Rattle.iso_lines.specs.Guarded.{guard_at}
use Rattle.iso_lines.specs.Keys.{peer_at, looked_at, OthersStay, AllStay}
use Rattle.iso_lines.specs.Hearing.{Arrival, books_after_arrival, books_after_arrivals, bodies_of, InTurn, IsShare, AreAnswers, IsHeard, Dealing, dealing_of, sender, keeping, coming, growth, kept_of, IsHeardAs, HearsAlone, HearsOwn, ReadsAt, HearsAt, HearsFirst}

-- ---- lists that grow

pub books_go_on : (b : Books) (xs ys : List Arrival) → books_after_arrivals (books_after_arrivals b xs) ys ≡ books_after_arrivals b (xs ++ ys)
books_go_on b [] ys = refl
books_go_on b (x ∷ xs) ys = books_go_on (books_after_arrival b x) xs ys

pub bodies_go_on : (key : ℕ) (xs ys : List Arrival) → bodies_of key (xs ++ ys) ≡ bodies_of key xs ++ bodies_of key ys
bodies_go_on key [] ys = refl
bodies_go_on key (x ∷ xs) ys = by_test (eqb x.key key) (bodies_go_on key xs ys)
  where
    by_test : (t : Bool) → bodies_of key (xs ++ ys) ≡ bodies_of key xs ++ bodies_of key ys
        → (if t then x.body ∷ bodies_of key (xs ++ ys) else bodies_of key (xs ++ ys)) ≡ (if t then x.body ∷ bodies_of key xs else bodies_of key xs) ++ bodies_of key ys
    by_test true more = ap (λ (l : List (List ℕ)). x.body ∷ l) more
    by_test false more = more

pub answers_go_on : (key : ℕ) (g : Guard) (b : Books) (xs ys : List Arrival) (u v : List ℕ)
    → AreAnswers key g b xs u → AreAnswers key g (books_after_arrivals b xs) ys v → AreAnswers key g b (xs ++ ys) (u ++ v)
answers_go_on key g b [] ys u v first second = subst (λ (l : List ℕ). AreAnswers key g b ys (l ++ v)) (sym first) second
answers_go_on key g b (x ∷ xs) ys u v first second = (
  first.0,
  first.1 ++ v,
  first.2,
  answers_go_on key g (books_after_arrival b x) xs ys first.1 v first.3 second,
  ap (λ (l : List ℕ). l ++ v) first.4 ∙ append_assoc first.0 first.1 v,
)

-- ---- frames of another peer

bodies_other : (key k : ℕ) (xs : List Arrival) → k ≢ key → AllByRecursion (λ a. a.key ≡ key) xs → bodies_of k xs ≡ []
bodies_other key k [] other own = refl
bodies_other key k (x ∷ xs) other own = go (eqb_tells x.key k) (bodies_other key k xs other own.1)
  where
    go : ((eqb x.key k ≡ true) × (x.key ≡ k)) ⊎ ((eqb x.key k ≡ false) × (x.key ≢ k)) → bodies_of k xs ≡ [] → bodies_of k (x ∷ xs) ≡ []
    go (inl (test, is)) more = absurd (other (sym is ∙ own.0))
    go (inr (test, not)) more = ap (λ (t : Bool). if t then x.body ∷ bodies_of k xs else bodies_of k xs) test ∙ more

answers_other : (key k : ℕ) (g : Guard) (b : Books) (xs : List Arrival) → k ≢ key → AllByRecursion (λ a. a.key ≡ key) xs → AreAnswers k g b xs []
answers_other key k g b [] other own = refl
answers_other key k g b (x ∷ xs) other own = go (eqb_tells x.key k) (answers_other key k g (books_after_arrival b x) xs other own.1)
  where
    go : ((eqb x.key k ≡ true) × (x.key ≡ k)) ⊎ ((eqb x.key k ≡ false) × (x.key ≢ k)) → AreAnswers k g (books_after_arrival b x) xs [] → AreAnswers k g b (x ∷ xs) []
    go (inl (test, is)) more = absurd (other (sym is ∙ own.0))
    go (inr (test, not)) more = ([], [], subst (λ (t : Bool). IsShare t g b x []) (sym test) refl, more, refl)

-- ---- known bytes

pub gives_none : (a : Option (List ℕ)) → Consumes a a []
gives_none None = tt
gives_none (Some xs) = refl

pub keeps_gives : (a b : Option (List ℕ)) → Keeps a b → Consumes a b []
keeps_gives None b keeps = tt
keeps_gives (Some xs) None keeps = absurd keeps
keeps_gives (Some xs) (Some ys) keeps = sym keeps

gives_more : (a b c : Option (List ℕ)) (x y : List ℕ) → Consumes a b x → Consumes b c y → Consumes a c (x ++ y)
gives_more None b c x y first second = tt
gives_more (Some p) None c x y first second = absurd first
gives_more (Some p) (Some q) None x y first second = absurd second
gives_more (Some p) (Some q) (Some r) x y first second = first ∙ ap (λ (l : List ℕ). x ++ l) second ∙ sym (append_assoc x y r)

-- ---- whether a peer ended

is_there : Option Closing → Type 0
is_there None = ⊥
is_there (Some why) = Unit {0}

pub ended_goes_on : (why : Closing) → Some why ≡ None → ⊥
unfolding is_there
ended_goes_on why is = subst is_there is tt

pub not_over : (e : Option Closing) (why : Closing) → e ≡ None → e ≡ Some why → ⊥
not_over e why none some = ended_goes_on why (sym some ∙ none)

-- one that is read from hasn't
pub reads_on : (l : Limits) (s : Standing) (now : ℕ) → doing_of l s now ≡ Reads → s.ended ≡ None
reads_on l s now reads = by_closing (closing_of l s now) reads
  where
    by_end : (e : Option Closing) → s.ended ≡ e → staying_of l (record s { ended = e }) ≡ Reads → s.ended ≡ None
    by_end None is reads = is
    by_end (Some why) is reads = cc

    by_closing : (c : Option Closing) → doing_by l s c ≡ Reads → s.ended ≡ None
    by_closing (Some why) reads = cc
    by_closing None reads = by_end s.ended refl reads

-- ---- one peer

-- none of its own frames comes
pub still_heard : (key : ℕ) (g : Guard) (held out : List ℕ) (e : Option Closing) (b : Books) (ys : List Arrival) → bodies_of key ys ≡ [] → AreAnswers key g b ys []
    → IsHeard (sender key g) (keeping held out e) (keeping held out e) (coming b ys) []
still_heard key g held out e b ys none are = record {
  rest = held;
  front = append-nil held ∙ ap (λ (l : List (List ℕ)). frames_of g.header l ++ held) (sym none);
  fit = subst (AllFit g.header) (sym none) tt;
  answers = [];
  are = are;
  waits = sym (append-nil out);
  stays = λ ends. (ends, refl);
  whole = λ ends no_frame. no_frame;
  over = λ why is. none;
}

-- bytes, and then more
heard_more : FrameLaws → (key : ℕ) (g : Guard) (h0 h1 h2 o0 o1 o2 : List ℕ) (e0 e1 e2 : Option Closing) (b : Books) (x y : List ℕ) (xs ys : List Arrival)
    → IsHeard (sender key g) (keeping h0 o0 e0) (keeping h1 o1 e1) (coming b xs) x
    → IsHeard (sender key g) (keeping h1 o1 e1) (keeping h2 o2 e2) (coming (books_after_arrivals b xs) ys) y
    → IsHeard (sender key g) (keeping h0 o0 e0) (keeping h2 o2 e2) (coming b (xs ++ ys)) (x ++ y)
heard_more joins key g h0 h1 h2 o0 o1 o2 e0 None e2 b x y xs ys first second = record {
  rest = second.rest;
  front = sym (append_assoc h0 x y) ∙ ap (λ (l : List ℕ). l ++ y) first.front ∙ append_assoc (frames_of g.header (bodies_of key xs)) first.rest y
      ∙ ap (λ (l : List ℕ). frames_of g.header (bodies_of key xs) ++ (l ++ y)) (first.stays refl).1 ∙ ap (λ (l : List ℕ). frames_of g.header (bodies_of key xs) ++ l) second.front
      ∙ sym (append_assoc (frames_of g.header (bodies_of key xs)) (frames_of g.header (bodies_of key ys)) second.rest)
      ∙ ap (λ (l : List ℕ). l ++ second.rest) (sym (joins.joined g.header (bodies_of key xs) (bodies_of key ys)))
      ∙ ap (λ (l : List (List ℕ)). frames_of g.header l ++ second.rest) (sym (bodies_go_on key xs ys));
  fit = subst (AllFit g.header) (sym (bodies_go_on key xs ys)) (joins.fit g.header (bodies_of key xs) (bodies_of key ys) first.fit second.fit);
  answers = first.answers ++ second.answers;
  are = answers_go_on key g b xs ys first.answers second.answers first.are second.are;
  waits = second.waits ∙ ap (λ (l : List ℕ). l ++ second.answers) first.waits ∙ append_assoc o0 first.answers second.answers;
  stays = λ ends. ((first.stays refl).0, (second.stays ends).1);
  whole = λ ends none. second.whole ends (first.whole refl none);
  over = λ why is. absurd (not_over e0 why (first.stays refl).0 is);
}
heard_more joins key g h0 h1 h2 o0 o1 o2 e0 (Some over) e2 b x y xs ys first second =
    let same : bodies_of key (xs ++ ys) ≡ bodies_of key xs =
    bodies_go_on key xs ys ∙ ap (λ (l : List (List ℕ)). bodies_of key xs ++ l) (second.over over refl) ∙ append-nil (bodies_of key xs) in
    record {
      rest = first.rest ++ y;
      front = sym (append_assoc h0 x y) ∙ ap (λ (l : List ℕ). l ++ y) first.front ∙ append_assoc (frames_of g.header (bodies_of key xs)) first.rest y
          ∙ ap (λ (l : List (List ℕ)). frames_of g.header l ++ (first.rest ++ y)) (sym same);
      fit = subst (AllFit g.header) (sym same) first.fit;
      answers = first.answers ++ second.answers;
      are = answers_go_on key g b xs ys first.answers second.answers first.are second.are;
      waits = second.waits ∙ ap (λ (l : List ℕ). l ++ second.answers) first.waits ∙ append_assoc o0 first.answers second.answers;
      stays = λ ends. absurd (ended_goes_on over (second.stays ends).0);
      whole = λ ends none. absurd (ended_goes_on over (second.stays ends).0);
      over = λ why is. same ∙ first.over why is;
    }

-- the same of a peer
heard_twice : FrameLaws → (key : ℕ) (d e f : Dealing) (b : Books) (x y : List ℕ) (xs ys : List Arrival) → e.line ≡ d.line
    → IsHeardAs key d e (coming b xs) x → IsHeardAs key e f (coming (books_after_arrivals b xs) ys) y → IsHeardAs key d f (coming b (xs ++ ys)) (x ++ y)
heard_twice joins key d e f b x y xs ys line first second =
    heard_more joins key (guard_at d.line) d.held e.held f.held d.waiting e.waiting f.waiting d.ended e.ended f.ended b x y xs ys first
    (subst (λ (l : Line). IsHeard (sender key (guard_at l)) (kept_of e) (kept_of f) (coming (books_after_arrivals b xs) ys) y) line second)

-- the order of the peers goes on by one
order_more : (keys : List ℕ) (key : ℕ) (xs ys : List Arrival) → InTurn keys xs → AllByRecursion (λ a. a.key ≡ key) ys → InTurn (keys ++ key ∷ []) (xs ++ ys)
order_more [] key xs ys none own = (ys, [], own, refl, ap (λ (l : List Arrival). l ++ ys) none ∙ sym (append-nil ys))
order_more (k ∷ keys) key xs ys order own = (
  order.0,
  order.1 ++ ys,
  order.2,
  order_more keys key order.1 ys order.3 own,
  ap (λ (l : List Arrival). l ++ ys) order.4 ∙ append_assoc order.0 order.1 ys,
)

module _ {S : Type 0} (remaining : S → Option (List ℕ)) where
  -- ---- a peer alone

  -- it isn't read from
  pub reads_none : (key : ℕ) (p : Peer S) (b : Books) → HearsAlone remaining key p p (growth b b)
  reads_none key p b = record {
    bytes = [];
    given = gives_none (remaining p.stream);
    hears = record {
      arrivals = [];
      own = tt;
      entered = refl;
      line = refl;
      heard = still_heard key (guard_at (dealing_of p).line) (dealing_of p).held (dealing_of p).waiting (dealing_of p).ended b [] refl refl;
    };
  }

  -- it is, and then again
  pub reads_more : FrameLaws → (key : ℕ) (p q r : Peer S) (b0 b1 b2 : Books) → HearsAlone remaining key p q (growth b0 b1) → HearsAlone remaining key q r (growth b1 b2)
      → HearsAlone remaining key p r (growth b0 b2)
  reads_more joins key p q r b0 b1 b2 first second =
      let xs = first.hears.arrivals in
      let ys = second.hears.arrivals in
      let at_books = subst (λ (b : Books). IsHeardAs key (dealing_of q) (dealing_of r) (coming b ys) second.bytes) first.hears.entered second.hears.heard in
      record {
        bytes = first.bytes ++ second.bytes;
        given = gives_more (remaining p.stream) (remaining q.stream) (remaining r.stream) first.bytes second.bytes first.given second.given;
        hears = record {
          arrivals = xs ++ ys;
          own = own_more key xs ys first.hears.own second.hears.own;
          entered = second.hears.entered ∙ ap (λ (b : Books). books_after_arrivals b ys) first.hears.entered ∙ books_go_on b0 xs ys;
          line = second.hears.line ∙ first.hears.line;
          heard = heard_twice joins key (dealing_of p) (dealing_of q) (dealing_of r) b0 first.bytes second.bytes xs ys first.hears.line first.hears.heard at_books;
        };
      }
    where
      own_more : (key : ℕ) (xs ys : List Arrival) → AllByRecursion (λ a. a.key ≡ key) xs → AllByRecursion (λ a. a.key ≡ key) ys → AllByRecursion (λ a. a.key ≡ key) (xs ++ ys)
      own_more key [] ys f s = s
      own_more key (x ∷ xs) ys f s = (f.0, own_more key xs ys f.1 s)

  -- ---- the peer under a key, among the others

  own_twice : FrameLaws → (k : ℕ) (p q r : Peer S) (b : Books) (xs ys : List Arrival) → HearsOwn remaining k p q (coming b xs) → HearsOwn remaining k q r (coming (books_after_arrivals b xs) ys)
      → HearsOwn remaining k p r (coming b (xs ++ ys))
  own_twice joins k p q r b xs ys first second =
      record {
        bytes = first.bytes ++ second.bytes;
        given = gives_more (remaining p.stream) (remaining q.stream) (remaining r.stream) first.bytes second.bytes first.given second.given;
        line = second.line ∙ first.line;
        heard = heard_twice joins k (dealing_of p) (dealing_of q) (dealing_of r) b first.bytes second.bytes xs ys first.line first.heard second.heard;
      }

  at_twice : FrameLaws → (k : ℕ) (o p q : Option (Peer S)) (b : Books) (xs ys : List Arrival) → HearsAt remaining k o p (coming b xs) → HearsAt remaining k p q (coming (books_after_arrivals b xs) ys)
      → HearsAt remaining k o q (coming b (xs ++ ys))
  at_twice joins k None p q b xs ys first second =
      let none = subst (λ (m : Option (Peer S)). HearsAt remaining k m q (coming (books_after_arrivals b xs) ys)) first.0 second in
      (none.0, bodies_go_on k xs ys ∙ ap (λ (l : List (List ℕ)). l ++ bodies_of k ys) first.1 ∙ none.1)
  at_twice joins k (Some o) None q b xs ys first second = absurd first
  at_twice joins k (Some o) (Some p) None b xs ys first second = absurd second
  at_twice joins k (Some o) (Some p) (Some q) b xs ys first second = own_twice joins k o p q b xs ys first second

  at_other : (k key : ℕ) (o : Option (Peer S)) (b : Books) (ys : List Arrival) → k ≢ key → AllByRecursion (λ a. a.key ≡ key) ys → HearsAt remaining k o o (coming b ys)
  at_other k key None b ys other own = (refl, bodies_other key k ys other own)
  at_other k key (Some p) b ys other own = record {
    bytes = [];
    given = gives_none (remaining p.stream);
    line = refl;
    heard = still_heard k (guard_at (dealing_of p).line) (dealing_of p).held (dealing_of p).waiting (dealing_of p).ended b ys (bodies_other key k ys other own)
        (answers_other key k (guard_at (dealing_of p).line) b ys other own);
  }

  -- the frames of one peer that is read from, if it is there
  record Own (key : ℕ) (o p : Option (Peer S)) (before after : Books) : Type 0 where
    arrivals : List Arrival
    own : AllByRecursion (λ a. a.key ≡ key) arrivals
    entered : after ≡ books_after_arrivals before arrivals
    at : HearsAt remaining key o p (coming before arrivals)

  own_of : (key : ℕ) (o p : Option (Peer S)) (before after : Books) → ReadsAt remaining key o p (growth before after) → Own key o p before after
  own_of key None p before after reads = record { arrivals = []; own = tt; entered = reads.1; at = (reads.0, refl) }
  own_of key (Some o) None before after reads = absurd reads
  own_of key (Some o) (Some p) before after reads = record {
    arrivals = reads.hears.arrivals;
    own = reads.hears.own;
    entered = reads.hears.entered;
    at = record { bytes = reads.bytes; given = reads.given; line = reads.hears.line; heard = reads.hears.heard };
  }

  -- ---- a turn

  -- none was read from
  pub turn_none : (old new : Peers S) (b : Books) → AllStay old new → HearsFirst remaining 0 old new (growth b b)
  turn_none old new b stay = record { arrivals = []; entered = refl; order = refl; peers = λ k. same k (peer_at old k) (peer_at new k) (stay k) }
    where
      as_it_was : (k : ℕ) (o : Option (Peer S)) → HearsAt remaining k o o (coming b [])
      as_it_was k None = (refl, refl)
      as_it_was k (Some p) = record {
        bytes = [];
        given = gives_none (remaining p.stream);
        line = refl;
        heard = still_heard k (guard_at (dealing_of p).line) (dealing_of p).held (dealing_of p).waiting (dealing_of p).ended b [] refl refl;
      }

      same : (k : ℕ) (o n : Option (Peer S)) → n ≡ o → HearsAt remaining k o n (coming b [])
      same k o n is = subst (λ (m : Option (Peer S)). HearsAt remaining k o m (coming b [])) (sym is) (as_it_was k o)

  -- one more is
  pub turn_more : FrameLaws → (old mid new : Peers S) (b0 b1 b2 : Books) (place key : ℕ) → HearsFirst remaining place old mid (growth b0 b1) → OthersStay key mid new
      → ReadsAt remaining key (peer_at mid key) (peer_at new key) (growth b1 b2) → place < length (looked_at old) → slice_index_or (looked_at old) place key ≡ key
      → HearsFirst remaining (place + 1) old new (growth b0 b2)
  turn_more joins old mid new b0 b1 b2 place key turn others reads within here =
      let one : take (place + 1) (looked_at old) ≡ take place (looked_at old) ++ key ∷ [] =
      take_more (looked_at old) place key within ∙ ap (λ (k : ℕ). take place (looked_at old) ++ k ∷ []) here in
      let step = own_of key (peer_at mid key) (peer_at new key) b1 b2 reads in
      let xs = turn.arrivals in
      let ys = step.arrivals in
      record {
        arrivals = xs ++ ys;
        entered = step.entered ∙ ap (λ (b : Books). books_after_arrivals b ys) turn.entered ∙ books_go_on b0 xs ys;
        order = subst (λ (l : List ℕ). InTurn l (xs ++ ys)) (sym one) (order_more (take place (looked_at old)) key xs ys turn.order step.own);
        peers = λ k. by_key turn others step k (eqb_tells k key);
      }
    where
      by_key : (turn : HearsFirst remaining place old mid (growth b0 b1)) → OthersStay key mid new → (step : Own key (peer_at mid key) (peer_at new key) b1 b2) → (k : ℕ)
          → ((eqb k key ≡ true) × (k ≡ key)) ⊎ ((eqb k key ≡ false) × (k ≢ key)) → HearsAt remaining k (peer_at old k) (peer_at new k) (coming b0 (turn.arrivals ++ step.arrivals))
      by_key turn others step k (inl (test, is)) =
          subst (λ (n : ℕ). HearsAt remaining n (peer_at old n) (peer_at new n) (coming b0 (turn.arrivals ++ step.arrivals))) (sym is)
          (at_twice joins key (peer_at old key) (peer_at mid key) (peer_at new key) b0 turn.arrivals step.arrivals (turn.peers key)
          (subst (λ (b : Books). HearsAt remaining key (peer_at mid key) (peer_at new key) (coming b step.arrivals)) turn.entered step.at))
      by_key turn others step k (inr (test, not)) =
          at_twice joins k (peer_at old k) (peer_at mid k) (peer_at new k) b0 turn.arrivals step.arrivals (turn.peers k)
          (subst (λ (o : Option (Peer S)). HearsAt remaining k (peer_at mid k) o (coming (books_after_arrivals b0 turn.arrivals) step.arrivals)) (sym (others k not))
          (at_other k key (peer_at mid k) (books_after_arrivals b0 turn.arrivals) step.arrivals not step.own))
