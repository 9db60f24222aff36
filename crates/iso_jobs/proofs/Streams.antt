-- The bodies of a stream that is worked on from its front.
use Rattle.std.proofs.Common.{arith, ◌≡◌, ◌++◌, ◌||◌, ◌&&◌, ◌≤◌, ◌<◌, ◌↔◌, ℕ, List, [], ◌∷◌, Bool, true, false, not, Option, Some, None, Result, Ok, Err, nat_lt, length, drop, refl, sym, ap, subst, ◌∙◌, append-nil, append_assoc}
use Rattle.std.proofs.Math.Seq.{drop-append_seam}
use Rattle.std.proofs.lemmas.List.Concat.{flat_map-cons}
use Rattle.std.specs.Prelude.{IsTrue, IfOk, IfSome, option_map}
use Rattle.std.specs.Io.KnownBytes.{Appends, Consumes, Keeps}
use Rattle.iso_wire.specs.Framing.{Begins, NeedsMore, NoFrame, Splits, frame_of, frames_of, largest}
use Rattle.iso_wire.specs.declared.header.Header.{Header}
use Rattle.iso_input.specs.Window.{Ahead, Grows}
use Rattle.iso_jobs.specs.Frames.{Progress, TakesFrame, Waits, Ends}
use Rattle.iso_jobs.specs.Work.{Task, Tells, TellsEach, WorksOn, text_of, are_good}
use Rattle.iso_jobs.specs.declared.fault.Stop.{Stop}
use Rattle.iso_jobs.specs.declared.pages.Pages.{Pages}

-- what is told of the first body comes before what is told of the others
told_first : (good : Bool) (text : List ℕ) (told : List (Bool × List ℕ)) → text_of ((good, text) ∷ told) ≡ text ++ text_of told
told_first good text told = flat_map-cons (λ (x : Bool × List ℕ). x.1) (good, text) told

-- all is good where nothing was refused, this is good, and the others are
pub good_first : (refused good rest : Bool) → (not refused && (good && rest)) ≡ (not (refused || not good) && rest)
good_first true good rest = refl
good_first false true rest = refl
good_first false false rest = refl

-- a frame that begins the bytes that are held begins all that are still to be had
frame_first : (h : Header) (all held rest body : List ℕ) (used : ℕ) → all ≡ held ++ rest → Begins h held body used
    → all ≡ frame_of h body ++ drop used all
frame_first h all held rest body used is begins =
    let frame = frame_of h body in
    let more = drop used held ++ rest in
    let joined : all ≡ frame ++ more = is ∙ ap (λ (l : List ℕ). l ++ rest) begins.whole ∙ append_assoc frame (drop used held) rest in
    let behind : drop used all ≡ more =
    ap (λ (n : ℕ). drop n all) begins.size ∙ ap (λ (l : List ℕ). drop (length frame) l) joined ∙ drop-append_seam frame more in
    joined ∙ ap (λ (l : List ℕ). frame ++ l) (sym behind)

-- and where they go, it is taken
pub taken_of : (h : Header) (ahead later : Option (List ℕ)) (held body : List ℕ) (used : ℕ)
    → IfSome ahead (λ all. (rest : List ℕ) × (all ≡ held ++ rest)) → Begins h held body used → later ≡ option_map (drop used) ahead
    → Consumes ahead later (frame_of h body)
taken_of h None later held body used front begins is = tt
taken_of h (Some all) later held body used front begins is =
    subst (λ (l : Option (List ℕ)). Consumes (Some all) l (frame_of h body)) (sym is) (frame_first h all held front.0 body used front.1 begins)

-- equal known bytes are the same
or_none : Option (List ℕ) → List ℕ
or_none None = []
or_none (Some l) = l

some_is : (a b : List ℕ) → Some a ≡ Some b → a ≡ b
unfolding or_none
some_is a b e = ap or_none e

-- bytes that are kept are known to be the same
pub kept_some : (now later : Option (List ℕ)) (left : List ℕ) → now ≡ Some left → Keeps now later → later ≡ Some left
kept_some now later left is kept = go later (subst (λ (o : Option (List ℕ)). Keeps o later) is kept)
  where
    go : (later : Option (List ℕ)) → Keeps (Some left) later → later ≡ Some left
    go None kept = elim kept [ ]
    go (Some ys) kept = ap (λ (l : List ℕ). Some l) kept

-- what is appended to what was appended
pub appends_on : (old mid new : Option (List ℕ)) (a b : List ℕ) → Appends old mid a → Appends mid new b → Appends old new (a ++ b)
appends_on None mid new a b one two = tt
appends_on (Some xs) None new a b one two = elim one [ ]
appends_on (Some xs) (Some ys) None a b one two = elim two [ ]
appends_on (Some xs) (Some ys) (Some zs) a b one two = two ∙ ap (λ (l : List ℕ). l ++ b) one ∙ append_assoc xs a b

-- no byte was put behind where no more came
no_piece : (piece : List ℕ) (more : Bool) → more ≡ false → (IsTrue more ↔ (0 < length piece)) → piece ≡ []
no_piece [] more none iff = refl
no_piece (x ∷ xs) more none iff = absurd (grind arith)

-- nothing was put behind where no more came
pub held_same : (held later : List ℕ) (more : Bool) → Grows held later more → more ≡ false → later ≡ held
held_same held later more grown none =
    grown.1 ∙ ap (λ (piece : List ℕ). held ++ piece) (no_piece grown.0 more none grown.3) ∙ append-nil held

-- at the end of the input no frame begins what is held, and there is no rest where nothing is held
pub end_of : (h : Header) (held later : List ℕ) (ahead : Option (List ℕ)) (more : Bool) → NeedsMore h held → Grows held later more → more ≡ false
    → (more ≡ false → IfSome ahead (λ all. all ≡ later)) → IfSome ahead (λ left. NoFrame h left × (nat_lt 0 (length later) ≡ false → left ≡ []))
end_of h held later None more needs grown none end = tt
end_of h held later (Some all) more needs grown none end =
    let same : later ≡ held =
    grown.1 ∙ ap (λ (piece : List ℕ). held ++ piece) (no_piece grown.0 more none grown.3) ∙ append-nil held in
    let all_held : all ≡ held = end none ∙ same in
    (subst (λ (l : List ℕ). NoFrame h l) (sym all_held) needs.no_frame, λ empty. end none ∙ none_in later empty)
  where
    none_in : (l : List ℕ) → nat_lt 0 (length l) ≡ false → l ≡ []
    none_in [] e = refl
    none_in (x ∷ xs) e = absurd (grind arith)

-- what is left is no end where no frame ever comes
pub never_ends : (h : Header) (before after : Ahead) → after ≡ before → IfSome before.ahead (NoFrame h)
    → IfSome after.ahead (λ left. NoFrame h left × (true ≡ false → left ≡ []))
never_ends h before after same none = go after.ahead (subst (λ (x : Ahead). IfSome x.ahead (NoFrame h)) (sym same) none)
  where
    go : (ahead : Option (List ℕ)) → IfSome ahead (NoFrame h) → IfSome ahead (λ left. NoFrame h left × (true ≡ false → left ≡ []))
    go None none = tt
    go (Some left) none = (none, λ e. absurd (grind arith))

-- the bytes in front of what is left were taken
pub left_of : (now later : Option (List ℕ)) (left bytes : List ℕ) → now ≡ Some left → Consumes now later bytes
    → (rest : List ℕ) × (later ≡ Some rest) × (left ≡ bytes ++ rest)
left_of now later left bytes is taken = go later (subst (λ (o : Option (List ℕ)). Consumes o later bytes) is taken)
  where
    go : (later : Option (List ℕ)) → Consumes (Some left) later bytes → (rest : List ℕ) × (later ≡ Some rest) × (left ≡ bytes ++ rest)
    go None taken = elim taken [ ]
    go (Some ys) taken = (ys, refl, taken)

module _ (task : Task) (h : Header) where
  -- with whatever frames and rest the input goes on that is left, all of it are the frames so far and those; and so is what is told
  abbrev pub Goes : List ℕ → List ℕ → List ℕ → Bool → Type 0
  Goes all left text refused =
      (bodies : List (List ℕ)) (rest : List ℕ) (told : List (Bool × List ℕ)) → Splits h left bodies rest → TellsEach task bodies told
      → (bs : List (List ℕ)) × (ts : List (Bool × List ℕ)) × Splits h all bs rest × TellsEach task bs ts
      × (text_of ts ≡ text ++ text_of told) × (are_good ts ≡ (not refused && are_good told))

  -- nothing was told yet
  pub begins : (all : List ℕ) → Goes all all [] false
  begins all = λ bodies rest told splits each. (bodies, told, splits, each, refl, refl)

  -- a frame was taken
  pub goes_on : (all left later text t body : List ℕ) (refused good : Bool) → Goes all left text refused → length body ≤ largest h
      → left ≡ frame_of h body ++ later → Tells task body (good, t) → Goes all later (text ++ t) (refused || not good)
  goes_on all left later text t body refused good old fits taken tells = λ bodies rest told splits each.
      let joined : left ≡ frames_of h (body ∷ bodies) ++ rest =
      taken ∙ ap (λ (l : List ℕ). frame_of h body ++ l) splits.joined ∙ sym (append_assoc (frame_of h body) (frames_of h bodies) rest) in
      let whole : Splits h left (body ∷ bodies) rest = record { joined = joined; fit = (fits, splits.fit); partial = splits.partial } in
      let r = old (body ∷ bodies) rest ((good, t) ∷ told) whole ((good, t), told, tells, each, refl) in
      let texts = ap (λ (l : List ℕ). text ++ l) (told_first good t told) ∙ sym (append_assoc text t (text_of told)) in
      (r.0, r.1, r.2, r.3, r.4 ∙ texts, r.5 ∙ good_first refused good (are_good told))

  -- the input so far, from its front: what is left, and what was told and written
  abbrev pub SoFar : Option (List ℕ) → Option (List ℕ) → Option (List ℕ) → Option (List ℕ) → Pages → Type 0
  SoFar before now old new pages =
      (all : List ℕ) → before ≡ Some all
      → (left : List ℕ) × (done : List ℕ) × (now ≡ Some left) × Appends old new done × Goes all left (done ++ pages.text.items) pages.has_refused

  pub so_far_took : (before old new : Option (List ℕ)) (now later : Progress) → SoFar before now.window.ahead old new now.pages
      → TakesFrame task h now later → SoFar before later.window.ahead old new later.pages
  so_far_took before old new now later so took = λ all is.
      let s = so all is in
      let p = now.pages in
      let q = later.pages in
      let l = left_of now.window.ahead later.window.ahead s.0 (frame_of h took.body) s.2 took.taken in
      let g = goes_on all s.0 l.0 (s.1 ++ p.text.items) took.text took.body p.has_refused took.good s.4 took.fits l.2 took.tells in
      let texts : (s.1 ++ p.text.items) ++ took.text ≡ s.1 ++ q.text.items =
      append_assoc s.1 p.text.items took.text ∙ sym (ap (λ (t : List ℕ). s.1 ++ t) took.added) in (
        l.0,
        s.1,
        l.1,
        s.3,
        subst (λ (refused : Bool). Goes all l.0 (s.1 ++ q.text.items) refused) (sym took.refused)
            (subst (λ (t : List ℕ). Goes all l.0 t (p.has_refused || not took.good)) texts g),
      )

  -- what was told was written, and the input is as it was
  pub so_far_written : (before now later old mid new : Option (List ℕ)) (p q : Pages) → SoFar before now old mid p → Keeps now later
      → Appends mid new p.text.items → q.text.items ≡ [] → q.has_refused ≡ p.has_refused → SoFar before later old new q
  so_far_written before now later old mid new p q so kept written empty same = λ all is.
      let s = so all is in
      let texts : s.1 ++ p.text.items ≡ (s.1 ++ p.text.items) ++ q.text.items =
      sym (append-nil (s.1 ++ p.text.items)) ∙ sym (ap (λ (t : List ℕ). (s.1 ++ p.text.items) ++ t) empty) in (
        s.0,
        s.1 ++ p.text.items,
        kept_some now later s.0 s.2 kept,
        appends_on old mid new s.1 p.text.items s.3 written,
        subst (λ (refused : Bool). Goes all s.0 ((s.1 ++ p.text.items) ++ q.text.items) refused) (sym same)
            (subst (λ (t : List ℕ). Goes all s.0 t p.has_refused) texts s.4),
      )

  -- all is told where no frame begins what is left
  pub so_far_ends : (all left : List ℕ) (before now old mid new : Option (List ℕ)) (p : Pages) (has_rest good : Bool) → SoFar before now old mid p
      → before ≡ Some all → now ≡ Some left → NoFrame h left → (has_rest ≡ false → left ≡ []) → Ends has_rest (record { old = mid; new = new }) p good
      → WorksOn task h all (record { old = old; new = new }) good
  so_far_ends all left before now old mid new p has_rest good so is here none clear ends =
      let s = so all is in
      let same : s.0 ≡ left = some_is s.0 left (sym s.2 ∙ here) in
      let alone : Splits h s.0 [] left = record { joined = same; fit = tt; partial = none } in
      let r = s.4 [] left [] alone refl in
      let texts : text_of r.1 ≡ s.1 ++ p.text.items = r.4 ∙ append-nil (s.1 ++ p.text.items) in
      let last : Appends old new (text_of r.1 ++ ends.last) =
      subst (λ (t : List ℕ). Appends old new t) (sym (append_assoc s.1 p.text.items ends.last) ∙ sym (ap (λ (t : List ℕ). t ++ ends.last) texts))
      (appends_on old mid new s.1 (p.text.items ++ ends.last) s.3 ends.written) in
      record {
        bodies = r.0;
        rest = left;
        told = r.1;
        last = ends.last;
        splits = r.2;
        each = r.3;
        written = last;
        all_good = λ g. let e = ends.all_good g in
            (r.5 ∙ ap (λ (refused : Bool). not refused && true) e.0, clear e.1, e.2);
      }

  -- nothing was taken
  pub so_far_waits : (before old new : Option (List ℕ)) (now later : Progress) → SoFar before now.window.ahead old new now.pages
      → Waits now later → SoFar before later.window.ahead old new later.pages
  so_far_waits before old new now later so waits = λ all is.
      let s = so all is in
      let p = now.pages in
      let q = later.pages in (
        s.0,
        s.1,
        ap (λ (x : Ahead). x.ahead) waits.window ∙ s.2,
        s.3,
        subst (λ (refused : Bool). Goes all s.0 (s.1 ++ q.text.items) refused) (sym waits.refused)
            (subst (λ (t : List ℕ). Goes all s.0 (s.1 ++ t) p.has_refused) (sym waits.text) s.4),
      )

  -- what was told at the end
  pub all_told : (before now old mid new : Option (List ℕ)) (p : Pages) (has_rest : Bool) (r : Result Bool Stop) → SoFar before now old mid p
      → IfSome now (λ left. NoFrame h left × (has_rest ≡ false → left ≡ [])) → IfOk r (Ends has_rest (record { old = mid; new = new }) p)
      → IfOk r (λ good. IfSome before (λ all. WorksOn task h all (record { old = old; new = new }) good))
  all_told before now old mid new p has_rest (Err e) so facts ends = tt
  all_told None now old mid new p has_rest (Ok good) so facts ends = tt
  all_told (Some all) now old mid new p has_rest (Ok good) so facts ends =
      let s = so all refl in
      let f : NoFrame h s.0 × (has_rest ≡ false → s.0 ≡ []) =
      subst (λ (o : Option (List ℕ)). IfSome o (λ left. NoFrame h left × (has_rest ≡ false → left ≡ []))) s.2 facts in
      so_far_ends all s.0 (Some all) now old mid new p has_rest good so refl s.2 f.0 f.1 ends
