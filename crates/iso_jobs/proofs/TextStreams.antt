-- The texts of an input that are taken from its front.
use Rattle.std.proofs.Common.{arith, ◌≡◌, ◌++◌, ◌||◌, ◌&&◌, ◌∙◌, ℕ, List, [], ◌∷◌, Bool, true, false, not, Option, Some, None, Result, Ok, Err, refl, sym, ap, subst, append-nil, append_assoc, if◌then◌else◌}
use Rattle.std.specs.List.{list_all}
use Rattle.std.specs.Prelude.{IfOk, IfSome}
use Rattle.std.specs.Io.KnownBytes.{Appends, Consumes, Keeps}
use Rattle.iso_input.specs.Window.{Ahead}
use Rattle.iso_jobs.specs.Encoding.{Closes, Takes, Target, unless}
use Rattle.iso_jobs.specs.Frames.{Progress, Waits}
use Rattle.iso_jobs.specs.Making.{IsText, MakesAll, MakesEach, MakesOne, joined, output_of}
use Rattle.iso_jobs.specs.declared.fault.Stop.{Stop}
use Rattle.iso_jobs.specs.declared.pages.Pages.{Pages}
use Rattle.iso_jobs.proofs.Streams.{appends_on, kept_some, left_of, good_first}

abbrev pub are_made : List (Bool × List ℕ) → Bool
are_made made = list_all (λ x. x.0) made

-- what is written of a text and of those behind it, where nothing is made of a text that is refused
output_on : (refused ok : Bool) (before out rest : List ℕ) → (ok ≡ false → out ≡ [])
    → before ++ unless refused (if ok then out ++ rest else []) ≡ (before ++ unless refused out) ++ unless (refused || not ok) rest
output_on true ok before out rest none = sym (ap (λ (l : List ℕ). l ++ []) (append-nil before))
output_on false true before out rest none = sym (append_assoc before out rest)
output_on false false before out rest none =
    sym (append-nil (before ++ out) ∙ ap (λ (l : List ℕ). before ++ l) (none refl))

module _ (target : Target) where
  -- with whatever texts the input goes on that is left, all of it are the texts so far and those; and so is what is made
  abbrev pub GoesBy : List ℕ → List ℕ → List ℕ → Bool → Type 0
  GoesBy all left text refused =
      (texts : List (List ℕ)) (made : List (Bool × List ℕ)) → left ≡ joined texts → MakesEach target.table target.form texts made
      → (ts : List (List ℕ)) × (ms : List (Bool × List ℕ)) × (all ≡ joined ts) × MakesEach target.table target.form ts ms
      × (output_of ms ≡ text ++ unless refused (output_of made)) × (are_made ms ≡ (not refused && are_made made))

  none_made : (text : List ℕ) (ok : Bool) (out : List ℕ) → MakesOne target.table target.form text (ok, out) → ok ≡ false → out ≡ []
  none_made text true out makes is = absurd (grind arith)
  none_made text false out makes is = makes.1

  -- a text was taken
  pub goes_on_by : (all left later sofar text out : List ℕ) (refused ok : Bool) → GoesBy all left sofar refused → IsText text
      → left ≡ text ++ later → MakesOne target.table target.form text (ok, out) → GoesBy all later (sofar ++ unless refused out) (refused || not ok)
  goes_on_by all left later sofar text out refused ok old is taken makes = λ texts made joined each.
      let r = old (text ∷ texts) ((ok, out) ∷ made) (taken ∙ ap (λ (l : List ℕ). text ++ l) joined) ((ok, out), made, is, makes, each, refl) in (
        r.0,
        r.1,
        r.2,
        r.3,
        r.4 ∙ output_on refused ok sofar out (output_of made) (none_made text ok out makes),
        r.5 ∙ good_first refused ok (are_made made),
      )

  -- the input so far, from its front: what is left, and what was made and written
  abbrev pub MadeSoFar : Option (List ℕ) → Option (List ℕ) → Option (List ℕ) → Option (List ℕ) → Pages → Type 0
  MadeSoFar before now old new pages =
      (all : List ℕ) → before ≡ Some all
      → (left : List ℕ) × (done : List ℕ) × (now ≡ Some left) × Appends old new done × GoesBy all left (done ++ pages.text.items) pages.has_refused

  pub made_took : (before old new : Option (List ℕ)) (now later : Progress) (text : List ℕ) → MadeSoFar before now.window.ahead old new now.pages
      → IsText text → Consumes now.window.ahead later.window.ahead text → Takes target text now.pages later.pages
      → MadeSoFar before later.window.ahead old new later.pages
  made_took before old new now later text so is taken takes = λ all e.
      let s = so all e in
      let p = now.pages in
      let q = later.pages in
      let l = left_of now.window.ahead later.window.ahead s.0 text s.2 taken in
      let g = goes_on_by all s.0 l.0 (s.1 ++ p.text.items) text takes.out p.has_refused takes.ok s.4 is l.2 takes.makes in
      let texts : (s.1 ++ p.text.items) ++ unless p.has_refused takes.out ≡ s.1 ++ q.text.items =
      append_assoc s.1 p.text.items (unless p.has_refused takes.out) ∙ sym (ap (λ (x : List ℕ). s.1 ++ x) takes.added) in (
        l.0,
        s.1,
        l.1,
        s.3,
        subst (λ (refused : Bool). GoesBy all l.0 (s.1 ++ q.text.items) refused) (sym takes.refused)
            (subst (λ (x : List ℕ). GoesBy all l.0 x (p.has_refused || not takes.ok)) texts g),
      )

  -- what was made was written, and the input is as it was
  pub made_written : (before now later old mid new : Option (List ℕ)) (p q : Pages) → MadeSoFar before now old mid p → Keeps now later
      → Appends mid new p.text.items → q.text.items ≡ [] → q.has_refused ≡ p.has_refused → MadeSoFar before later old new q
  made_written before now later old mid new p q so kept written empty same = λ all is.
      let s = so all is in
      let texts : s.1 ++ p.text.items ≡ (s.1 ++ p.text.items) ++ q.text.items =
      sym (append-nil (s.1 ++ p.text.items)) ∙ sym (ap (λ (x : List ℕ). (s.1 ++ p.text.items) ++ x) empty) in (
        s.0,
        s.1 ++ p.text.items,
        kept_some now later s.0 s.2 kept,
        appends_on old mid new s.1 p.text.items s.3 written,
        subst (λ (refused : Bool). GoesBy all s.0 ((s.1 ++ p.text.items) ++ q.text.items) refused) (sym same)
            (subst (λ (x : List ℕ). GoesBy all s.0 x p.has_refused) texts s.4),
      )

  -- nothing was taken
  pub made_waits : (before old new : Option (List ℕ)) (now later : Progress) → MadeSoFar before now.window.ahead old new now.pages
      → Waits now later → MadeSoFar before later.window.ahead old new later.pages
  made_waits before old new now later so waits = λ all is.
      let s = so all is in
      let p = now.pages in
      let q = later.pages in (
        s.0,
        s.1,
        ap (λ (x : Ahead). x.ahead) waits.window ∙ s.2,
        s.3,
        subst (λ (refused : Bool). GoesBy all s.0 (s.1 ++ q.text.items) refused) (sym waits.refused)
            (subst (λ (x : List ℕ). GoesBy all s.0 (s.1 ++ x) p.has_refused) (sym waits.text) s.4),
      )

  -- what was made at the end, of the last text that was left
  pub all_made : (before now old mid new : Option (List ℕ)) (p : Pages) (rest : List ℕ) (r : Result Bool Stop) → MadeSoFar before now old mid p
      → IfSome now (λ left. left ≡ rest) → IsText rest → IfOk r (Closes target rest p (record { old = mid; new = new }))
      → IfOk r (λ good. IfSome before (λ all. MakesAll target.table target.form all (record { old = old; new = new }) good))
  all_made before now old mid new p rest (Err e) so last is closes = tt
  all_made None now old mid new p rest (Ok good) so last is closes = tt
  all_made (Some all) now old mid new p rest (Ok good) so last is closes =
      let s = so all refl in
      let left : s.0 ≡ rest = subst (λ (o : Option (List ℕ)). IfSome o (λ left. left ≡ rest)) s.2 last in
      let takes = closes.takes in
      let g = goes_on_by all s.0 [] (s.1 ++ p.text.items) rest takes.out p.has_refused takes.ok s.4 is (left ∙ sym (append-nil rest)) takes.makes in
      let r = g [] [] refl refl in
      let sofar : (s.1 ++ p.text.items) ++ unless p.has_refused takes.out ≡ s.1 ++ closes.last.text.items =
      append_assoc s.1 p.text.items (unless p.has_refused takes.out) ∙ sym (ap (λ (x : List ℕ). s.1 ++ x) takes.added) in
      let texts : output_of r.1 ≡ s.1 ++ closes.last.text.items = r.4 ∙ nothing_on (p.has_refused || not takes.ok) _ ∙ sofar in
      record {
        texts = r.0;
        made = r.1;
        whole = r.2;
        each = r.3;
        written = subst (λ (x : List ℕ). Appends old new x) (sym texts) (appends_on old mid new s.1 closes.last.text.items s.3 closes.written);
        all_good = closes.all_good ∙ ap (λ (refused : Bool). not refused) takes.refused ∙ sym (r.5 ∙ and_true (not (p.has_refused || not takes.ok)));
      }
    where
      nothing_on : (refused : Bool) (l : List ℕ) → l ++ unless refused [] ≡ l
      nothing_on true l = append-nil l
      nothing_on false l = append-nil l

      and_true : (b : Bool) → (b && true) ≡ b
      and_true true = refl
      and_true false = refl
