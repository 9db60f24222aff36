-- The frames that were taken of a peer, as they are heard.
use Rattle.std.proofs.Common.{◌≡◌, ◌∙◌, ◌++◌, ◌≤◌, ℕ, Bool, true, false, refl, sym, ap, subst, List, [], ◌∷◌, length, take, drop, append_assoc, append-nil}
use Rattle.std.specs.Prelude.{Option, None, if◌then◌else◌}
use Rattle.std.specs.List.{AllByRecursion}
use Rattle.std.proofs.lemmas.Bool.{eq-eqb}
use Rattle.std.proofs.lemmas.List.{take-append-drop}
use Rattle.iso_wire.specs.declared.header.Header.{Header}
use Rattle.iso_wire.specs.FrameLaws.{FrameLaws}
use Rattle.iso_wire.specs.Framing.{frame_of, frames_of, AllFit, NoFrame, largest}
use Rattle.iso_issuer.specs.Books.{Books}
use Rattle.iso_host.specs.Entering.{books_after_bodies, BodiesGoOn}
use Rattle.iso_guard.specs.Guarding.{Guard}
use Rattle.iso_guard.specs.Entering.{entering_of, entering_all, books_after_guarded}
use Rattle.iso_guard.specs.Answering.{IsGuardedOutputFrom, IsGuardedOutput}
use Rattle.iso_lines.specs.declared.standing.Closing.{Closing}
use Rattle.iso_lines.specs.Guarded.{guard_at}
use Rattle.iso_lines.specs.Hearing.{Arrival, books_after_arrivals, bodies_of, IsShare, AreAnswers, IsHeard, sender, keeping, coming, growth, Dealing, HearsBytes}
use Rattle.iso_lines.proofs.Turns.{books_go_on, bodies_go_on, answers_go_on, not_over}

-- ---- frames that were answered

abbrev arrivals_of : ℕ → Guard → List (List ℕ) → List Arrival
arrivals_of key g [] = []
arrivals_of key g (body ∷ bodies) = record { key = key; line = g; body = body; answered = true } ∷ arrivals_of key g bodies

own_all : (key : ℕ) (g : Guard) (bodies : List (List ℕ)) → AllByRecursion (λ a. a.key ≡ key) (arrivals_of key g bodies)
own_all key g [] = tt
own_all key g (x ∷ xs) = (refl, own_all key g xs)

bodies_all : (key : ℕ) (g : Guard) (bodies : List (List ℕ)) → bodies_of key (arrivals_of key g bodies) ≡ bodies
bodies_all key g [] = refl
bodies_all key g (x ∷ xs) =
    ap (λ (t : Bool). if t then x ∷ bodies_of key (arrivals_of key g xs) else bodies_of key (arrivals_of key g xs)) (eq-eqb key key refl)
    ∙ ap (λ (l : List (List ℕ)). x ∷ l) (bodies_all key g xs)

entering_go_on : (g : Guard) (xs ys : List (List ℕ)) → entering_all g (xs ++ ys) ≡ entering_all g xs ++ entering_all g ys
entering_go_on g [] ys = refl
entering_go_on g (x ∷ xs) ys = ap (λ (l : List (List ℕ)). entering_of g x ++ l) (entering_go_on g xs ys) ∙ sym (append_assoc (entering_of g x) (entering_all g xs) (entering_all g ys))

guarded_go_on : BodiesGoOn → (g : Guard) (b : Books) (xs ys : List (List ℕ)) → books_after_guarded g (books_after_guarded g b xs) ys ≡ books_after_guarded g b (xs ++ ys)
guarded_go_on law g b xs ys = law g.table b (entering_all g xs) (entering_all g ys) ∙ ap (books_after_bodies g.table b) (sym (entering_go_on g xs ys))

books_all : BodiesGoOn → (key : ℕ) (g : Guard) (b : Books) (bodies : List (List ℕ)) → books_after_guarded g b [] ≡ b
    → books_after_arrivals b (arrivals_of key g bodies) ≡ books_after_guarded g b bodies
books_all law key g b [] stays = sym stays
books_all law key g b (x ∷ xs) stays = books_all law key g (books_after_guarded g b (x ∷ [])) xs (guarded_go_on law g b (x ∷ []) []) ∙ guarded_go_on law g b (x ∷ []) xs

answers_all : BodiesGoOn → (key : ℕ) (g : Guard) (b : Books) (earlier bodies : List (List ℕ)) (out : List ℕ) → IsGuardedOutputFrom g b earlier bodies out
    → AreAnswers key g (books_after_guarded g b earlier) (arrivals_of key g bodies) out
answers_all law key g b earlier [] out is = is
answers_all law key g b earlier (x ∷ xs) out is = (
  is.0,
  is.1,
  subst (λ (t : Bool). IsShare t g (books_after_guarded g b earlier) (record { key = key; line = g; body = x; answered = true }) is.0) (sym (eq-eqb key key refl)) (refl, is.2),
  subst (λ (c : Books). AreAnswers key g c (arrivals_of key g xs) is.1) (sym (guarded_go_on law g b earlier (x ∷ []))) (answers_all law key g b (earlier ++ x ∷ []) xs is.1 is.3),
  is.4,
)

answers_of : BodiesGoOn → (key : ℕ) (g : Guard) (b : Books) (bodies : List (List ℕ)) (out : List ℕ) → books_after_guarded g b [] ≡ b → IsGuardedOutput g b bodies out
    → AreAnswers key g b (arrivals_of key g bodies) out
unfolding IsGuardedOutput
answers_of law key g b bodies out stays is = subst (λ (c : Books). AreAnswers key g c (arrivals_of key g bodies) out) stays (answers_all law key g b [] bodies out is)

-- ---- how taking them ends

-- frames of one peer that enter and are heard
pub record Made (key : ℕ) (g : Guard) (held kept out grown : List ℕ) (e0 e1 : Option Closing) (before after : Books) (bytes : List ℕ) : Type 0 where
  pub arrivals : List Arrival
  pub own : AllByRecursion (λ a. a.key ≡ key) arrivals
  pub entered : after ≡ books_after_arrivals before arrivals
  pub heard : IsHeard (sender key g) (keeping held out e0) (keeping kept grown e1) (coming before arrivals) bytes

-- all bytes are taken, or the peer ends there
pub made_all : (key : ℕ) (g : Guard) (held kept out grown : List ℕ) (e0 e1 : Option Closing) (before after : Books) (bytes rest : List ℕ) (bodies : List (List ℕ)) (answers : List ℕ)
    → BodiesGoOn → books_after_guarded g before [] ≡ before → held ++ bytes ≡ frames_of g.header bodies ++ rest → AllFit g.header bodies → IsGuardedOutput g before bodies answers
    → grown ≡ out ++ answers → after ≡ books_after_guarded g before bodies → e0 ≡ None → (e1 ≡ None → (rest ≡ kept) × NoFrame g.header kept)
    → Made key g held kept out grown e0 e1 before after bytes
made_all key g held kept out grown e0 e1 before after bytes rest bodies answers law stays front fit output waits is none end =
    let same = bodies_all key g bodies in
    record {
      arrivals = arrivals_of key g bodies;
      own = own_all key g bodies;
      entered = is ∙ sym (books_all law key g before bodies stays);
      heard = record {
        rest = rest;
        front = front ∙ ap (λ (l : List (List ℕ)). frames_of g.header l ++ rest) (sym same);
        fit = subst (AllFit g.header) (sym same) fit;
        answers = answers;
        are = answers_of law key g before bodies answers stays output;
        waits = waits;
        stays = λ ends. (none, (end ends).0);
        whole = λ ends no_frame. (end ends).1;
        over = λ why some. absurd (not_over e0 why none some);
      };
    }

-- the body of one more enters, and its answer wants memory
pub made_one_more : (key : ℕ) (g : Guard) (held kept out grown : List ℕ) (e0 e1 : Option Closing) (before after : Books) (bytes more : List ℕ) (bodies : List (List ℕ)) (body answers : List ℕ)
    → FrameLaws → BodiesGoOn → books_after_guarded g before [] ≡ before → held ++ bytes ≡ frames_of g.header bodies ++ (frame_of g.header body ++ more) → AllFit g.header bodies
    → length body ≤ largest g.header → IsGuardedOutput g before bodies answers → grown ≡ out ++ answers
    → after ≡ books_after_guarded g (books_after_guarded g before bodies) (body ∷ []) → e0 ≡ None → (e1 ≡ None → ⊥)
    → Made key g held kept out grown e0 e1 before after bytes
made_one_more key g held kept out grown e0 e1 before after bytes more bodies body answers joins law stays front fit fits output waits is none over =
    let last : List Arrival = record { key = key; line = g; body = body; answered = false } ∷ [] in
    let alone : bodies_of key last ≡ body ∷ [] = ap (λ (t : Bool). if t then body ∷ [] else []) (eq-eqb key key refl) in
    let same : bodies_of key (arrivals_of key g bodies ++ last) ≡ bodies ++ body ∷ [] =
    bodies_go_on key (arrivals_of key g bodies) last ∙ ap (λ (l : List (List ℕ)). l ++ bodies_of key last) (bodies_all key g bodies) ∙ ap (λ (l : List (List ℕ)). bodies ++ l) alone in
    let mid = books_after_arrivals before (arrivals_of key g bodies) in
    let share : AreAnswers key g mid last [] =
    ([], [], subst (λ (t : Bool). IsShare t g mid (record { key = key; line = g; body = body; answered = false }) []) (sym (eq-eqb key key refl)) (refl, refl), refl, refl) in
    record {
      arrivals = arrivals_of key g bodies ++ last;
      own = own_more (arrivals_of key g bodies) (own_all key g bodies);
      entered = is ∙ ap (λ (b : Books). books_after_guarded g b (body ∷ [])) (sym (books_all law key g before bodies stays)) ∙ books_go_on before (arrivals_of key g bodies) last;
      heard = record {
        rest = more;
        front = front ∙ sym (append_assoc (frames_of g.header bodies) (frame_of g.header body) more)
            ∙ ap (λ (l : List ℕ). (frames_of g.header bodies ++ l) ++ more) (sym (append-nil (frame_of g.header body)))
            ∙ ap (λ (l : List ℕ). l ++ more) (sym (joins.joined g.header bodies (body ∷ [])))
            ∙ ap (λ (l : List (List ℕ)). frames_of g.header l ++ more) (sym same);
        fit = subst (AllFit g.header) (sym same) (joins.fit g.header bodies (body ∷ []) fit (fits, tt));
        answers = answers ++ [];
        are = answers_go_on key g before (arrivals_of key g bodies) last answers [] (answers_of law key g before bodies answers stays output) share;
        waits = waits ∙ ap (λ (l : List ℕ). out ++ l) (sym (append-nil answers));
        stays = λ ends. absurd (over ends);
        whole = λ ends no_frame. absurd (over ends);
        over = λ why some. absurd (not_over e0 why none some);
      };
    }
  where
    own_more : (xs : List Arrival) → AllByRecursion (λ a. a.key ≡ key) xs → AllByRecursion (λ a. a.key ≡ key) (xs ++ record { key = key; line = g; body = body; answered = false } ∷ [])
    own_more [] own = (refl, tt)
    own_more (x ∷ xs) own = (own.0, own_more xs own.1)

-- the bytes before and behind a place
pub split_at : (held bytes kept : List ℕ) (h : Header) (bodies : List (List ℕ)) (used : ℕ) → held ++ take used bytes ≡ frames_of h bodies ++ kept
    → held ++ bytes ≡ frames_of h bodies ++ (kept ++ drop used bytes)
split_at held bytes kept h bodies used joined =
    ap (λ (l : List ℕ). held ++ l) (sym (take-append-drop used bytes)) ∙ sym (append_assoc held (take used bytes) (drop used bytes)) ∙ ap (λ (l : List ℕ). l ++ drop used bytes) joined
    ∙ append_assoc (frames_of h bodies) kept (drop used bytes)

-- ---- what is made is heard

abbrev pub is_off : Bool → Type 0
is_off true = ⊥
is_off false = Unit {0}

pub no_both : (b : Bool) → b ≡ true → b ≡ false → ⊥
no_both b on off = subst is_off (sym off ∙ on) tt

-- what is made of the frames of a peer is heard of it
pub made_heard : (key : ℕ) (d e : Dealing) (before after : Books) (bytes : List ℕ) → e.line ≡ d.line
    → Made key (guard_at d.line) d.held e.held d.waiting e.waiting d.ended e.ended before after bytes → HearsBytes key d e (growth before after) bytes
made_heard key d e before after bytes line made = record { arrivals = made.arrivals; own = made.own; entered = made.entered; line = line; heard = made.heard }
