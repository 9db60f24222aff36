-- The orders and who waits, where one begins, is asked again or is answered.
use Rattle.std.proofs.Common.{◌≡◌, ℕ, Bool, true, false, refl, arith, ap, sym, ◌∙◌, subst, List, [], ◌∷◌, ◌++◌, ◌≤◌, ◌+◌, cond}
use Rattle.std.specs.Prelude.{◌==◌, Option, Some, None}
use Rattle.std.proofs.lemmas.Bool.{eqb-true, eqb-false, eq-eqb}
use Rattle.std.proofs.lemmas.Grind.{common_steps}
use Rattle.std.proofs.lemmas.Option.{same_Some}
use Rattle.iso_order.specs.declared.key.TxKey.{TxKey}
use Rattle.iso_order.specs.Key.{same_key}
use Rattle.iso_waits.specs.declared.due.Due.{Due}
use Rattle.iso_waits.specs.WaitLaws.{WhoWaits, StayInTime}
use Rattle.iso_waits.specs.Waits.{put_off, times, without}
use Rattle.iso_mix.proofs.Placed.{at-answered}
use Rattle.iso_mix.specs.declared.asked.Asked.{Asked}
use Rattle.iso_mix.specs.declared.asked.Side.{Side}
use Rattle.iso_mix.specs.declared.hearing.Hearing.{Hearing}
use Rattle.iso_mix.specs.declared.hearing.Hearing.TheVariants.{First, Known, Differs, Foreign}
use Rattle.iso_mix.specs.Asked.{asked_at, is_open, is_open_at, is_unanswered, with_code, sides_answered}
use Rattle.iso_mix.specs.Book.{IsBook, HasNoKey, AreAllAnswered, HaveOwnNumbers}
use Rattle.iso_mix.specs.Hearing.{hearing_of, hearing_by, is_no_answer}

-- one order is changed or added, and no other
abbrev pub OneIs : List Side → List Side → ℕ → Asked → Type 0
OneIs old new m a = (n : ℕ) → asked_at new n ≡ cond (n == m) (Some a) (asked_at old n)

own-one : (old new : List Side) (m : ℕ) (a : Asked) → HaveOwnNumbers old → OneIs old new m a → a.order.key.stan ≡ m → HaveOwnNumbers new
own-one old new m a own one at n b h = go (n == m) refl
  where
    go : (c : Bool) → (n == m) ≡ c → b.order.key.stan ≡ n
    go true e =
        let is : Some a ≡ Some b = sym (one n ∙ ap (λ c. cond c (Some a) (asked_at old n)) e) ∙ h in
        ap (λ (x : Asked). x.order.key.stan) (sym (same_Some a b is)) ∙ at ∙ sym (eqb-true n m e)
    go false e = own n b (sym (one n ∙ ap (λ c. cond c (Some a) (asked_at old n)) e) ∙ h)

open-one : (old new : List Side) (m : ℕ) (a : Asked) (n : ℕ) → OneIs old new m a → is_open_at new n ≡ cond (n == m) (is_unanswered a.code) (is_open_at old n)
open-one old new m a n one = ap is_open (one n) ∙ go (n == m)
  where
    go : (c : Bool) → is_open (cond c (Some a) (asked_at old n)) ≡ cond c (is_unanswered a.code) (is_open (asked_at old n))
    go true = refl
    go false = refl

module _ (who : WhoWaits) (time : StayInTime) where
  -- an order begins
  pub kept-begun : (old new : List Side) (waiting : List Due) (m at last : ℕ) (a : Asked) → IsBook old waiting last → last ≤ at →
      asked_at old m ≡ None → a.order.key.stan ≡ m → a.code ≡ None → OneIs old new m a → IsBook new (waiting ++ record { stan = m; at = at } ∷ []) at
  kept-begun old new waiting m at last a b later none number no_code one = record {
    own = own-one old new m a b.own one number;
    awaited = λ n. who.more n waiting (record { stan = m; at = at }) ∙ go n (n == m) refl;
    in_time = time.more at waiting (record { stan = m; at = at }) (omega arith) (time.later last at waiting later b.in_time);
  }
    where
      go : (n : ℕ) (c : Bool) → (n == m) ≡ c → times n waiting + cond (m == n) 1 0 ≡ cond (is_open_at new n) 1 0
      go n true e =
          let is : n ≡ m = eqb-true n m e in
          let back : (m == n) ≡ true = eq-eqb m n (sym is) in
          let shut : is_open_at old n ≡ false = ap is_open (ap (asked_at old) is ∙ none) in
          let opened : is_open_at new n ≡ true = open-one old new m a n one ∙ ap (λ c. cond c (is_unanswered a.code) (is_open_at old n)) e ∙ ap is_unanswered no_code in
          omega (arith, b.awaited n, ap {B = ℕ} (λ c. cond c 1 0) shut, ap {B = ℕ} (λ c. cond c 1 0) back, ap {B = ℕ} (λ c. cond c 1 0) opened)
      go n false e =
          let back : (m == n) ≡ false = grind (arith, common_steps, eqb-false n m e) in
          let same : is_open_at new n ≡ is_open_at old n = open-one old new m a n one ∙ ap (λ c. cond c (is_unanswered a.code) (is_open_at old n)) e in
          omega (arith, b.awaited n, ap {B = ℕ} (λ c. cond c 1 0) same, ap {B = ℕ} (λ c. cond c 1 0) back)

  -- an order is answered
  pub kept-answered : (old new : List Side) (waiting : List Due) (m last : ℕ) (a : Asked) → IsBook old waiting last →
      a.order.key.stan ≡ m → is_unanswered a.code ≡ false → OneIs old new m a → IsBook new (without m waiting) last
  kept-answered old new waiting m last a b number code one = record {
    own = own-one old new m a b.own one number;
    awaited = λ n. who.less n m waiting ∙ go n (n == m) refl;
    in_time = time.less last m waiting b.in_time;
  }
    where
      go : (n : ℕ) (c : Bool) → (n == m) ≡ c → cond (n == m) 0 (times n waiting) ≡ cond (is_open_at new n) 1 0
      go n true e =
          ap (λ c. cond c 0 (times n waiting)) e
          ∙ sym (ap {B = ℕ} (λ c. cond c 1 0) (open-one old new m a n one ∙ ap (λ c. cond c (is_unanswered a.code) (is_open_at old n)) e ∙ code))
      go n false e =
          ap (λ c. cond c 0 (times n waiting)) e ∙ b.awaited n
          ∙ sym (ap {B = ℕ} (λ c. cond c 1 0) (open-one old new m a n one ∙ ap (λ c. cond c (is_unanswered a.code) (is_open_at old n)) e))

  pub kept-heard : (old : List Side) (waiting : List Due) (last : ℕ) (key : TxKey) (code : ℕ) → IsBook old waiting last →
      hearing_of (asked_at old key.stan) key code ≡ First → IsBook (sides_answered key.stan code old) (without key.stan waiting) last
  kept-heard old waiting last key code b first = go (asked_at old key.stan) refl first
    where
      go : (x : Option Asked) → asked_at old key.stan ≡ x → hearing_of x key code ≡ First → IsBook (sides_answered key.stan code old) (without key.stan waiting) last
      go None e h = cc
      go (Some a) e h =
          kept-answered old (sides_answered key.stan code old) waiting key.stan last (with_code code a) b (b.own key.stan a e) refl (at-answered old key.stan code a e)

  -- time goes on
  pub kept-later : (sides : List Side) (waiting : List Due) (last more : ℕ) → last ≤ more → IsBook sides waiting last → IsBook sides waiting more
  kept-later sides waiting last more h b = record { own = b.own; awaited = b.awaited; in_time = time.later last more waiting h b.in_time }

  -- the first that waits is asked again
  pub kept-again : (sides : List Side) (waiting : List Due) (last : ℕ) → IsBook sides waiting last → IsBook sides (put_off last waiting) last
  kept-again sides waiting last b = record {
    own = b.own;
    awaited = λ n. who.again n last waiting ∙ b.awaited n;
    in_time = time.again last waiting b.in_time;
  }

-- ---- an answer to no order

pub foreign-none : (sides : List Side) (waiting : List Due) (last : ℕ) (key : TxKey) (code : ℕ) → IsBook sides waiting last → hearing_of (asked_at sides key.stan) key code ≡ Foreign → HasNoKey sides key
foreign-none sides waiting last key code b foreign n a there is =
    let at : n ≡ key.stan = sym (b.own n a there) ∙ ap (λ (k : TxKey). k.stan) is in
    let found : asked_at sides key.stan ≡ Some a = ap (asked_at sides) (sym at) ∙ there in
    let same : same_key a.order.key key ≡ true = ap (λ (k : TxKey). same_key a.order.key k) (sym is) ∙ self a.order.key in
    let by : hearing_by a.code code ≡ Foreign = sym (ap (λ (x : Option Asked). hearing_of x key code) found ∙ ap (λ c. cond c (hearing_by a.code code) Foreign) same) ∙ foreign in
    never a.code by
  where
    self : (k : TxKey) → same_key k k ≡ true
    self k = grind (arith, common_steps)

    pick : (c : Bool) (x y : Hearing) → (x ≡ Foreign → ⊥) → (y ≡ Foreign → ⊥) → cond c x y ≡ Foreign → ⊥
    pick true x y p q h = p h
    pick false x y p q h = q h

    never : (f : Option ℕ) → hearing_by f code ≡ Foreign → ⊥
    never None h = pick (is_no_answer code) Known First (λ e. cc) (λ e. cc) h
    never (Some c) h = pick (is_no_answer code) Known (cond (c == code) Known Differs) (λ e. cc) (λ e. pick (c == code) Known Differs (λ k. cc) (λ k. cc) e) h

-- ---- all are answered where none waits

module _ (who : WhoWaits) where
  pub none-open : (sides : List Side) (waiting : List Due) (last : ℕ) → IsBook sides waiting last → waiting ≡ [] → AreAllAnswered sides
  none-open sides waiting last b none n = go (is_open_at sides n) refl
    where
      go : (c : Bool) → is_open_at sides n ≡ c → is_open_at sides n ≡ false
      go true e = absurd (omega (arith, (who.none waiting).0 none n, b.awaited n, ap {B = ℕ} (λ c. cond c 1 0) e))
      go false e = e

  pub none-left : (sides : List Side) (waiting : List Due) (last : ℕ) → IsBook sides waiting last → AreAllAnswered sides → waiting ≡ []
  none-left sides waiting last b all = (who.none waiting).1 (λ n. b.awaited n ∙ ap {B = ℕ} (λ c. cond c 1 0) (all n))

-- ---- the same lists, by another name

pub kept-same : (old new : List Side) (waiting next : List Due) (last at : ℕ) → new ≡ old → next ≡ waiting → at ≡ last → IsBook old waiting last → IsBook new next at
kept-same old new waiting next last at s w l b =
    subst (λ (n : ℕ). IsBook new next n) (sym l) (subst (λ (x : List Due). IsBook new x last) (sym w) (subst (λ (x : List Side). IsBook x waiting last) (sym s) b))
