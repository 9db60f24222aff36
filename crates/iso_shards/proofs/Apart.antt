-- Orders of accounts that are apart: what concerns the one, among orders that concern either.
use Rattle.std.proofs.Common.{◌≡◌, Bool, true, false, cond, refl, ap, ◌∙◌}
use Rattle.std.proofs.Common.{List, [], ◌∷◌, ◌++◌}
use Rattle.std.specs.Prelude.{◌&&◌, ◌||◌, filter}
use Rattle.std.specs.List.{list_any, AllByRecursion}
use Rattle.iso_order.specs.declared.act.Act.{Act}
use Rattle.iso_order.specs.declared.act.Act.TheVariants.{Debit, Credit, Inquiry, Undo, Complete}
use Rattle.iso_order.specs.declared.key.TxKey.{TxKey}
use Rattle.iso_order.specs.Key.{same_key}
use Rattle.iso_order.specs.Order.{Instruction}
use Rattle.iso_order.specs.Pan.{AccountNumber}
use Rattle.iso_issuer.specs.Effect.{is_key}
use Rattle.iso_issuer.specs.Journal.{undone_key}
use Rattle.iso_shards.specs.Shards.{is_own, reverses_own, is_concerning, concerning}
use Rattle.iso_shards.proofs.Lists.{every, all-weaker}
use Rattle.iso_shards.proofs.Keys.{same_key_is}
use Rattle.iso_shards.proofs.Kept.{any_kept}
use Rattle.iso_shards.proofs.Together.{all_filter}
use Rattle.iso_shards.proofs.Concerned.{only_own, first_of_two}

-- ---- two lists of orders, of accounts that are apart

-- no account is of both
abbrev pub AreApart : (AccountNumber → Bool) → (AccountNumber → Bool) → Type 0
AreApart own others = (pan : AccountNumber) → own pan ≡ true → others pan ≡ false

-- no order of the one's accounts has the key of an order of the other's
abbrev pub KeysAreApart : (AccountNumber → Bool) → (AccountNumber → Bool) → List Instruction
    → List Instruction → Type 0
KeysAreApart own others xs ys =
    AllByRecursion (λ p. is_own own p ≡ true →
    AllByRecursion (λ q. is_own others q ≡ true → same_key p.key q.key ≡ false) ys) xs

pub all_both : {X : Type 0} (P Q R : X → Type 0) (xs : List X) → ((x : X) → P x → Q x → R x)
    → AllByRecursion P xs → AllByRecursion Q xs → AllByRecursion R xs
all_both P Q R [] f p q = tt
all_both P Q R (x ∷ xs) f p q = (f x p.0 q.0, all_both P Q R xs f p.1 q.1)

-- then neither are the others' with these
pub apart_too : (own others : AccountNumber → Bool) → AreApart own others → AreApart others own
apart_too own others apart pan is = by_test (own pan) refl
  where
    by_test : (b : Bool) → own pan ≡ b → b ≡ false
    by_test true h = let off = apart pan h in cc
    by_test false h = refl

-- an order that names an account of the one names none of the other
pub own_apart : (own others : AccountNumber → Bool) → AreApart own others → (key : TxKey)
    (act : Act) → is_own own (record { key = key; act = act }) ≡ true
    → is_own others (record { key = key; act = act }) ≡ false
own_apart own others apart key (Debit m) is = apart m.pan is
own_apart own others apart key (Credit m) is = apart m.pan is
own_apart own others apart key (Inquiry m) is = apart m.pan is
own_apart own others apart key (Undo original left) is = refl
own_apart own others apart key (Complete m hold) is = apart m.pan is

-- what a filter leaves passes
all_pass : {X : Type 0} (p : X → Bool) (xs : List X)
    → AllByRecursion (λ x. p x ≡ true) (filter p xs)
all_pass p [] = tt
all_pass {X} p (x ∷ xs) = by_test (p x) refl (all_pass p xs)
  where
    by_test : (b : Bool) → p x ≡ b → AllByRecursion (λ x. p x ≡ true) (filter p xs)
        → AllByRecursion (λ x. p x ≡ true) (cond b (x ∷ filter p xs) (filter p xs))
    by_test true h rest = (h, rest)
    by_test false h rest = rest

pub filter_all : {X : Type 0} (p : X → Bool) (xs : List X) → AllByRecursion (λ x. p x ≡ true) xs
    → filter p xs ≡ xs
filter_all p [] all = refl
filter_all {X} p (x ∷ xs) all =
    ap (λ b. cond b (x ∷ filter p xs) (filter p xs)) all.0
    ∙ ap (λ (ys : List X). x ∷ ys) (filter_all p xs all.1)

pub filter_none : {X : Type 0} (p : X → Bool) (xs : List X) → AllByRecursion (λ x. p x ≡ false) xs
    → filter p xs ≡ []
filter_none p [] all = refl
filter_none {X} p (x ∷ xs) all =
    ap (λ b. cond b (x ∷ filter p xs) (filter p xs)) all.0 ∙ filter_none p xs all.1

pub any_none : {X : Type 0} (p : X → Bool) (xs : List X) → AllByRecursion (λ x. p x ≡ false) xs
    → list_any p xs ≡ false
any_none p [] all = refl
any_none p (x ∷ xs) all = ap (λ b. b || list_any p xs) all.0 ∙ any_none p xs all.1

pub any_append : {X : Type 0} (p : X → Bool) (xs ys : List X)
    → list_any p (xs ++ ys) ≡ list_any p xs || list_any p ys
any_append p [] ys = refl
any_append p (x ∷ xs) ys =
    ap (λ b. p x || b) (any_append p xs ys) ∙ or_assoc (p x) (list_any p xs) (list_any p ys)
  where
    or_assoc : (a b c : Bool) → a || (b || c) ≡ (a || b) || c
    or_assoc true b c = refl
    or_assoc false b c = refl

pub or_comm : (a b : Bool) → a || b ≡ b || a
or_comm true true = refl
or_comm true false = refl
or_comm false true = refl
or_comm false false = refl

-- ---- what concerns the one, among orders that concern either

module _ (own others : AccountNumber → Bool) (apart : AreApart own others)
    (xs ys : List Instruction) (keys : KeysAreApart own others xs ys) where
  -- what concerns the other names no account of the one,
  not_own : (key : TxKey) (act : Act)
      → is_concerning others ys (record { key = key; act = act }) ≡ true
      → is_own own (record { key = key; act = act }) ≡ false
  not_own key (Debit m) h = apart_too own others apart m.pan (only_own others ys (others m.pan) h)
  not_own key (Credit m) h = apart_too own others apart m.pan (only_own others ys (others m.pan) h)
  not_own key (Inquiry m) h = apart_too own others apart m.pan (only_own others ys (others m.pan) h)
  not_own key (Undo original left) h = refl
  not_own key (Complete m hold) h =
      apart_too own others apart m.pan (only_own others ys (others m.pan) h)

  -- and reverses no order that does
  reverses_other : (key : TxKey) (act : Act) (k : TxKey)
      → is_concerning others ys (record { key = key; act = act }) ≡ true
      → AllByRecursion (λ q. is_own others q ≡ true → same_key k q.key ≡ false) ys
      → is_key (undone_key act) k ≡ false
  reverses_other key (Debit m) k h away = refl
  reverses_other key (Credit m) k h away = refl
  reverses_other key (Inquiry m) k h away = refl
  reverses_other key (Complete m hold) k h away = refl
  reverses_other key (Undo original left) k h away = by_test (same_key original k) refl
    where
      by_test : (b : Bool) → same_key original k ≡ b → b ≡ false
      by_test false t = refl
      by_test true t =
          let none = any_none (λ (q : Instruction). is_own others q && same_key original q.key) ys
          (all-weaker (λ (q : Instruction). is_own others q ≡ true → same_key k q.key ≡ false)
          (λ (q : Instruction). is_own others q && same_key original q.key ≡ false) ys each away)
          in cc
        where
          each : (q : Instruction) → (is_own others q ≡ true → same_key k q.key ≡ false)
              → is_own others q && same_key original q.key ≡ false
          each q other = by_own (is_own others q) refl
            where
              by_own : (b : Bool) → is_own others q ≡ b → b && same_key original q.key ≡ false
              by_own true is =
                  ap (λ (j : TxKey). same_key j q.key) (same_key_is original k t) ∙ other is
              by_own false is = refl

  -- a list of what concerns either
  module _ (all : List Instruction) (either : (t : Instruction → Bool) → list_any t all
      ≡ list_any t (concerning own xs) || list_any t (concerning others ys)) where
    pub in_first : AllByRecursion (λ x. is_concerning own all x ≡ true) (concerning own xs)
    in_first =
        all-weaker (λ (x : Instruction). is_concerning own xs x ≡ true)
        (λ (x : Instruction). is_concerning own all x ≡ true) (concerning own xs) each
        (all_pass (is_concerning own xs) xs)
      where
        or_more : (a b c : Bool) → a || b ≡ true → a || (b || c) ≡ true
        or_more true b c h = refl
        or_more false true c h = refl
        or_more false false c h = cc

        each : (x : Instruction) → is_concerning own xs x ≡ true
            → is_concerning own all x ≡ true
        each x h =
            ap (λ b. is_own own x || b)
            (either t ∙ ap (λ b. b || list_any t (concerning others ys)) there)
            ∙ or_more (is_own own x) (list_any t xs) (list_any t (concerning others ys)) h
          where
            t : Instruction → Bool
            t p = is_own own p && is_key (undone_key x.act) p.key

            front : (a b : Bool) → a && b ≡ true → a ≡ true
            front true b h = refl
            front false b h = cc

            there : list_any t (concerning own xs) ≡ list_any t xs
            there =
                any_kept (is_concerning own xs) t t xs
                (every (λ (p : Instruction). (t p ≡ true → is_concerning own xs p ≡ true)
                × (is_concerning own xs p ≡ true → t p ≡ t p)) xs
                (λ p. (
                  λ h. first_of_two (is_own own p) (reverses_own own xs p)
                      (front (is_own own p) (is_key (undone_key x.act) p.key) h),
                  λ c. refl,
                )))

    pub in_second : AllByRecursion (λ x. is_concerning own all x ≡ false) (concerning others ys)
    in_second =
        all-weaker (λ (x : Instruction). is_concerning others ys x ≡ true)
        (λ (x : Instruction). is_concerning own all x ≡ false) (concerning others ys) each
        (all_pass (is_concerning others ys) ys)
      where
        each : (x : Instruction) → is_concerning others ys x ≡ true
            → is_concerning own all x ≡ false
        each x h =
            ap (λ b. b || reverses_own own all x) (not_own x.key x.act h)
            ∙ either t
            ∙ ap (λ b. b || list_any t (concerning others ys)) none_first
            ∙ none_second
          where
            t : Instruction → Bool
            t p = is_own own p && is_key (undone_key x.act) p.key

            away : (p : Instruction)
                → (is_own own p ≡ true
                → AllByRecursion (λ q. is_own others q ≡ true → same_key p.key q.key ≡ false) ys)
                → t p ≡ false
            away p other = by_own (is_own own p) refl
              where
                by_own : (b : Bool) → is_own own p ≡ b
                    → b && is_key (undone_key x.act) p.key ≡ false
                by_own true is = reverses_other x.key x.act p.key h (other is)
                by_own false is = refl

            none_first : list_any t (concerning own xs) ≡ false
            none_first =
                any_none t (concerning own xs)
                (all_filter (λ (p : Instruction). t p ≡ false) (is_concerning own xs) xs
                (all-weaker (λ (p : Instruction). is_own own p ≡ true →
                AllByRecursion (λ q. is_own others q ≡ true → same_key p.key q.key ≡ false) ys)
                (λ (p : Instruction). t p ≡ false) xs away keys))

            none_second : list_any t (concerning others ys) ≡ false
            none_second =
                any_none t (concerning others ys)
                (all-weaker (λ (p : Instruction). is_concerning others ys p ≡ true)
                (λ (p : Instruction). t p ≡ false) (concerning others ys)
                (λ p c. ap (λ b. b && is_key (undone_key x.act) p.key) (not_own p.key p.act c))
                (all_pass (is_concerning others ys) ys))
