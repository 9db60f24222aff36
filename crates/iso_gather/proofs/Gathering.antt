-- Bytes that wait: more of them, and their writing.
use Rattle.std.proofs.Common.{◌≡◌, ◌≤◌, ◌<◌, ℕ, ◌+◌, ◌-◌, arith, ap, sym, ◌∙◌, subst, List, [], ◌∷◌, ◌++◌, length, take, drop, inl, inr, length-append}
use Rattle.std.specs.Prelude.{slice_index}
use Rattle.std.proofs.lemmas.Bool.{cases_lt}
use Rattle.std.proofs.lemmas.List.{get_or-drop, get_or-take, length-take, length-drop, ext_get_or, get_or_append_left, get_or-append-add, get_or-append_right}
use Rattle.sqlite_disk.specs.Disk.{Holds, Torn, Mixed, Follows}
use Rattle.sqlite_disk.specs.Events.{overlaid}
use Rattle.sqlite_disk.proofs.EventLemmas.{Holds-overlaid, Torn-overlaid, Torn-within, Mixed-then}
use Rattle.iso_gather.specs.Shown.{shown, Leaves}

-- ---- a write of the bytes that wait

-- A write that begins within a file and succeeds makes one file.
same_file : (at : ℕ) (bytes file a b : List ℕ) → at ≤ length file → Torn at (length bytes) file a → Holds a at bytes → Torn at (length bytes) file b → Holds b at bytes → a ≡ b
same_file at bytes file a b within s h t k =
    ext_get_or 0 a b (omega (arith, within, s.no_shorter, s.no_longer, h.within, t.no_shorter, t.no_longer, k.within)) each
  where
    each : (i : ℕ) → i < length a → slice_index a i ≡ slice_index b i
    each i low = elim (cases_lt i at) [
      | inl before ↦ s.below i (omega (arith, before, within)) before ∙ sym (t.below i (omega (arith, before, within)) before)
      | inr behind ↦ elim (cases_lt i (at + length bytes)) [
        | inl inside ↦
            let here : at + (i - at) ≡ i = omega (arith, behind) in
            let there : i - at < length bytes = omega (arith, behind, inside) in
            ap (slice_index a) (sym here) ∙ h.each (i - at) there ∙ sym (k.each (i - at) there) ∙ ap (slice_index b) here
        | inr past ↦
            let old : i < length file = omega (arith, low, past, s.no_longer) in
            s.above i old past ∙ sym (t.above i old past)
      ]
    ]

pub written : (at : ℕ) (waiting file new : List ℕ) → at ≤ length file → 0 < length waiting → Torn at (length waiting) file new → Holds new at waiting → new ≡ shown at waiting file
written at [] file new within some torn holds = absurd (omega (arith, some))
written at (byte ∷ more) file new within some torn holds =
    let bytes = byte ∷ more in
    same_file at bytes file new (overlaid file at bytes) within torn holds (Torn-overlaid file at bytes) (Holds-overlaid file at bytes)

pub torn_again : (at : ℕ) (waiting file new : List ℕ) → at ≤ length file → 0 < length waiting → Torn at (length waiting) file new → shown at waiting new ≡ shown at waiting file
torn_again at [] file new within some torn = absurd (omega (arith, some))
torn_again at (byte ∷ more) file new within some torn =
    let bytes = byte ∷ more in
    let over = Torn-within at (length bytes) at (length bytes) file new (overlaid new at bytes) (omega arith) (omega arith) torn (Torn-overlaid new at bytes) in
    same_file at bytes file (overlaid new at bytes) (overlaid file at bytes) within over (Holds-overlaid new at bytes) (Torn-overlaid file at bytes) (Holds-overlaid file at bytes)

module _ (at : ℕ) (old new : List ℕ → Type 0) where
  pub left_torn : (waiting : List ℕ) → 0 < length waiting → Follows (Mixed at waiting) old new → (c : List ℕ) → Leaves at waiting new c → Leaves at waiting old c
  left_torn [] some follows c may = absurd (omega (arith, some))
  left_torn (byte ∷ more) some follows c may =
      let bytes = byte ∷ more in
      let before = follows may.0 may.1 in
      let alike : (i : ℕ) → i < length bytes → slice_index bytes i ≡ slice_index bytes (0 + i) = λ i low. ap (slice_index bytes) (omega arith) in
      (before.0, before.1, Mixed-then at 0 at bytes bytes before.0 may.0 c (omega arith) (omega arith) alike before.2 may.2)

-- ---- more bytes that wait

module _ (at : ℕ) (file : List ℕ) where
  first_torn : (bytes : List ℕ) → 0 < length bytes → Torn at (length bytes) file (shown at bytes file)
  first_torn [] some = absurd (omega (arith, some))
  first_torn (byte ∷ more) some = Torn-overlaid file at (byte ∷ more)

  first_holds : (bytes : List ℕ) → 0 < length bytes → Holds (shown at bytes file) at bytes
  first_holds [] some = absurd (omega (arith, some))
  first_holds (byte ∷ more) some = Holds-overlaid file at (byte ∷ more)

  pub next_holds : (waiting bytes : List ℕ) → 0 < length bytes → Holds (shown at (waiting ++ bytes) file) (at + length waiting) bytes
  next_holds waiting bytes some =
      let all = first_holds (waiting ++ bytes) (omega (arith, length-append waiting bytes, some)) in
      record {
        within = omega (arith, all.within, length-append waiting bytes);
        each = λ i low.
            let here : at + length waiting + i ≡ at + (length waiting + i) = omega arith in
            ap (slice_index (shown at (waiting ++ bytes) file)) here ∙ all.each (length waiting + i) (omega (arith, low, length-append waiting bytes)) ∙ get_or-append-add waiting bytes i 0;
      }

  next_torn : (waiting bytes : List ℕ) → at ≤ length file → 0 < length waiting → 0 < length bytes
      → Torn (at + length waiting) (length bytes) (shown at waiting file) (shown at (waiting ++ bytes) file)
  next_torn waiting bytes within some more =
      let n = length-append waiting bytes in
      let s = first_torn waiting some in
      let h = first_holds waiting some in
      let t = first_torn (waiting ++ bytes) (omega (arith, n, some)) in
      let k = first_holds (waiting ++ bytes) (omega (arith, n, some)) in
      record {
        no_shorter = omega (arith, n, s.no_longer, t.no_shorter, k.within);
        no_longer = omega (arith, n, s.no_shorter, h.within, t.no_longer);
        below = λ i low before. elim (cases_lt i at) [
          | inl front ↦ t.below i (omega (arith, front, within)) front ∙ sym (s.below i (omega (arith, front, within)) front)
          | inr behind ↦
              let here : at + (i - at) ≡ i = omega (arith, behind) in
              let there : i - at < length waiting = omega (arith, behind, before) in
              ap (slice_index (shown at (waiting ++ bytes) file)) (sym here) ∙ k.each (i - at) (omega (arith, there, n)) ∙ get_or_append_left waiting bytes 0 (i - at) there
              ∙ sym (h.each (i - at) there) ∙ ap (slice_index (shown at waiting file)) here
        ];
        above = λ i low past.
            let old : i < length file = omega (arith, low, past, s.no_longer, more) in
            t.above i old (omega (arith, n, past)) ∙ sym (s.above i old (omega (arith, past)));
      }

-- A crash that leaves some of more bytes leaves some of the first of them, and then some of the others.
module _ (at : ℕ) (waiting bytes d c : List ℕ) where
  -- what it leaves of the first of them
  abbrev pub between : List ℕ
  between = take (at + length waiting) c ++ drop (at + length waiting) d

  pub split : 0 < length bytes → Mixed at (waiting ++ bytes) d c → Mixed at waiting d between × Mixed (at + length waiting) bytes between c
  split some mixed =
      let end = at + length waiting in
      let n = length-append waiting bytes in
      let len = length-append (take end c) (drop end d) in
      let front = length-take end c in
      let back = length-drop end d in
      let t = mixed.torn in
      let low_is = λ (i : ℕ) (low : i < end) (within : i < length c).
      let same : slice_index between i ≡ slice_index c i = get_or_append_left (take end c) (drop end d) 0 i (omega (arith, front, low, within)) ∙ get_or-take end c i 0 low in same in
      let high_is = λ (i : ℕ) (high : end ≤ i) (within : i < length d).
      let whole : length (take end c) ≡ end = omega (arith, front, high, within, t.no_shorter) in
      let same : slice_index between i ≡ slice_index d i =
      let there : end + (i - end) ≡ i = omega (arith, high) in
      get_or-append_right (take end c) (drop end d) end i 0 whole high ∙ get_or-drop end d (i - end) 0 ∙ ap (slice_index d) there in same in (
        record {
          torn = record {
            no_shorter = omega (arith, len, front, back, t.no_shorter);
            no_longer = omega (arith, len, front, back);
            below = λ i within low. low_is i (omega (arith, low)) (omega (arith, within, t.no_shorter)) ∙ t.below i within low;
            above = λ i within high. high_is i high within;
          };
          each = λ i low within.
              let same = low_is (at + i) (omega (arith, low)) (omega (arith, within, t.no_shorter)) in
              elim (mixed.each i (omega (arith, low, n)) within) [
                | inl old ↦ inl (same ∙ old)
                | inr new ↦ inr (same ∙ new ∙ get_or_append_left waiting bytes 0 i low)
              ];
        },
        record {
          torn = record {
            no_shorter = omega (arith, len, front, back, t.no_shorter);
            no_longer = omega (arith, len, front, back, n, t.no_longer);
            below = λ i within low. sym (low_is i low (omega (arith, within, low, len, front, back, t.no_shorter)));
            above = λ i within high.
                let old : i < length d = omega (arith, within, high, len, front, back, some) in
                t.above i old (omega (arith, n, high)) ∙ sym (high_is i (omega (arith, high)) old);
          };
          each = λ i low within.
              let old : end + i < length d = omega (arith, within, len, front, back) in
              let here : at + (length waiting + i) ≡ end + i = omega arith in
              let same = high_is (end + i) (omega arith) old in
              elim (rw here at (mixed.each (length waiting + i) (omega (arith, low, n)) (omega (arith, old)))) [
                | inl was ↦ inl (was ∙ sym same)
                | inr new ↦ inr (new ∙ get_or-append-add waiting bytes i 0)
              ];
        },
      )

module _ (may_leave : List ℕ → Type 0) where
  first_left : (at : ℕ) (bytes : List ℕ) → 0 < length bytes → Follows (Mixed at bytes) may_leave (Leaves at bytes may_leave)
  first_left at [] some c may = absurd (omega (arith, some))
  first_left at (byte ∷ more) some c may = may

  next_left : (at : ℕ) (waiting bytes : List ℕ) → 0 < length waiting → 0 < length bytes
      → Follows (Mixed (at + length waiting) bytes) (Leaves at waiting may_leave) (Leaves at (waiting ++ bytes) may_leave)
  next_left at [] bytes some more c may = absurd (omega (arith, some))
  next_left at (byte ∷ rest) bytes some more c may =
      let both = split at (byte ∷ rest) bytes may.0 c more may.2 in
      (between at (byte ∷ rest) bytes may.0 c, (may.0, may.1, both.0), both.1)

-- ---- bytes that join those that wait, which begin at `start`

pub held_holds : (start at : ℕ) (waiting bytes file : List ℕ) → start + length waiting ≡ at → 0 < length bytes → Holds (shown start (waiting ++ bytes) file) at bytes
held_holds start at waiting bytes file joins some = subst (λ n. Holds (shown start (waiting ++ bytes) file) n bytes) joins (next_holds start file waiting bytes some)

pub held_torn : (old start at : ℕ) (waiting bytes file : List ℕ) → start + length waiting ≡ at → (0 < length waiting → start ≡ old) → 0 < length bytes → start ≤ length file
    → Torn at (length bytes) (shown old waiting file) (shown start (waiting ++ bytes) file)
held_torn old start at [] bytes file joins same some within = subst (λ n. Torn n (length bytes) file (shown start bytes file)) (omega (arith, joins)) (first_torn start file bytes some)
held_torn old start at (byte ∷ more) bytes file joins same some within =
    let waiting = byte ∷ more in
    let is : start ≡ old = same (omega arith) in
    subst (λ n. Torn n (length bytes) (shown old waiting file) (shown start (waiting ++ bytes) file)) joins
    (subst (λ n. Torn (start + length waiting) (length bytes) (shown n waiting file) (shown start (waiting ++ bytes) file)) is (next_torn start file waiting bytes within (omega arith) some))

pub held_left : (old start at : ℕ) (waiting bytes : List ℕ) (may_leave : List ℕ → Type 0) → start + length waiting ≡ at → (0 < length waiting → start ≡ old) → 0 < length bytes
    → Follows (Mixed at bytes) (Leaves old waiting may_leave) (Leaves start (waiting ++ bytes) may_leave)
held_left old start at [] bytes may_leave joins same some = subst (λ n. Follows (Mixed n bytes) may_leave (Leaves start bytes may_leave)) (omega (arith, joins)) (first_left may_leave start bytes some)
held_left old start at (byte ∷ more) bytes may_leave joins same some =
    let waiting = byte ∷ more in
    let is : start ≡ old = same (omega arith) in
    subst (λ n. Follows (Mixed n bytes) (Leaves old waiting may_leave) (Leaves start (waiting ++ bytes) may_leave)) joins
    (subst (λ n. Follows (Mixed (start + length waiting) bytes) (Leaves n waiting may_leave) (Leaves start (waiting ++ bytes) may_leave)) is (next_left may_leave start waiting bytes (omega arith) some))

-- where all that waits begins, once bytes at `at` join n others
pub joined : (old known at n : ℕ) → (0 < n → at ≡ old + n) → (n ≡ 0 → at ≤ known) → (0 < n → old ≤ known) → (at - n + n ≡ at) × (0 < n → at - n ≡ old) × (at - n ≤ known)
joined old known at n next first before = elim (cases_lt 0 n) [
  | inl some ↦ (omega (arith, next some), λ _. omega (arith, next some), omega (arith, next some, before some))
  | inr none ↦ (omega (arith, none), λ some. absurd (omega (arith, none, some)), omega (arith, first (omega (arith, none))))
]
