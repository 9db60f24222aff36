-- What the writing functions leave in front.
use Rattle.std.proofs.Common.{◌≡◌, ◌∙◌, ◌≤◌, ℕ, ◌+◌, ◌/◌, ◌%◌, ◌^◌, List, [], ◌∷◌, ◌++◌, length, take, append_assoc, refl, sym, ap, arith}
use Rattle.std.proofs.lemmas.List.{take-replicate, length-replicate}
use Rattle.iso_wire.specs.Decimal.{decimal}
use Rattle.iso_order.specs.declared.key.TxKey.{TxKey}
use Rattle.iso_record.specs.Row.{blanks}
use Rattle.iso_diary.specs.declared.heading.Heading.{Heading as Head}
use Rattle.iso_diary.specs.Heading.{magic, heading_bytes}
use Rattle.iso_diary.specs.Line.{long_digits, answered_bytes, tail}

pub blanks_put : (at len : ℕ) (old new : List ℕ) → len ≤ 89 → take (at + length (take len (blanks 89))) new ≡ take at old ++ take len (blanks 89) → take (at + len) new ≡ take at old ++ blanks len
blanks_put at len old new few is =
    let same : take len (blanks 89) ≡ blanks len = take-replicate len 89 32 few in
    let long : length (blanks len) ≡ len = length-replicate len 32 in
    ap (λ n. take (at + n) new) (sym long) ∙ ap (λ (l : List ℕ). take (at + length l) new) (sym same) ∙ is ∙ ap (λ (l : List ℕ). take at old ++ l) same

pub long_put : (v at : ℕ) (b0 b1 b2 : List ℕ) → take (at + 10) b1 ≡ take at b0 ++ decimal 10 (v / 10 ^ 10) → take (at + 10 + 10) b2 ≡ take (at + 10) b1 ++ decimal 10 (v % 10 ^ 10)
    → take (at + 20) b2 ≡ take at b0 ++ long_digits v
long_put v at b0 b1 b2 e1 e2 =
    let n : at + 20 ≡ at + 10 + 10 = omega arith in
    ap (λ n. take n b2) n ∙ e2 ∙ ap (λ (l : List ℕ). l ++ decimal 10 (v % 10 ^ 10)) e1 ∙ append_assoc (take at b0) (decimal 10 (v / 10 ^ 10)) (decimal 10 (v % 10 ^ 10))

pub answered_put : (k : TxKey) (code : ℕ) (t0 t1 t2 t3 t4 t5 t6 : List ℕ) → t0 ≡ [] → t1 ≡ t0 ++ decimal 5 k.base → t2 ≡ t1 ++ decimal 10 k.stan → t3 ≡ t2 ++ long_digits k.sent
    → t4 ≡ t3 ++ long_digits k.acquirer → t5 ≡ t4 ++ decimal 3 code → t6 ≡ t5 ++ blanks 41 → t6 ≡ answered_bytes k code
unfolding answered_bytes
answered_put k code t0 t1 t2 t3 t4 t5 t6 e0 e1 e2 e3 e4 e5 e6 =
    e6 ∙ ap (λ (x : List ℕ). x ++ blanks 41) (e5 ∙ ap (λ (x : List ℕ). x ++ decimal 3 code) (e4 ∙ ap (λ (x : List ℕ). x ++ long_digits k.acquirer) (e3 ∙ ap (λ (x : List ℕ). x ++ long_digits k.sent)
    (e2 ∙ ap (λ (x : List ℕ). x ++ decimal 10 k.stan) (e1 ∙ ap (λ (x : List ℕ). x ++ decimal 5 k.base) e0)))))
    ∙ together (decimal 5 k.base) (decimal 10 k.stan) (long_digits k.sent) (long_digits k.acquirer) (decimal 3 code) (blanks 41)
  where
    together : (a b c d e f : List ℕ) → (((((([] ++ a) ++ b) ++ c) ++ d) ++ e) ++ f) ≡ a ++ (b ++ (c ++ (d ++ (e ++ f))))
    together a b c d e f = simp append_assoc refl

pub tail_put : (c place : ℕ) (t0 t1 t2 t3 t4 : List ℕ) → t1 ≡ t0 ++ c ∷ [] → t2 ≡ t1 ++ long_digits place → t3 ≡ t2 ++ blanks 7 → t4 ≡ t3 ++ 10 ∷ [] → t4 ≡ t0 ++ tail c place
unfolding tail
tail_put c place t0 t1 t2 t3 t4 e1 e2 e3 e4 =
    e4 ∙ ap (λ (x : List ℕ). x ++ 10 ∷ []) (e3 ∙ ap (λ (x : List ℕ). x ++ blanks 7) (e2 ∙ ap (λ (x : List ℕ). x ++ long_digits place) e1))
    ∙ together t0 (c ∷ []) (long_digits place) (blanks 7) (10 ∷ [])
  where
    together : (t a b c e : List ℕ) → ((((t ++ a) ++ b) ++ c) ++ e) ≡ t ++ (a ++ (b ++ (c ++ e)))
    together t a b c e = simp append_assoc refl

pub trace_put : (stan : ℕ) (t0 t1 t2 : List ℕ) → t0 ≡ [] → t1 ≡ t0 ++ decimal 10 stan → t2 ≡ t1 ++ blanks 89 → t2 ≡ decimal 10 stan ++ blanks 89
trace_put stan t0 t1 t2 e0 e1 e2 = e2 ∙ ap (λ (x : List ℕ). x ++ blanks 89) (e1 ∙ ap (λ (x : List ℕ). x ++ decimal 10 stan) e0)

pub heading_put : (h : Head) (t0 t1 t2 t3 t4 t5 t6 : List ℕ) → t0 ≡ [] → t1 ≡ t0 ++ magic → t2 ≡ t1 ++ decimal 4 1 → t3 ≡ t2 ++ decimal 5 h.rules → t4 ≡ t3 ++ decimal 11 h.acquirer
    → t5 ≡ t4 ++ blanks 83 → t6 ≡ t5 ++ 10 ∷ [] → t6 ≡ heading_bytes h
unfolding heading_bytes
heading_put h t0 t1 t2 t3 t4 t5 t6 e0 e1 e2 e3 e4 e5 e6 =
    e6 ∙ ap (λ (x : List ℕ). x ++ 10 ∷ []) (e5 ∙ ap (λ (x : List ℕ). x ++ blanks 83) (e4 ∙ ap (λ (x : List ℕ). x ++ decimal 11 h.acquirer) (e3 ∙ ap (λ (x : List ℕ). x ++ decimal 5 h.rules)
    (e2 ∙ ap (λ (x : List ℕ). x ++ decimal 4 1) (e1 ∙ ap (λ (x : List ℕ). x ++ magic) e0)))))
    ∙ together magic (decimal 4 1) (decimal 5 h.rules) (decimal 11 h.acquirer) (blanks 83) (10 ∷ [])
  where
    together : (m v r a b e : List ℕ) → (((((([] ++ m) ++ v) ++ r) ++ a) ++ b) ++ e) ≡ m ++ (v ++ (r ++ (a ++ (b ++ e))))
    together m v r a b e = simp append_assoc refl
