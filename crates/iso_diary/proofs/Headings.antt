-- The first record of a diary.
use Rattle.std.proofs.Common.{◌≡◌, ◌∙◌, ℕ, Bool, true, false, List, [], ◌∷◌, ◌++◌, length, take, drop, length-append, append_assoc, refl, sym, ap, arith, eq-eqb}
use Rattle.std.specs.Prelude.{◌==◌, not, bytes_eq, if◌then◌else◌, Some}
use Rattle.std.proofs.lemmas.Slice.Eq.{bytes_eq-Decides}
use Rattle.std.specs.List.{list_all}
use Rattle.std.proofs.lemmas.List.{take_at, drop_at, append_cancel_left}
use Rattle.std.proofs.lemmas.Bool.{and_from}
use Rattle.iso_wire.specs.Decimal.{decimal}
use Rattle.iso_wire.specs.DecimalLaws.{DecimalLaws}
use Rattle.iso_log.specs.Slots.{is_nonzero, is_whole}
use Rattle.iso_record.specs.Row.{blanks, part}
use Rattle.iso_record.specs.ColumnLaws.{ColumnLaws}
use Rattle.iso_diary.proofs.Columns.{nonzero_both}
use Rattle.iso_diary.specs.declared.heading.Heading.{Heading as Head}
use Rattle.iso_diary.specs.declared.heading.HeadingFault.TheVariants.{Rules, Acquirer}
use Rattle.iso_diary.specs.Heading.{magic, heading_bytes, heading_fault, IsHeading}

length-magic : length magic ≡ 24
unfolding magic
length-magic = refl

nonzero_magic : list_all is_nonzero magic ≡ true
unfolding magic
nonzero_magic = refl

abbrev same_heading : ℕ → ℕ → Head
same_heading r a = record { rules = r; acquirer = a }

not_true : (b : Bool) → (b ≡ true → ⊥) → b ≡ false
not_true true never = absurd (never refl)
not_true false never = refl

-- ---- its columns

module _ (f v r rest : List ℕ) (lf : length f ≡ 24) (lv : length v ≡ 4) (lr : length r ≡ 5) where
  in_front : f ++ (v ++ (r ++ rest)) ≡ (f ++ v) ++ (r ++ rest)
  in_front = sym (append_assoc f v (r ++ rest))

  long : length (f ++ v) ≡ 28
  long = length-append f v ∙ omega (arith, lf, lv)

  format_part : part (f ++ (v ++ (r ++ rest))) 0 28 ≡ f ++ v
  format_part = ap (take 28) in_front ∙ take_at (f ++ v) (r ++ rest) 28 long

  rules_part : part (f ++ (v ++ (r ++ rest))) 28 5 ≡ r
  rules_part = ap (λ (l : List ℕ). take 5 (drop 28 l)) in_front ∙ ap (take 5) (drop_at (f ++ v) (r ++ rest) 28 long) ∙ take_at r rest 5 lr

either : (t : Bool) → (if not t then Some Rules else Some Acquirer) ≡ (if t then Some Acquirer else Some Rules)
either true = refl
either false = refl

module _ (decimals : DecimalLaws) (columns : ColumnLaws) where
  pub heading_whole : (h : Head) → is_whole (heading_bytes h) ≡ true
  unfolding heading_bytes
  heading_whole h =
      let v = decimal 4 1 in
      let r = decimal 5 h.rules in
      let a = decimal 11 h.acquirer in
      let e = blanks 83 ++ 10 ∷ [] in
      let n = nonzero_both magic (v ++ (r ++ (a ++ e))) nonzero_magic (nonzero_both v (r ++ (a ++ e)) (columns.digits 4 1) (nonzero_both r (a ++ e) (columns.digits 5 h.rules) (nonzero_both a e (columns.digits 11 h.acquirer) refl))) in
      let long : length (magic ++ (v ++ (r ++ (a ++ e)))) ≡ 128 =
      length-append magic (v ++ (r ++ (a ++ e)))
      ∙ omega (arith, length-magic, length-append v (r ++ (a ++ e)), length-append r (a ++ e), length-append a e, decimals.size 4 1, decimals.size 5 h.rules, decimals.size 11 h.acquirer) in
      and_from _ _ (eq-eqb (length (magic ++ (v ++ (r ++ (a ++ e))))) 128 long) n

  pub headings_apart : (a b : Head) → IsHeading a → IsHeading b → heading_bytes a ≡ heading_bytes b → a ≡ b
  unfolding heading_bytes
  headings_apart a b fa fb e =
      let behind = append_cancel_left (decimal 4 1) _ _ (append_cancel_left magic _ _ e) in
      let rules = columns.apart 5 a.rules b.rules _ _ (omega (arith, fa.rules)) (omega (arith, fb.rules)) behind in
      let acquirer = columns.apart 11 a.acquirer b.acquirer _ _ fa.acquirer fb.acquirer rules.1 in
      ap (λ (r : ℕ). same_heading r a.acquirer) rules.0 ∙ ap (λ (p : ℕ). same_heading b.rules p) acquirer.0

  -- ---- what differs

  same_format : (h : Head) → part (heading_bytes h) 0 28 ≡ magic ++ decimal 4 1
  unfolding heading_bytes
  same_format h = format_part magic (decimal 4 1) (decimal 5 h.rules) _ length-magic (decimals.size 4 1) (decimals.size 5 h.rules)

  rules_of : (h : Head) → part (heading_bytes h) 28 5 ≡ decimal 5 h.rules
  unfolding heading_bytes
  rules_of h = rules_part magic (decimal 4 1) (decimal 5 h.rules) _ length-magic (decimals.size 4 1) (decimals.size 5 h.rules)

  pub told_apart : (a b : Head) → IsHeading a → IsHeading b → (a ≡ b → ⊥) → heading_fault (heading_bytes a) (heading_bytes b) ≡ (if a.rules == b.rules then Some Acquirer else Some Rules)
  told_apart a b fa fb differ =
      let x = heading_bytes a in
      let y = heading_bytes b in
      let whole : bytes_eq x y ≡ false = not_true (bytes_eq x y) (λ same. differ (headings_apart a b fa fb ((bytes_eq-Decides x y).0 same))) in
      let format : bytes_eq (part x 0 28) (part y 0 28) ≡ true = (bytes_eq-Decides (part x 0 28) (part y 0 28)).1 (same_format a ∙ sym (same_format b)) in
      let rules : bytes_eq (part x 28 5) (part y 28 5) ≡ (a.rules == b.rules) =
      ap (λ (l : List ℕ). bytes_eq l (part y 28 5)) (rules_of a) ∙ ap (λ (l : List ℕ). bytes_eq (decimal 5 a.rules) l) (rules_of b)
      ∙ columns.compared 5 a.rules b.rules (omega (arith, fa.rules)) (omega (arith, fb.rules)) in
      rw (whole, format, rules) (either (a.rules == b.rules))
