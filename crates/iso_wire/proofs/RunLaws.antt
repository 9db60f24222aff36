-- Values in a run behind those of the buffer.
use Rattle.std.proofs.Common.{◌≡◌, ℕ, ◌+◌, ◌-◌, ◌≤◌, Bool, true, false, cond, ltb, List, [], ◌∷◌, ◌++◌, length, take, drop, Option, Result, Ok, Err, refl, sym, ap, subst, ◌∙◌, append_assoc, arith}
use Rattle.std.proofs.lemmas.List.{drop-drop, drop-take, take-take, take-append-drop, length-append, length-drop, length-take-le}
use Rattle.iso_parts.specs.declared.encoding.Coding.{Coding}
use Rattle.iso_parts.specs.declared.encoding.Coding.TheVariants as codings
use Rattle.iso_parts.specs.declared.padding.Pad.{Pad}
use Rattle.iso_parts.specs.declared.fault.FieldFault.{FieldFault}
use Rattle.iso_parts.specs.declared.fault.FieldFault.TheVariants.{NotInClass}
use Rattle.iso_parts.specs.declared.spec.FieldSpec.{FieldSpec}
use Rattle.iso_parts.specs.Class.{is_in_class}
use Rattle.iso_parts.specs.Numbers.{members}
use Rattle.iso_parts.specs.Reading.{◌>>=◌, got, more, prefix_size, prefix_of, body_size, without_padding, text_of, value_of, body_of, at_body, at_prefix, part_at}
use Rattle.iso_parts.specs.Texts.{is_plain}
use Rattle.iso_wire.specs.declared.elements.Elements.{Elements}
use Rattle.iso_wire.specs.Ends.{elements_of, views, Ascend, IsMadeOf}
use Rattle.iso_wire.specs.Runs.{run_in, views_with, AwaitsWith, IsBare, Pushes}
use Rattle.iso_wire.proofs.Buffers.{elements_of-push, elements_of-later, ascend_push}
use Rattle.iso_wire.proofs.Loop.{with_front, goes_on}
use Rattle.iso_wire.proofs.Orders.{Values}
use Rattle.iso_wire.specs.declared.fault.UnpackFault.{UnpackFault}
use Rattle.iso_wire.specs.Reading.{value_at, elements_at}

-- ---- runs

take_more : (n m : ℕ) (l : List ℕ) → take (n + m) l ≡ take n l ++ take m (drop n l)
take_more n m l =
    let front : take n (take (n + m) l) ≡ take n l = take-take n (n + m) l (omega arith) in
    let back : drop n (take (n + m) l) ≡ take m (drop n l) = drop-take n m l in
    sym (take-append-drop n (take (n + m) l)) ∙ ap (λ (k : List ℕ). k ++ drop n (take (n + m) l)) front ∙ ap (λ (k : List ℕ). take n l ++ k) back

-- a run and the one behind it
pub run_join : (b : List ℕ) (from at to : ℕ) → from ≤ at → at ≤ to → run_in b from to ≡ run_in b from at ++ run_in b at to
run_join b from at to low high =
    let size : to - from ≡ (at - from) + (to - at) = omega (arith, low, high) in
    let place : from + (at - from) ≡ at = omega (arith, low) in
    ap (λ (k : ℕ). take k (drop from b)) size ∙ take_more (at - from) (to - at) (drop from b)
    ∙ ap (λ (l : List ℕ). run_in b from at ++ take (to - at) l) (drop-drop (at - from) from b ∙ ap (λ (k : ℕ). drop k b) place)

-- bytes in front of a run that goes on
pub run_longer : (front b : List ℕ) (from at body to : ℕ) → body ≡ 0 → from ≤ at → at + body ≤ to → front ++ run_in b from to ≡ (front ++ run_in b from at) ++ run_in b (at + body) to
run_longer front b from at body to none low high =
    let same : at ≡ at + body = omega (arith, none) in
    ap (λ (l : List ℕ). front ++ l) (run_join b from at to low (omega (arith, none, high))) ∙ sym (append_assoc front (run_in b from at) (run_in b at to))
    ∙ ap (λ (k : ℕ). (front ++ run_in b from at) ++ run_in b k to) same

pub run_length : (b : List ℕ) (from to : ℕ) → from ≤ to → to ≤ length b → length (run_in b from to) ≡ to - from
run_length b from to low high = length-take-le (to - from) (drop from b) (omega (arith, length-drop from b, low, high))

-- ---- bodies that are values

text_plain : (c : Coding) (n : ℕ) (b : List ℕ) → is_plain c ≡ true → text_of c n b ≡ Ok b
text_plain codings.Ascii n b plain = refl
text_plain codings.Raw n b plain = refl
text_plain codings.Bcd n b plain = absurd cc
text_plain codings.HexText n b plain = absurd cc

text_is : (t : Bool) (w v : List ℕ) (k used : ℕ) → at_body k (cond t (Ok w) (Err NotInClass)) ≡ got v used → (v ≡ w) × (used ≡ k)
text_is true w v k used is = (cc, cc)
text_is false w v k used is = absurd cc

body_is : (s : FieldSpec) (bare : IsBare s) (n : ℕ) (b v : List ℕ) (k used : ℕ) → at_body k (body_of s n b) ≡ got v used → (v ≡ b) × (used ≡ k)
body_is s bare n b v k used is =
    let text : body_of s n b ≡ value_of s b = ap (λ r. r >>= value_of s) (text_plain s.coding n b bare.coding) in
    let none : without_padding s.pad b ≡ b = ap (λ (p : Pad). without_padding p b) bare.pad in
    let told = text_is (is_in_class s.class (without_padding s.pad b)) (without_padding s.pad b) v k used (ap (at_body k) (sym text) ∙ is) in
    (told.0 ∙ none, told.1)

sized_is : (t : Bool) (s : FieldSpec) (bare : IsBare s) (n : ℕ) (b v : List ℕ) (k used : ℕ) → cond t more (at_body k (body_of s n b)) ≡ got v used → (v ≡ b) × (used ≡ k)
sized_is true s bare n b v k used is = absurd cc
sized_is false s bare n b v k used is = body_is s bare n b v k used is

prefixed_is : (r : Result ℕ FieldFault) (s : FieldSpec) (bare : IsBare s) (b v : List ℕ) (used : ℕ) → at_prefix s b r ≡ got v used → v ≡ take (used - prefix_size s.length) (drop (prefix_size s.length) b)
prefixed_is (Err e) s bare b v used is = absurd cc
prefixed_is (Ok n) s bare b v used is =
    let front = prefix_size s.length in
    let size = body_size s.coding n in
    let told = sized_is (ltb (length b) (front + size)) s bare n (take size (drop front b)) v (front + size) used is in
    let same : size ≡ used - front = omega (arith, told.1) in
    told.0 ∙ ap (λ (k : ℕ). take k (drop front b)) same

whole_is : (t : Bool) (r : Result ℕ FieldFault) (s : FieldSpec) (bare : IsBare s) (b v : List ℕ) (used : ℕ) → cond t more (at_prefix s b r) ≡ got v used → v ≡ take (used - prefix_size s.length) (drop (prefix_size s.length) b)
whole_is true r s bare b v used is = absurd cc
whole_is false r s bare b v used is = prefixed_is r s bare b v used is

-- the value of a part that begins at an offset is the run of its body
pub bare_value : (s : FieldSpec) (bare : IsBare s) (b v : List ℕ) (at front used : ℕ) → front ≡ prefix_size s.length → part_at s (drop at b) ≡ got v used → v ≡ run_in b (at + front) (at + used)
bare_value s bare b v at front used is read =
    let d : List ℕ = drop at b in
    let body = whole_is (ltb (length d) (prefix_size s.length)) (prefix_of s (take (prefix_size s.length) d)) s bare d v used read in
    let size : used - front ≡ (at + used) - (at + front) = omega arith in
    body ∙ ap (λ (k : ℕ). take (used - k) (drop k d)) (sym is) ∙ ap (λ (l : List ℕ). take (used - front) l) (drop-drop front at b) ∙ ap (λ (k : ℕ). take k (drop (at + front) b)) size

-- ---- elements

module _ (x y : Elements) (n : ℕ) (run after later v : List ℕ) (awaits : AwaitsWith x run (n ∷ later)) (pushed : Pushes x y run after v) where
  pub run_appended : views_with y after ≡ views_with x run ++ (n, v) ∷ []
  run_appended =
      let es = x.ends.items in
      let b : List ℕ = x.values.items ++ run in
      ap (λ (l : List ℕ). elements_of l 0 y.ends.items (y.values.items ++ after)) (ap members pushed.numbers ∙ awaits.numbers)
      ∙ ap (λ (l : List ℕ). elements_of (awaits.done ++ n ∷ later) 0 l (y.values.items ++ after)) pushed.ends
      ∙ ap (λ (l : List ℕ). elements_of (awaits.done ++ n ∷ later) 0 (es ++ length (b ++ v) ∷ []) l) pushed.values
      ∙ elements_of-push awaits.done later n es v b awaits.count awaits.ends
      ∙ ap (λ (l : Values). l ++ (n, v) ∷ []) (sym (elements_of-later awaits.done (n ∷ later) 0 es b awaits.count) ∙ ap (λ (l : List ℕ). elements_of l 0 es b) (sym awaits.numbers))

  pub run_awaits : AwaitsWith y after later
  run_awaits =
      let es = x.ends.items in
      let b : List ℕ = x.values.items ++ run in
      record {
        ends = subst (λ (k : ℕ). Ascend 0 y.ends.items k) (sym (ap length pushed.values)) (subst (λ (l : List ℕ). Ascend 0 l (length (b ++ v))) (sym pushed.ends) (ascend_push es v b awaits.ends));
        done = awaits.done ++ n ∷ [];
        numbers = ap members pushed.numbers ∙ awaits.numbers ∙ sym (append_assoc awaits.done (n ∷ []) later);
        count = ap length pushed.ends ∙ omega (arith, awaits.count, length-append es (length (b ++ v) ∷ []), length-append awaits.done (n ∷ []));
      }

pub run_views : (x y : Elements) (run : List ℕ) → y.numbers ≡ x.numbers → IsMadeOf y x.ends.items (x.values.items ++ run) → views y ≡ views_with x run
run_views x y run numbers made =
    ap (λ (l : List ℕ). elements_of l 0 y.ends.items y.values.items) (ap members numbers)
    ∙ ap (λ (l : List ℕ). elements_of (members x.numbers) 0 l y.values.items) made.ends
    ∙ ap (λ (l : List ℕ). elements_of (members x.numbers) 0 x.ends.items l) made.values

-- a value whose bytes are the run's last ones is pushed where its end is
pub run_pushed : (x m y : Elements) (b run v : List ℕ) (place begun to end : ℕ) → m.numbers ≡ x.numbers → m.ends.items ≡ x.ends.items
    → m.values.items ++ run_in b begun to ≡ (x.values.items ++ run) ++ run_in b place to → v ≡ run_in b place to → y.numbers ≡ m.numbers → IsMadeOf y (m.ends.items ++ end ∷ []) m.values.items
    → end ≡ length m.values.items + (to - begun) → begun ≤ to → to ≤ length b → Pushes x y run (run_in b begun to) v
run_pushed x m y b run v place begun to end numbers ends values is kept made size low high =
    let all : m.values.items ++ run_in b begun to ≡ (x.values.items ++ run) ++ v = values ∙ ap (λ (l : List ℕ). (x.values.items ++ run) ++ l) (sym is) in
    let count : end ≡ length ((x.values.items ++ run) ++ v) = omega (arith, size, ap length all, length-append m.values.items (run_in b begun to), run_length b begun to low high) in
    record {
      numbers = kept ∙ numbers;
      ends = made.ends ∙ ap (λ (l : List ℕ). l ++ end ∷ []) ends ∙ ap (λ (k : ℕ). x.ends.items ++ k ∷ []) count;
      values = ap (λ (l : List ℕ). l ++ run_in b begun to) made.values ∙ all;
    }

-- what is read behind an element that was pushed
pub run_read : (rows : List (Option FieldSpec)) (x y : Elements) (b old ns : List ℕ) (n at end : ℕ) (run after : List ℕ) (first : List ℕ × ℕ) (total : Result (Values × ℕ) UnpackFault) → old ≡ n ∷ ns
    → value_at rows n at (drop at b) ≡ Ok first → end ≡ at + first.1 → AwaitsWith x run (n ∷ ns) → Pushes x y run after first.0
    → with_front (views_with x run) (elements_at rows old at (drop at b)) ≡ total → with_front (views_with y after) (elements_at rows ns end (drop end b)) ≡ total
run_read rows x y b old ns n at end run after first total is read place awaits pushed so_far =
    ap (λ (e : ℕ). with_front (views_with y after) (elements_at rows ns e (drop e b))) place
    ∙ ap (λ (l : List ℕ). with_front (views_with y after) (elements_at rows ns (at + first.1) l)) (sym (drop-drop first.1 at b))
    ∙ ap (λ (vs : Values). with_front vs (elements_at rows ns (at + first.1) (drop first.1 (drop at b)))) (run_appended x y n run after ns first.0 awaits pushed)
    ∙ goes_on rows (views_with x run) old ns n at (drop at b) first total is read so_far
