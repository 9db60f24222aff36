-- Values one after another in a buffer, and the ends that find them.
use Rattle.std.proofs.Common.{◌≡◌, ℕ, zero, suc, ◌+◌, ◌-◌, ◌^◌, ◌<◌, ◌≤◌, List, [], ◌∷◌, ◌++◌, length, get_or, map, take, drop, refl, sym, ap, subst, ◌∙◌, arith}
use Rattle.std.proofs.lemmas.List.{drop-drop, drop-take, take-take, take_at, drop_at, drop_all, take_all, take-append-drop, length-append, length-drop, length-take}
use Rattle.iso_wire.specs.Elements.{IsBelow}
use Rattle.iso_wire.specs.Ends.{elements_of, Ascend, last_end, shifted_end, IsAbove}
use Rattle.iso_wire.proofs.Orders.{Values}

-- ---- ends

pub end_is : (s m : ℕ) (es : List ℕ) → Ascend s es m → last_end s es ≡ m
end_is s m [] asc = asc
end_is s m (e ∷ es) asc = end_is e m es asc.1

pub ascend_le : (s m : ℕ) (es : List ℕ) → Ascend s es m → s ≤ m
ascend_le s m [] asc = omega (arith, asc)
ascend_le s m (e ∷ es) asc = omega (arith, asc.0, ascend_le e m es asc.1)

pub Ascend-append : (s m t : ℕ) (es fs : List ℕ) → Ascend s es m → Ascend m fs t → Ascend s (es ++ fs) t
Ascend-append s m t [] fs one two = subst (λ (k : ℕ). Ascend k fs t) (sym one) two
Ascend-append s m t (e ∷ es) fs one two = (one.0, Ascend-append e m t es fs one.1 two)

pub Ascend-front : (s t : ℕ) (es fs : List ℕ) → Ascend s (es ++ fs) t → Ascend s es (last_end s es)
Ascend-front s t [] fs asc = refl
Ascend-front s t (e ∷ es) fs asc = (asc.0, Ascend-front e t es fs asc.1)

pub Ascend-back : (s t : ℕ) (es fs : List ℕ) → Ascend s (es ++ fs) t → Ascend (last_end s es) fs t
Ascend-back s t [] fs asc = asc
Ascend-back s t (e ∷ es) fs asc = Ascend-back e t es fs asc.1

pub Ascend-moved : (out into s m : ℕ) (es : List ℕ) → out ≤ s → Ascend s es m → Ascend (shifted_end out into s) (map (shifted_end out into) es) (shifted_end out into m)
Ascend-moved out into s m [] le asc = ap (shifted_end out into) asc
Ascend-moved out into s m (e ∷ es) le asc = (omega (arith, asc.0), Ascend-moved out into e m es (omega (arith, asc.0)) asc.1)

-- each end lies between
pub ascend_all : (low s m : ℕ) (es : List ℕ) → low ≤ s → Ascend s es m → (k d : ℕ) → k < length es → (low ≤ get_or es k d) × (get_or es k d ≤ m)
ascend_all low s m [] le asc k d lt = absurd (omega (arith, lt))
ascend_all low s m (e ∷ es) le asc zero d lt = (omega (arith, asc.0), ascend_le e m es asc.1)
ascend_all low s m (e ∷ es) le asc (suc k) d lt = ascend_all low e m es (omega (arith, asc.0)) asc.1 k d (omega (arith, lt))

-- ends that can be moved
pub moves_fit : (out into s m : ℕ) (es fs : List ℕ) → es ≡ fs → out ≤ s → Ascend s fs m → m - out + into < 2 ^ 64 → (k d : ℕ) → k < length es → (out ≤ get_or es k d) × (get_or es k d - out + into < 2 ^ 64)
moves_fit out into s m es fs same le asc small k d lt =
    let between = ascend_all out s m es le (subst (λ (l : List ℕ). Ascend s l m) (sym same) asc) k d lt in
    (between.0, omega (arith, between.0, between.1, small))

pub last_end-take : (s k : ℕ) (es : List ℕ) (d : ℕ) → k < length es → last_end s (take (suc k) es) ≡ get_or es k d
last_end-take s k [] d lt = absurd (omega (arith, lt))
last_end-take s zero (e ∷ es) d lt = refl
last_end-take s (suc k) (e ∷ es) d lt = last_end-take e k es d (omega (arith, lt))

-- ---- elements

-- numbers in front and numbers behind
pub elements_of-append : (ns ms : List ℕ) (s : ℕ) (es fs b : List ℕ) → length es ≡ length ns → elements_of (ns ++ ms) s (es ++ fs) b ≡ elements_of ns s es b ++ elements_of ms (last_end s es) fs b
elements_of-append [] ms s [] fs b same = refl
elements_of-append [] ms s (e ∷ es) fs b same = absurd (omega (arith, same))
elements_of-append (n ∷ ns) ms s [] fs b same = absurd (omega (arith, same))
elements_of-append (n ∷ ns) ms s (e ∷ es) fs b same = ap (λ (l : Values). (n, take (e - s) (drop s b)) ∷ l) (elements_of-append ns ms e es fs b (omega (arith, same)))

-- numbers that have no end yet
pub elements_of-later : (ns ms : List ℕ) (s : ℕ) (es b : List ℕ) → length es ≡ length ns → elements_of (ns ++ ms) s es b ≡ elements_of ns s es b
elements_of-later [] ms s [] b same = refl
elements_of-later [] ms s (e ∷ es) b same = absurd (omega (arith, same))
elements_of-later (n ∷ ns) ms s [] b same = absurd (omega (arith, same))
elements_of-later (n ∷ ns) ms s (e ∷ es) b same = ap (λ (l : Values). (n, take (e - s) (drop s b)) ∷ l) (elements_of-later ns ms e es b (omega (arith, same)))

piece_front : (s e m : ℕ) (b c : List ℕ) → s ≤ e → e ≤ m → take m b ≡ take m c → take (e - s) (drop s b) ≡ take (e - s) (drop s c)
piece_front s e m b c low high same =
    let size : s + (e - s) ≡ e = omega (arith, low) in
    let front : take e b ≡ take e c = sym (take-take e m b high) ∙ ap (take e) same ∙ take-take e m c high in
    sym (drop-take s (e - s) b) ∙ ap (λ (k : ℕ). drop s (take k b)) size ∙ ap (drop s) front ∙ ap (λ (k : ℕ). drop s (take k c)) (sym size) ∙ drop-take s (e - s) c

-- what stands in front of the last end alone counts
pub elements_of-front : (ns : List ℕ) (s m : ℕ) (es b c : List ℕ) → Ascend s es m → take m b ≡ take m c → elements_of ns s es b ≡ elements_of ns s es c
elements_of-front ns s m [] b c asc same = refl
elements_of-front [] s m (e ∷ es) b c asc same = refl
elements_of-front (n ∷ ns) s m (e ∷ es) b c asc same =
    ap (λ (l : List ℕ). (n, l) ∷ elements_of ns e es b) (piece_front s e m b c asc.0 (ascend_le e m es asc.1) same)
    ∙ ap (λ (l : Values). (n, take (e - s) (drop s c)) ∷ l) (elements_of-front ns e m es b c asc.1 same)

drop_on : (s e : ℕ) (b : List ℕ) → s ≤ e → drop e b ≡ drop (e - s) (drop s b)
drop_on s e b le = let size : s + (e - s) ≡ e = omega (arith, le) in ap (λ (k : ℕ). drop k b) (sym size) ∙ sym (drop-drop (e - s) s b)

-- the same values in another buffer, further to the front or to the back
pub elements_of-moved : (ns : List ℕ) (out into s m : ℕ) (es b c : List ℕ) → out ≤ s → Ascend s es m → drop s b ≡ drop (shifted_end out into s) c → elements_of ns s es b ≡ elements_of ns (shifted_end out into s) (map (shifted_end out into) es) c
elements_of-moved ns out into s m [] b c le asc same = refl
elements_of-moved [] out into s m (e ∷ es) b c le asc same = refl
elements_of-moved (n ∷ ns) out into s m (e ∷ es) b c le asc same =
    let t = shifted_end out into s in
    let f = shifted_end out into e in
    let size : e - s ≡ f - t = omega (arith, asc.0, le) in
    let up : t ≤ f = omega (arith, asc.0, le) in
    let rest : drop e b ≡ drop f c = drop_on s e b asc.0 ∙ ap (drop (e - s)) same ∙ ap (λ (k : ℕ). drop k (drop t c)) size ∙ sym (drop_on t f c up) in
    ap (λ (l : List ℕ). (n, take (e - s) l) ∷ elements_of ns e es b) same
    ∙ ap (λ (k : ℕ). (n, take k (drop t c)) ∷ elements_of ns e es b) size
    ∙ ap (λ (l : Values). (n, take (f - t) (drop t c)) ∷ l) (elements_of-moved ns out into e m es b c (omega (arith, asc.0, le)) asc.1 rest)

-- ---- a value in the middle

module _ (xs ys : List ℕ) (n out p q : ℕ) (es fs v b : List ℕ) (paired : length es ≡ length xs) (front : Ascend 0 es p) (within : p ≤ length b) (apart : q ≡ p + out) (back : Ascend q fs (length b)) where
  abbrev put_in : List ℕ
  put_in = take p b ++ (v ++ drop q b)

  head_size : length (take p b) ≡ p
  head_size = omega (arith, length-take p b, within)

  head_same : take p b ≡ take p put_in
  head_same = sym (take_at (take p b) (v ++ drop q b) p head_size)

  behind_head : drop p put_in ≡ v ++ drop q b
  behind_head = drop_at (take p b) (v ++ drop q b) p head_size

  behind_value : drop q b ≡ drop (shifted_end out (length v) q) put_in
  behind_value =
      let up : p ≤ shifted_end out (length v) q = omega (arith, apart) in
      let size : shifted_end out (length v) q - p ≡ length v = omega (arith, apart) in
      sym (drop_at v (drop q b) (length v) refl) ∙ ap (drop (length v)) (sym behind_head) ∙ ap (λ (k : ℕ). drop k (drop p put_in)) (sym size) ∙ sym (drop_on p (shifted_end out (length v) q) put_in up)

  pub elements_of-middle : elements_of (xs ++ n ∷ ys) 0 (es ++ map (shifted_end out (length v)) (q ∷ fs)) (take p b ++ (v ++ drop q b)) ≡ elements_of xs 0 es b ++ (n, v) ∷ elements_of ys q fs b
  elements_of-middle =
      let f = shifted_end out (length v) q in
      let later = map (shifted_end out (length v)) fs in
      let size : f - p ≡ length v = omega (arith, apart) in
      let value : take (f - p) (drop p put_in) ≡ v = ap (λ (k : ℕ). take k (drop p put_in)) size ∙ ap (take (length v)) behind_head ∙ take_at v (drop q b) (length v) refl in
      elements_of-append xs (n ∷ ys) 0 es (f ∷ later) put_in paired
      ∙ ap (λ (l : Values). l ++ elements_of (n ∷ ys) (last_end 0 es) (f ∷ later) put_in) (sym (elements_of-front xs 0 p es b put_in front head_same))
      ∙ ap (λ (k : ℕ). elements_of xs 0 es b ++ elements_of (n ∷ ys) k (f ∷ later) put_in) (end_is 0 p es front)
      ∙ ap (λ (l : List ℕ). elements_of xs 0 es b ++ (n, l) ∷ elements_of ys f later put_in) value
      ∙ ap (λ (l : Values). elements_of xs 0 es b ++ (n, v) ∷ l) (sym (elements_of-moved ys out (length v) q (length b) fs b put_in (omega (arith, apart)) back behind_value))

  pub ascend_middle : Ascend 0 (es ++ map (shifted_end out (length v)) (q ∷ fs)) (length (take p b ++ (v ++ drop q b)))
  ascend_middle =
      let f = shifted_end out (length v) q in
      let le = ascend_le q (length b) fs back in
      let size : shifted_end out (length v) (length b) ≡ length put_in = omega (arith, apart, le, head_size, length-append (take p b) (v ++ drop q b), length-append v (drop q b), length-drop q b) in
      let rest = subst (λ (k : ℕ). Ascend f (map (shifted_end out (length v)) fs) k) size (Ascend-moved out (length v) q (length b) fs (omega (arith, apart)) back) in
      Ascend-append 0 p (length put_in) es (f ∷ map (shifted_end out (length v)) fs) front (omega (arith, apart), rest)

-- ---- a value that is taken out

module _ (xs ys : List ℕ) (out p q : ℕ) (es fs b : List ℕ) (paired : length es ≡ length xs) (front : Ascend 0 es p) (within : p ≤ length b) (apart : q ≡ p + out) (back : Ascend q fs (length b)) where
  abbrev cut_out : List ℕ
  cut_out = take p b ++ drop q b

  left_size : length (take p b) ≡ p
  left_size = omega (arith, length-take p b, within)

  moved_to : shifted_end out 0 q ≡ p
  moved_to = omega (arith, apart)

  pub elements_of-cut : elements_of (xs ++ ys) 0 (es ++ map (shifted_end out 0) fs) (take p b ++ drop q b) ≡ elements_of xs 0 es b ++ elements_of ys q fs b
  elements_of-cut =
      let later = map (shifted_end out 0) fs in
      let same : take p b ≡ take p cut_out = sym (take_at (take p b) (drop q b) p left_size) in
      let rest : drop q b ≡ drop (shifted_end out 0 q) cut_out = sym (ap (λ (k : ℕ). drop k cut_out) moved_to ∙ drop_at (take p b) (drop q b) p left_size) in
      elements_of-append xs ys 0 es later cut_out paired
      ∙ ap (λ (l : Values). l ++ elements_of ys (last_end 0 es) later cut_out) (sym (elements_of-front xs 0 p es b cut_out front same))
      ∙ ap (λ (k : ℕ). elements_of xs 0 es b ++ elements_of ys k later cut_out) (end_is 0 p es front ∙ sym moved_to)
      ∙ ap (λ (l : Values). elements_of xs 0 es b ++ l) (sym (elements_of-moved ys out 0 q (length b) fs b cut_out (omega (arith, apart)) back rest))

  pub ascend_cut : Ascend 0 (es ++ map (shifted_end out 0) fs) (length (take p b ++ drop q b))
  ascend_cut =
      let le = ascend_le q (length b) fs back in
      let size : shifted_end out 0 (length b) ≡ length cut_out = omega (arith, apart, le, left_size, length-append (take p b) (drop q b), length-drop q b) in
      let rest = subst (λ (k : ℕ). Ascend (shifted_end out 0 q) (map (shifted_end out 0) fs) k) size (Ascend-moved out 0 q (length b) fs (omega (arith, apart)) back) in
      Ascend-append 0 p (length cut_out) es (map (shifted_end out 0) fs) front (subst (λ (k : ℕ). Ascend k (map (shifted_end out 0) fs) (length cut_out)) moved_to rest)

-- ---- a value behind the others

pub elements_of-push : (done later : List ℕ) (n : ℕ) (es v b : List ℕ) → length es ≡ length done → Ascend 0 es (length b) → elements_of (done ++ n ∷ later) 0 (es ++ length (b ++ v) ∷ []) (b ++ v) ≡ elements_of done 0 es b ++ (n, v) ∷ []
elements_of-push done later n es v b same asc =
    let end : last_end 0 es ≡ length b = end_is 0 (length b) es asc in
    let size : length (b ++ v) - length b ≡ length v = omega (arith, length-append b v) in
    let front : take (length b) b ≡ take (length b) (b ++ v) = take_all (length b) b (omega arith) ∙ sym (take_at b v (length b) refl) in
    let value : take (length (b ++ v) - length b) (drop (length b) (b ++ v)) ≡ v = ap (λ (k : ℕ). take k (drop (length b) (b ++ v))) size ∙ ap (take (length v)) (drop_at b v (length b) refl) ∙ take_all (length v) v (omega arith) in
    elements_of-append done (n ∷ later) 0 es (length (b ++ v) ∷ []) (b ++ v) same
    ∙ ap (λ (l : Values). l ++ elements_of (n ∷ later) (last_end 0 es) (length (b ++ v) ∷ []) (b ++ v)) (sym (elements_of-front done 0 (length b) es b (b ++ v) asc front))
    ∙ ap (λ (k : ℕ). elements_of done 0 es b ++ elements_of (n ∷ later) k (length (b ++ v) ∷ []) (b ++ v)) end
    ∙ ap (λ (l : List ℕ). elements_of done 0 es b ++ (n, l) ∷ []) value

pub ascend_push : (es v b : List ℕ) → Ascend 0 es (length b) → Ascend 0 (es ++ length (b ++ v) ∷ []) (length (b ++ v))
ascend_push es v b asc = Ascend-append 0 (length b) (length (b ++ v)) es (length (b ++ v) ∷ []) asc (omega (arith, length-append b v), refl)

-- ---- numbers below and above

abbrev pub Below : ℕ → List ℕ → Type 0
Below n [] = Unit {0}
Below n (k ∷ ks) = (k < n) × Below n ks

abbrev pub Above : ℕ → List ℕ → Type 0
Above n [] = Unit {0}
Above n (k ∷ ks) = n < k

pub elements_below : (n : ℕ) (ks : List ℕ) (s : ℕ) (es b : List ℕ) → Below n ks → IsBelow n (elements_of ks s es b)
elements_below n ks s [] b below = tt
elements_below n [] s (e ∷ es) b below = tt
elements_below n (k ∷ ks) s (e ∷ es) b below = (below.0, elements_below n ks e es b below.1)

pub elements_above : (n : ℕ) (ks : List ℕ) (s : ℕ) (es b : List ℕ) → Above n ks → IsAbove n (elements_of ks s es b)
elements_above n ks s [] b above = tt
elements_above n [] s (e ∷ es) b above = tt
elements_above n (k ∷ ks) s (e ∷ es) b above = above

-- ---- equal elements

-- the same elements of the same numbers have the same ends and the same bytes
pub elements_of-same : (ns : List ℕ) (s : ℕ) (es fs b c : List ℕ) → length es ≡ length ns → length fs ≡ length ns → Ascend s es (length b) → Ascend s fs (length c) → elements_of ns s es b ≡ elements_of ns s fs c → (es ≡ fs) × (drop s b ≡ drop s c)
elements_of-same [] s [] [] b c one two asc other same = (refl, drop_all s b (omega (arith, asc)) ∙ sym (drop_all s c (omega (arith, other))))
elements_of-same [] s (e ∷ es) fs b c one two asc other same = absurd (omega (arith, one))
elements_of-same [] s [] (f ∷ fs) b c one two asc other same = absurd (omega (arith, two))
elements_of-same (n ∷ ns) s [] fs b c one two asc other same = absurd (omega (arith, one))
elements_of-same (n ∷ ns) s (e ∷ es) [] b c one two asc other same = absurd (omega (arith, two))
elements_of-same (n ∷ ns) s (e ∷ es) (f ∷ fs) b c one two asc other same =
    let value : take (e - s) (drop s b) ≡ take (f - s) (drop s c) = ap (λ (l : Values). (get_or l 0 (0, [])).1) same in
    let behind : elements_of ns e es b ≡ elements_of ns f fs c = ap (λ (l : Values). drop 1 l) same in
    let end : e ≡ f = omega (arith, ap length value, length-take (e - s) (drop s b), length-take (f - s) (drop s c), length-drop s b, length-drop s c, asc.0, other.0, ascend_le e (length b) es asc.1, ascend_le f (length c) fs other.1) in
    let later : elements_of ns e es b ≡ elements_of ns e fs c = behind ∙ ap (λ (k : ℕ). elements_of ns k fs c) (sym end) in
    let rest = elements_of-same ns e es fs b c (omega (arith, one)) (omega (arith, two)) asc.1 (subst (λ (k : ℕ). Ascend k fs (length c)) (sym end) other.1) later in (
      ap (λ (k : ℕ). k ∷ es) end ∙ ap (λ (l : List ℕ). f ∷ l) rest.0,
      sym (take-append-drop (e - s) (drop s b))
          ∙ ap (λ (l : List ℕ). l ++ drop (e - s) (drop s b)) (value ∙ ap (λ (k : ℕ). take (k - s) (drop s c)) (sym end))
          ∙ ap (λ (l : List ℕ). take (e - s) (drop s c) ++ l) (sym (drop_on s e b asc.0) ∙ rest.1 ∙ drop_on s e c asc.0)
          ∙ take-append-drop (e - s) (drop s c),
    )
