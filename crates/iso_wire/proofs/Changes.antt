-- What elements are after one of them was put in or taken out.
use Rattle.std.proofs.Common.{◌≡◌, ◌≢◌, ℕ, suc, ◌+◌, ◌-◌, ◌<◌, ◌≤◌, Bool, true, false, get_or, Some, List, [], ◌∷◌, ◌++◌, length, map, take, drop, drop-cons, refl, sym, ap, subst, ◌∙◌, arith}
use Rattle.std.proofs.lemmas.List.{take-append-drop, length-append, length-drop, length-take, length-map}
use Rattle.std.specs.Prelude.{Result, Ok, Err, OnOk, OnErr}
use Rattle.std.specs.declared.alloc.AllocError.{AllocError}
use Rattle.iso_parts.specs.Bitmap.{contains}
use Rattle.iso_parts.specs.Numbers.{members, members_below}
use Rattle.iso_wire.specs.declared.elements.Elements.{Elements}
use Rattle.iso_wire.specs.Elements.{value_in, has, IsAscending, put, without}
use Rattle.iso_wire.specs.Ends.{elements_of, views, last_end, shifted_end, Ascend, Adds, IsWhole, IsNumbered, IsMadeOf, IsSame}
use Rattle.iso_wire.proofs.Orders.{Values, IsAscending-after, put-between, put-there, without-there, value_in-there}
use Rattle.iso_wire.proofs.Buffers.{Ascend-front, Ascend-back, ascend_le, elements_of-append, elements_of-middle, ascend_middle, elements_of-cut, ascend_cut, elements_below, elements_above, elements_of-same}
use Rattle.iso_wire.proofs.Ranks.{members_above, members_there, members_lacking, all_below, all_above, same_below, same_above, same_members, no_members}

-- the elements that a vector of ends and a buffer make
pub made_of : (y : Elements) (ns es b : List ℕ) → members y.numbers ≡ ns → IsMadeOf y es b → views y ≡ elements_of ns 0 es b
made_of y ns es b numbers made =
    ap (λ (l : List ℕ). elements_of (members y.numbers) 0 l y.values.items) made.ends
    ∙ ap (λ (l : List ℕ). elements_of (members y.numbers) 0 es l) made.values
    ∙ ap (λ (l : List ℕ). elements_of l 0 es b) numbers

pub whole_of : (y : Elements) (ns es b : List ℕ) → members y.numbers ≡ ns → IsMadeOf y es b → Ascend 0 es (length b) → length es ≡ length ns → IsWhole y
whole_of y ns es b numbers made asc count = record {
  ends = subst (λ (k : ℕ). Ascend 0 y.ends.items k) (sym (ap length made.values)) (subst (λ (l : List ℕ). Ascend 0 l (length b)) (sym made.ends) asc);
  count = ap length made.ends ∙ count ∙ sym (ap length numbers);
}

module _ (x : Elements) (whole : IsWhole x) (n : ℕ) (low : 2 ≤ n) (high : n ≤ 128) (at start : ℕ) (placed : at ≡ length (members_below x.numbers n)) (begins : start ≡ last_end 0 (take at x.ends.items)) where
  abbrev ends : List ℕ
  ends = x.ends.items

  abbrev b : List ℕ
  b = x.values.items

  abbrev below : List ℕ
  below = members_below x.numbers n

  abbrev above : List ℕ
  above = members_above x.numbers n

  abbrev before : Values
  before = elements_of below 0 (take at ends) b

  fits_by : (t : Bool) → contains x.numbers n ≡ t → at ≤ length ends
  fits_by true is = omega (arith, placed, whole.count, ap length (members_there x.numbers n low high is), length-append below (n ∷ above))
  fits_by false is = omega (arith, placed, whole.count, ap length (members_lacking x.numbers n low high is), length-append below above)

  pub fits : at ≤ length ends
  fits = fits_by (contains x.numbers n) refl

  paired : length (take at ends) ≡ length below
  paired = omega (arith, fits, placed, length-take at ends)

  parted : Ascend 0 (take at ends ++ drop at ends) (length b)
  parted = subst (λ (l : List ℕ). Ascend 0 l (length b)) (sym (take-append-drop at ends)) whole.ends

  front : Ascend 0 (take at ends) start
  front = subst (λ (k : ℕ). Ascend 0 (take at ends) k) (sym begins) (Ascend-front 0 (length b) (take at ends) (drop at ends) parted)

  pub back : Ascend start (drop at ends) (length b)
  back = subst (λ (k : ℕ). Ascend k (drop at ends) (length b)) (sym begins) (Ascend-back 0 (length b) (take at ends) (drop at ends) parted)

  pub within : start ≤ length b
  within = ascend_le start (length b) (drop at ends) back

  -- ---- an element that is not there

  module _ (none : contains x.numbers n ≡ false) where
    abbrev later : Values
    later = elements_of above start (drop at ends) b

    views_lacking : views x ≡ before ++ later
    views_lacking =
        ap (λ (l : List ℕ). elements_of l 0 ends b) (members_lacking x.numbers n low high none)
        ∙ ap (λ (l : List ℕ). elements_of (below ++ above) 0 l b) (sym (take-append-drop at ends))
        ∙ elements_of-append below above 0 (take at ends) (drop at ends) b paired
        ∙ ap (λ (k : ℕ). before ++ elements_of above k (drop at ends) b) (sym begins)

    module _ (y : Elements) (v : List ℕ) (adds : Adds x.numbers y.numbers n) (made : IsMadeOf y (take at ends ++ map (shifted_end 0 (length v)) (start ∷ drop at ends)) (take start b ++ (v ++ drop start b))) where
      more : members y.numbers ≡ below ++ n ∷ above
      more =
          members_there y.numbers n low high adds.0
          ∙ ap (λ (l : List ℕ). l ++ n ∷ members_above y.numbers n) (same_below x.numbers n low high y.numbers adds.1)
          ∙ ap (λ (l : List ℕ). below ++ n ∷ l) (same_above x.numbers n low high y.numbers adds.1)

      pub inserted : views y ≡ put n v (views x)
      inserted =
          made_of y (below ++ n ∷ above) _ _ more made
          ∙ elements_of-middle below above n 0 start start (take at ends) (drop at ends) v b paired front within (omega arith) back
          ∙ sym (put-between n v before later (elements_below n below 0 (take at ends) b (all_below x.numbers n low high)) (elements_above n above start (drop at ends) b (all_above x.numbers n low high)))
          ∙ ap (λ (l : Values). put n v l) (sym views_lacking)

      pub inserted_whole : IsWhole y
      inserted_whole =
          whole_of y (below ++ n ∷ above) _ _ more made
          (ascend_middle below above n 0 start start (take at ends) (drop at ends) v b paired front within (omega arith) back)
          (let shifted = map (shifted_end 0 (length v)) (start ∷ drop at ends) in
          let size : length shifted ≡ length (start ∷ drop at ends) = length-map (start ∷ drop at ends) (shifted_end 0 (length v)) in
          omega (arith, fits, placed, whole.count, ap length (members_lacking x.numbers n low high none), length-append below above, length-append below (n ∷ above), length-append (take at ends) shifted, size, length-take at ends, length-drop at ends))

  -- ---- an element that is there

  module _ (is : contains x.numbers n ≡ true) where
    pub there : at < length ends
    there = omega (arith, placed, whole.count, ap length (members_there x.numbers n low high is), length-append below (n ∷ above))

    abbrev end : ℕ
    end = get_or ends at 0

    abbrev others : List ℕ
    others = drop (suc at) ends

    next : drop at ends ≡ end ∷ others
    next = drop-cons ends at 0 there

    pub own : (start ≤ end) × Ascend end others (length b)
    own = subst (λ (l : List ℕ). Ascend start l (length b)) next back

    pub own_within : end ≤ length b
    own_within = ascend_le end (length b) others own.1

    abbrev behind : Values
    behind = elements_of above end others b

    views_there : views x ≡ before ++ (n, take (end - start) (drop start b)) ∷ behind
    views_there =
        ap (λ (l : List ℕ). elements_of l 0 ends b) (members_there x.numbers n low high is)
        ∙ ap (λ (l : List ℕ). elements_of (below ++ n ∷ above) 0 l b) (sym (take-append-drop at ends) ∙ ap (λ (l : List ℕ). take at ends ++ l) next)
        ∙ elements_of-append below (n ∷ above) 0 (take at ends) (end ∷ others) b paired
        ∙ ap (λ (k : ℕ). before ++ elements_of (n ∷ above) k (end ∷ others) b) (sym begins)

    pub value_there : value_in (views x) n ≡ Some (take (end - start) (drop start b))
    value_there = ap (λ (l : Values). value_in l n) views_there ∙ value_in-there n (take (end - start) (drop start b)) before behind (elements_below n below 0 (take at ends) b (all_below x.numbers n low high))

    module _ (len : ℕ) (size : len ≡ end - start) where
      apart : end ≡ start + len
      apart = omega (arith, size, own.0)

      beyond : Ascend (start + len) others (length b)
      beyond = subst (λ (k : ℕ). Ascend k others (length b)) apart own.1

      behind_same : elements_of above (start + len) others b ≡ behind
      behind_same = ap (λ (k : ℕ). elements_of above k others b) (sym apart)

      shifted : (v : List ℕ) → take at ends ++ map (shifted_end len (length v)) (drop at ends) ≡ take at ends ++ map (shifted_end len (length v)) ((start + len) ∷ others)
      shifted v = ap (λ (l : List ℕ). take at ends ++ map (shifted_end len (length v)) l) (next ∙ ap (λ (k : ℕ). k ∷ others) apart)

      -- the ends from its own on ascend from where its value ends
      pub from_own : Ascend (start + len) (drop at ends) (length b)
      from_own = subst (λ (l : List ℕ). Ascend (start + len) l (length b)) (sym next) (omega (arith, apart), own.1)

      module _ (y : Elements) (v : List ℕ) (kept : y.numbers ≡ x.numbers) (made : IsMadeOf y (take at ends ++ map (shifted_end len (length v)) (drop at ends)) (take start b ++ (v ++ drop (start + len) b))) where
        same : members y.numbers ≡ below ++ n ∷ above
        same = ap members kept ∙ members_there x.numbers n low high is

        made_so : IsMadeOf y (take at ends ++ map (shifted_end len (length v)) ((start + len) ∷ others)) (take start b ++ (v ++ drop (start + len) b))
        made_so = record { ends = made.ends ∙ shifted v; values = made.values }

        pub replaced : views y ≡ put n v (views x)
        replaced =
            made_of y (below ++ n ∷ above) _ _ same made_so
            ∙ elements_of-middle below above n len start (start + len) (take at ends) others v b paired front within refl beyond
            ∙ ap (λ (l : Values). before ++ (n, v) ∷ l) behind_same
            ∙ sym (put-there n v (take (end - start) (drop start b)) before behind (elements_below n below 0 (take at ends) b (all_below x.numbers n low high)))
            ∙ ap (λ (l : Values). put n v l) (sym views_there)

        pub replaced_whole : IsWhole y
        replaced_whole =
            whole_of y (below ++ n ∷ above) _ _ same made_so
            (ascend_middle below above n len start (start + len) (take at ends) others v b paired front within refl beyond)
            (let moves = map (shifted_end len (length v)) ((start + len) ∷ others) in
            let count : length moves ≡ length ((start + len) ∷ others) = length-map ((start + len) ∷ others) (shifted_end len (length v)) in
            omega (arith, there, placed, whole.count, ap length (members_there x.numbers n low high is), length-append (take at ends) moves, count, length-take at ends, length-drop (suc at) ends))

      module _ (y : Elements) (gone : contains y.numbers n ≡ false) (stay : (k : ℕ) → k ≢ n → contains y.numbers k ≡ contains x.numbers k) (made : IsMadeOf y (take at ends ++ map (shifted_end len 0) others) (take start b ++ drop (start + len) b)) where
        fewer : members y.numbers ≡ below ++ above
        fewer =
            members_lacking y.numbers n low high gone
            ∙ ap (λ (l : List ℕ). l ++ members_above y.numbers n) (same_below x.numbers n low high y.numbers stay)
            ∙ ap (λ (l : List ℕ). below ++ l) (same_above x.numbers n low high y.numbers stay)

        pub removed : IsAscending 2 (views x) → views y ≡ without n (views x)
        removed asc =
            made_of y (below ++ above) _ _ fewer made
            ∙ elements_of-cut below above len start (start + len) (take at ends) others b paired front within refl beyond
            ∙ ap (λ (l : Values). before ++ l) behind_same
            ∙ sym (without-there n (take (end - start) (drop start b)) before behind (elements_below n below 0 (take at ends) b (all_below x.numbers n low high)) (IsAscending-after 2 n (take (end - start) (drop start b)) before behind (subst (λ (l : Values). IsAscending 2 l) views_there asc)))
            ∙ ap (λ (l : Values). without n l) (sym views_there)

        pub removed_whole : IsWhole y
        removed_whole =
            whole_of y (below ++ above) _ _ fewer made
            (ascend_cut below above len start (start + len) (take at ends) others b paired front within refl beyond)
            (let moves = map (shifted_end len 0) others in
            let count : length moves ≡ length others = length-map others (shifted_end len 0) in
            omega (arith, there, placed, whole.count, ap length (members_there x.numbers n low high is), length-append below (n ∷ above), length-append below above, length-append (take at ends) moves, count, length-take at ends, length-drop (suc at) ends))

-- ---- what holds however a call ended

pub either_end : {A B C : Type 0} (r : Result Unit AllocError) → OnOk r A → OnErr r B → (A → C) → (B → C) → C
either_end (Ok u) done kept at_ok at_err = at_ok done
either_end (Err e) done kept at_ok at_err = at_err kept

pub on_ok_two : {A B C : Type 0} (r : Result Unit AllocError) → OnOk r A → OnOk r B → (A → B → C) → OnOk r C
on_ok_two (Ok u) one two both = both one two
on_ok_two (Err e) one two both = tt

pub views_same : (old new : Elements) → IsSame old new → views new ≡ views old
views_same old new same = made_of new (members old.numbers) old.ends.items old.values.items (ap members same.numbers) (record { ends = same.ends; values = same.values })

pub whole_same : (old new : Elements) → IsSame old new → IsWhole old → IsWhole new
whole_same old new same whole = whole_of new (members old.numbers) old.ends.items old.values.items (ap members same.numbers) (record { ends = same.ends; values = same.values }) whole.ends whole.count

pub numbered_same : (old new : Elements) → IsSame old new → IsNumbered old → IsNumbered new
numbered_same old new same numbered = λ k. ap (λ s. contains s k) same.numbers ∙ numbered k ∙ ap (λ es. has es k) (sym (views_same old new same))

-- ---- equal elements

pub views_equal : (x y : Elements) → ((k : ℕ) → contains x.numbers k ≡ contains y.numbers k) → IsMadeOf x y.ends.items y.values.items → views x ≡ views y
views_equal x y agree made = made_of x (members y.numbers) y.ends.items y.values.items (same_members x.numbers y.numbers agree) made

pub equal_values : (x y : Elements) → IsWhole x → IsWhole y → ((k : ℕ) → contains x.numbers k ≡ contains y.numbers k) → views x ≡ views y → IsMadeOf x y.ends.items y.values.items
equal_values x y whole other agree same =
    let numbers = same_members x.numbers y.numbers agree in
    let ns = members x.numbers in
    let views_so : elements_of ns 0 x.ends.items x.values.items ≡ elements_of ns 0 y.ends.items y.values.items = same ∙ ap (λ (l : List ℕ). elements_of l 0 y.ends.items y.values.items) (sym numbers) in
    let both = elements_of-same ns 0 x.ends.items y.ends.items x.values.items y.values.items whole.count (other.count ∙ ap length (sym numbers)) whole.ends other.ends views_so in
    record { ends = both.0; values = both.1 }

-- ---- no element

pub empty_whole : (y : Elements) → ((k : ℕ) → contains y.numbers k ≡ false) → y.ends.items ≡ [] → y.values.items ≡ [] → IsWhole y
empty_whole y none ends values = whole_of y [] [] [] (no_members y.numbers none) (record { ends = ends; values = values }) refl refl
