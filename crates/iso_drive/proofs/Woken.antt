-- Those that are due are timed out, one after another.
use Rattle.std.proofs.Common.{◌≡◌, ℕ, refl, ap, sym, ◌∙◌, List, [], ◌∷◌, ◌++◌, length, take, drop, get_or, ◌<◌, ◌+◌, arith, append_assoc}
use Rattle.std.proofs.lemmas.List.{map-append, take_at, drop_at, take_more, drop_more}
use Rattle.iso_restarts.specs.Diary.{Diary, times_out}
use Rattle.iso_waits.specs.declared.due.Due.{Due}
use Rattle.iso_waits.specs.WaitLaws.{StayInTime}
use Rattle.iso_waits.specs.Waits.{due_by, due_later, again, IsInOrder}
use Rattle.iso_drive.specs.Driving.{Driving, times_out_all, wakes_first, wakes, next_due}

-- one more element of a list
one-more : {X : Type 0} (xs : List X) (i : ℕ) → i < length xs → (x : X) × (drop i xs ≡ x ∷ drop (i + 1) xs) × (take (i + 1) xs ≡ take i xs ++ x ∷ [])
one-more [] i h = absurd (omega (arith, h))
one-more (x ∷ xs) i h = (get_or (x ∷ xs) i x, drop_more (x ∷ xs) i x h, take_more (x ∷ xs) i x h)

all-join : (d : Diary) (xs ys : List Due) → times_out_all d (xs ++ ys) ≡ times_out_all (times_out_all d xs) ys
all-join d [] ys = refl
all-join d (x ∷ xs) ys = all-join (times_out d x.stan) xs ys

-- the first after those that were woken
pub wakes-next : (i : ℕ) (d : Driving) → i < length d.waiting → wakes_first 1 (wakes_first i d) ≡ wakes_first (i + 1) d
wakes-next i d h =
    let more = one-more d.waiting i h in
    let x = more.0 in
    let at = next_due d in
    let back : drop i d.waiting ++ again at (take i d.waiting) ≡ x ∷ (drop (i + 1) d.waiting ++ again at (take i d.waiting)) = ap (λ (l : List Due). l ++ again at (take i d.waiting)) more.1 in
    let diary : times_out_all (times_out_all d.diary (take i d.waiting)) (take 1 (drop i d.waiting ++ again at (take i d.waiting))) ≡ times_out_all d.diary (take (i + 1) d.waiting) =
    ap (λ (l : List Due). times_out_all (times_out_all d.diary (take i d.waiting)) (take 1 l)) back
    ∙ sym (all-join d.diary (take i d.waiting) (x ∷ [])) ∙ ap (times_out_all d.diary) (sym more.2) in
    let waits : drop 1 (drop i d.waiting ++ again at (take i d.waiting)) ++ again at (take 1 (drop i d.waiting ++ again at (take i d.waiting))) ≡ drop (i + 1) d.waiting ++ again at (take (i + 1) d.waiting) =
    ap (λ (l : List Due). drop 1 l ++ again at (take 1 l)) back
    ∙ append_assoc (drop (i + 1) d.waiting) (again at (take i d.waiting)) (again at (x ∷ []))
    ∙ ap (λ (l : List Due). drop (i + 1) d.waiting ++ l) (sym (map-append (λ (e : Due). record { stan = e.stan; at = at }) (take i d.waiting) (x ∷ [])))
    ∙ ap (λ (l : List Due). drop (i + 1) d.waiting ++ again at l) (sym more.2) in
    ap (λ (n : Diary). record { diary = n; waiting = drop 1 (drop i d.waiting ++ again at (take i d.waiting)) ++ again at (take 1 (drop i d.waiting ++ again at (take i d.waiting))); patience = d.patience; clock = d.clock }) diary
    ∙ ap (λ (l : List Due). record { diary = times_out_all d.diary (take (i + 1) d.waiting); waiting = l; patience = d.patience; clock = d.clock }) waits

-- as many as are due are those that are due
pub wakes-due : (time : StayInTime) (d : Driving) → IsInOrder d.waiting → wakes_first (length (due_by d.clock d.waiting)) d ≡ wakes d
wakes-due time d order =
    let due = due_by d.clock d.waiting in
    let others = due_later d.clock d.waiting in
    let n = length due in
    let split : d.waiting ≡ due ++ others = time.due d.clock d.waiting order in
    let first : take n d.waiting ≡ due = ap (take n) split ∙ take_at due others n refl in
    let rest : drop n d.waiting ≡ others = ap (drop n) split ∙ drop_at due others n refl in
    ap (λ (l : List Due). record { diary = times_out_all d.diary l; waiting = drop n d.waiting ++ again (next_due d) l; patience = d.patience; clock = d.clock }) first
    ∙ ap (λ (l : List Due). record { diary = times_out_all d.diary (due_by d.clock d.waiting); waiting = l ++ again (next_due d) (due_by d.clock d.waiting); patience = d.patience; clock = d.clock }) rest
