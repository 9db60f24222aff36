-- Where complaints are.
use Rattle.std.proofs.Common.{◌≡◌, ◌<◌, ◌+◌, ◌-◌, ℕ, zero, suc, List, [], ◌∷◌, ◌++◌, length, map, get_or, Option, Some, refl, ap, ◌∙◌, arith}
use Rattle.std.specs.Prelude.{codes}
use Rattle.std.specs.List.{All}
use Rattle.std.proofs.lemmas.List.Elements.{All-append, All-map}
use Rattle.serde_json.specs.Data.{Items}
use Rattle.serde_json.specs.Find.{get_item}
use Rattle.serde_json.specs.View.{view, items_view}
use Rattle.serde_json.specs.declared.value.Value.{Value}
use Rattle.iso_table.specs.Members.{whole_at}
use Rattle.iso_review.specs.declared.complaint.Place.{Place}
use Rattle.iso_review.specs.declared.complaint.Finding.{Finding}
use Rattle.iso_review.specs.declared.complaint.Complaint.{Complaint}
use Rattle.iso_review.specs.Complaints.{IsAmong, complaint_at, nowhere}

pub item_at : (v : Value) (vs : List Value) (i : ℕ) → i < length vs → get_item i (items_view vs) ≡ Some (view (get_or vs i v))
item_at v [] i lt = absurd (omega arith)
item_at v (x ∷ xs) zero lt = refl
item_at v (x ∷ xs) (suc i) lt = item_at v xs i (omega arith)

-- findings at a place among the rows
pub more_among : (rows : Items) (p : Place) (xs : List Complaint) (fs : List Finding) → ((f : Finding) → IsAmong rows (complaint_at p f)) → All (IsAmong rows) xs → All (IsAmong rows) (xs ++ map (complaint_at p) fs)
more_among rows p xs fs here good = All-append (IsAmong rows) xs (map (complaint_at p) fs) good (All-map (IsAmong rows) (complaint_at p) fs (λ k d lt. here (get_or fs k d)))

-- findings at the place of a row
pub among_row : (vs : List Value) (v : Value) (k : ℕ) (n : Option ℕ) (f : Finding) → k < length vs → n ≡ whole_at (codes "number") 65535 (view (get_or vs k v)) → IsAmong (items_view vs) (complaint_at (record { row = Some (k + 1); element = n }) f)
among_row vs v k n f lt is = λ i e.
    let same : k + 1 ≡ i = (cc) in
    let before : i - 1 ≡ k = omega arith in
    (omega arith, (view (get_or vs k v), ap (λ (j : ℕ). get_item j (items_view vs)) before ∙ item_at v vs k lt, is))

pub nowhere_among : (rows : Items) (c : Complaint) → c.place ≡ nowhere → IsAmong rows c
nowhere_among rows c is = λ i h. absurd (cc)
