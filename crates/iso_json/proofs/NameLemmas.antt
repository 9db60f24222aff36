-- The names of a message's members, one after another.
use Rattle.std.proofs.Common.{◌≡◌, ℕ, ◌+◌, ◌<◌, ◌≤◌, Bool, List, ◌∷◌, ◌++◌, Option, length, drop, get_or, sym, ap, ◌∙◌, add-one, append_assoc, append-nil}
use Rattle.std.specs.Prelude.{◌||◌}
use Rattle.std.specs.Str.{bytes_eq}
use Rattle.std.specs.Borrow.{Bor}
use Rattle.std.proofs.Math.Seq.{drop-cons}
use Rattle.std.proofs.lemmas.List.{at_drop_all}
use Rattle.json.specs.Value.{members_view}
use Rattle.json.specs.declared.value.Value.{Value}
use Rattle.iso_json.specs.declared.complaint.Complaint.{Complaint}
use Rattle.iso_json.specs.declared.complaint.Place.TheVariants as places
use Rattle.iso_json.specs.declared.complaint.Trouble.{Trouble}
use Rattle.iso_json.specs.Said.{elements_key, mti_key, name_trouble, names_from}
use Rattle.iso_json.specs.Heard.{complained}

-- one name more is judged
pub names_step : {A : Type 0} (a b : Bool) (members : List (Bor (List ℕ) × Value A)) (i : ℕ) (m : Bor (List ℕ) × Value A) (old new total : List Complaint) → i < length members → m ≡ get_or members i m
    → new ≡ old ++ complained (places.Member (i + 1)) (name_trouble a b m.0.now) → old ++ names_from a b i (members_view (drop i members)) ≡ total
    → new ++ names_from (a || bytes_eq m.0.now mti_key) (b || bytes_eq m.0.now elements_key) (i + 1) (members_view (drop (i + 1) members)) ≡ total
names_step {A} a b members i m old new total lt is made judged =
    let less : drop i members ≡ m ∷ drop (i + 1) members =
    drop-cons members i m lt ∙ ap (λ (k : ℕ). get_or members i m ∷ drop k members) (sym (add-one i)) ∙ ap (λ (x : Bor (List ℕ) × Value A). x ∷ drop (i + 1) members) (sym is) in
    let rest : List Complaint = names_from (a || bytes_eq m.0.now mti_key) (b || bytes_eq m.0.now elements_key) (i + 1) (members_view (drop (i + 1) members)) in
    let here : names_from a b i (members_view (drop i members)) ≡ complained (places.Member (i + 1)) (name_trouble a b m.0.now) ++ rest =
    ap (λ (ms : List (Bor (List ℕ) × Value A)). names_from a b i (members_view ms)) less in
    ap (λ (cs : List Complaint). cs ++ rest) made ∙ append_assoc old (complained (places.Member (i + 1)) (name_trouble a b m.0.now)) rest ∙ sym (ap (λ (cs : List Complaint). old ++ cs) here) ∙ judged

-- behind the last member there is none
pub names_all : {A : Type 0} (a b : Bool) (members : List (Bor (List ℕ) × Value A)) (i : ℕ) (old : List Complaint) → length members ≤ i → old ++ names_from a b i (members_view (drop i members)) ≡ old
names_all {A} a b members i old le = at_drop_all (λ (ms : List (Bor (List ℕ) × Value A)). old ++ names_from a b i (members_view ms)) members i le ∙ append-nil old

-- the complaints stay, where one name more is judged
pub names_next : {A : Type 0} (a b c d : Bool) (members : List (Bor (List ℕ) × Value A)) (i at : ℕ) (m : Bor (List ℕ) × Value A) (old new : List Complaint) (trouble : Option Trouble) (total : List Complaint) → i < length members
    → m ≡ get_or members i m → at ≡ i → c ≡ (a || bytes_eq m.0.now mti_key) → d ≡ (b || bytes_eq m.0.now elements_key) → trouble ≡ name_trouble a b m.0.now
    → new ≡ old ++ complained (places.Member (at + 1)) trouble → old ++ names_from a b i (members_view (drop i members)) ≡ total → new ++ names_from c d (i + 1) (members_view (drop (i + 1) members)) ≡ total
names_next {A} a b c d members i at m old new trouble total lt is place first second judged made sum =
    let rest = members_view (drop (i + 1) members) in
    let here : new ≡ old ++ complained (places.Member (i + 1)) (name_trouble a b m.0.now) =
    made
    ∙ ap (λ (k : ℕ). old ++ complained (places.Member (k + 1)) trouble) place
    ∙ ap (λ (t : Option Trouble). old ++ complained (places.Member (i + 1)) t) judged in
    ap (λ (x : Bool). new ++ names_from x d (i + 1) rest) first
    ∙ ap (λ (x : Bool). new ++ names_from (a || bytes_eq m.0.now mti_key) x (i + 1) rest) second
    ∙ names_step a b members i m old new total lt is here sum
