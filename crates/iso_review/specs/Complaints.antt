-- Which documents have nothing wrong with them, and where complaints are.
use Rattle.std.specs.Prelude.{◌≡◌, ℕ, ◌-◌, ◌≤◌, List, Option, None, Some, codes}
use Rattle.serde_json.specs.Data.{Data, Items, no_items}
use Rattle.serde_json.specs.Find.{get, get_item, as_array}
use Rattle.iso_table.specs.Layout.{Layout}
use Rattle.iso_table.specs.Document.{IsTableOf, StandsFor}
use Rattle.iso_table.specs.Members.{◌>>=◌, whole_at}
use Rattle.iso_review.specs.declared.complaint.Place.{Place}
use Rattle.iso_review.specs.declared.complaint.Finding.{Finding}
use Rattle.iso_review.specs.declared.complaint.Complaint.{Complaint}

-- the text stands for some table
abbrev pub IsTable : List ℕ → Type 0
IsTable text = (t : Layout) × IsTableOf text t

-- the items, or none
abbrev pub or_none : Option Items → Items
or_none None = no_items
or_none (Some ds) = ds

-- the rows of a document; none where it has no list of them
abbrev pub rows_of : Data → Items
rows_of d = or_none (get (codes "rows") d >>= as_array)

-- a complaint about the i-th row, counted from 1, is about one of these, and tells its number
abbrev pub IsAmong : Items → Complaint → Type 0
IsAmong rows c = (i : ℕ) → c.place.row ≡ Some i → (1 ≤ i) × ((d : Data)
    × (get_item (i - 1) rows ≡ Some d) × (c.place.element ≡ whole_at (codes "number") 65535 d))

-- a complaint about the i-th row is about one of the document, and tells its number
abbrev pub IsPlaced : List ℕ → Complaint → Type 0
IsPlaced text c = (i : ℕ) → c.place.row ≡ Some i
    → (d : Data) × StandsFor text d × IsAmong (rows_of d) c

-- the document beside its rows
abbrev pub nowhere : Place
nowhere = record { row = None; element = None }

-- a complaint of a finding at a place
abbrev pub complaint_at : Place → Finding → Complaint
complaint_at p f = record { place = p; finding = f }
