-- What a document says, from what its JSON value says.
use Rattle.std.proofs.Common.{◌≡◌, ℕ, false, List, [], ◌++◌, Option, Result, ap, ◌∙◌}
use Rattle.json.specs.Find.{get_member}
use Rattle.json.specs.Json.{Json, Members}
use Rattle.iso_table.specs.Layout.{Layout}
use Rattle.iso_wire.specs.Contents.{Contents}
use Rattle.iso_json.specs.declared.complaint.Complaint.{Complaint}
use Rattle.iso_json.specs.declared.complaint.Place.TheVariants as places
use Rattle.iso_json.specs.declared.complaint.Trouble.{Trouble}
use Rattle.iso_json.specs.Said.{contents_of, elements_key, heard_in, mti_key, names_from}
use Rattle.iso_json.specs.Heard.{Heard, complained, or_zero, trouble_in, type_at, with_elements}

-- ---- objects

same_contents : (a b : Contents) → a.mti ≡ b.mti → a.elements ≡ b.elements → a ≡ b
same_contents a b p q = λ i. record { mti = p i; elements = q i }

-- what was read of an object, step by step
pub record ReadsSteps (t : Layout) (ms : Members) (mti elements : Option Json) (read : Result ℕ Trouble) (first second third fourth : List Complaint) (start done : Contents) : Type 0 where
  pub mti_found : mti ≡ get_member mti_key ms
  pub elements_found : elements ≡ get_member elements_key ms
  pub type_read : read ≡ type_at t.version mti
  pub none : first ≡ []
  pub names : second ≡ first ++ names_from false false 0 ms
  pub type_told : third ≡ second ++ complained places.Whole (trouble_in read)
  pub type_kept : start.mti ≡ or_zero read
  pub empty : start.elements ≡ []
  pub same_type : done.mti ≡ start.mti
  pub heard : record { elements = done.elements; complaints = fourth } ≡ with_elements t.rows elements (record { elements = start.elements; complaints = third })

type_found : (t : Layout) (ms : Members) (mti elements : Option Json) (read : Result ℕ Trouble) (first second third fourth : List Complaint) (start done : Contents) → ReadsSteps t ms mti elements read first second third fourth start done
    → read ≡ type_at t.version (get_member mti_key ms)
type_found t ms mti elements read first second third fourth start done s = s.type_read ∙ ap (type_at t.version) s.mti_found

told : (t : Layout) (ms : Members) (mti elements : Option Json) (read : Result ℕ Trouble) (first second third fourth : List Complaint) (start done : Contents) → ReadsSteps t ms mti elements read first second third fourth start done
    → third ≡ names_from false false 0 ms ++ complained places.Whole (trouble_in (type_at t.version (get_member mti_key ms)))
told t ms mti elements read first second third fourth start done s =
    let names = names_from false false 0 ms in
    let found = type_found t ms mti elements read first second third fourth start done s in
    s.type_told
    ∙ ap (λ (cs : List Complaint). cs ++ complained places.Whole (trouble_in read)) (s.names ∙ ap (λ (cs : List Complaint). cs ++ names) s.none)
    ∙ ap (λ (r : Result ℕ Trouble). names ++ complained places.Whole (trouble_in r)) found

heard_whole : (t : Layout) (ms : Members) (mti elements : Option Json) (read : Result ℕ Trouble) (first second third fourth : List Complaint) (start done : Contents) → ReadsSteps t ms mti elements read first second third fourth start done
    → record { elements = done.elements; complaints = fourth } ≡ heard_in t ms
heard_whole t ms mti elements read first second third fourth start done s =
    let all = get_member elements_key ms in
    s.heard
    ∙ ap (λ (o : Option Json). with_elements t.rows o (record { elements = start.elements; complaints = third })) s.elements_found
    ∙ ap (λ (es : List (ℕ × List ℕ)). with_elements t.rows all (record { elements = es; complaints = third })) s.empty
    ∙ ap (λ (cs : List Complaint). with_elements t.rows all (record { elements = []; complaints = cs })) (told t ms mti elements read first second third fourth start done s)

pub object_message : (t : Layout) (ms : Members) (mti elements : Option Json) (read : Result ℕ Trouble) (first second third fourth : List Complaint) (start done : Contents) → ReadsSteps t ms mti elements read first second third fourth start done
    → done ≡ contents_of t ms
object_message t ms mti elements read first second third fourth start done s =
    same_contents done (contents_of t ms) (s.same_type ∙ s.type_kept ∙ ap or_zero (type_found t ms mti elements read first second third fourth start done s))
    (ap (λ (h : Heard). h.elements) (heard_whole t ms mti elements read first second third fourth start done s))

pub object_complaints : (t : Layout) (ms : Members) (mti elements : Option Json) (read : Result ℕ Trouble) (first second third fourth : List Complaint) (start done : Contents) → ReadsSteps t ms mti elements read first second third fourth start done
    → fourth ≡ (heard_in t ms).complaints
object_complaints t ms mti elements read first second third fourth start done s = ap (λ (h : Heard). h.complaints) (heard_whole t ms mti elements read first second third fourth start done s)
