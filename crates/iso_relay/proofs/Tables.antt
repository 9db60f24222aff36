-- What a call leaves is a table again.
use Rattle.std.proofs.Common.{◌≡◌, ◌≤◌, ◌+◌, ◌-◌, ℕ, Bool, true, false, List, length, refl, arith, length-drop}
use Rattle.std.specs.Prelude.{Option, Some, None, if◌then◌else◌}
use Rattle.iso_order.specs.declared.key.TxKey.{TxKey}
use Rattle.iso_order.specs.Key.{same_key}
use Rattle.iso_front.specs.declared.gathering.Heard.{Heard}
use Rattle.iso_front.specs.declared.gathering.Joint.{Joint}
use Rattle.iso_front.specs.declared.gathering.Joint.TheVariants.{Waits, Same, Differ}
use Rattle.iso_front.specs.Gathering.{is_asked, heard_from, joint}
use Rattle.iso_relay.specs.declared.entry.Entry.{Entry}
use Rattle.iso_relay.specs.declared.decision.Decision.TheVariants.{PassOn, Drop}
use Rattle.iso_relay.specs.Entries.{most_pending, Table, IsTable, AreApart, entry, heard_under, put, newest, decided, decided_by, left, left_by, answered}
use Rattle.iso_relay.proofs.Putting.{apart-put, apart-without, apart-drop, length-put, length-there, length-without, put-others, without-others, without-self}

abbrev pub table : ℕ → List Entry → Table
table count es = record { count = count; entries = es }

-- ---- asking

length-newest : (es : List Entry) → length es ≤ most_pending + 1 → length (newest es) ≤ most_pending
length-newest es few = omega (arith, few, length-drop (length es - most_pending) es)

pub put-newest : (count : ℕ) (x : Entry) (es : List Entry) → IsTable (table count es) → IsTable (table count (newest (put x es)))
put-newest count x es t = record {
  few = t.few;
  short = length-newest (put x es) (omega (arith, t.short, length-put x es));
  apart = apart-drop (length (put x es) - most_pending) (put x es) (apart-put x es t.apart);
}

-- with room, all stay
pub all-newest : (es : List Entry) → length es ≤ most_pending → newest es ≡ es
all-newest es few =
    let none : length es - most_pending ≡ 0 = omega (arith, few) in rw none refl

-- ---- answers

left-by : (j : Joint) (count : ℕ) (key : TxKey) (h new : List Heard) (es : List Entry) → heard_under key es ≡ Some h
    → IsTable (table count es) → IsTable (table count (left_by j key new es))
left-by Waits count key h new es there t =
    let x : Entry = entry key new in
    record {
      few = t.few;
      short = omega (arith, t.short, length-there x es h there);
      apart = apart-put x es t.apart;
    }
left-by Same count key h new es there t = record {
  few = t.few;
  short = omega (arith, t.short, length-without key es);
  apart = apart-without key es t.apart;
}
left-by Differ count key h new es there t = record {
  few = t.few;
  short = omega (arith, t.short, length-without key es);
  apart = apart-without key es t.apart;
}

left-asked : (b : Bool) (count : ℕ) (j : Joint) (key : TxKey) (h new : List Heard) (es : List Entry)
    → heard_under key es ≡ Some h → IsTable (table count es)
    → IsTable (table count (if b then left_by j key new es else es))
left-asked true count j key h new es there t = left-by j count key h new es there t
left-asked false count j key h new es there t = t

left-some : (o : Option (List Heard)) (count shard : ℕ) (key : TxKey) (code : ℕ) (es : List Entry) → heard_under key es ≡ o
    → IsTable (table count es) → IsTable (table count (left shard key code es o))
left-some None count shard key code es there t = t
left-some (Some h) count shard key code es there t =
    left-asked (is_asked shard h) count (joint code (heard_from shard code h)) key h (heard_from shard code h) es there t

pub table-answered : (count shard : ℕ) (key : TxKey) (code : ℕ) (es : List Entry) → IsTable (table count es)
    → IsTable (table count (answered shard key code es))
table-answered count shard key code es t = left-some (heard_under key es) count shard key code es refl t

-- those under other keys

others-by : (j : Joint) (key other : TxKey) (new : List Heard) (es : List Entry) → same_key key other ≡ false
    → heard_under other (left_by j key new es) ≡ heard_under other es
others-by Waits key other new es apart = put-others other (entry key new) es apart
others-by Same key other new es apart = without-others other key es apart
others-by Differ key other new es apart = without-others other key es apart

others-asked : (b : Bool) (j : Joint) (key other : TxKey) (new : List Heard) (es : List Entry) → same_key key other ≡ false
    → heard_under other (if b then left_by j key new es else es) ≡ heard_under other es
others-asked true j key other new es apart = others-by j key other new es apart
others-asked false j key other new es apart = refl

others-some : (o : Option (List Heard)) (shard : ℕ) (key other : TxKey) (code : ℕ) (es : List Entry)
    → same_key key other ≡ false → heard_under other (left shard key code es o) ≡ heard_under other es
others-some None shard key other code es apart = refl
others-some (Some h) shard key other code es apart =
    others-asked (is_asked shard h) (joint code (heard_from shard code h)) key other (heard_from shard code h) es apart

pub answered-others : (shard : ℕ) (key other : TxKey) (code : ℕ) (es : List Entry) → same_key key other ≡ false
    → heard_under other (answered shard key code es) ≡ heard_under other es
answered-others shard key other code es apart = others-some (heard_under key es) shard key other code es apart

-- after an answer is passed on, none waits under its key

pub record IsPassed (shard code : ℕ) (o : Option (List Heard)) : Type 0 where
  pub heard : List Heard
  pub there : o ≡ Some heard
  pub asked : is_asked shard heard ≡ true
  pub same : joint code (heard_from shard code heard) ≡ Same

passed-joint : (j : Joint) → decided_by j ≡ PassOn → j ≡ Same
passed-joint Waits told = absurd (cc)
passed-joint Same told = refl
passed-joint Differ told = absurd (cc)

passed-by : (b : Bool) (shard code : ℕ) (h : List Heard) → is_asked shard h ≡ b
    → (if b then decided_by (joint code (heard_from shard code h)) else Drop) ≡ PassOn → IsPassed shard code (Some h)
passed-by true shard code h is told = record {
  heard = h;
  there = refl;
  asked = is;
  same = passed-joint (joint code (heard_from shard code h)) told;
}
passed-by false shard code h is told = absurd (cc)

pub passed : (o : Option (List Heard)) (shard code : ℕ) → decided shard code o ≡ PassOn → IsPassed shard code o
passed None shard code told = absurd (cc)
passed (Some h) shard code told = passed-by (is_asked shard h) shard code h refl told

once-by : (b : Bool) (j : Joint) (key : TxKey) (new : List Heard) (es : List Entry) → AreApart es
    → (if b then decided_by j else Drop) ≡ PassOn → heard_under key (if b then left_by j key new es else es) ≡ None
once-by true Waits key new es apart told = absurd (cc)
once-by true Same key new es apart told = without-self key es apart
once-by true Differ key new es apart told = absurd (cc)
once-by false j key new es apart told = absurd (cc)

once-some : (o : Option (List Heard)) (shard : ℕ) (key : TxKey) (code : ℕ) (es : List Entry) → AreApart es
    → decided shard code o ≡ PassOn → heard_under key (left shard key code es o) ≡ None
once-some None shard key code es apart told = absurd (cc)
once-some (Some h) shard key code es apart told =
    once-by (is_asked shard h) (joint code (heard_from shard code h)) key (heard_from shard code h) es apart told

pub once : (shard : ℕ) (key : TxKey) (code : ℕ) (es : List Entry) → AreApart es
    → decided shard code (heard_under key es) ≡ PassOn → heard_under key (answered shard key code es) ≡ None
once shard key code es apart told = once-some (heard_under key es) shard key code es apart told
