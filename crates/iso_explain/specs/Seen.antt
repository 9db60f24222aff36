-- What may be shown of an element.
use Rattle.std.specs.Prelude.{◌≡◌, ℕ, ◌==◌, ◌||◌, ◌&&◌, not, Bool, true, false, if◌then◌else◌, List, ◌++◌, length, replicate, Option, Some, None, option_map}
use Rattle.iso_parts.specs.declared.class.CharClass.{CharClass}
use Rattle.iso_wire.specs.Describing.{clear_text}
use Rattle.iso_wire.specs.Masking.{is_secret, Masks}
use Rattle.iso_wire.specs.declared.masking.Shown.{Shown}
use Rattle.iso_explain.specs.declared.seen.Seen as seen

-- account numbers, tracks, PIN data and chip data
abbrev pub is_card : ℕ → Bool
is_card n = n == 2 || is_secret n

-- the whole value is shown
pub record IsWhole (value : List ℕ) (shown : Shown) : Type 0 where
  pub front : shown.front.now ≡ value
  pub hidden : shown.hidden ≡ 0
  pub end : length shown.end.now ≡ 0

-- in clear the whole value is shown, else what a bystander may read
abbrev pub ShowsValue : Bool → ℕ → List ℕ → Shown → Type 0
ShowsValue true n value shown = IsWhole value shown
ShowsValue false n value shown = Masks n value shown

-- the bytes of a body, none of card data that isn't in clear
abbrev pub seen_body : Bool → ℕ → List ℕ → Option (List ℕ)
seen_body is_clear n body = if is_card n && not is_clear then None else Some body

-- what may be shown of an element, and no more
pub record Sees (is_clear : Bool) (n : ℕ) (b v : List ℕ) (s : seen.Seen) : Type 0 where
  pub body : option_map (λ shown. shown.now) s.body ≡ seen_body is_clear n b
  pub size : s.size ≡ length b
  pub value : ShowsValue is_clear n v s.value

-- what is shown as text, with a star for each byte that is hidden
abbrev pub shown_as : CharClass → Shown → List ℕ
shown_as class shown = clear_text class shown.front.now
    ++ (replicate shown.hidden 42 ++ clear_text class shown.end.now)
