-- How `clap` walks over words of which none starts with a dash.
use Rattle.std.proofs.Common.{◌≡◌, refl, sym, ap, ap₂, ◌∙◌, ◌&&◌, ◌++◌, Bool, ℕ, IsTrue, List, [], ◌∷◌, ◌==◌, true, false, cond, true≢false, append_assoc, append-nil}
use Rattle.std.proofs.lemmas.Bool.{not-true}
use Rattle.std.specs.Prelude.{Option, Some, None, is_some, find, fold, drop, unwrap_or}
use Rattle.std.specs.List.{AllByRecursion, list_all}
use Rattle.std.specs.Str.{bytes_eq}
use Rattle.clap.specs.Lexer.{strip_byte}
use Rattle.clap.specs.Walk.{Held, Names, Rule, Text, Waiting, Walk, idle, option, positional, value, answers_to, arg_by_index, finished, is_multiple, nothing_held, to_positional, walk, walk_from, walked, word_met}
use Rattle.clap.specs.Takes.{built_takes, default_passes, entered_passes, is_valid, level_passes, settle_passes, step_passes, takes, turn_passes, walk_passes, word_passes}
use Rattle.clap.specs.Simple.{App, Shape, built, entered, is_simple, label_of, names_of, new_shape}
use Rattle.clap.proofs.OnLiterals.{clap_on_literals}
use Rattle.iso_wire.specs.declared.header.Header.{Header}
use Rattle.iso_wire.specs.declared.header.Header.TheVariants.{Binary2, Ascii4, Bcd2}
use Rattle.iso_cli.specs.Words.{header_name, is_name}

-- the word doesn't start with a dash
abbrev pub IsName : Text → Type 0
IsName word = IsTrue (is_name word)

pub header_is_name : (header : Header) → IsName (header_name header)
header_is_name Binary2 = refl
header_is_name Ascii4 = refl
header_is_name Bcd2 = refl

no_dash : (word : Text) → IsName word → strip_byte 45 word ≡ None
no_dash [] name = refl
no_dash (x ∷ xs) name = rw (not-true (x == 45) name) refl

not_dashes : (word : Text) → IsName word → bytes_eq word (45 ∷ 45 ∷ []) ≡ false
not_dashes [] name = refl
not_dashes (x ∷ xs) name = rw (not-true (x == 45) name) refl

-- no option waits for a value
abbrev waits_for_option : Waiting → Bool
waits_for_option (option id) = true
waits_for_option _ = false

name_met : (c : List Rule) (t : Bool) (waiting : Waiting) (p : ℕ) (word : Text) (h : Held) → IsName word
    → waits_for_option waiting ≡ false → word_met c [] t waiting p word h ≡ (h, value)
name_met c true waiting p word h name free = refl
name_met c false idle p word h name free = rw (not_dashes word name, no_dash word name, no_dash word name) refl
name_met c false positional p word h name free = rw (not_dashes word name, no_dash word name, no_dash word name) refl
name_met c false (option id) p word h name free = absurd (true≢false free)

name_passes : (s : Shape) (t : Bool) (waiting : Waiting) (word : Text) (h : Held) → IsName word → word_passes s [] t waiting word h ≡ true
unfolding clap_on_literals
name_passes s true waiting word h name = refl
name_passes s false idle word h name = rw (not_dashes word name, no_dash word name, no_dash word name) refl
name_passes s false positional word h name = rw (not_dashes word name, no_dash word name, no_dash word name) refl
name_passes s false (option id) word h name = rw (not_dashes word name, no_dash word name, no_dash word name) refl

-- the walk is at no subcommand, and no option waits
record Between (w : Walk) : Type 0 where
  goes_on : w.stopped ≡ None
  free : waits_for_option w.waiting ≡ false

after_one : (m : Bool) → waits_for_option (cond m positional idle) ≡ false
after_one true = refl
after_one false = refl

stays_between : (c : List Rule) (a : Option Rule) (word : Text) (w : Walk) → Between w → Between (to_positional c a word w w.held)
stays_between c None word w is = record { goes_on = is.goes_on; free = is.free }
stays_between c (Some a) word w is = record { goes_on = refl; free = after_one (is_multiple a) }

abbrev after_name : List Rule → Walk → Text → Walk
after_name c w word = to_positional c (arg_by_index c w.position) word w w.held

name_walked : (c : List Rule) (w : Walk) (word : Text) → IsName word → Between w → walked c [] w word ≡ after_name c w word
unfolding walked
name_walked c w word name is = rw (is.goes_on, name_met c w.is_trailing w.waiting w.position word w.held name is.free) refl

name_turn : (s : Shape) (w : Walk) (word : Text) → IsName word → Between w → turn_passes s [] w word ≡ step_passes s w.position w.held value
name_turn s w word name is = rw (is.goes_on, name_passes s w.is_trailing w.waiting word w.held name, name_met s.rules w.is_trailing w.waiting w.position word w.held name is.free) refl

-- the walk over names
abbrev names_walk : List Rule → Walk → List Text → Walk
names_walk c w [] = w
names_walk c w (word ∷ rest) = names_walk c (after_name c w word) rest

abbrev names_pass : Shape → Walk → List Text → Bool
names_pass s w [] = true
names_pass s w (word ∷ rest) = step_passes s w.position w.held value && names_pass s (after_name s.rules w word) rest

names_walked : (c : List Rule) (w : Walk) (words : List Text) → AllByRecursion IsName words → Between w → fold (walked c []) w words ≡ names_walk c w words
names_walked c w [] names is = refl
names_walked c w (word ∷ rest) names is = rw (name_walked c w word names.0 is) (names_walked c (after_name c w word) rest names.1 (stays_between c (arg_by_index c w.position) word w is))

names_passed : (s : Shape) (w : Walk) (words : List Text) → AllByRecursion IsName words → Between w → walk_passes s [] w words ≡ names_pass s w words
unfolding walk_passes
names_passed s w [] names is = refl
names_passed s w (word ∷ rest) names is =
    rw (name_turn s w word names.0 is, name_walked s.rules w word names.0 is)
    (ap (λ b. step_passes s w.position w.held value && b) (names_passed s (after_name s.rules w word) rest names.1 (stays_between s.rules (arg_by_index s.rules w.position) word w is)))

-- the words after a subcommand's name pass
abbrev pub level_of_names : Shape → List Text → Bool
level_of_names s words =
    let end = (names_walk s.rules (walk_from nothing_held) words).held in
    names_pass s (walk_from nothing_held) words && (settle_passes s.rules s.args_override_self end
    && (list_all default_passes s.rules && is_valid s (finished s.rules end) false))

names_level : (s : Shape) (words : List Text) → AllByRecursion IsName words → level_passes s [] nothing_held words false ≡ level_of_names s words
names_level s words names =
    let start : Between (walk_from nothing_held) = record { goes_on = refl; free = refl } in
    rw (names_walked s.rules (walk_from nothing_held) words names start, names_passed s (walk_from nothing_held) words names start) refl

-- ---- the words of a subcommand

-- the walk at the name of a subcommand, and the words behind it
abbrev stopped_at : Text → List Text → Walk
stopped_at name rest = record (walk_from nothing_held) { stopped = Some (name, rest) }

collects : (c : List Rule) (names : Names) (name : Text) (ws rest : List Text) → fold (walked c names) (stopped_at name ws) rest ≡ stopped_at name (ws ++ rest)
unfolding walked
collects c names name ws [] = ap (stopped_at name) (sym (append-nil ws))
collects c names name ws (w ∷ rest) = collects c names name (ws ++ w ∷ []) rest ∙ ap (stopped_at name) (append_assoc ws (w ∷ []) rest)

stopped_passes : (s : Shape) (names : Names) (name : Text) (ws rest : List Text) → walk_passes s names (stopped_at name ws) rest ≡ true
unfolding walk_passes walked
stopped_passes s names name ws [] = refl
stopped_passes s names name ws (w ∷ rest) = stopped_passes s names name (ws ++ w ∷ []) rest

-- the subcommand that is named, as it is built
abbrev pub leaf_of : App → Text → Shape
leaf_of b name = unwrap_or (find (λ s. answers_to name (label_of s)) b.subs) (new_shape [])

-- the command goes on to the subcommand of this name
pub record Enters (b : App) (name : Text) : Type 0 where
  pub found : find (λ s. answers_to name (label_of s)) b.subs ≡ Some (leaf_of b name)
  pub stops : walked b.top.rules (names_of b) (walk_from nothing_held) name ≡ stopped_at name []
  pub turn : turn_passes b.top (names_of b) (walk_from nothing_held) name ≡ true
  pub defaults : list_all default_passes b.top.rules ≡ true
  pub valid : is_valid b.top (finished b.top.rules nothing_held) true ≡ true

abbrev after_walk : App → Walk → Bool → Bool
after_walk b end passed = entered_passes b end.stopped
    && (passed && (settle_passes b.top.rules b.top.args_override_self end.held && (list_all default_passes b.top.rules
    && is_valid b.top (finished b.top.rules end.held) (is_some (entered b end.stopped)))))

first_passes : (b : App) (name : Text) (rest : List Text) → Enters b name → walk_passes b.top (names_of b) (walk_from nothing_held) (name ∷ rest) ≡ true
unfolding walk_passes
first_passes b name rest enters = ap₂ ◌&&◌ enters.turn (ap (λ (w : Walk). walk_passes b.top (names_of b) w rest) enters.stops ∙ stopped_passes b.top (names_of b) name [] rest)

entered_takes : (b : App) (name : Text) (rest : List Text) → Enters b name → AllByRecursion IsName rest → level_of_names (leaf_of b name) rest ≡ true
    → built_takes b nothing_held (name ∷ rest) ≡ true
entered_takes b name rest enters names taken =
    let end : walk b.top.rules (names_of b) nothing_held (name ∷ rest) ≡ stopped_at name rest =
    ap (λ (w : Walk). fold (walked b.top.rules (names_of b)) w rest) enters.stops ∙ collects b.top.rules (names_of b) name [] rest in
    ap₂ (after_walk b) end (first_passes b name rest enters)
    ∙ rw (enters.found, names_level (leaf_of b name) rest names, taken, enters.defaults, enters.valid) refl

-- a simple command takes a subcommand's name and words of which none starts with a dash, as it takes any such words
pub takes_names : (a : App) (name : Text) (rest : List Text) → is_simple a ≡ true → a.top.no_binary_name ≡ true → Enters (built a) name
    → AllByRecursion IsName rest → level_of_names (leaf_of (built a) name) rest ≡ true → takes a (name ∷ rest) ≡ true
takes_names a name rest simple whole enters names taken =
    ap₂ (λ b (words : List Text). b && built_takes (built a) nothing_held words) simple (ap (λ b. cond b (name ∷ rest) (drop 1 (name ∷ rest))) whole)
    ∙ entered_takes (built a) name rest enters names taken
