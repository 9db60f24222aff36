-- The tags of chip data (55), as EMV names them.
use Rattle.std.specs.Prelude.{ℕ, ◌/◌, ◌%◌, ◌==◌, ◌&&◌, ◌||◌, not, Bool, if◌then◌else◌}
use Rattle.iso_meaning.specs.Codes.{is_from}

-- the tags of one byte that have a name
abbrev pub is_short : ℕ → Bool
is_short n =
    n == 66 || is_from 79 80 n || is_from 86 87 n || n == 90 || n == 97 || is_from 111 115 n || n
    == 119 || is_from 128 132 n || is_from 134 138 n || is_from 140 149 n || is_from 151 157 n || n
    == 165

-- the second bytes of the tags that begin with 5F and have a name
abbrev pub is_behind_5f : ℕ → Bool
is_behind_5f n = n == 32 || is_from 36 37 n || n == 40 || n == 42 || n == 45 || n == 48 || n
    == 52 || n == 54 || n == 80 || is_from 83 86 n

-- the second bytes of the tags that begin with 9F and have a name
abbrev pub is_behind_9f : ℕ → Bool
is_behind_9f n = is_from 1 9 n || n == 11 || is_from 13 24 n || is_from 26 33 n || n
    == 35 || is_from 38 39 n || is_from 51 58 n || n
    == 60 || is_from 64 66 n || is_from 68 79 n || n == 107

-- whether a tag has a name: of one byte, of two that begin with 5F or 9F, or BF0C
abbrev pub has_name : ℕ → Bool
has_name tag =
    if tag / 256 == 0 then is_short (tag % 256)
    else if tag / 256 == 95 then is_behind_5f (tag % 256)
    else if tag / 256 == 159 then is_behind_9f (tag % 256)
    else tag / 256 == 191 && tag % 256 == 12

-- the tags of card data: tracks (56, 57, 9F1F, 9F20, 9F6B), account numbers (5A, 5F53), the sequence number (5F34), names
-- (5F20, 9F0B), expiry (5F24), service code (5F30) and PIN data (99)
abbrev pub is_card_data : ℕ → Bool
is_card_data tag =
    tag == 86 || tag == 87 || tag == 90 || tag == 153
    || tag == 24352 || tag == 24356 || tag == 24368 || tag == 24372 || tag == 24403
    || tag == 40715 || tag == 40735 || tag == 40736 || tag == 40811

-- the named tags of templates, which may hold card data: 61, 6F to 73, 77, A5 and BF0C
abbrev pub is_named_template : ℕ → Bool
is_named_template tag = tag == 97 || is_from 111 115 tag || tag == 119 || tag == 165 || tag == 48908

-- whether a bystander may read the value of a tag: it has a name, is no card data, and no template
abbrev pub is_shown : ℕ → Bool
is_shown tag = has_name tag && not (is_card_data tag || is_named_template tag)
