use Rattle.std.proofs.Common.{◌≡◌, ◌<◌, inl, inr, ℕ, List, length, arith}
use Rattle.std.specs.List.{position_or_len, before_first, after_first}
use Rattle.std.proofs.lemmas.Str.Pattern.{split_once_first}
use Rattle.iso_links.specs.declared.network.Network.{Network}
use Rattle.iso_links.specs.Network.{is_slash, WrittenByTwo, WrittenByOne, IsNetworkText}
use Rattle.iso_links.proofs.network.Network.from_text.Goals as goal

-- a text with a slash is written by two
by_two : (text front back : List ℕ) → position_or_len is_slash text < length text → front ≡ before_first is_slash text → back ≡ after_first is_slash text
    → ((n : Network) → WrittenByTwo front back n → ⊥) → (n : Network) → IsNetworkText text n → ⊥
by_two text front back inside front_is back_is never n (inl (_, written)) = never n (rw (front_is, back_is) written)
by_two text front back inside front_is back_is never n (inr (none, _)) = absurd (omega (arith, inside, none))

-- a text without one is written by one
by_one : (text : List ℕ) → position_or_len is_slash text ≡ length text → ((n : Network) → WrittenByOne text n → ⊥) → (n : Network) → IsNetworkText text n → ⊥
by_one text none never n (inl (inside, _)) = absurd (omega (arith, inside, none))
by_one text none never n (inr (_, written)) = never n written

pub returns-in-Some-clause-none : goal.returns-in-Some-clause-none
returns-in-Some-clause-none c = λ none.
    let (inside, front, back) = rw c.in-Some.is at (split_once_first 47 c.args.text.now c.split_once.result c.split_once.ensures.cases (omega arith)) in
    by_two c.args.text.now _ _ inside front back (c.written_by_two.ensures.none none)

pub returns-in-None-clause-none : goal.returns-in-None-clause-none
returns-in-None-clause-none c = λ none.
    let whole = rw c.in-None.is at (split_once_first 47 c.args.text.now c.split_once.result c.split_once.ensures.cases (omega arith)) in
    by_one c.args.text.now whole (c.written_by_one.ensures.none none)
