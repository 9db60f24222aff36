-- The frames of bytes that come piece by piece.
use Rattle.std.proofs.Common.{◌≡◌, ◌∙◌, ◌++◌, ◌+◌, ◌≤◌, ℕ, sym, ap, subst, arith, List, length, drop, append_assoc, length-append, length-drop}
use Rattle.std.proofs.lemmas.List.{drop-append-le, drop-drop}
use Rattle.iso_wire.specs.declared.header.Header.{Header}
use Rattle.iso_wire.specs.Framing.{frames_of, NoFrame, SplitsBehind}
use Rattle.iso_compare.specs.Fronts.{IsFront}
use Rattle.iso_compare.specs.declared.splitting.Front.{Front}

-- the frames of the bytes that came, and those that one more piece made whole
pub piece_counted : (h : Header) (old piece : List ℕ) (front more : Front) → SplitsBehind → IsFront h old front → IsFront h (drop front.size (old ++ piece)) more
    → IsFront h (old ++ piece) (record { frames = front.frames + more.frames; size = front.size + more.size })
piece_counted h old piece front more behind first later =
    let all : List ℕ = old ++ piece in
    let open_part : List ℕ = drop front.size all in
    let within : front.size ≤ length old = first.within in
    let done : List ℕ = frames_of h first.bodies in
    let joined : all ≡ done ++ open_part =
    ap (λ (l : List ℕ). l ++ piece) first.splits.joined ∙ append_assoc done (drop front.size old) piece
    ∙ ap (λ (l : List ℕ). done ++ l) (sym (drop-append-le front.size old piece within)) in
    let split = behind h first.bodies later.bodies open_part (drop more.size open_part) first.splits.fit later.splits in
    let rest : drop more.size open_part ≡ drop (front.size + more.size) all = drop-drop more.size front.size all in
    record {
      bodies = first.bodies ++ later.bodies;
      splits = record {
        joined = joined ∙ split.joined ∙ ap (λ (l : List ℕ). frames_of h (first.bodies ++ later.bodies) ++ l) rest;
        fit = split.fit;
        partial = subst (NoFrame h) rest split.partial;
      };
      count = let f = first.count in let l = later.count in omega (arith, length-append first.bodies later.bodies);
      within = let w = later.within in omega (arith, length-drop front.size all, length-append old piece);
      small = let f = first.small in let l = later.small in omega arith;
    }
