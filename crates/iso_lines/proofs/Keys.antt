-- What stays of the peers under their keys.
use Rattle.std.proofs.Common.{◌≡◌, ◌≢◌, ◌∙◌, ◌⊎◌, ℕ, true, false, inl, inr, refl, sym, ap, subst}
use Rattle.std.specs.Prelude.{Option, Some, None, eqb}
use Rattle.std.proofs.lemmas.Bool.Decides.{eqb_tells}
use Rattle.iso_lines.specs.declared.line.Line.{Line}
use Rattle.iso_lines.specs.declared.standing.Standing.{Standing}
use Rattle.iso_lines.specs.declared.peer.Peer.{Peer}
use Rattle.iso_lines.specs.declared.peers.Peers.{Peers}
use Rattle.iso_lines.specs.Standing.{closing_of}
use Rattle.iso_lines.specs.Keys.{peer_at, OthersStay, IsLetIn, IsSame, SameAt, StaysOrGoes, EachStaysOrGoes}

module _ {S : Type 0} where
  -- ---- one peer

  -- the same twice
  pub same_twice : (a b c : Peer S) → IsSame a b → IsSame b c → IsSame a c
  same_twice a b c first second = record {
    stream = second.stream ∙ first.stream;
    line = second.line ∙ first.line;
    direct = second.direct ∙ first.direct;
    guarded = second.guarded ∙ first.guarded;
    notes = second.notes ∙ first.notes;
    standing = second.standing ∙ first.standing;
  }

  -- let in, and then noticed
  pub let_in_same : (stream : S) (a b : Option (Peer S)) → IsLetIn stream a → SameAt a b → IsLetIn stream b
  let_in_same stream None b is same = absurd is
  let_in_same stream (Some p) None is same = absurd same
  let_in_same stream (Some p) (Some q) is same = (
    same.stream ∙ is.0,
    ap (λ c. c.peer.held) same.direct ∙ is.1,
    ap (λ c. c.waiting) same.direct ∙ is.2,
    ap (λ g. g.held) same.guarded ∙ is.3,
    ap (λ g. g.waiting) same.guarded ∙ is.4,
  )

  -- a peer as it was stays
  pub stays : (now : ℕ) (a : Option (Peer S)) → StaysOrGoes now a a
  stays now None = refl
  stays now (Some p) = record { stream = refl; line = refl; direct = refl; guarded = refl; notes = refl; standing = refl }

  -- so does one that is the same
  pub same_stays : (now : ℕ) (a b : Option (Peer S)) → SameAt a b → StaysOrGoes now a b
  same_stays now None b same = same
  same_stays now (Some p) None same = absurd same
  same_stays now (Some p) (Some q) same = same

  -- it stays or goes, and then again
  pub stays_twice : (now : ℕ) (a b c : Option (Peer S)) → StaysOrGoes now a b → StaysOrGoes now b c → StaysOrGoes now a c
  stays_twice now None b c first second = subst (λ (o : Option (Peer S)). StaysOrGoes now o c) first second
  stays_twice now (Some p) None c first second = subst (λ (o : Option (Peer S)). StaysOrGoes now (Some p) o) (sym second) first
  stays_twice now (Some p) (Some q) None first second =
      λ none. second (ap (λ (l : Line). closing_of l.terms.now.limits q.standing now) first.line ∙ ap (λ (d : Standing). closing_of p.line.terms.now.limits d now) first.standing ∙ none)
  stays_twice now (Some p) (Some q) (Some r) first second = same_twice p q r first second

  -- ---- all of them

  pub each_stays : (now : ℕ) (peers : Peers S) → EachStaysOrGoes now peers peers
  each_stays now peers k = stays now (peer_at peers k)

  pub each_twice : (now : ℕ) (a b c : Peers S) → EachStaysOrGoes now a b → EachStaysOrGoes now b c → EachStaysOrGoes now a c
  each_twice now a b c first second k = stays_twice now (peer_at a k) (peer_at b k) (peer_at c k) (first k) (second k)

  -- one stays or goes, and the others stay
  pub one_of_all : (now key : ℕ) (a b : Peers S) → OthersStay key a b → StaysOrGoes now (peer_at a key) (peer_at b key) → EachStaysOrGoes now a b
  one_of_all now key a b others own k = go (eqb_tells k key)
    where
      go : ((eqb k key ≡ true) × (k ≡ key)) ⊎ ((eqb k key ≡ false) × (k ≢ key)) → StaysOrGoes now (peer_at a k) (peer_at b k)
      go (inl (same, is)) = subst (λ (n : ℕ). StaysOrGoes now (peer_at a n) (peer_at b n)) (sym is) own
      go (inr (other, not)) = subst (λ (o : Option (Peer S)). StaysOrGoes now (peer_at a k) o) (sym (others k not)) (stays now (peer_at a k))
