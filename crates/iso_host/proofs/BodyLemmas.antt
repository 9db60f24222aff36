-- The message that a whole body is, and what the body spells.
use Rattle.std.proofs.Common.{◌≡◌, ℕ, Bool, true, false, cond, eqb, length, take, Some, None, Result, Ok, Err, refl, sym, ap, ◌∙◌, subst, arith}
use Rattle.std.proofs.Math.Seq.{take-length}
use Rattle.std.proofs.lemmas.Bool.{eqb-true, eq-eqb}
use Rattle.iso_wire.specs.declared.fault.UnpackFault.{UnpackFault}
use Rattle.iso_wire.specs.Contents.{Contents}
use Rattle.iso_wire.specs.Reading.{message_at, whole}
use Rattle.iso_wire.specs.ReadingLaws.{ReadsSpellings}
use Rattle.iso_wire.specs.Spelling.{Spelling}
use Rattle.iso_host.specs.Asking.{whole_by, message_in, BodiesAreSpellings}

-- what is read takes the whole body
takes_all : (size : ℕ) (r : Result (Contents × ℕ) UnpackFault) (m : Contents) → whole_by size r ≡ Some m → r ≡ whole m size
takes_all size (Ok x) m e = by_test (eqb x.1 size) refl e
  where
    by_test : (b : Bool) → eqb x.1 size ≡ b → cond b (Some x.0) None ≡ Some m → whole x.0 x.1 ≡ whole m size
    by_test true same found =
        let message : x.0 ≡ m = cc in
        ap (λ (k : Contents). whole k x.1) message ∙ ap (whole m) (eqb-true x.1 size same)
    by_test false same found = cc
takes_all size (Err f) m e = cc

-- and then the message is there
pub is_there : (size : ℕ) (m : Contents) → whole_by size (whole m size) ≡ Some m
is_there size m = ap (λ (b : Bool). cond b (Some m) None) (eq-eqb size size refl)

pub bodies_spelled : ReadsSpellings → BodiesAreSpellings
unfolding message_in
bodies_spelled reads t m body good bytes =
    let size = length body in
    let whole_body : take size body ≡ body = take-length body in
    let law = reads t m size body good bytes in (
      (λ found. subst (Spelling t m) whole_body (law.0 (takes_all size (message_at t body) m found)).1),
      (λ spelled. ap (whole_by size) (law.1 (omega arith, subst (Spelling t m) (sym whole_body) spelled)) ∙ is_there size m),
    )
