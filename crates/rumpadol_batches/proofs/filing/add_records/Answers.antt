use Rattle.std.proofs.Common.{◌≡◌, ◌∙◌, ◌+◌, ◌==◌, ◌&&◌, ◌++◌, ◌∷◌, [], ℕ, suc, List, ap, sym, arith, append_assoc}
use Rattle.std.specs.List.{list_all}
use Rattle.iso_log.specs.Slots.{is_nonzero, records_of}
use Rattle.rumpadol_batches.specs.Filing.{slots_of}
use Rattle.rumpadol_batches.proofs.filing.add_records.Goals as goal

pub append-requires : goal.append-requires
append-requires g c =
    ap (λ (n : ℕ). n == 128 && list_all is_nonzero c.record_at-record.result.now) c.record_at-record.ensures.size
    ∙ sym c.is_whole.ensures ∙ c.if-not-is_whole.false

next : (n : ℕ) → suc n ≡ n + 1
next n = omega (arith)

pub loop-place-preserved : goal.loop-place-preserved
loop-place-preserved g c =
    let old = records_of (g.D.Disk.seen c.args.log.now.disk) in
    let front = slots_of c.loop-place.place c.args.records.now in
    record {
      clean = c.append.ensures.clean ∙ c.loop-place.invariant.clean;
      log = λ is. c.in_ok-append.ensures.log (c.loop-place.invariant.log is);
      records = λ is.
          c.in_ok-append.ensures.records (c.loop-place.invariant.log is)
          ∙ ap (λ (rs : List (List ℕ)). rs ++ c.record_at-record.result.now ∷ []) (c.loop-place.invariant.records is)
          ∙ append_assoc old front (c.record_at-record.result.now ∷ [])
          ∙ ap (λ (r : List ℕ). old ++ (front ++ r ∷ [])) c.record_at-record.ensures.slot
          ∙ ap (λ (n : ℕ). old ++ slots_of n c.args.records.now) (next c.loop-place.place);
    }
