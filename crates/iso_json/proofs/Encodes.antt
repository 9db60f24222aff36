-- The bytes of a message that was read.
use Rattle.std.proofs.Common.{◌≡◌, ℕ, List, Result, Ok, Err, subst, sym}
use Rattle.std.specs.Prelude.{IfErr, MatchResult, OnOk}
use Rattle.iso_table.specs.Layout.{Layout}
use Rattle.iso_wire.specs.Contents.{Contents}
use Rattle.iso_json.specs.declared.complaint.Refusal.{Refusal}
use Rattle.iso_json.specs.declared.complaint.Refusal.TheVariants as refusals
use Rattle.iso_json.specs.Encoded.{AppendsPlain, AppendsSaid}
use Rattle.iso_json.specs.Said.{AreOf, IsMessage}

pub appended_said : (t : Layout) (text old new : List ℕ) (m : Contents) (r : Result (Unit {0}) Refusal) → IsMessage t text m → OnOk r (AppendsPlain t m old new) → OnOk r (AppendsSaid t text old new)
appended_said t text old new m (Ok x) said appends = (m, said, appends)
appended_said t text old new m (Err e) said appends = tt

pub appended_some : (t : Layout) (old new : List ℕ) (m : Contents) (r : Result (Unit {0}) Refusal) → OnOk r (AppendsPlain t m old new) → OnOk r ((n : Contents) × AppendsPlain t n old new)
appended_some t old new m (Ok x) appends = (m, appends)
appended_some t old new m (Err e) appends = tt

pub refused_memory : (t : Layout) (text : List ℕ) (r : Result (Unit {0}) Refusal) → IfErr r (λ e. e ≡ refusals.Memory) → IfErr r (λ e. AreOf t text e)
refused_memory t text (Ok x) memory = tt
refused_memory t text (Err e) memory = subst (λ (x : Refusal). AreOf t text x) (sym memory) tt

pub clear_again : (t : Layout) (old new : List ℕ) (m read : Contents) (r : Result (Unit {0}) Refusal) → read ≡ m → OnOk r (AppendsPlain t read old new) → IfErr r (λ e. e ≡ refusals.Memory)
    → MatchResult r (λ _. AppendsPlain t m old new) (λ e. e ≡ refusals.Memory)
clear_again t old new m read (Ok x) same appends memory = subst (λ (k : Contents). AppendsPlain t k old new) same appends
clear_again t old new m read (Err e) same appends memory = memory
