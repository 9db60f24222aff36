-- Inputs, as they are read.
use Rattle.std.proofs.Common.{◌≡◌, ◌∙◌, ◌++◌, Bool, true, false, not, List, ℕ, Option, Some, None, Result, Ok, Err, refl, sym, ap, subst, inl, inr, append-nil}
use Rattle.std.specs.Prelude.{IfOk, IfSome}
use Rattle.std.specs.Io.KnownBytes.{Consumes, IsAtEnd}
use Rattle.iso_wire.specs.declared.header.Header.{Header}
use Rattle.iso_jobs.specs.Inputs.{HasBytesBy, IsDecoded, Opens, WorksOnBy, WorksOnInput}
use Rattle.iso_jobs.specs.Outputs.{Output}
use Rattle.iso_jobs.specs.Work.{Task, WorksOn}
use Rattle.iso_jobs.specs.declared.fault.Stop.{Stop}
use Rattle.iso_jobs.specs.declared.form.Form.{Form}
use Rattle.iso_jobs.specs.declared.opening.Opened.{Opened}
use Rattle.iso_jobs.specs.declared.opening.Opened.TheVariants as opened

plain_of : (hex : Bool) → not hex ≡ true → hex ≡ false
plain_of false h = refl
plain_of true h = sym h

-- what is done with the frames of an input is done with its bytes
pub streamed : (task : Task) (h : Header) (before : Option (List ℕ)) (output : Output) (r : Result Bool Stop) → task.form.header ≡ Some h
    → not task.form.is_hex ≡ true → IfOk r (λ good. IfSome before (λ all. WorksOn task h all output good))
    → IfOk r (λ good. IfSome before (λ all. WorksOnInput task all output good))
streamed task h before output (Err e) header plain works = tt
streamed task h None output (Ok good) header plain works = tt
streamed task h (Some all) output (Ok good) header plain works =
    inl (
      all,
      subst (λ (hex : Bool). HasBytesBy hex all all) (sym (plain_of task.form.is_hex plain)) refl,
      subst (λ (o : Option Header). WorksOnBy o task all output good) (sym header) works,
    )

-- the digits of an input that was read whole are read
pub decoded_input : (form : Form) (before after : Option (List ℕ)) (text : List ℕ) (r : Result Opened Stop) → form.is_hex ≡ true
    → Consumes before after text → IsAtEnd after → IfOk r (IsDecoded text) → IfOk r (λ o. IfSome before (λ all. Opens form all o))
decoded_input form before after text (Err e) hex consumed end decoded = tt
decoded_input form None after text (Ok o) hex consumed end decoded = tt
decoded_input form (Some all) None text (Ok o) hex consumed end decoded = elim consumed [ ]
decoded_input form (Some all) (Some rest) text (Ok o) hex consumed end decoded = go o (subst (λ (t : List ℕ). IsDecoded t o) (sym whole) decoded)
  where
    whole : all ≡ text
    whole = consumed ∙ ap (λ (l : List ℕ). text ++ l) end ∙ append-nil text

    go : (o : Opened) → IsDecoded all o → Opens form all o
    go (opened.Bytes bytes) read = subst (λ (is : Bool). HasBytesBy is all bytes.items) (sym hex) read
    go (opened.Refused trouble) none = inr (hex, none)
