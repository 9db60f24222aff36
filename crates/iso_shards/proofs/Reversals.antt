-- How a reversal is answered.
use Rattle.std.proofs.Common.{◌≡◌, Bool, false, refl, ap, sym, ◌∙◌, ◌∷◌, [], ◌++◌}
use Rattle.std.specs.Prelude.{Option, Some, None, is_some}
use Rattle.iso_order.specs.declared.act.Act.{Act}
use Rattle.iso_order.specs.declared.act.Act.TheVariants.{Debit, Credit, Inquiry, Undo, Complete}
use Rattle.iso_order.specs.declared.key.TxKey.{TxKey}
use Rattle.iso_order.specs.Order.{Instruction}
use Rattle.iso_order.specs.Outcome.{code_alone}
use Rattle.iso_order.specs.Pan.{AccountNumber}
use Rattle.iso_issuer.specs.declared.journal.Entry.{Entry}
use Rattle.iso_issuer.specs.Books.{Books, journal}
use Rattle.iso_issuer.specs.Decision.{answer_by, answer_for}
use Rattle.iso_issuer.specs.Journal.{is_entered, entry_at}
use Rattle.iso_shards.specs.Shards.{account_named, is_sent_by, IsShard, KeysGoTogether, unplaced}
use Rattle.iso_shards.proofs.Steps.{IssuerLaws, same_answer}

-- two shards of one whole answer it alike
pub reversals_alike : (laws : IssuerLaws) (own others : AccountNumber → Bool)
    (whole shard other : Books) (o : Instruction)
    → IsShard own whole shard → IsShard others whole other → account_named o ≡ None
    → KeysGoTogether own (whole.orders ++ o ∷ []) → KeysGoTogether others (whole.orders ++ o ∷ [])
    → unplaced (answer_for other.accounts (journal other) o)
    ≡ unplaced (answer_for shard.accounts (journal shard) o)
reversals_alike laws own others whole shard other o is is_too none go go_too =
    same_answer laws others whole other is_too o (ap (is_sent_by others) none) go_too
    ∙ sym (same_answer laws own whole shard is o (ap (is_sent_by own) none) go)

is_none : (f : Option Entry) → is_some f ≡ false → f ≡ None
is_none None h = refl
is_none (Some e) h = cc

-- and with 0, where its key is new
pub reversal_granted : (laws : IssuerLaws) (b : Books) (key : TxKey) (act : Act)
    → account_named (record { key = key; act = act }) ≡ None → is_entered b.orders key ≡ false
    → unplaced (answer_for b.accounts (journal b) (record { key = key; act = act })) ≡ code_alone 0
reversal_granted laws b key (Debit m) none new = cc
reversal_granted laws b key (Credit m) none new = cc
reversal_granted laws b key (Inquiry m) none new = cc
reversal_granted laws b key (Complete m hold) none new = cc
reversal_granted laws b key (Undo original left) none new =
    ap (λ f. unplaced (answer_by b.accounts (journal b)
    (record { key = key; act = Undo original left }) f))
    (is_none (entry_at (journal b) key) (sym (laws.has b.accounts b.orders key) ∙ new))
