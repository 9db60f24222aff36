-- The pair of a place is the one at its key.
use Rattle.std.proofs.Common.{◌≡◌}
use Rattle.iso_etcd.specs.Keys.{name_text, batch_key}
use Rattle.iso_etcd.proofs.page.batch_at.Goals as goal

pub returns : goal.returns
returns c =
    let same : c.as_slice.result.now ≡ batch_key (name_text c.args.name.now) c.args.place =
    cc (c.as_slice.ensures.value, c.in_ok-key.ensures) in
    rw same at c.value_at.ensures
