use Rattle.std.proofs.Common.{◌≡◌, ◌<◌, ◌++◌, refl, [], ◌∷◌, length, arith}
use Rattle.std.proofs.lemmas.Grind.{common_steps}
use Rattle.iso_front.specs.declared.prefixes.Given.{Given}
use Rattle.iso_front.proofs.Belonging.{all-push, none-meet-push}
use Rattle.iso_front.proofs.shards.Shards.give.Goals as goal

pub invariant_of-self-2 : goal.invariant_of-self-2
invariant_of-self-2 c =
    let h : Given = record { prefixes = c.args.prefixes; shard = c.in-Some.shard } in
    let items : c.push.new.self.items ≡ c.self.inside.given.items ++ h ∷ [] = c.in_ok-push.ensures.items in
    let below : c.in-Some.shard < length c.self.inside.shards.items = grind (arith, common_steps, c.in-Some.ensures, c.len.ensures) in
    record {
      few = c.self.invariant.few;
      there = rw items (all-push (λ (g : Given). g.shard < length c.self.inside.shards.items) c.self.inside.given.items h c.self.invariant.there below);
      apart = rw items (none-meet-push c.self.inside.given.items h c.self.invariant.apart (rw c.deref.ensures.value at (c.in-None.ensures.none refl)));
    }
