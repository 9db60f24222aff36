use Rattle.std.proofs.Common.{subst, rules}
use Rattle.std.specs.Prelude.{◌++◌, length, Result, Ok, Err}
use Rattle.iso_wire.specs.declared.fault.UnpackFault.{UnpackFault}
use Rattle.iso_wire.specs.declared.unpacker.Fed.{Fed}
use Rattle.iso_wire.specs.Reading.{halt}
use Rattle.iso_wire.specs.Stops.{Stops}
use Rattle.iso_wire.specs.Unpacker.{Feeding, Feeds, FoundFed, StopsFed}
use Rattle.iso_wire.proofs.unpacker.Unpacker.feed.Goals as goal

pub returns-in-Ok-clause-found : goal.returns-in-Ok-clause-found
returns-in-Ok-clause-found c = λ none.
    let inside = c.self.inside in
    let found = subst (λ (r : Result Fed UnpackFault). FoundFed inside.table.now (length inside.taken.items) (inside.taken.items ++ c.args.piece.now) r) c.in-Ok.is c.take.ensures.found in
    subst (λ (x : Feeding). FoundFed x.table (length x.taken) (x.taken ++ c.args.piece.now) (Ok c.in-Ok.fed)) c.self.view_is found

pub returns-after-ne-clause-found : goal.returns-after-ne-clause-found
returns-after-ne-clause-found c = λ none.
    let inside = c.self.inside in
    let found = subst (λ (r : Result Fed UnpackFault). FoundFed inside.table.now (length inside.taken.items) (inside.taken.items ++ c.args.piece.now) r) c.in-Err.is c.take.ensures.found in
    subst (λ (x : Feeding). FoundFed x.table (length x.taken) (x.taken ++ c.args.piece.now) (Err c.in-Err.fault)) c.self.view_is found

pub returns-in-Ok-clause-stops : goal.returns-in-Ok-clause-stops
returns-in-Ok-clause-stops c = λ none.
    let inside = c.self.inside in
    let stopped = subst (λ (r : Result Fed UnpackFault). StopsFed inside.table.now (inside.taken.items ++ c.args.piece.now) r) c.in-Ok.is c.take.ensures.stops in
    subst (λ (x : Feeding). StopsFed x.table (x.taken ++ c.args.piece.now) (Ok c.in-Ok.fed)) c.self.view_is stopped

pub returns-in-Ok-clause-told : goal.returns-in-Ok-clause-told
returns-in-Ok-clause-told c = λ none at element cause.
    let inside = c.self.inside in
    let told = subst (λ (r : Result Fed UnpackFault). Stops inside.table.now (inside.taken.items ++ c.args.piece.now) at element cause → Feeds (length inside.taken.items) r (halt element at cause)) c.in-Ok.is (c.take.ensures.told at element cause) in
    subst (λ (x : Feeding). Stops x.table (x.taken ++ c.args.piece.now) at element cause → Feeds (length x.taken) (Ok c.in-Ok.fed) (halt element at cause)) c.self.view_is told

pub returns-after-ne-clause-stops : goal.returns-after-ne-clause-stops
returns-after-ne-clause-stops c = λ none.
    let inside = c.self.inside in
    let stopped = subst (λ (r : Result Fed UnpackFault). StopsFed inside.table.now (inside.taken.items ++ c.args.piece.now) r) c.in-Err.is c.take.ensures.stops in
    subst (λ (x : Feeding). StopsFed x.table (x.taken ++ c.args.piece.now) (Err c.in-Err.fault)) c.self.view_is stopped

pub returns-after-ne-clause-told : goal.returns-after-ne-clause-told
returns-after-ne-clause-told c = λ none at element cause.
    let inside = c.self.inside in
    let told = subst (λ (r : Result Fed UnpackFault). Stops inside.table.now (inside.taken.items ++ c.args.piece.now) at element cause → Feeds (length inside.taken.items) r (halt element at cause)) c.in-Err.is (c.take.ensures.told at element cause) in
    subst (λ (x : Feeding). Stops x.table (x.taken ++ c.args.piece.now) at element cause → Feeds (length x.taken) (Err c.in-Err.fault) (halt element at cause)) c.self.view_is told

pub invariant_of-self-then-ne : goal.invariant_of-self-then-ne
invariant_of-self-then-ne c = ((search rules, search rules, search rules), search rules)

pub returns-after-ne-clause-state : goal.returns-after-ne-clause-state
returns-after-ne-clause-state c = search rules
