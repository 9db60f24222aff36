use Rattle.std.proofs.Common.{◌∙◌, ◌++◌, ◌∷◌, [], ℕ, List, ap, sym, subst, map, take}
use Rattle.iso_host.specs.Asking.{message_in}
use Rattle.iso_host.specs.Entering.{StaysWithout, books_after_bodies}
use Rattle.iso_host.specs.Handling.{entered_by}
use Rattle.iso_play.specs.Played.{AreAnswered, IsAnswered}
use Rattle.iso_play.proofs.Played.{more_answered, next_items, none_answered, one_more}
use Rattle.iso_play.proofs.delivering.deliver_all.Goals as goal

pub loop-body-init : goal.loop-body-init
loop-body-init c =
    let t = c.args.link.now.table in
    let none = subst StaysWithout c.issuer.ensures c.one_journal.ensures.none in
    record {
      books = sym (none t);
      answered = none_answered t c.args.link.now.header c.args.host.now c.new-answers.result.items c.new-answers.ensures.items;
    }

pub loop-body-preserved : goal.loop-body-preserved
loop-body-preserved c =
    let t = c.args.link.now.table in
    let h = c.args.link.now.header in
    let first = c.args.host.now in
    let here = c.loop-body in
    let body = c.body-item.result.items in
    let a = c.in_ok-deliver.field-0 in
    let so_far = map (λ b. b.items) (take here.body-index c.args.bodies.now) in
    let next = sym (next_items (λ b. b.items) c.args.bodies.now here.body-index c.body-item.result c.loop-body-test.true c.body-item.is) in
    let entered = c.in_ok-deliver.ensures.books ∙ ap (λ (b : List ℕ). entered_by here.host (message_in t b)) c.deref.ensures.value in
    let answered = subst (λ (b : List ℕ). IsAnswered t h here.host b a) c.deref.ensures.value c.in_ok-deliver.ensures.answered in
    let all = more_answered t h first here.host so_far here.answers.items body a here.invariant.books here.invariant.answered answered in
    record {
      books =
          one_more c.one_journal.ensures.more t first here.host c.deliver.new.host so_far body here.invariant.books entered
          ∙ ap (books_after_bodies t first) next;
      answered = rw c.in_ok-push.ensures.items (subst (λ (l : List (List ℕ)). AreAnswered t h first l (here.answers.items ++ a ∷ [])) next all);
    }
