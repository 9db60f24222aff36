use Rattle.std.proofs.Common.{rules, ◌≡◌, ◌∙◌}
use Rattle.std.specs.Prelude.{None}
use Rattle.iso_lines.proofs.Heard.{more_heard}
use Rattle.iso_lines.proofs.Turns.{reads_more, reads_on}
use Rattle.iso_lines.proofs.share.read_share.Goals as goal

pub loop-preserved : goal.loop-preserved
loop-preserved g c =
    let none : c.loop.peer.standing.ended ≡ None = reads_on c.loop.peer.line.terms.now.limits c.loop.peer.standing c.args.now (search rules) in
    record {
      came = λ key. reads_more g.S.Read.remaining c.frames.ensures key c.args.peer.now c.loop.peer c.read.new.self c.args.host.now.host c.loop.host.host c.read.new.host.host
          (c.loop.invariant.came key) (c.read.ensures.came none key);
      heard = more_heard c.args.host.now.host c.loop.host.host c.read.new.host.host c.loop.invariant.heard c.read.ensures.heard;
      log = c.read.ensures.log ∙ c.loop.invariant.log;
      step = λ s. c.read.ensures.step (c.loop.invariant.step s);
    }
