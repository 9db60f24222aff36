use Rattle.iso_input.proofs.Blocks.{part_behind}
use Rattle.iso_input.proofs.held.Held.drop_front.Goals as goal

pub returns : goal.returns
returns c = part_behind c.args.self.now.block.items c.args.self.now.start c.args.count c.args.self.now.end c.requires
