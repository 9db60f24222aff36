use Rattle.iso_parts.proofs.CountLaws.{count_members}
use Rattle.iso_parts.proofs.bitmap.Bitmap.count.Goals as goal

pub returns : goal.returns
returns c = count_members c.args.self.now.primary c.args.self.now.secondary c.args.self.now.not_1 c.args.self.now.not_65
