use Rattle.iso_wire.proofs.FrameHeaders.{length-header_of}
use Rattle.iso_wire.proofs.FrameSplits.{frames_of-append, AllFit-append}
use Rattle.iso_wire.proofs.laws.frames.Goals as goal

pub returns : goal.returns
returns c = record {
  header = length-header_of;
  joined = frames_of-append;
  fit = AllFit-append;
}
