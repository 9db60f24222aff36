-- Why a run ends before its time.
use Rattle.iso_frames.specs.declared.fault.FramesFault.{FramesFault}
use Rattle.iso_frames.specs.declared.fault.FramesFault.TheVariants as frames
use Rattle.iso_traffic.specs.declared.fault.TrafficFault.{TrafficFault}
use Rattle.iso_traffic.specs.declared.fault.TrafficFault.TheVariants.{Unwritten, TooLong, Memory}

-- a frame that isn't written or read ends the run for the same reason
abbrev pub of_frames : FramesFault → TrafficFault
of_frames (frames.Unwritten f) = Unwritten f
of_frames frames.TooLong = TooLong
of_frames frames.Memory = Memory
