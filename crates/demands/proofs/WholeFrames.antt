-- That packets come through is the law of `recording` (`Through`); a call that is answered repeat is no taken one, and only those change anything.
use Rattle.recording.proofs.Through as through
use Rattle.recording.proofs.Calls as calls
use Rattle.demands.specs.WholeFrames.{ComeThrough, RepeatChangesNothing, WholeFrames}

repeat_changes_nothing : RepeatChangesNothing
repeat_changes_nothing = calls.repeat_leaves

come_through : ComeThrough
come_through = through.comes_through

pub whole_frames : WholeFrames
whole_frames = record { come_through = come_through; repeat_changes_nothing = repeat_changes_nothing }
