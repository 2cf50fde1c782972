-- Where a frame file begins: with its first octet, before any frame, with no piece and no previous frame.
use Rattle.std.specs.Prelude.{false}
use Rattle.frames.specs.Frames.{fresh_frames}
use Rattle.frames.specs.declared.Frames.{Frames}
use Rattle.telling.specs.declared.Progress.{Progress}

abbrev pub start : Progress Frames
start = record { at = 0; calls = 0; done = false; state = fresh_frames }
