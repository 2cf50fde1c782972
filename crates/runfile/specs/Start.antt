-- Where a run begins: with its first octet, before any call, in a fresh intake.
use Rattle.std.specs.Prelude.{false}
use Rattle.state.specs.State.{fresh_state}
use Rattle.state.specs.declared.State.{State}
use Rattle.telling.specs.declared.Progress.{Progress}

abbrev pub start : Progress State
start = record { at = 0; calls = 0; done = false; state = fresh_state }
