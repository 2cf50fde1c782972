-- The status of a program: 0 where nothing failed, what a shell makes of the signal that ends other programs where nobody reads on, or else 1.
use Rattle.std.specs.Prelude.{ℕ, Result, Ok, Err}
use Rattle.std.specs.IoError.{error_kind}
use Rattle.std.specs.declared.io.Error.{Error}
use Rattle.std.specs.declared.io.ErrorKind.{ErrorKind}
use Rattle.std.specs.declared.io.ErrorKind.TheVariants.{BrokenPipe}
use Rattle.ending.specs.declared.Failure.{Failure}
use Rattle.ending.specs.declared.Failure.TheVariants.{Input, Packets, Output}

abbrev pub error_of : Failure → Error
error_of (Input e) = e
error_of (Packets e) = e
error_of (Output e) = e

abbrev pub status_of : ErrorKind → ℕ
status_of BrokenPipe = 141
status_of _ = 1

abbrev pub status : Result Unit Failure → ℕ
status (Ok _) = 0
status (Err f) = status_of (error_kind (error_of f))
