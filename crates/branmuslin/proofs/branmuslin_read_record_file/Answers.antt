-- What the reader told says how it ended; only an impossible record changes the index.
use Rattle.std.proofs.Common.{◌≡◌, ◌∙◌, ap, sym, Err}
use mathlib.Core.Path.{subst}
use Rattle.record.specs.declared.FileFault.TheVariants as fault
use Rattle.branmuslin.proofs.Cases.{file_ends, index_set}
use Rattle.branmuslin.proofs.branmuslin_read_record_file.Goals as goal

pub returns-in-Err-Impossible-clause-index_after : goal.returns-in-Err-Impossible-clause-index_after
returns-in-Err-Impossible-clause-index_after c =
    let is = c.in-Err-Impossible in
    index_set c.args.octets.now c.args.index.now is.i c.read_record_file-file.result c.read_record_file-file.ensures
    (subst (λ f. f ≡ Err (fault.Impossible is.i)) (sym is.is) (ap Err (rw is.is at is.field-0-is)))

pub returns-2-clause-records_after : goal.returns-2-clause-records_after
returns-2-clause-records_after c =
    c.leave-number.ensures.lent_after ∙ (file_ends c.args.octets.now c.args.records.now _ c.read_record_file-file.ensures _ c.map_err.ensures.cases).1
