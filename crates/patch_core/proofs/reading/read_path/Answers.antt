use Rattle.std.proofs.lemmas.Result.{err_from_is_err_and}
use Rattle.pointer_core.specs.declared.pointer.Pointer.{Pointer}
use Rattle.patch_core.proofs.Readings.{path_refused}
use Rattle.patch_core.proofs.reading.read_path.Goals as goal

pub returns-in_err-parse-clause-err : goal.returns-in_err-parse-clause-err
returns-in_err-parse-clause-err c =
    let p = err_from_is_err_and c.from_residual.result c.from_residual.ensures.1 in
    rw (p.1, p.2) (path_refused Pointer c.args.text.now c.in_err-parse.field-0.0 c.in_err-parse.ensures.fault)
