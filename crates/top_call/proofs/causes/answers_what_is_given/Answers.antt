-- Each law follows from how a run ends, and from the laws of the crates below.
use Rattle.top_call.proofs.Completes.{Laws}
use Rattle.top_call.proofs.StatusLaws.{checks-law, complete-law}
use Rattle.top_call.proofs.causes.answers_what_is_given.Goals as goal

pub returns : goal.returns
returns c =
    let laws : Laws = record {
      door_completes = c.door_completes.ensures;
      faults_are_counted = c.ends_have_causes.ensures.fault;
      schema_has_no_fault = c.schema_has_no_fault.ensures;
      file_is_one_schema = c.file_is_one_schema.ensures;
    } in
    record { checks = λ r status ends. checks-law r status ends laws; complete = λ r status ends. complete-law r status ends laws }
