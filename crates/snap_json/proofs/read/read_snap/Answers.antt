use Rattle.std.proofs.Common.{◌≡◌, ◌≤◌, ap, ◌∙◌}
use Rattle.std.proofs.lemmas.Result.{IfOk-weaker, IfErr-weaker}
use Rattle.serde_json.specs.View.{view as data_view}
use Rattle.snap_core.specs.Value.{IsPlain, depth_of}
use Rattle.snap_core.specs.View.{view}
use Rattle.snap_json.specs.Fault.{IfWhole}
use Rattle.snap_json.specs.Reading.{reading, value, unwhole, value_of, found}
use Rattle.snap_json.proofs.Readings.{reading-utf8, reading-refused, plain_read, depth_read, whole_read, syntax_read}
use Rattle.snap_json.proofs.read.read_snap.Goals as goal

pub returns-in-Ok-clause-ok : goal.returns-in-Ok-clause-ok
returns-in-Ok-clause-ok c =
    let bytes = c.args.bytes.now in
    let is = c.in-Ok.ensures.ok in
    IfOk-weaker c.snap_of.result _ (λ snap. reading bytes ≡ value (view snap)) (λ snap e. reading-utf8 bytes (data_view c.in-Ok.value) is.0 is.1 ∙ ap found e) c.snap_of.ensures.ok

pub returns-in-Ok-clause-plain : goal.returns-in-Ok-clause-plain
returns-in-Ok-clause-plain c =
    IfOk-weaker c.snap_of.result _ (λ snap. IsPlain (view snap)) (λ snap e. plain_read c.args.bytes.now (data_view c.in-Ok.value) (view snap) c.in-Ok.ensures.ok.1 e) c.snap_of.ensures.ok

pub returns-in-Ok-clause-depth : goal.returns-in-Ok-clause-depth
returns-in-Ok-clause-depth c =
    IfOk-weaker c.snap_of.result _ (λ snap. depth_of (view snap) ≤ 128) (λ snap e. depth_read (data_view c.in-Ok.value) (view snap) c.in-Ok.ensures.nests e) c.snap_of.ensures.ok

pub returns-in-Ok-clause-whole : goal.returns-in-Ok-clause-whole
returns-in-Ok-clause-whole c =
    let bytes = c.args.bytes.now in
    let is = c.in-Ok.ensures.ok in
    IfErr-weaker c.snap_of.result _ (λ e. IfWhole e (λ path. reading bytes ≡ unwhole path)) (λ e fault. whole_read e bytes (value_of (data_view c.in-Ok.value)) (reading-utf8 bytes (data_view c.in-Ok.value) is.0 is.1) fault) c.snap_of.ensures.err

pub returns-in-Err-clause-syntax : goal.returns-in-Err-clause-syntax
returns-in-Err-clause-syntax c = syntax_read c.refusal.result _ _ (λ apart. reading-refused c.args.bytes.now (c.in-Err.ensures.err apart)) c.refusal.ensures.syntax
