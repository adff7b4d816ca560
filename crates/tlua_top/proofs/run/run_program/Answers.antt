use Rattle.std.proofs.Common.{sym, ◌∙◌, ap}
use Rattle.lua_meaning.specs.Programs.{module_of}
use Rattle.tlua_top.specs.Defined.{run_of, status_of}
use Rattle.tlua_top.specs.Asked.{run_ending}
use Rattle.tlua_top.specs.Serving.{over_of, lines_after}
use Rattle.tlua_top.proofs.Delivering.{stops_ahead, stops_in_run, ends_run}
use Rattle.tlua_top.proofs.Serving.{after_is, stops_call}
use Rattle.tlua_top.proofs.run.run_program.Goals as goal

pub returns-in-Err-write_all-clause-bytes : goal.returns-in-Err-write_all-clause-bytes
returns-in-Err-write_all-clause-bytes g c = λ input.
    let o = g.O.Sink.written c.args.output.now in
    let r0 = g.R.Sink.written c.args.report.now in
    let r1 = g.R.Sink.written c.write_all.new.sink in
    stops_ahead (run_ending input c.args.program) c.stopped_by.result o o r0 r1 r1 c.as_slice.result.now (c.as_slice.ensures ∙ c.in-Ok.ensures.ahead) c.stopped_by.ensures.stopped c.in-Err-write_all.ensures.bytes

pub returns-in-Ok-serve-clause-bytes : goal.returns-in-Ok-serve-clause-bytes
returns-in-Ok-serve-clause-bytes g c = λ input.
    let p = c.args.program in
    let whole = run_of p.file input (module_of p.scoped) in
    let served = c.in-Ok-serve.ensures.bytes input whole (c.in-Ok.ensures.runs input) in
    let over = c.in-Ok-serve.over in
    let machine = c.serve.new.machine in
    let file = c.as_slice-in-Ok-serve.result.now in
    ends_run (run_ending input p) c.report_end.result (g.O.Sink.written c.args.output.now) (g.O.Sink.written c.serve.new.output) (g.R.Sink.written c.args.report.now) (g.R.Sink.written c.write_all.new.sink)
    (g.R.Sink.written c.report_end.new.report) c.as_slice.result.now served.0 (lines_after file over machine) (status_of (over_of over)) (c.as_slice.ensures ∙ c.in-Ok.ensures.ahead) served.2.output
    (after_is p.file file served.0 p.crossings whole over machine (c.as_slice-in-Ok-serve.ensures ∙ c.in-Ok.ensures.file) served.2) (ap status_of (sym served.2.ending)) c.in_default.ensures.bytes served.1 c.report_end.ensures.bytes

pub returns-clause-bytes : goal.returns-clause-bytes
returns-clause-bytes g c = λ input.
    let p = c.args.program in
    let served = c.in-Err-serve.ensures.bytes input (run_of p.file input (module_of p.scoped)) (c.in-Ok.ensures.runs input) in
    let r1 = g.R.Sink.written c.write_all.new.sink in
    stops_in_run (run_ending input p) c.in-Err-serve.status (g.O.Sink.written c.args.output.now) (g.O.Sink.written c.serve.new.output) (g.R.Sink.written c.args.report.now) r1 r1
    c.as_slice.result.now (c.as_slice.ensures ∙ c.in-Ok.ensures.ahead) (stops_call c.in-Err-serve.status c.in-Err-serve.ensures.stops) c.in_default.ensures.bytes served
