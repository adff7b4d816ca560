use Rattle.std.proofs.Common.{map, string_bytes, subst}
use Rattle.tlua_top.specs.declared.status.Status.TheVariants as status
use Rattle.tlua_top.specs.Output.{Reports}
use Rattle.tlua_top.specs.Defined.{Defined}
use Rattle.tlua_top.specs.Asked.{run_ending}
use Rattle.tlua_top.proofs.Delivering.{meets, meets_early, meets_report}
use Rattle.tlua_top.proofs.Soundness.{defined_sound}
use Rattle.tlua_top.proofs.top.tlua.Goals as goal

pub returns-in-Ok-Report-clause-meaning : goal.returns-in-Ok-Report-clause-meaning
returns-in-Ok-Report-clause-meaning g c = λ told text tells holds.
    let r0 = g.R.Sink.written c.args.report.now in
    let r1 = g.R.Sink.written c.report_lines.new.sink in
    meets_report (Defined (map (λ word. string_bytes word) c.args.words.now) told text) c.in-Ok-Report.status c.report_lines.result c.in-Ok-Report.line (g.O.Sink.written c.args.output.now) r0 r1
    (g.I.Source.left c.args.input.now) ((rw c.in-Ok-Report.field-0-is at c.in-Ok-Report.ensures.meaning) told text tells)
    (subst (λ l. Reports r0 r1 l c.in-Ok-Report.status c.report_lines.result) c.as_slice.ensures c.report_lines.ensures.bytes)

pub returns-in-Ok-Run-clause-meaning : goal.returns-in-Ok-Run-clause-meaning
returns-in-Ok-Run-clause-meaning g c = λ told text tells holds.
    meets (Defined (map (λ word. string_bytes word) c.args.words.now) told text) (run_ending text c.in-Ok-Run.program) c.run_program.result
    (g.O.Sink.written c.args.output.now) (g.O.Sink.written c.run_program.new.output) (g.R.Sink.written c.args.report.now) (g.R.Sink.written c.run_program.new.report)
    (g.I.Source.left c.args.input.now) ((rw c.in-Ok-Run.field-0-is at c.in-Ok-Run.ensures.meaning) told text tells) (c.run_program.ensures.bytes text)

pub returns-in-Err-ReadFault-clause-meaning : goal.returns-in-Err-ReadFault-clause-meaning
returns-in-Err-ReadFault-clause-meaning g c = λ told text tells holds.
    meets_early (Defined (map (λ word. string_bytes word) c.args.words.now) told text) status.ReadFault (g.O.Sink.written c.args.output.now) (g.R.Sink.written c.args.report.now) (g.I.Source.left c.args.input.now) tt

pub returns-in-Err-NoMemory-clause-meaning : goal.returns-in-Err-NoMemory-clause-meaning
returns-in-Err-NoMemory-clause-meaning g c = λ told text tells holds.
    meets_early (Defined (map (λ word. string_bytes word) c.args.words.now) told text) status.NoMemory (g.O.Sink.written c.args.output.now) (g.R.Sink.written c.args.report.now) (g.I.Source.left c.args.input.now) tt

pub returns-in-Ok-Report-clause-sound : goal.returns-in-Ok-Report-clause-sound
returns-in-Ok-Report-clause-sound g c = λ told text ending tells holds is. defined_sound (map (λ word. string_bytes word) c.args.words.now) told text ending is

pub returns-in-Ok-Run-clause-sound : goal.returns-in-Ok-Run-clause-sound
returns-in-Ok-Run-clause-sound g c = λ told text ending tells holds is. defined_sound (map (λ word. string_bytes word) c.args.words.now) told text ending is

pub returns-in-Err-ReadFault-clause-sound : goal.returns-in-Err-ReadFault-clause-sound
returns-in-Err-ReadFault-clause-sound g c = λ told text ending tells holds is. defined_sound (map (λ word. string_bytes word) c.args.words.now) told text ending is

pub returns-in-Err-NoMemory-clause-sound : goal.returns-in-Err-NoMemory-clause-sound
returns-in-Err-NoMemory-clause-sound g c = λ told text ending tells holds is. defined_sound (map (λ word. string_bytes word) c.args.words.now) told text ending is
