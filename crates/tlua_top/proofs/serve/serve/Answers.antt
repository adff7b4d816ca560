use Rattle.std.proofs.Common.{arith}
use Rattle.tlua_top.proofs.Serving.{writes, cuts, stays, over_done, over_raised, over_spent}
use Rattle.tlua_top.proofs.serve.serve.Goals as goal

pub returns-in-Err-write_all-clause-bytes : goal.returns-in-Err-write_all-clause-bytes
returns-in-Err-write_all-clause-bytes g c = λ input whole comes.
    let so_far = c.events.invariant.bytes input whole comes in
    cuts c.events.machine c.advance.new.self so_far.0 input c.in-Ok-Output.text c.bytes.result.now whole (g.O.Sink.written c.args.output.now) (g.O.Sink.written c.events.output) (g.O.Sink.written c.write_all.new.sink)
    c.bytes.ensures so_far.1 c.in-Err-write_all.ensures.bytes (rw c.in-Ok-Output.field-0-is at c.in-Ok-Output.ensures.ok) so_far.2

pub events-preserved : goal.events-preserved
events-preserved g c = record {
  bytes = λ input whole comes.
      let so_far = c.events.invariant.bytes input whole comes in
      writes c.events.machine c.advance.new.self so_far.0 input c.in-Ok-Output.text c.bytes.result.now whole (g.O.Sink.written c.args.output.now) (g.O.Sink.written c.events.output) (g.O.Sink.written c.write_all.new.sink)
      c.bytes.ensures so_far.1 c.in_default.ensures.bytes (rw c.in-Ok-Output.field-0-is at c.in-Ok-Output.ensures.ok) so_far.2;
  later = omega (arith, c.events.invariant.later, c.write_all.ensures.cause.later);
}

pub returns-in-Ok-Done-clause-bytes : goal.returns-in-Ok-Done-clause-bytes
returns-in-Ok-Done-clause-bytes g c = λ input whole comes.
    let so_far = c.events.invariant.bytes input whole comes in
    (so_far.0, so_far.1, over_done c.events.machine c.advance.new.self so_far.0 input whole (rw c.in-Ok-Done.field-0-is at c.in-Ok-Done.ensures.ok) so_far.2)

pub returns-in-Ok-Raised-clause-bytes : goal.returns-in-Ok-Raised-clause-bytes
returns-in-Ok-Raised-clause-bytes g c = λ input whole comes.
    let so_far = c.events.invariant.bytes input whole comes in
    (so_far.0, so_far.1, over_raised c.events.machine c.advance.new.self so_far.0 input whole c.in-Ok-Raised.value (rw c.in-Ok-Raised.field-0-is at c.in-Ok-Raised.ensures.ok) so_far.2)

pub returns-in-Ok-Spent-clause-bytes : goal.returns-in-Ok-Spent-clause-bytes
returns-in-Ok-Spent-clause-bytes g c = λ input whole comes.
    let so_far = c.events.invariant.bytes input whole comes in
    (so_far.0, so_far.1, over_spent c.events.machine c.advance.new.self so_far.0 input whole (rw c.in-Ok-Spent.field-0-is at c.in-Ok-Spent.ensures.ok) so_far.2)

pub returns-in-Err-clause-bytes : goal.returns-in-Err-clause-bytes
returns-in-Err-clause-bytes g c = λ input whole comes.
    let so_far = c.events.invariant.bytes input whole comes in
    stays c.events.machine so_far.0 input whole (g.O.Sink.written c.args.output.now) (g.O.Sink.written c.events.output) so_far.1 so_far.2

pub returns-clause-bytes : goal.returns-clause-bytes
returns-clause-bytes g c = λ input whole comes.
    let so_far = c.events.invariant.bytes input whole comes in
    stays c.events.machine so_far.0 input whole (g.O.Sink.written c.args.output.now) (g.O.Sink.written c.events.output) so_far.1 so_far.2
