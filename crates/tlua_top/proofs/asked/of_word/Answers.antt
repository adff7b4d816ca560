use Rattle.std.proofs.Common.{sym}
use Rattle.tl_edge.specs.Files.{bytes_of}
use Rattle.tlua_top.specs.Asked.{ending_of}
use Rattle.tlua_top.proofs.Asking.{of_missing, of_long, of_whole}
use Rattle.tlua_top.proofs.asked.of_word.Goals as goal

pub returns-in-Ok-Whole-clause-meaning : goal.returns-in-Ok-Whole-clause-meaning
returns-in-Ok-Whole-clause-meaning g c = λ told input is.
    let answer = (rw c.in-Ok-Whole.field-0-is at c.in-Ok-Whole.ensures.bytes) in
    of_whole c.args.file.now input c.args.kind (ending_of input c.in_ok-of_bytes-in-Ok-Whole.field-0) c.read.new.out.items c.as_slice.result.now (bytes_of told c.args.file.now) (answer.1 told is)
    (sym c.as_slice.ensures.value) (c.in_ok-of_bytes-in-Ok-Whole.ensures.meaning input)

pub returns-in-Ok-Missing-clause-meaning : goal.returns-in-Ok-Missing-clause-meaning
returns-in-Ok-Missing-clause-meaning g c = λ told input is.
    let answer = (rw c.in-Ok-Missing.field-0-is at c.in-Ok-Missing.ensures.bytes) in
    of_missing c.args.file.now input c.args.kind (ending_of input c.in_ok-refused-in-Ok-Missing.field-0) c.of_file.result c.read.new.out.items (bytes_of told c.args.file.now) (answer.1 told is)
    c.of_file.ensures (c.in_ok-refused-in-Ok-Missing.ensures.meaning input)

pub returns-in-Ok-TooLong-clause-meaning : goal.returns-in-Ok-TooLong-clause-meaning
returns-in-Ok-TooLong-clause-meaning g c = λ told input is.
    let answer = (rw c.in-Ok-TooLong.field-0-is at c.in-Ok-TooLong.ensures.bytes) in
    of_long c.args.file.now input c.args.kind (ending_of input c.in_ok-refused-in-Ok-TooLong.field-0) c.of_file-in-Ok-TooLong.result c.read.new.out.items (bytes_of told c.args.file.now) (answer.1 told is)
    c.of_file-in-Ok-TooLong.ensures (c.in_ok-refused-in-Ok-TooLong.ensures.meaning input)
