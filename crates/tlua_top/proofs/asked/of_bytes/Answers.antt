use Rattle.tlua_top.specs.Defined.{OfSource}
use Rattle.tlua_top.proofs.Asking.{refused_ok}
use Rattle.tlua_top.proofs.asked.of_bytes.Goals as goal

pub returns-in-Err-Refused-clause-meaning : goal.returns-in-Err-Refused-clause-meaning
returns-in-Err-Refused-clause-meaning c = λ input.
    refused_ok (OfSource c.args.file.now input c.args.kind c.args.source.now) c.args.file.now input c.in-Err-Refused.refusal c.refused.result
    ((rw c.in-Err-Refused.field-0-is at c.in-Err-Refused.ensures) input) (c.refused.ensures.meaning input)
