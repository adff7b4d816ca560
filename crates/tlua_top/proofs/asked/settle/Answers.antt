use Rattle.std.proofs.Common.{map, string_bytes}
use Rattle.tlua_top.proofs.Asking.{words_ok}
use Rattle.tlua_top.proofs.asked.settle.Goals as goal

pub returns-in-Some-kind_of_word-clause-meaning : goal.returns-in-Some-kind_of_word-clause-meaning
returns-in-Some-kind_of_word-clause-meaning g c = λ told input is.
    words_ok (map (λ word. string_bytes word) c.args.words.now) told input c.in-Some.file.now c.in-Some-kind_of_word.kind c.of_word.result c.in-Some.ensures c.in-Some-kind_of_word.ensures (c.of_word.ensures.meaning told input is)
