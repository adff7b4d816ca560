use Rattle.std.proofs.Common.{ap, sym, ◌∙◌}
use Rattle.lua_lexer.proofs.Founds.{cut_numeral_at}
use Rattle.lua_lexer.specs.Pieces.{Numeral}
use Rattle.lua_lexer.specs.Tokens.{Means, Faults}
use mir.Syntax.{w64}
use Rattle.std.proofs.Common.{Some}
use Rattle.std.proofs.lemmas.Int.{to_z-of_z}
use Rattle.lua_lexer.proofs.pieces.numeral.Goals as goal

pub returns-in-None : goal.returns-in-None
returns-in-None c =
    Faults.bad_numeral (cut_numeral_at c.args.first c.is_hexadecimal.result c.is_hexadecimal.ensures c.requires.begins c.requires.front c.behind_numeral-rest.ensures.value) (sym c.in-None.ensures.value)

pub returns-in-Some : goal.returns-in-Some
returns-in-Some c =
    (Numeral, cut_numeral_at c.args.first c.is_hexadecimal.result c.is_hexadecimal.ensures c.requires.begins c.requires.front c.behind_numeral-rest.ensures.value, Means.integer _ (sym c.in-Some.ensures.value ∙ ap (λ x. Some x) (sym (to_z-of_z w64 c.in-Some.value c.in-Some.ensures.fits))))
