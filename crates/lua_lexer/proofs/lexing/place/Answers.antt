use Rattle.std.proofs.Common.{◌-◌, length, ap, ◌∙◌, arith, length-take-le}
use Rattle.lua_lexer.proofs.Spots.{spot_bounded, column_bounded, spot_moves}
use Rattle.lua_lexer.specs.Lines.{span, further_on}
use Rattle.lua_lexer.specs.declared.lines.Spot.{Spot}
use Rattle.lua_lexer.proofs.lexing.place.Goals as goal

pub further_on-requires-clause-line : goal.further_on-requires-clause-line
further_on-requires-clause-line c =
    let e = ap (λ (x : Spot). x.line) c.requires.spot in
    let h = spot_bounded c.requires.from in
    omega (arith, e, h, c.requires.fits, length-take-le (length c.args.from.now - length c.args.to.now) c.args.from.now)

pub further_on-requires-clause-column : goal.further_on-requires-clause-column
further_on-requires-clause-column c =
    let e = ap (λ (x : Spot). x.column) c.requires.spot in
    let h = column_bounded c.requires.from in
    omega (arith, e, h, c.requires.fits, length-take-le (length c.args.from.now - length c.args.to.now) c.args.from.now)

pub returns : goal.returns
returns c = c.further_on.ensures ∙ ap (λ (x : Spot). further_on x (span c.args.from.now c.args.to.now)) c.requires.spot ∙ spot_moves c.requires.from c.requires.to
