use Rattle.std.proofs.Common.{◌≡◌, ◌++◌, ap, sym, ◌∙◌}
use Rattle.lua_values.specs.Shown.{shown_text}
use Rattle.lua_machine.specs.Calls.{printed_on}
use Rattle.lua_machine.proofs.Begin.{printed_from, behind_first}
use Rattle.lua_machine.proofs.calls.printed.Goals as goal

pub returns-in_ok-text-in-Some : goal.returns-in_ok-text-in-Some
returns-in_ok-text-in-Some c = c.in_ok-text-in-Some.ensures ∙ ap (λ us. shown_text c.in-Some.value.now ++ printed_on us) (behind_first c.args.values.now) ∙ sym (printed_from c.in-Some.value.now c.args.values.now c.in-Some.ensures.value)
