use Rattle.std.proofs.Common.{◌≡◌, ◌∙◌, sym, reverse, take}
use Rattle.std.proofs.lemmas.List.{length-reverse}
use Rattle.lua_machine.proofs.Levels.{count_levels}
use Rattle.lua_machine.proofs.frames.Frames.waiting.Goals as goal

pub returns : goal.returns
returns c =
    rw (← c.self.view_is) (c.len.ensures ∙ c.self.inside.waiting.ok.0 ∙ sym (
    count_levels (reverse c.self.inside.waiting.items) (take c.self.inside.running.slots c.self.inside.slots.items) (take c.self.inside.running.stack c.self.inside.stack.items)
    ∙ length-reverse c.self.inside.waiting.items))
