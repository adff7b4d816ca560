use Rattle.std.proofs.Common.{◌≡◌, ◌∙◌, ap, sym, None, Some}
use Rattle.std.proofs.lemmas.Result.{err_from_is_err_and}
use Rattle.std.specs.List.{slice_get}
use Rattle.std.specs.Prelude.{slice_set}
use Rattle.tl_rules.specs.Locals.{local_with}
use Rattle.lua_tree.specs.View.{exp_of}
use Rattle.tl_check.specs.Answers.{typed_view, declared_in}
use Rattle.tl_check.proofs.Combined.{put_nowhere, put_refused, put_there}
use Rattle.tl_check.proofs.locals.put.Goals as goal

pub returns-in-None : goal.returns-in-None
returns-in-None c = λ uses.
    let known : None ≡ declared_in (slice_get c.args.env.now.items c.args.local) = sym c.in-None.is ∙ (c.in_ok-declared.ensures ∙ ap (λ z. declared_in (slice_get z c.args.local)) c.as_slice.ensures.value) in
    rw c.refused_at.ensures (put_nowhere uses (slice_get c.args.env.now.items c.args.local) c.args.local c.args.pos (exp_of c.args.target) (typed_view c.args.env.now.items c.args.typed) known)

pub returns-in_err-ty-in-Some : goal.returns-in_err-ty-in-Some
returns-in_err-ty-in-Some c = λ uses.
    let known : Some c.in-Some.declared ≡ declared_in (slice_get c.args.env.now.items c.args.local) = sym c.in-Some.is ∙ (c.in_ok-declared.ensures ∙ ap (λ z. declared_in (slice_get z c.args.local)) c.as_slice.ensures.value) in
    let p = err_from_is_err_and c.from_residual-in_err-ty-in-Some.result c.from_residual-in_err-ty-in-Some.ensures.1 in rw (p.1, p.2)
    (put_refused uses c.args.env.now.items c.args.env.now.items (slice_get c.args.env.now.items c.args.local) c.args.local c.args.pos (exp_of c.args.target) c.args.typed c.in-Some.declared _ known c.in_err-ty-in-Some.ensures)

pub returns-in_ok-values-in-Some : goal.returns-in_ok-values-in-Some
returns-in_ok-values-in-Some c = λ uses.
    let known : Some c.in-Some.declared ≡ declared_in (slice_get c.args.env.now.items c.args.local) = sym c.in-Some.is ∙ (c.in_ok-declared.ensures ∙ ap (λ z. declared_in (slice_get z c.args.local)) c.as_slice.ensures.value) in
    let stored : c.replace.new.env.items ≡ slice_set c.args.env.now.items c.args.local (local_with c.in-Some.declared c.in_ok-ty-in-Some.field-0.ty) = cc (c.replace.ensures, c.holding.ensures) in
    put_there uses c.args.env.now.items c.replace.new.env.items (slice_get c.args.env.now.items c.args.local) c.args.local c.args.pos c.args.target c.args.typed c.in_ok-ty-in-Some.field-0 c.in-Some.declared c.in_ok-targets-in-Some.targets c.in_ok-values-in-Some.values
    known c.in_ok-ty-in-Some.ensures stored c.in_ok-targets-in-Some.ensures (cc c.in_ok-values-in-Some.ensures)
