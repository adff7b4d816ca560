-- Where a program's run may return, over what the outputs tell.
use Rattle.std.proofs.Common.{◌≡◌, inl, inr, List, [], ◌++◌, Option, ℕ, refl, sym, ap, ◌∙◌, subst, append-nil, arith}
use Rattle.std.specs.Io.KnownBytes.{Appends}
use Rattle.tlua_top.specs.declared.status.Status.{Status}
use Rattle.tlua_top.specs.Outcome.{Ending, Stopped, IsFront, Follows, Delivers, Meets, only_reports}
use Rattle.tlua_top.specs.Output.{Reports}
use Rattle.tlua_top.proofs.Endings.{appends_none, appends_more, consumes_none, stopped_early, stopped_ahead, stopped_in_run, ended_after, follows_more}

-- a front of a piece was written
abbrev pub Wrote : Option (List ℕ) → Option (List ℕ) → List ℕ → Type 0
Wrote old new piece = (front : List ℕ) × IsFront front piece × Appends old new front

abbrev pub Is : Ending → Ending → Type 0
Is e x = x ≡ e

module _ (e : Ending) (result : Status) (o0 o1 r0 r1 r2 : Option (List ℕ)) where
  pub nothing_written : Stopped result → Delivers (Is e) result o0 o0 r0 r0
  nothing_written stopped = ([], [], appends_none o0, appends_none r0, stopped_early (Is e) result stopped)

  pub stops_ahead : (piece : List ℕ) → piece ≡ e.ahead → Stopped result → Wrote r0 r1 piece → Delivers (Is e) result o0 o0 r0 r1
  stops_ahead piece is stopped w = ([], w.0, appends_none o0, w.2, stopped_ahead (Is e) result e refl stopped w.0 (subst (λ p. IsFront w.0 p) is w.1))

  pub stops_in_run : (ahead : List ℕ) → ahead ≡ e.ahead → Stopped result → Appends r0 r1 ahead → Wrote o0 o1 e.output → Delivers (Is e) result o0 o1 r0 r1
  stops_in_run ahead begins stopped told w = (w.0, e.ahead, w.2, subst (λ a. Appends r0 r1 a) begins told, stopped_in_run (Is e) result e refl stopped w.0 0 w.1)

  pub ends_run : (ahead out lines : List ℕ) (status : Status) → ahead ≡ e.ahead → e.output ≡ out → lines ≡ e.after → status ≡ e.status → Appends r0 r1 ahead → Appends o0 o1 out → Reports r1 r2 lines status result
      → Delivers (Is e) result o0 o1 r0 r2
  ends_run ahead out lines status begins wrote is ends told written reported = (
    e.output,
    e.ahead ++ reported.front,
    subst (λ x. Appends o0 o1 x) (sym wrote) written,
    appends_more r0 r1 r2 e.ahead reported.front (subst (λ a. Appends r0 r1 a) begins told) reported.wrote,
    ended_after (Is e) result e refl reported.front 0 (subst (λ p. IsFront reported.front p) is reported.is_front)
        (elim reported.ends [ inl stopped ↦ inl stopped | inr h ↦ inr (h.0 ∙ ends, h.1 ∙ is) ]),
  )

-- the input is left alone
pub meets : (defined : Ending → Type 0) (e : Ending) (result : Status) (o0 o1 r0 r1 i : Option (List ℕ)) → defined e → Delivers (Is e) result o0 o1 r0 r1 → Meets defined result o0 o1 r0 r1 i i
meets defined e result o0 o1 r0 r1 i is d =
    (d.0, d.1, [], d.2, d.3, consumes_none i, follows_more (Is e) defined result d.0 d.1 0 (λ x same. subst defined (sym same) is) d.4)

-- nothing runs, and one line is reported
pub meets_report : (defined : Ending → Type 0) (status result : Status) (line : List ℕ) (o r0 r1 i : Option (List ℕ)) → defined (only_reports status line) → Reports r0 r1 line status result
    → Meets defined result o o r0 r1 i i
meets_report defined status result line o r0 r1 i is w = (
  [],
  w.front,
  [],
  appends_none o,
  w.wrote,
  consumes_none i,
  elim w.ends [
    | inl stopped ↦ stopped_ahead defined result (only_reports status line) is stopped w.front w.is_front
    | inr ends ↦ reported ends
  ],
)
  where
    reported : (result ≡ status) × (w.front ≡ line) → Follows defined result [] w.front 0
    reported ends = inr (
      only_reports status line,
      is,
      record {
        settled = inr (ends.0, refl, ends.1 ∙ sym (append-nil line));
        output = ([], refl);
        report = ([], sym (append-nil (line ++ [])) ∙ ap (λ l. l ++ []) (append-nil line ∙ sym ends.1));
        ahead_first = λ some. absurd (omega (arith, some));
        output_first = λ longer. refl;
      },
    )

-- nothing was written or read
pub meets_early : (defined : Ending → Type 0) (result : Status) (o r i : Option (List ℕ)) → Stopped result → Meets defined result o o r r i i
meets_early defined result o r i stopped = ([], [], [], appends_none o, appends_none r, consumes_none i, stopped_early defined result stopped)
