-- What words ask for, from the facts of the parts.
use Rattle.std.proofs.Common.{◌≡◌, inl, inr, ◌≤◌, List, length, Option, Some, None, Result, Ok, Err, sym, ◌∙◌, ap, subst}
use Rattle.std.specs.Prelude.{IfOk}
use Rattle.tl_base.specs.declared.place.ModuleKind.{ModuleKind}
use Rattle.tl_base.specs.declared.refusal.Refusal.{Refusal}
use Rattle.tl_base.specs.declared.refusal.RefusalCode.TheVariants as code
use Rattle.tl_edge.specs.declared.outside.FileBytes.{FileBytes}
use Rattle.tl_edge.specs.declared.outside.Found.TheVariants as found
use Rattle.tl_edge.specs.Files.{bytes_of, IsAnswer}
use Rattle.tlua_top.specs.declared.asked.Asked.{Asked}
use Rattle.tlua_top.specs.Words.{Text, file_to_run, kind_of_word}
use Rattle.tlua_top.specs.Outcome.{Ending}
use Rattle.tlua_top.specs.Phases.{refused, of_file, longest}
use Rattle.tlua_top.specs.Defined.{OfSource, OfBytes, OfWords, Defined}
use Rattle.tlua_top.specs.Asked.{ending_of}

-- a refusal's line ends the call as the refusal does
pub refused_ok : {E : Type 0} (defined : Ending → Type 0) (file input : Text) (r : Refusal) (x : Result Asked E) → defined (refused file r) → IfOk x (λ a. ending_of input a ≡ refused file r) → IfOk x (λ a. defined (ending_of input a))
refused_ok defined file input r (Ok a) d h = subst defined (sym h) d
refused_ok defined file input r (Err e) d h = tt

module _ (file input : Text) (kind : ModuleKind) (e : Ending) (r : Refusal) (out : Text) where
  pub of_missing : (o : Option Text) → IsAnswer o 1048576 found.Missing out → r ≡ of_file code.G6 → e ≡ refused file r → OfBytes file input o kind e
  of_missing None a is h = inl (r, is, h)
  of_missing (Some bytes) a is h = absurd a

  pub of_long : (o : Option Text) → IsAnswer o 1048576 found.TooLong out → r ≡ of_file code.L5 → e ≡ refused file r → OfBytes file input o kind e
  of_long None a is h = let no : ⊥ = cc a.0 in absurd no
  of_long (Some bytes) a is h = inl (r, (a.0, is), h)

pub of_whole : (file input : Text) (kind : ModuleKind) (e : Ending) (out source : Text) (o : Option Text) → IsAnswer o 1048576 found.Whole out → out ≡ source → OfSource file input kind source e → OfBytes file input o kind e
of_whole file input kind e out source None a same go = let no : ⊥ = cc a.0 in absurd no
of_whole file input kind e out source (Some bytes) a same go =
    let is : bytes ≡ source = sym a.1 ∙ same in
    inr (source, (ap Some is, subst (λ x. length x ≤ longest) is a.0), go)

-- words that ask for a file
pub words_ok : {E : Type 0} (words : List Text) (told : List FileBytes) (input file : Text) (kind : ModuleKind) (x : Result Asked E) → Some file ≡ file_to_run words → Some kind ≡ kind_of_word file
    → IfOk x (λ a. OfBytes file input (bytes_of told file) kind (ending_of input a)) → IfOk x (λ a. Defined words told input (ending_of input a))
words_ok words told input file kind (Ok a) reading ending h = subst (λ o. OfWords o told input (ending_of input a)) reading (inr (kind, sym ending, h))
words_ok words told input file kind (Err x) reading ending h = tt
