use Rattle.std.proofs.Common.{◌∙◌, List, ℕ, ◌++◌, codes, subst}
use Rattle.arguments.specs.FaultLines.{line_of}
use Rattle.model.specs.Writers.{AppendsFront}
use Rattle.word_page.specs.declared.wording.TheConstants.{NO_NOTE}
use Rattle.word_page.proofs.notes.tell_no_note.Goals as goal

pub returns : goal.returns
returns g c =
    let Told : List ℕ → Type 0 = λ rest. AppendsFront (g.E.Write.contents c.args.errors.now) (g.E.Write.contents c.put_named.new.errors)
    (line_of c.args.file.now (codes ": NOTES line " ++ rest)) in
    let worded = subst (λ (text : List ℕ). Told (c.as_slice.result.now ++ text)) c.as_bytes.ensures.value c.put_named.ensures in
    subst (λ (digits : List ℕ). Told (digits ++ NO_NOTE.now)) (c.as_slice.ensures.value ∙ c.number_text-number.ensures) worded
