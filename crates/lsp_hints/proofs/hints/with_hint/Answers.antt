use Rattle.std.proofs.Common.{◌∙◌, ◌++◌, [], ℕ, Bool, List, Option, ap, if◌then◌else◌, subst, sym}
use Rattle.std.specs.Option.{option_map}
use Rattle.json_messages.specs.ValueLists.{HasValues}
use Rattle.lsp_hints.specs.Hints.{hints_by, line_hints, place_words}
use Rattle.model.specs.declared.instruction.Row.{Row}
use Rattle.source_faults.specs.Views.{found_view}
use Rattle.source_notes.specs.Lines.{texts_of}
use Rattle.lsp_hints.proofs.hints.with_hint.Goals as goal

pub returns-in-Some : goal.returns-in-Some
returns-in-Some c ds has =
    let lines = texts_of c.args.lines.now in
    let place = (found_view c.args.found.now).place in
    let told = ap (option_map (λ (place : ℕ × Option Row). place_words place.0 place.1)) (sym c.in-Some.is) ∙ c.place_of.ensures in
    let put = c.with.ensures ds _ has (c.build-hint.ensures _
    (c.member.ensures _ _ (c.flag.ensures _ (c.text.ensures _ _ c.new.ensures c.from_utf8_lossy-label.ensures.lossy)) c.position.ensures)) in
    subst (λ (is : Bool). HasValues (ds ++ (if is then line_hints c.args.profile lines c.args.index place else [])) c.with.result)
    (sym c.if-is_between.true ∙ c.is_between.ensures)
    (subst (λ (words : Option (List ℕ)). HasValues (ds ++ hints_by lines c.args.index words) c.with.result) told
    (rw (← c.width_of-width.ensures, ← c.place_words.ensures, ← c.deref.ensures.0) put))
