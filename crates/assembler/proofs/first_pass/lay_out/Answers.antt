use Rattle.std.proofs.Common.{◌≡◌, ◌+◌, ◌-◌, ◌++◌, ◌∷◌, [], Ok, take, drop, ap, sym, ◌∙◌, length, length-drop, arith, refl}
use Rattle.std.specs.Option.{option_to_list}
use Rattle.std.proofs.lemmas.List.{length_push, take_all}
use Rattle.model.specs.Layout.{Context, layout_of}
use Rattle.model.specs.TextLines.{lines_of}
use Rattle.assembler.specs.Found.{Found, with_line_found}
use Rattle.assembler.specs.FoundLines.{found_of}
use Rattle.assembler.specs.declared.found.Lines.{Lines}
use Rattle.assembler.proofs.FirstPass.{starts, goes_on, ends, done}
use Rattle.assembler.proofs.LineTexts.{cut_step, here_step, named_step, no_texts, on_ok_mapped, paired_step, text_noted, texts_step}
use Rattle.assembler.proofs.first_pass.lay_out.Goals as goal

pub loop-start-init : goal.loop-start-init
loop-start-init c =
    let e = c.new-laid.ensures in
    record {
      same = starts c.args.profile (found_of c.new-laid.result.lines) c.args.symbols.now c.args.source.now e.found c.requires.empty;
      texts = rw (e.texts, e.labels) (no_texts c.args.profile c.args.source.now);
      here = rw e.texts refl;
      paired = ap length e.texts ∙ sym (ap (λ (f : Found). length f.extents) e.found);
      named = ap length e.labels ∙ sym (ap length c.requires.empty);
      counted = omega (arith, ap length e.texts);
      within = omega arith;
      room = omega arith;
      near = omega arith;
    }

pub loop-start-preserved : goal.loop-start-preserved
loop-start-preserved c =
    let l = c.loop-start in
    let source = c.args.source.now in
    let whole : take (length source - l.start) (drop l.start source) ≡ drop l.start source =
    take_all _ (drop l.start source) (omega (arith, length-drop l.start source)) in
    let len = c.first_line-len.result.0 in
    let size = c.first_line-len.result.1 in
    let line = take len (drop l.start source) in
    let taken = c.in-Ok.taken in
    let before : Context = record { profile = c.args.profile; address = l.address; names = l.symbols } in
    let next : Context = record { profile = c.args.profile; address = taken.next; names = c.take_line.new.symbols } in
    let found = found_of l.laid.lines in
    let new = c.note.new.self in
    let e = c.in-Ok.ensures.exact in
    let cut : lines_of (drop l.start source) ≡ line ∷ lines_of (drop (l.start + size) source) =
    cut_step source line l.start size (rw whole at c.first_line-len.ensures.cut) in
    let laid : with_line_found l.number found (layout_of before line) ≡ Ok (found_of new.lines, next) =
    (rw whole at e.0) ∙ ap (λ (ls : Lines). Ok (found_of ls, next)) (sym c.note.ensures.found) in
    let made = c.in_ok-map_err-in-Ok.was in
    let noted : new.texts.items ≡ l.laid.texts.items ++ text_noted l.start len taken.is_instruction ∷ [] =
    on_ok_mapped c.note.result c.map_err.result _ _ c.map_err.ensures.variant made c.note.ensures.texts in
    let told : new.labels.items ≡ l.laid.labels.items ++ option_to_list taken.is_label =
    on_ok_mapped c.note.result c.map_err.result _ _ c.map_err.ensures.variant made c.note.ensures.labels in
    record {
      same = goes_on c.args.profile l.number before next found (found_of new.lines) (drop l.start source) line (drop (l.start + size) source) _ cut
          laid (sym (rw whole at e.1) ∙ c.if-taken.false) l.invariant.same;
      texts = texts_step c.args.profile source l.start len (lines_of (drop (l.start + size) source)) l.laid.texts.items new.texts.items
          l.laid.labels.items new.labels.items taken.is_instruction taken.is_label l.invariant.texts l.invariant.here cut (rw whole at e.2)
          (rw whole at e.3) noted told;
      here = here_step source line l.start (l.start + size) l.laid.texts.items new.texts.items (text_noted l.start len taken.is_instruction)
          l.invariant.here cut noted;
      paired = paired_step l.number found (found_of new.lines) before next line l.laid.texts.items new.texts.items
          (text_noted l.start len taken.is_instruction) laid noted l.invariant.paired;
      named = named_step l.number found (found_of new.lines) before next line l.laid.labels.items new.labels.items taken.is_label laid
          (rw whole at e.3) told l.invariant.named;
      counted = omega (arith, ap length noted, length_push l.laid.texts.items (text_noted l.start len taken.is_instruction), l.invariant.counted);
      within = omega (arith, c.first_line-len.ensures.inside, length-drop l.start source, l.invariant.within);
      room = omega (arith, c.first_line-len.ensures.some, l.invariant.room);
      near = omega (arith, c.first_line-len.ensures.some, c.in-Ok.ensures.near, l.invariant.near);
    }

pub returns-then-taken-clause-found : goal.returns-then-taken-clause-found
returns-then-taken-clause-found c =
    let l = c.loop-start in
    let source = c.args.source.now in
    let whole : take (length source - l.start) (drop l.start source) ≡ drop l.start source =
    take_all _ (drop l.start source) (omega (arith, length-drop l.start source)) in
    let size = c.first_line-len.result.1 in
    let line = take c.first_line-len.result.0 (drop l.start source) in
    let before : Context = record { profile = c.args.profile; address = l.address; names = l.symbols } in
    let next : Context = record { profile = c.args.profile; address = c.in-Ok.taken.next; names = c.take_line.new.symbols } in
    let found = found_of l.laid.lines in
    let new = c.note.new.self in
    let e = c.in-Ok.ensures.exact in
    let cut : lines_of (drop l.start source) ≡ line ∷ lines_of (drop (l.start + size) source) =
    cut_step source line l.start size (rw whole at c.first_line-len.ensures.cut) in
    let laid : with_line_found l.number found (layout_of before line) ≡ Ok (found_of new.lines, next) =
    (rw whole at e.0) ∙ ap (λ (ls : Lines). Ok (found_of ls, next)) (sym c.note.ensures.found) in (
      c.in-Ok.taken.next,
      ends c.args.profile l.number before next found (found_of new.lines) (drop l.start source) line (drop (l.start + size) source)
          _ cut laid (sym (rw whole at e.1) ∙ c.if-taken.true) l.invariant.same,
    )

pub returns-then-taken-clause-texts : goal.returns-then-taken-clause-texts
returns-then-taken-clause-texts c =
    let l = c.loop-start in
    let source = c.args.source.now in
    let whole : take (length source - l.start) (drop l.start source) ≡ drop l.start source =
    take_all _ (drop l.start source) (omega (arith, length-drop l.start source)) in
    let len = c.first_line-len.result.0 in
    let size = c.first_line-len.result.1 in
    let line = take len (drop l.start source) in
    let taken = c.in-Ok.taken in
    let new = c.note.new.self in
    let e = c.in-Ok.ensures.exact in
    let cut : lines_of (drop l.start source) ≡ line ∷ lines_of (drop (l.start + size) source) =
    cut_step source line l.start size (rw whole at c.first_line-len.ensures.cut) in
    let made = c.in_ok-map_err-in-Ok.was in
    let noted : new.texts.items ≡ l.laid.texts.items ++ text_noted l.start len taken.is_instruction ∷ [] =
    on_ok_mapped c.note.result c.map_err.result _ _ c.map_err.ensures.variant made c.note.ensures.texts in
    let told : new.labels.items ≡ l.laid.labels.items ++ option_to_list taken.is_label =
    on_ok_mapped c.note.result c.map_err.result _ _ c.map_err.ensures.variant made c.note.ensures.labels in
    texts_step c.args.profile source l.start len (lines_of (drop (l.start + size) source)) l.laid.texts.items new.texts.items l.laid.labels.items
    new.labels.items taken.is_instruction taken.is_label l.invariant.texts l.invariant.here cut (rw whole at e.2) (rw whole at e.3) noted told

pub returns-then-taken-clause-named : goal.returns-then-taken-clause-named
returns-then-taken-clause-named c =
    let l = c.loop-start in
    let source = c.args.source.now in
    let whole : take (length source - l.start) (drop l.start source) ≡ drop l.start source =
    take_all _ (drop l.start source) (omega (arith, length-drop l.start source)) in
    let line = take c.first_line-len.result.0 (drop l.start source) in
    let taken = c.in-Ok.taken in
    let before : Context = record { profile = c.args.profile; address = l.address; names = l.symbols } in
    let next : Context = record { profile = c.args.profile; address = taken.next; names = c.take_line.new.symbols } in
    let new = c.note.new.self in
    let e = c.in-Ok.ensures.exact in
    let told : new.labels.items ≡ l.laid.labels.items ++ option_to_list taken.is_label =
    on_ok_mapped c.note.result c.map_err.result _ _ c.map_err.ensures.variant c.in_ok-map_err-in-Ok.was c.note.ensures.labels in
    named_step l.number (found_of l.laid.lines) (found_of c.take_line.new.lines) before next line l.laid.labels.items new.labels.items taken.is_label
    (rw whole at e.0) (rw whole at e.3) told l.invariant.named

pub returns-clause-found : goal.returns-clause-found
returns-clause-found c =
    let l = c.loop-start in (
      l.address,
      done c.args.profile l.number (record { profile = c.args.profile; address = l.address; names = l.symbols }) (found_of l.laid.lines)
          (drop l.start c.args.source.now) _ (omega (arith, length-drop l.start c.args.source.now, c.loop-start-test.false)) l.invariant.same,
    )
