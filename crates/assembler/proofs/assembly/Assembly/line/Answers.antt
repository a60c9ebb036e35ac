use Rattle.std.proofs.Common.{◌≡◌, ◌+◌, ℕ, List, None, Some, ap, sym, ◌∙◌}
use Rattle.std.specs.Prelude.{slice_get}
use Rattle.std.specs.Option.{option_map}
use Rattle.line_parts.specs.Spans.{pair_of}
use Rattle.line_parts.specs.declared.span.Span.{Span}
use Rattle.assembler.specs.declared.source_line.LineText.{LineText}
use Rattle.assembler.specs.Assembly.{AssemblyView, source_lines}
use Rattle.assembler.specs.Lines.{line_view}
use Rattle.assembler.specs.Texts.{text_in}
use Rattle.assembler.proofs.LineTexts.{line_as, line_there, none_there}
use Rattle.assembler.proofs.assembly.Assembly.line.Goals as goal

pub returns-in_err-span : goal.returns-in_err-span
returns-in_err-span c =
    let i = c.self.inside in
    let none : slice_get i.spans.items c.args.index ≡ None =
    ap (λ (s : List Span). slice_get s c.args.index) (sym c.deref.ensures.value) ∙ (sym c.item_at.ensures ∙ c.in_err-span.was) in
    let gone : c.from_residual.result ≡ None = c.from_residual.ensures in
    ap (option_map line_view) gone ∙ (sym (none_there i.source.items i.spans.items i.texts.items c.args.index i.paired i.cut none)
    ∙ ap (λ (a : AssemblyView). slice_get (source_lines a) c.args.index) c.self.view_is)

pub returns : goal.returns
returns c =
    let i = c.self.inside in
    let span = c.in_ok-span.span in
    let text = c.in_ok-text.text in
    let here : slice_get i.spans.items c.args.index ≡ Some span =
    ap (λ (s : List Span). slice_get s c.args.index) (sym c.deref.ensures.value) ∙ (sym c.item_at.ensures ∙ c.in_ok-span.was) in
    let there : slice_get i.texts.items c.args.index ≡ Some text =
    ap (λ (s : List LineText). slice_get s c.args.index) (sym c.deref-2.ensures.value) ∙ (sym c.item_at-2.ensures ∙ c.in_ok-text.was) in
    let read : c.of.result.now ≡ text_in i.source.items text = c.of.ensures ∙ ap (λ (s : List ℕ). text_in s text) c.deref-3.ensures.value in
    ap (λ (t : List ℕ). Some (line_as (c.args.index + 1) t (pair_of span) text.is_instruction)) read
    ∙ (sym (line_there i.source.items i.spans.items i.texts.items c.args.index span text i.cut here there)
    ∙ ap (λ (a : AssemblyView). slice_get (source_lines a) c.args.index) c.self.view_is)
