use Rattle.std.proofs.Common.{◌≡◌, ◌∙◌, ap, sym, append_assoc, ℕ, Bool, false, if◌then◌else◌, List, [], ◌++◌, Result, Ok, Err}
use Rattle.std.specs.Prelude.{OnOk}
use Rattle.warnings.specs.Flow.{falls_off}
use Rattle.warnings.specs.Placed.{Placed}
use Rattle.warnings.specs.Views.{placed_view, placed_views}
use Rattle.warnings.specs.Warnings.{Known, is_silenced, known, one_if, vectors_warnings, warnings_alone, warnings_more, warnings_with}
use Rattle.warnings.specs.declared.kinds.Warning.{Warning}
use Rattle.warnings.specs.declared.kinds.WarningKind.TheVariants.{LetterCase}
use Rattle.warnings.proofs.all_lines.push_line.Goals as goal

-- four parts, one after another
in_four : {X E : Type 0} (r : Result X E) (k : Known) (n : ℕ) (alike falls silenced : Bool) (p : Placed) (ps : List Placed)
    (first one two three four : List Warning)
    → silenced ≡ is_silenced p.text → silenced ≡ false → falls ≡ falls_off p ps
    → one ≡ first ++ warnings_alone k n p → two ≡ one ++ one_if alike n LetterCase → three ≡ two ++ warnings_more k.profile k.numbers n falls p
    → OnOk r (four ≡ three ++ vectors_warnings k.numbers k.lines n p) → OnOk r (four ≡ first ++ warnings_with k n alike p ps)
in_four (Ok x) k n alike falls silenced p ps first one two three four quiet loud same alone cased more led =
    let a : List Warning = warnings_alone k n p in
    let l : List Warning = one_if alike n LetterCase in
    let m : Bool → List Warning = λ (b : Bool). warnings_more k.profile k.numbers n b p in
    let v : List Warning = vectors_warnings k.numbers k.lines n p in
    let f : Bool = falls_off p ps in
    let opened : warnings_with k n alike p ps ≡ a ++ (l ++ (m f ++ v)) = ap (λ (b : Bool). if b then [] else a ++ (l ++ (m f ++ v))) (sym quiet ∙ loud) in
    led
    ∙ ap (λ (x : List Warning). x ++ v) (more ∙ ap (λ (x : List Warning). x ++ m falls) (cased ∙ ap (λ (x : List Warning). x ++ l) alone))
    ∙ ap (λ (b : Bool). (((first ++ a) ++ l) ++ m b) ++ v) same
    ∙ append_assoc ((first ++ a) ++ l) (m f) v
    ∙ append_assoc (first ++ a) l (m f ++ v)
    ∙ append_assoc first a (l ++ (m f ++ v))
    ∙ ap (λ (x : List Warning). first ++ x) (sym opened)
in_four (Err e) k n alike falls silenced p ps first one two three four quiet loud same alone cased more led = tt

pub returns : goal.returns
returns c =
    in_four c.push_vectors.result (known c.args.profile c.args.names.now c.args.used.now c.args.reaches.now (placed_views c.args.lines.now))
    c.args.number c.args.alike c.falls_off.result c.is_silenced.result
    (placed_view c.args.line.now) (placed_views c.args.behind.now) c.args.warnings.now.items c.push_alone.new.warnings.items
    c.push_if.new.warnings.items c.push_more.new.warnings.items c.push_vectors.new.warnings.items
    c.is_silenced.ensures c.if-is_silenced.false c.falls_off.ensures c.in_ok-push_alone.ensures c.in_ok-push_if.ensures c.in_ok-push_more.ensures
    c.push_vectors.ensures
