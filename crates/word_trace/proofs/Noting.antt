-- What a tracer gathers of a step, one part after another.
use Rattle.std.proofs.Common.{◌≡◌, ◌∙◌, ◌++◌, ℕ, Bool, true, false, List, [], ◌∷◌, Option, Result, OnOk, sym, ap, subst, append-nil, append_assoc}
use Rattle.std.proofs.lemmas.Grind.{flat_map-append}
use Rattle.accesses.specs.Moments.{entered}
use Rattle.accesses.specs.declared.moment.Moment.{Moment}
use Rattle.model.specs.State.{State}
use Rattle.trace_rows.specs.Findings.{finding_row}
use Rattle.trace_rows.specs.declared.sites.Sites.{Sites}
use Rattle.trace_rows.specs.declared.unwritten.Finding.{Finding}
use Rattle.trace_rows.specs.declared.unwritten.Part.{Part}
use Rattle.trace_rows.specs.declared.unwritten.Part.TheVariants.{Code, Data}
use Rattle.arguments_play.specs.Trace.{TraceAsked, trace_view}
use Rattle.word_trace.specs.Gathered.{Gathered, counted, counted_here, counted_step, cycles_of, findings, gathered, is_told, marked, reads_text, row_text, step_of, text_of_step, told, with_told}
use Rattle.word_trace.specs.Notes.{code_of, left_at}
use Rattle.word_trace.specs.declared.notes.Ahead.{Ahead}
use Rattle.word_trace.specs.declared.tracer.Tracer.{Tracer}
use Rattle.word_trace.specs.declared.sheet.Sheet.{Sheet}
use Rattle.word_trace.proofs.Gathering.{ok_then}
use Rattle.word_trace.proofs.Telling.{told_not, told_yes}

-- Marked by what counts as written, once and again.
pub marked_as : (a b : Tracer) (w : Option (List Bool)) → gathered b ≡ marked w (gathered a) → gathered b ≡ marked b.written (gathered a)
marked_as a b w e = e ∙ ap (λ u. marked u (gathered a)) (sym (ap (λ (g : Gathered). g.written) e))

pub marked_on : (a b c : Tracer) → gathered b ≡ marked b.written (gathered a) → gathered c ≡ marked c.written (gathered b)
    → gathered c ≡ marked c.written (gathered a)
marked_on a b c p q = q ∙ ap (marked c.written) p

pub same_sites : (a b : Tracer) (w : Option (List Bool)) → gathered b ≡ marked w (gathered a) → b.sites ≡ a.sites
same_sites a b w e = ap (λ (g : Gathered). g.sites) e

pub same_asked : (a b : Tracer) (w : Option (List Bool)) → gathered b ≡ marked w (gathered a) → trace_view b.words.now ≡ trace_view a.words.now
same_asked a b w e = ap (λ (g : Gathered). g.asked) e

pub same_number : (a b : Tracer) (w : Option (List Bool)) → gathered b ≡ marked w (gathered a) → b.all.visits ≡ a.all.visits
same_number a b w e = ap (λ (g : Gathered). g.all.visits) e

-- A read that is not told, and one that is.
pub none_told : (state : State) (sites : Sites) (moment : Moment) (finding : Finding) (w : Option (List Bool)) (text : List ℕ)
    → is_told state.bus.map w finding.address ≡ false
    → text ≡ text ++ findings state sites moment finding.step finding.part (told state.bus.map w (finding.address ∷ []))
none_told state sites moment finding w text off =
    sym (ap (λ ys. text ++ findings state sites moment finding.step finding.part ys) (told_not state.bus.map w finding.address off) ∙ append-nil text)

pub one_told : (state : State) (sites : Sites) (moment : Moment) (finding : Finding) (w : Option (List Bool)) (before after : List ℕ)
    → is_told state.bus.map w finding.address ≡ true → after ≡ before ++ finding_row state sites moment finding
    → after ≡ before ++ findings state sites moment finding.step finding.part (told state.bus.map w (finding.address ∷ []))
one_told state sites moment finding w before after on row =
    row ∙ ap (λ xs. before ++ xs) (sym (ap (λ ys. findings state sites moment finding.step finding.part ys)
    (told_yes state.bus.map w finding.address on) ∙ append-nil (finding_row state sites moment finding)))

-- One text behind another.
pub text_both : (before between after one two : List ℕ) → between ≡ before ++ one → after ≡ between ++ two → after ≡ before ++ (one ++ two)
text_both before between after one two first second = second ∙ ap (λ xs. xs ++ two) first ∙ append_assoc before one two

-- Reads at some addresses, and then at others.
pub findings_both : (state : State) (sites : Sites) (moment : Moment) (number : ℕ) (part : Part) (xs ys : List ℕ) (before between after : List ℕ)
    → between ≡ before ++ findings state sites moment number part xs → after ≡ between ++ findings state sites moment number part ys
    → after ≡ before ++ findings state sites moment number part (xs ++ ys)
findings_both state sites moment number part xs ys before between after first second =
    let row : ℕ → List ℕ = λ address. finding_row state sites moment (record { step = number; address = address; part = part }) in
    text_both before between after _ _ first second ∙ ap (λ zs. before ++ zs) (sym (flat_map-append row xs ys))

-- The reads of an instruction, and then of its data.
pub reads_gathered : {A E : Type 0} (is_entry : Bool) (state : State) (sites sites2 : Sites) (number number2 : ℕ) (ahead : Ahead)
    (w v : Option (List Bool)) (code : List ℕ)
    (r : Result A E) (before between after : List ℕ)
    → is_entry ≡ false → sites2 ≡ sites → number2 ≡ number → v ≡ with_told state.bus.map w code → code ≡ code_of ahead.moment
    → between ≡ before ++ findings state sites ahead.moment number Code (told state.bus.map w code)
    → OnOk r (after ≡ between ++ findings state sites2 ahead.moment number2 Data (told state.bus.map v ahead.reads.items))
    → OnOk r (after ≡ before ++ reads_text is_entry state sites number ahead w)
reads_gathered is_entry state sites sites2 number number2 ahead w v code r before between after plain sites_are number_is here is_code first second =
    let T : Sites → ℕ → Option (List Bool) → Type 0 = λ s n u. after ≡ between
    ++ findings state s ahead.moment n Data (told state.bus.map u ahead.reads.items) in
    let ran = subst (λ ys. between ≡ before ++ findings state sites ahead.moment number Code (told state.bus.map w ys)) is_code first in
    let there : v ≡ with_told state.bus.map w (code_of ahead.moment) = here ∙ ap (with_told state.bus.map w) is_code in
    subst (λ b. OnOk r (after ≡ before ++ reads_text b state sites number ahead w)) (sym plain)
    (ok_then r (T sites2 number2 v) (after ≡ before ++ reads_text false state sites number ahead w)
    (λ more. text_both before between after _ _ ran
    (subst (λ u. T sites number u) there (subst (λ n. T sites n v) number_is (subst (λ s. T s number2 v) sites_are more)))) second)

-- The reads of a step, and then its row.
pub step_gathered : {A E : Type 0} (state : State) (ahead : Ahead) (t c d n : Tracer) (is_entry : Bool) (cycles : ℕ) (w v : Option (List Bool))
    (stores : List ℕ) (r : Result A E) (after : List ℕ)
    → is_entry ≡ entered ahead.moment state → cycles ≡ cycles_of ahead.moment state
    → gathered c ≡ counted_step is_entry ahead.moment.regs.pc cycles (gathered t) → c.sheet ≡ t.sheet
    → gathered d ≡ marked w (gathered c) → d.sheet.text.items ≡ c.sheet.text.items ++ reads_text is_entry state c.sites c.all.visits ahead c.written
    → gathered n ≡ marked v (gathered d) → n.sheet ≡ d.sheet → stores ≡ left_at state (trace_view d.words.now).file is_entry ahead
    → OnOk r (after ≡ n.sheet.text.items ++ row_text (trace_view n.words.now) state n.sites
    (record { moment = ahead.moment; is_entry = is_entry; stores = record { items = stores } }))
    → OnOk r (after ≡ t.sheet.text.items ++ text_of_step state ahead (gathered t))
step_gathered state ahead t c d n is_entry cycles w v stores r after is took counts sheet reads read left sheet2 stored row =
    let at : Bool = entered ahead.moment state in
    let took_so : ℕ = cycles_of ahead.moment state in
    let file : trace_view d.words.now ≡ trace_view t.words.now = same_asked c d w reads ∙ ap (λ (g : Gathered). g.asked) counts in
    let words : trace_view n.words.now ≡ trace_view t.words.now = same_asked d n v left ∙ file in
    let sites : n.sites ≡ t.sites = same_sites d n v left ∙ same_sites c d w reads ∙ ap (λ (g : Gathered). g.sites) counts in
    let stores_are : stores ≡ left_at state (trace_view t.words.now).file at ahead =
    stored ∙ ap (λ (ws : TraceAsked). left_at state ws.file is_entry ahead) file ∙ ap (λ b. left_at state (trace_view t.words.now).file b ahead) is in
    let text : reads_text is_entry state c.sites c.all.visits ahead c.written
    ≡ reads_text at state t.sites (counted_here state ahead (gathered t)).all.visits ahead t.written =
    ap (λ (g : Gathered). reads_text is_entry state g.sites g.all.visits ahead g.written) counts
    ∙ ap (λ n. reads_text is_entry state t.sites (counted t.all n).visits ahead t.written) took
    ∙ ap (λ b. reads_text b state t.sites (counted t.all took_so).visits ahead t.written) is in
    let made : row_text (trace_view n.words.now) state n.sites
    (record { moment = ahead.moment; is_entry = is_entry; stores = record { items = stores } })
    ≡ row_text (trace_view t.words.now) state t.sites (step_of state (trace_view t.words.now).file at ahead) =
    ap (λ ws. row_text ws state n.sites (record { moment = ahead.moment; is_entry = is_entry; stores = record { items = stores } })) words
    ∙ ap (λ s. row_text (trace_view t.words.now) state s (record { moment = ahead.moment; is_entry = is_entry; stores = record { items = stores } })) sites
    ∙ ap (λ b. row_text (trace_view t.words.now) state t.sites (record { moment = ahead.moment; is_entry = b; stores = record { items = stores } })) is
    ∙ ap (λ xs. row_text (trace_view t.words.now) state t.sites (record { moment = ahead.moment; is_entry = at; stores = record { items = xs } })) stores_are in
    let told_here = subst (λ xs. d.sheet.text.items ≡ t.sheet.text.items ++ xs) text
    (subst (λ (s : Sheet). d.sheet.text.items ≡ s.text.items ++ reads_text is_entry state c.sites c.all.visits ahead c.written) sheet read) in
    ok_then r _ _ (λ more. text_both t.sheet.text.items d.sheet.text.items after _ _ told_here
    (subst (λ xs. after ≡ d.sheet.text.items ++ xs) made
    (subst (λ (s : Sheet). after ≡ s.text.items ++ row_text (trace_view n.words.now) state n.sites
    (record { moment = ahead.moment; is_entry = is_entry; stores = record { items = stores } })) sheet2 more))) row
