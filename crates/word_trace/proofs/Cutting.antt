-- Traces that were cut short: what was written is a beginning.
use Rattle.std.proofs.Common.{◌≡◌, ◌∙◌, ◌++◌, ℕ, zero, suc, ◌-◌, ◌+◌, ◌<◌, Bool, false, true, cond, List, [], ◌∷◌, Option, None, Some, Result, Ok, Err, OnErr, refl, sym, ap, append_assoc, append-nil, subst, inl, inr}
use Rattle.std.specs.Prelude.{⊤, codes}
use Rattle.std.proofs.KnownBytes.{Appends-nil, Consumes-trans}
use Rattle.std.specs.Io.KnownBytes.{Appends, Consumes}
use Rattle.console.proofs.Growing.{Begins, begins_itself, begins_on, cut_grows, out_of, played_grows}
use Rattle.console.proofs.Turning.{RunsOn, cut_run, whole_input}
use Rattle.console.specs.Playing.{Outcome, Play, begun, is_at, played, turn_of}
use Rattle.console.specs.Turns.{EndsOnce, Known, MayCome, first_known, known, play_at}
use Rattle.console.specs.Written.{AreBytesOf, RanAs}
use Rattle.console.specs.declared.ending.Ending.{Ending}
use Rattle.console.specs.declared.ending.Ending.TheVariants.{Until, Rest, InputOver, Limit, Unwritten, NoReset, NoVector, Refused}
use Rattle.console.specs.declared.ending.Played.{Played}
use Rattle.console.specs.declared.turn.Player.{Player}
use Rattle.model.proofs.Written.{front_after, front_more, front_none}
use Rattle.model.specs.Session.{Session}
use Rattle.model.specs.State.{State}
use Rattle.model.specs.Writers.{AppendsFront, Writes}
use Rattle.accesses.specs.Tallies.{Counts}
use Rattle.accesses.specs.Writing.{or_everywhere}
use Rattle.accesses.specs.declared.tally.Count.{Count}
use Rattle.arguments.specs.declared.refusal.Refusal.{Refusal}
use Rattle.arguments_play.specs.Trace.{TraceAsked}
use Rattle.trace_rows.specs.Counts.{columns_text, entries_row, gap_behind, labels_part, lines_part, with_counts, with_elsewhere, with_head, with_rows, with_sums, with_unreached}
use Rattle.trace_rows.specs.declared.lines.SourceLine.{SourceLine}
use Rattle.trace_rows.specs.declared.sites.Label.{Label}
use Rattle.trace_rows.specs.declared.sites.Sites.{Sites}
use Rattle.word_trace.specs.Beginnings.{AreSites, first_written}
use Rattle.word_trace.specs.Gathered.{Gathered, Gathers, ahead_of, ended_text, gathered, none_gathered, text_at_end, text_of_step}
use Rattle.word_trace.specs.Texts.{GotFront, Noted, by_steps, by_turn, note_step, noted_in}
use Rattle.word_trace.specs.Traces.{Begin, CutIn, EndsAt, GathersFront, NoteCut, TurnCut, WasCut, WentOn, WroteFront, WroteNotes, gathered_at, is_begun, noted_after, play_of, reached, trace_noted, traced, traced_after}
use Rattle.word_trace.specs.declared.tracer.Tracer.{Tracer}
use Rattle.word_trace.proofs.Gathering.{front_written}
use Rattle.word_trace.proofs.Going.{may_all, noting, once_both}
use Rattle.word_trace.proofs.Making.{MakesOn, noted_turn_made}

-- A text is a beginning of itself.
pub all_front : (held now : Option (List ℕ)) (text : List ℕ) → Appends held now text → AppendsFront held now text
all_front held now text appends = (text, [], sym (append-nil text), appends)

-- What is so is so at an error, too.
pub err_always : {A E P : Type 0} (r : Result A E) → P → OnErr r P
err_always (Ok a) p = tt
err_always (Err e) p = p

-- Nothing was written, and what was written whole, whatever came of it.
pub writes_none : {A E : Type 0} (r : Result A E) (held : Option (List ℕ)) → Writes held held [] r
writes_none (Ok a) held = Appends-nil held
writes_none (Err e) held = front_none held []

pub writes_all : {A E : Type 0} (r : Result A E) (held now : Option (List ℕ)) (text : List ℕ) → Appends held now text → Writes held now text r
writes_all (Ok a) held now text appends = appends
writes_all (Err e) held now text appends = all_front held now text appends

-- ---- the text at the end begins with the text before

begins_with : (xs ys : List ℕ) → Begins xs (xs ++ ys)
begins_with xs ys = (ys, refl)

head_begins : (what text : List ℕ) → Begins text (with_head what text)
unfolding with_head
head_begins what text =
    let gap : List ℕ = text ++ gap_behind text in
    let front : List ℕ = gap ++ codes "  visits      cycles  " in
    let named : List ℕ = front ++ what in
    let whole : List ℕ = named ++ codes "\n" in
    begins_on text gap whole (begins_with text (gap_behind text))
    (begins_on gap front whole (begins_with gap (codes "  visits      cycles  "))
    (begins_on front named whole (begins_with front what) (begins_with named (codes "\n"))))

rows_begin : (text headed : List ℕ) (rows : List (List ℕ)) → Begins text headed → Begins text (with_rows text headed rows)
rows_begin text headed [] begins = begins_itself text
rows_begin text headed (row ∷ rows) begins = begins_on text headed _ begins (begins_with headed _)

labels_begin : (sites : Sites) (counts : Counts) (labels : List Label) (text : List ℕ) → Begins text (labels_part sites counts labels text)
labels_begin sites counts [] text = begins_itself text
labels_begin sites counts (label ∷ labels) text = begins_on text _ _ (head_begins _ text) (begins_with _ _)

lines_begin : (sites : Sites) (counts : Counts) (lines : List SourceLine) (text : List ℕ) → Begins text (lines_part sites counts lines text)
lines_begin sites counts [] text = begins_itself text
lines_begin sites counts (line ∷ lines) text = begins_on text _ _ (head_begins _ text) (begins_with _ _)

sums_begin : (entries all : Count) (text : List ℕ) → Begins text (with_sums entries all text)
unfolding with_sums
sums_begin entries all text =
    let head : List ℕ = with_head (codes "in all") text in
    let entered : List ℕ = head ++ entries_row entries in
    let counted : List ℕ = entered ++ columns_text all in
    let whole : List ℕ = counted ++ codes "steps\n" in
    begins_on text head whole (head_begins (codes "in all") text)
    (begins_on head entered whole (begins_with head (entries_row entries))
    (begins_on entered counted whole (begins_with entered (columns_text all)) (begins_with counted (codes "steps\n"))))

counts_begin : (sites : Sites) (counts : Counts) (entries all : Count) (text : List ℕ) → Begins text (with_counts sites counts entries all text)
unfolding with_counts
counts_begin sites counts entries all text =
    let labels = labels_part sites counts sites.labels.items text in
    let lines = lines_part sites counts sites.lines.items labels in
    let elsewhere = with_elsewhere sites counts lines in
    let unreached = with_unreached sites counts elsewhere in
    begins_on text labels _ (labels_begin sites counts sites.labels.items text)
    (begins_on labels lines _ (lines_begin sites counts sites.lines.items labels)
    (begins_on lines elsewhere _ (rows_begin lines _ _ (head_begins _ lines))
    (begins_on elsewhere unreached _ (rows_begin elsewhere _ _ (begins_with elsewhere _)) (sums_begin entries all unreached))))

ended_begins : (sites : Sites) (tally : Option Counts) (entries all : Count) (text : List ℕ) → Begins text (ended_text sites tally entries all text)
ended_begins sites None entries all text = begins_itself text
ended_begins sites (Some counts) entries all text = counts_begin sites counts entries all text

pub end_begins : (g : Gathered) (text : List ℕ) → Begins text (text_at_end g text)
end_begins g text = ended_begins g.sites g.tally g.entries g.all text

-- ---- what is noted begins with what was noted before

at_note : (b : Bool) (x y : Noted) → Begins x.text y.text → Begins x.text (cond b x y).text
at_note true x y begins = begins_itself x.text
at_note false x y begins = begins

pub made_begins : (until : Option ℕ) (before : State) (q : Play) (a : Noted) (rest : Play → Noted → Noted)
    → ((p : Play) (b : Noted) → Begins b.text (rest p b).text)
    → Begins (note_step before q.session.current a).text (by_turn note_step until before (record { ending = None; play = q }) a rest).text
made_begins until before q a rest begins =
    let n = note_step before q.session.current a in at_note (is_at until q.session.current) n (rest q n) (begins q n)

turn_begins : (until : Option ℕ) (before : State) (ending : Option Ending) (q : Play) (a : Noted) (rest : Play → Noted → Noted)
    → ((p : Play) (b : Noted) → Begins b.text (rest p b).text)
    → Begins a.text (by_turn note_step until before (record { ending = ending; play = q }) a rest).text
turn_begins until before (Some why) q a rest begins = begins_itself a.text
turn_begins until before None q a rest begins =
    begins_on a.text (note_step before q.session.current a).text _ (begins_with a.text _) (made_begins until before q a rest begins)

pub steps_begin : (until : Option ℕ) (n : ℕ) (p : Play) (a : Noted) → Begins a.text (by_steps note_step until n p a).text
unfolding by_steps
steps_begin until zero p a = begins_itself a.text
steps_begin until (suc n) p a = turn_begins until p.session.current (turn_of p).ending (turn_of p).play a (λ q b. by_steps note_step until n q b)
    (steps_begin until n)

-- ---- a turn that failed, in a run

-- A run whose next turn failed.
pub run_cut : {A : Type 0} (until : Option ℕ) (limit : ℕ) (makes : Play → A) (IsBegun : A → Type 0) (s : Session) (first : Player)
    (given mid left : Option (List ℕ)) (told : List ℕ) (steps : ℕ) (t : Session) (p : Player) (u : Session) (q : Player) (told2 : List ℕ)
    → Consumes given mid told → EndsOnce first.is_over p.is_over told → RunsOn until limit s (known first) told p.is_over steps t (known p) → steps < limit
    → TurnCut t p mid left u q told2
    → ((rest : List ℕ) → MayCome q.is_over rest → IsBegun (makes (play_at s (known first) ((told ++ told2) ++ rest))))
    → WasCut (played until limit) makes IsBegun s first given left u q.is_over
run_cut until limit makes IsBegun s first given mid left told steps t p u q told2 consumes once runs room turn noted = record {
  told = told ++ told2;
  consumes = Consumes-trans given mid left told told2 consumes turn.consumes;
  once = once_both first.is_over p.is_over q.is_over told told2 once turn.once;
  leads = λ rest may. (
    cut_grows until limit (play_at s (known first) ((told ++ told2) ++ rest)) u rest
        (cut_run until limit s (known first) told p.is_over steps t (known p) runs room told2 q.is_over u turn.once turn.cut rest may),
    noted rest may,
  );
}

-- The text of a trace begins with what was noted before a turn failed, and with what was noted of its
-- step if that was made.
pub note_cut : (to : Option ℕ) (limit : ℕ) (s : Session) (first : Known) (told : List ℕ) (steps : ℕ) (t : Session) (p : Player) (u : Session)
    (q : Player) (told2 text text2 : List ℕ) (a : Noted) (old : Tracer)
    → MakesOn note_step to limit s first told p.is_over steps t (known p) a (noted_in old text) → steps < limit
    → EndsOnce p.is_over q.is_over told2 → NoteCut t p (gathered old) u q told2 text2
    → (rest : List ℕ) → MayCome q.is_over rest → Begins (text ++ text2) (by_steps note_step to limit (play_at s first ((told ++ told2) ++ rest)) a).text
note_cut to limit s first told steps t p u q told2 text text2 a old makes room once noted rest may = elim noted [
  | inl none ↦
      let there = ap (λ l. by_steps note_step to limit (play_at s first l) a) (append_assoc told told2 rest)
      ∙ makes.makes (told2 ++ rest) (may_all p.is_over q.is_over told2 rest once may) in
      let same : text ++ text2 ≡ text = ap (λ xs. text ++ xs) none ∙ append-nil text in
      subst (λ xs. Begins xs (by_steps note_step to limit (play_at s first ((told ++ told2) ++ rest)) a).text) (sym same)
      (subst (λ (n : Noted). Begins text n.text) (sym there) (steps_begin to (limit - steps) (play_at t (known p) (told2 ++ rest)) (noted_in old text)))
  | inr made ↦
      let there = noted_turn_made note_step to limit s first told p.is_over steps t (known p) a (noted_in old text) makes room told2 q.is_over None u
      (known q) once made.0 rest may in
      let same : text ++ text2 ≡ text ++ text_of_step u.current (ahead_of (gathered old) t.current) (gathered old) = ap (λ xs. text ++ xs) made.1 in
      subst (λ xs. Begins xs (by_steps note_step to limit (play_at s first ((told ++ told2) ++ rest)) a).text) (sym same)
      (subst (λ (n : Noted). Begins (note_step t.current u.current (noted_in old text)).text n.text) (sym there)
      (made_begins to t.current (play_at u (known q) rest) (noted_in old text) (λ r c. by_steps note_step to (limit - (steps + 1)) r c)
      (steps_begin to (limit - (steps + 1)))))
]

-- ---- a run up to the place where a trace begins

pub reached_cut : (from : Option ℕ) (s : Session) (before : Player) (given left : Option (List ℕ)) (u : Session) (over : Bool)
    (r : Result Played Refusal) → is_begun from s.current ≡ false
    → OnErr r (WasCut (played from 18446744073709551615) (λ (p : Play). p) (λ (p : Play). ⊤) s before given left u over)
    → OnErr r (WasCut (reached from) (λ (p : Play). p) (λ (p : Play). ⊤) s before given left u over)
reached_cut from s before given left u over (Ok end) away cut = tt
reached_cut from s before given left u over (Err fault) away cut = record {
  told = cut.told;
  consumes = cut.consumes;
  once = cut.once;
  leads = λ rest may. (rw away (cut.leads rest may).0, tt);
}

-- ---- what is traced goes on from there

after_begins : (to : Option ℕ) (limit steps : ℕ) (why : Ending) (p : Play)
    → Begins (out_of p) (out_of (traced_after to limit (record { steps = steps; ending = why; play = p })).play)
after_begins to limit steps Until p = played_grows to limit p
after_begins to limit steps Rest p = begins_itself (out_of p)
after_begins to limit steps InputOver p = begins_itself (out_of p)
after_begins to limit steps Limit p = begins_itself (out_of p)
after_begins to limit steps (Unwritten from) p = begins_itself (out_of p)
after_begins to limit steps NoReset p = begins_itself (out_of p)
after_begins to limit steps NoVector p = begins_itself (out_of p)
after_begins to limit steps (Refused fault) p = begins_itself (out_of p)

traced_begins : (from to : Option ℕ) (limit : ℕ) (p : Play) → Begins (out_of (reached from p).play) (out_of (traced from to limit p).play)
traced_begins from to limit p = let o = reached from p in after_begins to limit o.steps o.ending o.play

reached_begins : (from : Option ℕ) (p : Play) (b : Bool) → is_begun from p.session.current ≡ b → Begins (out_of p) (out_of (reached from p).play)
reached_begins from p true is = subst (λ (c : Bool). Begins (out_of p)
    (out_of (cond c (record { steps = 0; ending = Until; play = p }) (played from 18446744073709551615 p)).play)) (sym is) (begins_itself (out_of p))
reached_begins from p false is = subst (λ (c : Bool). Begins (out_of p)
    (out_of (cond c (record { steps = 0; ending = Until; play = p }) (played from 18446744073709551615 p)).play)) (sym is)
    (played_grows from 18446744073709551615 p)

-- What was put out before a trace begins what it puts out.
pub trace_begins : (from to : Option ℕ) (limit : ℕ) (p : Play) → Begins (out_of p) (out_of (traced from to limit p).play)
trace_begins from to limit p = begins_on (out_of p) (out_of (reached from p).play) _ (reached_begins from p (is_begun from p.session.current) refl)
    (traced_begins from to limit p)

-- Nothing is a beginning of any text.
pub front_of_nothing : (n : Option Noted) (held : Option (List ℕ)) → GotFront n held held
front_of_nothing None held = ([], refl, front_none held [])
front_of_nothing (Some n) held = (text_at_end n.gathered n.text, ([], n.text, refl, refl), front_none held (text_at_end n.gathered n.text))

-- A front of the text so far is one of the text at the end.
pub front_at_end : (n : Noted) (held now : Option (List ℕ)) (text : List ℕ) → Begins text n.text → AppendsFront held now text → GotFront (Some n) held now
front_at_end n held now text begins front =
    let whole = text_at_end n.gathered n.text in
    let all = begins_on text n.text whole begins (end_begins n.gathered n.text) in
    (whole, ([], n.text, refl, refl), subst (λ xs. AppendsFront held now xs) (sym all.1) (front_more held now text all.0 front))

-- The trace that failed before its end.
pub trace_cut : (part : Play → Outcome) (makes : Play → Noted) (s : Session) (before : Player) (given left : Option (List ℕ)) (u : Session)
    (over : Bool) (held mid now : Option (List ℕ)) (first sheet text : List ℕ)
    → first ≡ [] → GathersFront held mid first sheet text → AppendsFront mid now sheet
    → WasCut part makes (λ n. Begins text n.text) s before given left u over
    → WasCut part makes (λ n. GotFront (Some n) held now) s before given left u over
trace_cut part makes s before given left u over held mid now first sheet text none gathers front cut = record {
  told = cut.told;
  consumes = cut.consumes;
  once = cut.once;
  leads = λ rest may.
      let there = cut.leads rest may in (
        there.0,
        front_at_end (makes (play_at s (known before) (cut.told ++ rest))) held now text there.1
            (front_written held mid now first sheet text none gathers front),
      );
}

-- The trace whose text was not written to its end.
pub end_cut : (part : Play → Outcome) (makes : Play → Noted) (s : Session) (before : Player) (given left : Option (List ℕ)) (u : Session)
    (after : Player) (held mid now : Option (List ℕ)) (first sheet text : List ℕ) (g : Gathered) (end : Played)
    → first ≡ [] → Gathers held mid first sheet text → AppendsFront mid now (text_at_end g sheet)
    → WentOn part makes s before given left end u after (record { gathered = g; text = text })
    → WasCut part makes (λ n. GotFront (Some n) held now) s before given left u after.is_over
end_cut part makes s before given left u after held mid now first sheet text g end none gathers front went = record {
  told = went.told;
  consumes = went.consumes;
  once = went.once;
  leads = λ rest may.
      let there = went.leads rest may in (
        ([], ap (λ (o : Outcome). o.play.session.current.bus.out) there.0 ∙ sym (append-nil u.current.bus.out)),
        subst (λ (n : Noted). GotFront (Some n) held now) (sym there.1) (
          gathers.written ++ text_at_end g sheet,
          (gathers.written, sheet, sym (gathers.whole ∙ ap (λ xs. xs ++ text) none), refl),
          front_after
              held mid now gathers.written (text_at_end g sheet) gathers.appends front,
        ),
      );
}

-- ---- a whole trace

-- A trace that failed before it began.
pub whole_cut_before : (from to : Option ℕ) (limit : ℕ) (s u : Session) (a : Player) (given left held : Option (List ℕ)) (over : Bool)
    (written : List Bool) (g : Gathered) → known a ≡ first_known written → EndsAt over left
    → WasCut (reached from) (λ (p : Play). p) (λ (p : Play). ⊤) s a given left u over
    → (input : List ℕ) × AreBytesOf given input × CutIn (traced from to limit (begun s written input)) u
    × GotFront (trace_noted from to limit g (begun s written input)) held held
whole_cut_before from to limit s u a given left held over written g none ends cut =
    let whole = whole_input given left cut.told over (λ input rest. CutIn (traced from to limit (begun s written input)) u) cut.consumes ends
    (λ rest may. begins_on u.current.bus.out _ _
    (subst (λ (k : Known). Begins u.current.bus.out (out_of (reached from (play_at s k (cut.told ++ rest))).play)) none (cut.leads rest may).0)
    (traced_begins from to limit (begun s written (cut.told ++ rest)))) in
    (whole.0, whole.2, whole.4, front_of_nothing (trace_noted from to limit g (begun s written whole.0)) held)

-- A trace that failed after it began.
pub whole_cut_on : (from to : Option ℕ) (limit : ℕ) (s t u : Session) (a b : Player) (given mid left held now : Option (List ℕ)) (over : Bool)
    (written : List Bool) (g h : Gathered) (first : Played)
    → known a ≡ first_known written → first.ending ≡ Until → EndsAt over left → WentOn (reached from) (gathered_at from g) s a given mid first t b h
    → WasCut (played to limit) (noting to limit h) (λ n. GotFront (Some n) held now) t b mid left u over
    → (input : List ℕ) × AreBytesOf given input × CutIn (traced from to limit (begun s written input)) u
    × GotFront (trace_noted from to limit g (begun s written input)) held now
whole_cut_on from to limit s t u a b given mid left held now over written g h first none until ends went cut =
    let whole = whole_input given left (went.told ++ cut.told) over
    (λ input rest. CutIn (traced from to limit (begun s written input)) u × GotFront (trace_noted from to limit g (begun s written input)) held now)
    (Consumes-trans given mid left went.told cut.told went.consumes cut.consumes) ends
    (λ rest may.
    let all : List ℕ = cut.told ++ rest in
    let there = went.leads all (may_all b.is_over over cut.told rest cut.once may) in
    let cut_there = cut.leads rest may in
    let leads : traced from to limit (begun s written ((went.told ++ cut.told) ++ rest)) ≡ played to limit (play_at t (known b) all) =
    ap (λ (input : List ℕ). traced from to limit (begun s written input)) (append_assoc went.told cut.told rest)
    ∙ ap (λ (k : Known). traced from to limit (play_at s k (went.told ++ all))) (sym none)
    ∙ ap (traced_after to limit) there.0
    ∙ ap (λ (why : Ending). traced_after to limit (record { steps = first.steps; ending = why; play = play_at t (known b) all })) until in
    let notes : trace_noted from to limit g (begun s written ((went.told ++ cut.told) ++ rest)) ≡ Some (noting to limit h (play_at t (known b) all)) =
    ap (λ (input : List ℕ). trace_noted from to limit g (begun s written input)) (append_assoc went.told cut.told rest)
    ∙ ap (λ (k : Known). trace_noted from to limit g (play_at s k (went.told ++ all))) (sym none)
    ∙ ap (λ (x : Gathered). noted_after to limit x (reached from (play_at s (known a) (went.told ++ all)))) there.1
    ∙ ap (noted_after to limit h) there.0
    ∙ ap (λ (why : Ending). noted_after to limit h (record { steps = first.steps; ending = why; play = play_at t (known b) all })) until in (
      subst (λ (o : Outcome). CutIn o u) (sym leads) cut_there.0,
      subst (λ (n : Option Noted). GotFront n held now) (sym notes) cut_there.1,
    )) in
    (whole.0, whole.2, whole.4.0, whole.4.1)

pub whole_cut_if : (from to : Option ℕ) (limit : ℕ) (s t u : Session) (a b : Player) (given mid left held now : Option (List ℕ)) (over : Bool)
    (written : List Bool) (g h : Gathered) (first : Played) (r : Result Played Refusal)
    → known a ≡ first_known written → first.ending ≡ Until → EndsAt over left → WentOn (reached from) (gathered_at from g) s a given mid first t b h
    → OnErr r (WasCut (played to limit) (noting to limit h) (λ n. GotFront (Some n) held now) t b mid left u over)
    → OnErr r ((input : List ℕ) × AreBytesOf given input × CutIn (traced from to limit (begun s written input)) u
    × GotFront (trace_noted from to limit g (begun s written input)) held now)
whole_cut_if from to limit s t u a b given mid left held now over written g h first (Ok end) none until ends went cut = tt
whole_cut_if from to limit s t u a b given mid left held now over written g h first (Err fault) none until ends went cut =
    whole_cut_on from to limit s t u a b given mid left held now over written g h first none until ends went cut

-- ---- of a file

-- Some bytes are a reader's.
pub some_bytes : (given : Option (List ℕ)) → (input : List ℕ) × AreBytesOf given input
some_bytes None = ([], tt)
some_bytes (Some bytes) = (bytes, refl)

-- A trace that failed before its first step.
pub none_traced : (a : TraceAsked) (b : Begin) (from to : Option ℕ) (limit : ℕ) (given held : Option (List ℕ))
    → (input : List ℕ) × AreBytesOf given input × CutIn (traced from to limit (play_of a b input)) b.session
    × WroteFront a b (λ g. trace_noted from to limit g (play_of a b input)) held held
none_traced a b from to limit given held =
    let some = some_bytes given in (some.0, some.1, trace_begins from to limit (play_of a b some.0), inl (Appends-nil held))

-- A trace that failed.
pub wrote_front : (a : TraceAsked) (b : Begin) (from to : Option ℕ) (limit : ℕ) (u : Session) (written : List Bool) (given held now : Option (List ℕ))
    (g : Gathered)
    → ((sites : Sites) × AreSites b.assembly b.debug sites × (g ≡ none_gathered a sites (first_written a.finds_unwritten b.written)))
    → written ≡ or_everywhere a.is_free b.written
    → (input : List ℕ) × AreBytesOf given input × CutIn (traced from to limit (begun b.session written input)) u
    × GotFront (trace_noted from to limit g (begun b.session written input)) held now
    → (input : List ℕ) × AreBytesOf given input × CutIn (traced from to limit (play_of a b input)) u
    × WroteFront a b (λ h. trace_noted from to limit h (play_of a b input)) held now
wrote_front a b from to limit u written given held now g new is run =
    let cut = subst (λ w. CutIn (traced from to limit (begun b.session w run.0)) u) is run.2 in
    let got = subst (λ w. GotFront (trace_noted from to limit g (begun b.session w run.0)) held now) is run.3 in
    (run.0, run.1, cut, inr (new.0, new.1, subst (λ h. GotFront (trace_noted from to limit h (play_of a b run.0)) held now) new.2 got))

-- A trace whose file for lcov was not written.
pub wrote_all : (a : TraceAsked) (b : Begin) (from to : Option ℕ) (limit : ℕ) (u : Session) (given left held now : Option (List ℕ)) (end : Played)
    → ((input : List ℕ) × (rest : List ℕ) × AreBytesOf given input × AreBytesOf left rest
    × RanAs (traced from to limit (play_of a b input)) end u rest × WroteNotes a b (λ g. trace_noted from to limit g (play_of a b input)) held now)
    → (input : List ℕ) × AreBytesOf given input × CutIn (traced from to limit (play_of a b input)) u
    × WroteFront a b (λ g. trace_noted from to limit g (play_of a b input)) held now
wrote_all a b from to limit u given left held now end run =
    let notes = run.5 in
    let got = notes.2 in (
      run.0,
      run.2,
      ([], sym (ap (λ (s : Session). s.current.bus.out) run.4.session) ∙ sym (append-nil u.current.bus.out)),
      inr (notes.0, notes.1, (got.0, got.1, (got.0, [], sym (append-nil got.0), got.2))),
    )
