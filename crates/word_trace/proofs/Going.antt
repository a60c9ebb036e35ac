-- Parts of a run, one after another.
use Rattle.std.proofs.Common.{◌≡◌, ◌∙◌, ◌++◌, ℕ, Bool, false, true, List, [], Option, None, Some, Result, Ok, Err, IfOk, refl, sym, ap, ap₂, append_assoc, subst}
use Rattle.std.proofs.KnownBytes.{Appends-trans, Consumes-nil, Consumes-trans}
use Rattle.console.proofs.Turning.{ran_as, whole_input}
use Rattle.console.specs.Playing.{Outcome, Play, begun, played}
use Rattle.console.specs.Turns.{EndsOnce, Known, MayCome, first_known, known, play_at}
use Rattle.console.specs.Written.{AreBytesOf, RanAs}
use Rattle.console.specs.declared.ending.Ending.{Ending}
use Rattle.console.specs.declared.ending.Ending.TheVariants.{Until, Rest, InputOver, Limit, Unwritten, NoReset, NoVector, Refused}
use Rattle.console.specs.declared.ending.Played.{Played}
use Rattle.console.specs.declared.turn.Player.{Player}
use Rattle.model.specs.Session.{Session}
use Rattle.accesses.specs.Writing.{or_everywhere}
use Rattle.arguments.specs.declared.refusal.Refusal.{Refusal}
use Rattle.std.specs.Prelude.{is_some}
use Rattle.std.specs.Io.KnownBytes.{Appends}
use Rattle.trace_rows.specs.declared.sites.Sites.{Sites}
use Rattle.arguments_play.specs.Trace.{TraceAsked}
use Rattle.word_trace.specs.Beginnings.{AreSites, first_written}
use Rattle.word_trace.specs.Gathered.{Gathered, Gathers, none_gathered, text_at_end}
use Rattle.word_trace.specs.Texts.{GotText, Noted, by_steps, no_text, note_step, pass_step}
use Rattle.word_trace.specs.Traces.{Begin, EndsAt, WentOn, WroteNotes, gathered_at, has_begun, is_begun, noted_after, play_of, reached, trace_noted, traced, traced_after}

pub once_none : (b : Bool) → EndsOnce b b []
once_none b is = (refl, is)

pub once_both : (a b c : Bool) (told more : List ℕ) → EndsOnce a b told → EndsOnce b c more → EndsOnce a c (told ++ more)
once_both a b c told more first second is =
    let one = first is in let two = second one.1 in (ap₂ (λ (xs ys : List ℕ). xs ++ ys) one.0 two.0, two.1)

pub may_all : (b c : Bool) (more rest : List ℕ) → EndsOnce b c more → MayCome c rest → MayCome b (more ++ rest)
may_all b c more rest once may is =
    let ends = once is in ap (λ (xs : List ℕ). xs ++ rest) ends.0 ∙ may ends.1

abbrev outcome_of : Played → Session → Known → List ℕ → Outcome
outcome_of end t k rest = record { steps = end.steps; ending = end.ending; play = play_at t k rest }

abbrev none_made : Played
none_made = record { steps = 0; ending = Until }

-- A trace begins at once where it may.
pub reached_here : (from : Option ℕ) (s : Session) (p : Player) (given : Option (List ℕ)) (g : Gathered) → is_begun from s.current ≡ true
    → WentOn (reached from) (gathered_at from g) s p given given none_made s p g
reached_here from s p given g here = record {
  told = [];
  consumes = Consumes-nil given;
  once = once_none p.is_over;
  leads =
      λ rest may. (rw here refl, rw here refl);
}

-- Otherwise a run leads there.
reached_later : (from : Option ℕ) (s t : Session) (before after : Player) (given left : Option (List ℕ)) (g h : Gathered) (end : Played)
    → is_begun from s.current ≡ false
    → WentOn (played from 18446744073709551615) (λ p. by_steps pass_step from 18446744073709551615 p g) s before given left end t after h
    → WentOn (reached from) (gathered_at from g) s before given left end t after h
reached_later from s t before after given left g h end away went = record {
  told = went.told;
  consumes = went.consumes;
  once = went.once;
  leads = λ rest may. (rw away (went.leads rest may).0, rw away (went.leads rest may).1);
}

pub reached_if_made : (from : Option ℕ) (s t : Session) (before after : Player) (given left : Option (List ℕ)) (g h : Gathered)
    (r : Result Played Refusal) → is_begun from s.current ≡ false
    → IfOk r (λ end. WentOn (played from 18446744073709551615) (λ p. by_steps pass_step from 18446744073709551615 p g) s before given left end t after h)
    → IfOk r (λ end. WentOn (reached from) (gathered_at from g) s before given left end t after h)
reached_if_made from s t before after given left g h (Ok end) away went = reached_later from s t before after given left g h end away went
reached_if_made from s t before after given left g h (Err fault) away went = tt

abbrev pub noting : Option ℕ → ℕ → Gathered → Play → Noted
noting to limit g p = by_steps note_step to limit p (no_text g)

-- From the place on, the rest of a run is the trace.
pub traced_on : (from to : Option ℕ) (limit : ℕ) (s t u : Session) (a b c : Player) (given mid left : Option (List ℕ)) (g h : Gathered) (n : Noted)
    (first end : Played) → first.ending ≡ Until
    → WentOn (reached from) (gathered_at from g) s a given mid first t b h → WentOn (played to limit) (noting to limit h) t b mid left end u c n
    → WentOn (traced from to limit) (trace_noted from to limit g) s a given left end u c (Some n)
traced_on from to limit s t u a b c given mid left g h n first end until went on = record {
  told = went.told ++ on.told;
  consumes = Consumes-trans given mid left went.told on.told went.consumes on.consumes;
  once = once_both a.is_over b.is_over c.is_over went.told on.told went.once on.once;
  leads = λ rest may.
      let all : List ℕ = on.told ++ rest in
      let there = went.leads all (may_all b.is_over c.is_over on.told rest on.once may) in (
        ap (λ (input : List ℕ). traced from to limit (play_at s (known a) input)) (append_assoc went.told on.told rest)
            ∙ ap (traced_after to limit) there.0
            ∙ ap (λ (why : Ending). traced_after to limit (record { steps = first.steps; ending = why; play = play_at t (known b) all })) until
            ∙ (on.leads rest may).0,
        ap (λ (input : List ℕ). trace_noted from to limit g (play_at s (known a) input)) (append_assoc went.told on.told rest)
            ∙ ap (λ (x : Gathered). noted_after to limit x (reached from (play_at s (known a) (went.told ++ all)))) there.1
            ∙ ap (noted_after to limit h) there.0
            ∙ ap (λ (why : Ending). noted_after to limit h (record { steps = first.steps; ending = why; play = play_at t (known b) all })) until
            ∙ ap (λ (m : Noted). Some m) (on.leads rest may).1,
      );
}

-- A run that ended before has no step traced.
ended_before : (to : Option ℕ) (limit steps : ℕ) (why : Ending) (p : Play) → (why ≡ Until → ⊥)
    → traced_after to limit (record { steps = steps; ending = why; play = p }) ≡ record { steps = 0; ending = why; play = p }
ended_before to limit steps Until p other = absurd (other refl)
ended_before to limit steps Rest p other = refl
ended_before to limit steps InputOver p other = refl
ended_before to limit steps Limit p other = refl
ended_before to limit steps (Unwritten from) p other = refl
ended_before to limit steps NoReset p other = refl
ended_before to limit steps NoVector p other = refl
ended_before to limit steps (Refused fault) p other = refl

none_noted : (to : Option ℕ) (limit steps : ℕ) (g : Gathered) (why : Ending) (p : Play) → (why ≡ Until → ⊥)
    → noted_after to limit g (record { steps = steps; ending = why; play = p }) ≡ None
none_noted to limit steps g Until p other = absurd (other refl)
none_noted to limit steps g Rest p other = refl
none_noted to limit steps g InputOver p other = refl
none_noted to limit steps g Limit p other = refl
none_noted to limit steps g (Unwritten from) p other = refl
none_noted to limit steps g NoReset p other = refl
none_noted to limit steps g NoVector p other = refl
none_noted to limit steps g (Refused fault) p other = refl

pub traced_none : (from to : Option ℕ) (limit : ℕ) (s t : Session) (a b : Player) (given left : Option (List ℕ)) (g h : Gathered) (first end : Played)
    → (first.ending ≡ Until → ⊥)
    → end ≡ record { steps = 0; ending = first.ending }
    → WentOn (reached from) (gathered_at from g) s a given left first t b h
    → WentOn (traced from to limit) (trace_noted from to limit g) s a given left end t b None
traced_none from to limit s t a b given left g h first end other is went = record {
  told = went.told;
  consumes = went.consumes;
  once = went.once;
  leads = λ rest may.
      let there = went.leads rest may in (
        ap (traced_after to limit) there.0 ∙ ended_before to limit first.steps first.ending (play_at t (known b) rest) other
            ∙ ap (λ (e : Played). outcome_of e t (known b) rest) (sym is),
        ap (noted_after to limit (gathered_at from g (play_at s (known a) (went.told ++ rest)))) there.0
            ∙ none_noted to limit first.steps (gathered_at from g (play_at s (known a) (went.told ++ rest))) first.ending (play_at t (known b) rest) other,
      );
}

-- A trace notes something where it begins.
noted_if : (to : Option ℕ) (limit steps : ℕ) (g : Gathered) (why : Ending) (p : Play)
    → is_some (noted_after to limit g (record { steps = steps; ending = why; play = p })) ≡ has_begun why
noted_if to limit steps g Until p = refl
noted_if to limit steps g Rest p = refl
noted_if to limit steps g InputOver p = refl
noted_if to limit steps g Limit p = refl
noted_if to limit steps g (Unwritten from) p = refl
noted_if to limit steps g NoReset p = refl
noted_if to limit steps g NoVector p = refl
noted_if to limit steps g (Refused fault) p = refl

pub begun_as : (from to : Option ℕ) (limit : ℕ) (g : Gathered) (p : Play) (n : Option Noted) → trace_noted from to limit g p ≡ n
    → is_some n ≡ has_begun (reached from p).ending
begun_as from to limit g p n is =
    let o = reached from p in sym (ap (λ (m : Option Noted). is_some m) is) ∙ noted_if to limit o.steps (gathered_at from g p) o.ending o.play

-- A whole trace, from a session where nothing is remembered.
pub whole_trace : (part : Play → Outcome) (makes : Play → Option Noted) (s t : Session) (a b : Player) (given left held now : Option (List ℕ))
    (written : List Bool) (end : Played) (n : Option Noted) → known a ≡ first_known written → EndsAt b.is_over left
    → WentOn part makes s a given left end t b n → GotText n held now
    → (input : List ℕ) × (rest : List ℕ) × AreBytesOf given input × AreBytesOf left rest × RanAs (part (begun s written input)) end t rest
    × GotText (makes (begun s written input)) held now × (makes (begun s written input) ≡ n)
whole_trace part makes s t a b given left held now written end n none over went got =
    let whole = whole_input given left went.told b.is_over (λ input rest. RanAs (part (begun s written input)) end t rest
    × GotText (makes (begun s written input)) held now × (makes (begun s written input) ≡ n)) went.consumes over
    (λ rest may.
    let there = went.leads rest may in
    let noted : makes (begun s written (went.told ++ rest)) ≡ n = ap (λ (k : Known). makes (play_at s k (went.told ++ rest))) (sym none) ∙ there.1 in (
      ran_as (part (begun s written (went.told ++ rest))) end.steps end.ending t (known b) rest
          (ap (λ (k : Known). part (play_at s k (went.told ++ rest))) (sym none) ∙ there.0),
      subst (λ (m : Option Noted). GotText m held now) (sym noted) got,
      noted,
    )) in
    (whole.0, whole.1, whole.2, whole.3, whole.4.0, whole.4.1, whole.4.2)

-- And whether it began.
pub whole_told : (from to : Option ℕ) (limit : ℕ) (g : Gathered) (s t : Session) (a b : Player) (given left held now : Option (List ℕ))
    (written : List Bool) (end : Played) (n : Option Noted) (flag : Bool) → flag ≡ is_some n → known a ≡ first_known written → EndsAt b.is_over left
    → WentOn (traced from to limit) (trace_noted from to limit g) s a given left end t b n → GotText n held now
    → (input : List ℕ) × (rest : List ℕ) × AreBytesOf given input × AreBytesOf left rest
    × RanAs (traced from to limit (begun s written input)) end t rest × GotText (trace_noted from to limit g (begun s written input)) held now
    × (flag ≡ has_begun (reached from (begun s written input)).ending)
whole_told from to limit g s t a b given left held now written end n flag is none over went got =
    let whole = whole_trace (traced from to limit) (trace_noted from to limit g) s t a b given left held now written end n none over went got in
    (whole.0, whole.1, whole.2, whole.3, whole.4, whole.5, is ∙ begun_as from to limit g (begun s written whole.0) n whole.6)

-- The text at the end: what went to the writer before, and then the rest.
pub got_text : (held mid now : Option (List ℕ)) (before sheet text : List ℕ) (g : Gathered) → before ≡ [] → Gathers held mid before sheet text
    → Appends mid now (text_at_end g sheet)
    → GotText (Some (record { gathered = g; text = text })) held now
got_text held mid now before sheet text g none gathers ended = (
  gathers.written ++ text_at_end g sheet,
  (gathers.written, sheet, sym (gathers.whole ∙ ap (λ xs. xs ++ text) none), refl),
  Appends-trans held mid now gathers.written (text_at_end g sheet) gathers.appends ended,
)

-- Nothing was gathered before the trace of a file.
pub wrote_notes : (a : TraceAsked) (b : Begin) (from to : Option ℕ) (limit : ℕ) (t : Session) (written : List Bool)
    (given left held now : Option (List ℕ)) (g : Gathered) (end : Played) (flag : Bool)
    → ((sites : Sites) × AreSites b.assembly b.debug sites × (g ≡ none_gathered a sites (first_written a.finds_unwritten b.written)))
    → written ≡ or_everywhere a.is_free b.written
    → ((input : List ℕ) × (rest : List ℕ) × AreBytesOf given input × AreBytesOf left rest
    × RanAs (traced from to limit (begun b.session written input)) end t rest
    × GotText (trace_noted from to limit g (begun b.session written input)) held now
    × (flag ≡ has_begun (reached from (begun b.session written input)).ending))
    → (input : List ℕ) × (rest : List ℕ) × AreBytesOf given input × AreBytesOf left rest × RanAs (traced from to limit (play_of a b input)) end t rest
    × WroteNotes a b (λ h. trace_noted from to limit h (play_of a b input)) held now
    × (flag ≡ has_begun (reached from (play_of a b input)).ending)
wrote_notes a b from to limit t written given left held now g end flag new is run =
    let made = subst (λ w. RanAs (traced from to limit (begun b.session w run.0)) end t run.1) is run.4 in
    let got = subst (λ w. GotText (trace_noted from to limit g (begun b.session w run.0)) held now) is run.5 in
    let began = subst (λ w. flag ≡ has_begun (reached from (begun b.session w run.0)).ending) is run.6 in
    (run.0, run.1, run.2, run.3, made, (new.0, new.1, subst (λ h. GotText (trace_noted from to limit h (play_of a b run.0)) held now) new.2 got), began)
