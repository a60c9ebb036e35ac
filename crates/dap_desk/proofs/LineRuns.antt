-- Runs to a line, step by step.
use Rattle.std.proofs.Common.{◌≡◌, ◌∙◌, ℕ, ◌+◌, ◌-◌, suc, List, Option, Some, None, sym, ap, arith}
use Rattle.std.specs.Option.{option_or}
use Rattle.dap_desk.specs.Lines.{into_run, met_if}
use Rattle.line_steps.specs.declared.lines.FileLine.{FileLine}
use Rattle.line_steps.specs.declared.lines.LineStart.{LineStart}
use Rattle.model.specs.Run.{run_end}
use Rattle.mon_runs.proofs.LookedRuns.{later-more, later-none}
use Rattle.mon_runs.specs.Looked.{Arrival, Place, after_stretch, ended_or, later, why_of_step}
use Rattle.mon_runs.specs.declared.ended.EndWhy.{EndWhy}
use Rattle.mon_runs.specs.declared.ended.EndWhy.TheVariants.{Many}
use Rattle.mon_runs.specs.declared.looked.Goal.TheVariants.{Rest}
use Rattle.mon_runs.specs.declared.watches.Watch.{Watch}

module _ (starts : List LineStart) (from : Option FileLine) (w : List Watch) where
  pub line_begin : (limit : ℕ) (p : Place) → into_run starts from w limit p ≡ later 0 (into_run starts from w (limit - 0) p)
  line_begin limit p =
      let all : limit - 0 ≡ limit = omega arith in
      later-none (into_run starts from w limit p) ∙ ap (λ (j : ℕ). later 0 (into_run starts from w j p)) (sym all)

  -- by the first step
  first : (n d f : ℕ) (p q : Place) (y : Option EndWhy) → d ≡ (run_end 1 p.0).did → f ≡ p.0.current.regs.pc
      → q ≡ after_stretch None 1 p → y ≡ option_or (why_of_step w Rest None p) (met_if starts from q.0.current)
      → into_run starts from w (suc n) p ≡ ended_or y d (Some f) q (into_run starts from w n q)
  unfolding into_run
  first n d f p q y did at after why =
      let place : after_stretch None 1 p ≡ q = sym after in
      let reason : option_or (why_of_step w Rest None p) (met_if starts from (after_stretch None 1 p).0.current) ≡ y
      = ap (λ (r : Place). option_or (why_of_step w Rest None p) (met_if starts from r.0.current)) place ∙ sym why in
      λ i. ended_or (reason i) (sym did i) (Some (sym at i)) (place i) (into_run starts from w n (place i))

  -- a step that ends the run
  pub line_ends : (left n did d f : ℕ) (p q : Place) (why : EndWhy) (y : Option EndWhy) (whole : Arrival)
      → whole ≡ later did (into_run starts from w left p) → left ≡ suc n → d ≡ (run_end 1 p.0).did → f ≡ p.0.current.regs.pc
      → q ≡ after_stretch None 1 p → y ≡ option_or (why_of_step w Rest None p) (met_if starts from q.0.current)
      → y ≡ Some why → whole ≡ (record { did = did + d; why = why; from = Some f }, q)
  line_ends left n did d f p q why y whole h more made at after reason some =
      h ∙ ap (λ (j : ℕ). later did (into_run starts from w j p)) more
      ∙ ap (later did) (first n d f p q y made at after reason
      ∙ ap (λ (o : Option EndWhy). ended_or o d (Some f) q (into_run starts from w n q)) some)

  -- a step that does not
  pub line_goes : (left n did d f : ℕ) (p q : Place) (y : Option EndWhy) (whole : Arrival)
      → whole ≡ later did (into_run starts from w left p) → left ≡ suc n → d ≡ (run_end 1 p.0).did → f ≡ p.0.current.regs.pc
      → q ≡ after_stretch None 1 p → y ≡ option_or (why_of_step w Rest None p) (met_if starts from q.0.current)
      → y ≡ None → whole ≡ later (did + d) (into_run starts from w n q)
  line_goes left n did d f p q y whole h more made at after reason none =
      h ∙ ap (λ (j : ℕ). later did (into_run starts from w j p)) more
      ∙ ap (later did) (first n d f p q y made at after reason
      ∙ ap (λ (o : Option EndWhy). ended_or o d (Some f) q (into_run starts from w n q)) none)
      ∙ later-more did d (into_run starts from w n q)

  -- no step is left
  pub line_over : (left did : ℕ) (p : Place) (whole : Arrival) → whole ≡ later did (into_run starts from w left p)
      → left ≡ 0 → whole ≡ (record { did = did; why = Many; from = None }, p)
  unfolding into_run
  line_over left did p whole h none =
      let same : did + 0 ≡ did = omega arith in
      h ∙ ap (λ (j : ℕ). later did (into_run starts from w j p)) none ∙ (λ i. (record { did = same i; why = Many; from = None }, p))
