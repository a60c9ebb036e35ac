use Rattle.std.proofs.Common.{◌≡◌, ◌∙◌, ℕ, Bool, false, List, Option, None, Some, ap, if◌then◌else◌, sym}
use Rattle.dap_messages.specs.declared.listed.FileLines.{FileLines}
use Rattle.dap_messages.specs.declared.listed.Placed.{Placed}
use Rattle.dap_session.specs.Logs.{last_at, text_by}
use Rattle.dap_session.proofs.passing.log_at.Goals as goal

-- no other breakpoint stands there
stops : (other : Bool) (text : Option (List ℕ)) → other ≡ false → text ≡ (if other then None else text)
stops other text is = sym (ap (λ (b : Bool). if b then None else text) is)

pub returns-in-Some : goal.returns-in-Some
returns-in-Some c =
    let listed = c.args.listed.now in
    c.text_in.ensures ∙ ap (λ (lists : List FileLines). text_by lists (Some c.in-Some.id)) c.as_slice-in-Some.ensures.value
    ∙ ap (λ (id : Option ℕ). text_by listed.last_lines.items id) (sym c.in-Some.is ∙ c.last_at.ensures
    ∙ ap (λ (ps : List Placed). last_at c.args.pc ps) c.as_slice.ensures.value)
    ∙ stops _ (text_by listed.last_lines.items (last_at c.args.pc listed.lines.items)) (sym c.is_other.ensures ∙ c.if-is_other.false)

pub returns-in-None : goal.returns-in-None
returns-in-None c =
    let listed = c.args.listed.now in
    ap (λ (id : Option ℕ). text_by listed.last_lines.items id) (sym c.in-None.is ∙ c.last_at.ensures
    ∙ ap (λ (ps : List Placed). last_at c.args.pc ps) c.as_slice.ensures.value)
    ∙ stops _ (text_by listed.last_lines.items (last_at c.args.pc listed.lines.items)) (sym c.is_other.ensures ∙ c.if-is_other.false)
