use Rattle.std.proofs.Common.{◌≡◌, ◌∙◌, ◌-◌, ◌∷◌, ◌++◌, [], IfOk, List, ap, arith, drop, if◌then◌else◌, length, map, subst, sym}
use Rattle.std.proofs.lemmas.Bool.{le-ltb, lt-ltb}
use Rattle.std.specs.Prelude.{nat_lt}
use Rattle.dap_messages.specs.Messages.{Said, said_of}
use Rattle.dap_messages.specs.declared.client_event.Category.TheVariants.{Console, Stdout}
use Rattle.dap_session.specs.Told.{characters, less_text, output_said}
use Rattle.dap_session.proofs.telling.with_console.Goals as goal

pub returns-then-told-count : goal.returns-then-told-count
returns-then-told-count c = λ before is.
    let out = c.args.session.now.current.bus.out in
    let told = c.args.told in
    let more = lt-ltb told (length out) (omega (arith, c.if-told-count.true, c.output_len-count.ensures)) in
    let said = ap (λ b. if b then output_said Stdout (characters (drop told out)) ∷ []
    else if nat_lt (length out) told then output_said Console (less_text (told - length out)) ∷ [] else []) more in
    subst (λ (ss : List Said). IfOk c.with_output.result (λ ms. map said_of ms.items ≡ before ++ ss))
    (sym said) (c.with_output.ensures before _ is c.output_since-text.ensures)

pub returns-then-count-told : goal.returns-then-count-told
returns-then-count-told c = λ before is.
    let out = c.args.session.now.current.bus.out in
    let told = c.args.told in
    let said = output_said Stdout (characters (drop told out)) ∷ [] in
    let less = output_said Console (less_text (told - length out)) ∷ [] in
    let not_more = le-ltb told (length out) (omega (arith, c.if-told-count.false, c.output_len-count.ensures)) in
    let fewer = lt-ltb (length out) told (omega (arith, c.if-count-told.true, c.output_len-count.ensures)) in
    let shown = ap (λ n. output_said Console (less_text (told - n)) ∷ []) c.output_len-count.ensures in
    subst (λ (ss : List Said). IfOk c.with_output-then-count-told.result (λ ms. map said_of ms.items ≡ before ++ ss))
    (shown ∙ sym (λ i. if not_more i then said else if fewer i then less else [])) (c.with_output-then-count-told.ensures before _ is c.format-text.ensures.ok)
