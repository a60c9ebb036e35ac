use Rattle.std.proofs.Common.{◌∙◌, ℕ, List, false, Option, Some, ap, ap₂, option_map, sym}
use Rattle.arguments.specs.Asked.{file_of, form_in}
use Rattle.arguments.specs.FileNames.{name_of}
use Rattle.arguments.specs.Values.{form_asked, port_asked, profile_asked, rom_asked}
use Rattle.dap_session.proofs.launching.file_words.Goals as goal

pub returns : goal.returns
returns c =
    let launch = c.args.launch.now in
    let said = c.in-Some-form_asked.ensures ∙ ap (λ (bin : Option (List ℕ)). form_asked launch.tape bin launch.prg) c.text_of-2.ensures in
    let file = ap Some c.name_of.ensures ∙ ap (option_map name_of) c.in-Some.ensures in
    let form = c.in-Some-form_for.ensures ∙ ap₂ form_in c.in-Some.ensures said in
    sym (λ i. file_of false (file i) (form i)
    ((c.in-Some-port_asked.ensures ∙ ap port_asked c.text_of-3.ensures) i)
    ((c.in-Some-rom_asked.ensures ∙ ap rom_asked c.text_of-4.ensures) i)
    ((c.in-Some-profile_asked.ensures ∙ ap profile_asked c.text_of-5.ensures) i))
