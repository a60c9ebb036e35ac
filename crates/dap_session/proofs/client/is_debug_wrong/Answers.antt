use Rattle.std.proofs.Common.{◌∙◌, List, Option, ap}
use Rattle.std.specs.Prelude.{ℕ, is_none}
use Rattle.arguments_play.specs.Debug.{debug_asked}
use Rattle.dap_session.proofs.client.is_debug_wrong.Goals as goal

pub returns-in-Some : goal.returns-in-Some
returns-in-Some c = ap is_none c.in-Some.ensures
    ∙ ap (λ (file : Option (List ℕ)). is_none (debug_asked c.args.words.now.form file)) c.text_of.ensures

pub returns-in-None : goal.returns-in-None
returns-in-None c = ap is_none c.in-None.ensures
    ∙ ap (λ (file : Option (List ℕ)). is_none (debug_asked c.args.words.now.form file)) c.text_of.ensures
