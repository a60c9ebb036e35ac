use Rattle.std.proofs.Common.{◌≡◌, rules}
use Rattle.serde_json.specs.Data.{null}
use Rattle.serde_json.specs.View.{view}
use Rattle.serde_json.specs.declared.value.Value.{Null, the_lemmas}
use Rattle.dap_messages.proofs.break_values.no_data.Goals as goal

view_null : view Null ≡ null
view_null = search (rules, the_lemmas)

pub returns : goal.returns
returns c = c.build.ensures _ (c.word.ensures _ (c.member.ensures _ _ c.new.ensures view_null))
