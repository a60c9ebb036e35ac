-- An object that is made one member after another.
use Rattle.std.specs.Prelude.{◌≡◌, IfOk}
use Rattle.json_messages.specs.declared.object.Object.{Object}
use Rattle.serde_json.specs.Data.{Members}
use Rattle.serde_json.specs.View.{members_view}

-- It has these members, if memory did not run out.
abbrev pub IsObject : Members → Object → Type 0
IsObject members o = IfOk o.built (λ m. members_view m.entries ≡ members)
