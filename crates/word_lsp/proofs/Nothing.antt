-- The value that is nothing.
use Rattle.std.proofs.Common.{◌≡◌, rules}
use Rattle.serde_json.specs.Data.{null}
use Rattle.serde_json.specs.View.{view}
use Rattle.serde_json.specs.declared.value.Value.{Null, the_lemmas}

pub view_null : view Null ≡ null
view_null = search (rules, the_lemmas)
