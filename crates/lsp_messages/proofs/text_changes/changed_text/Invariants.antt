use Rattle.std.proofs.Common.{◌≡◌, drop}
use Rattle.std.specs.Option.{option_map}
use Rattle.lsp_messages.specs.TextChanges.{changed_text, text_view}
use Rattle.serde_json.specs.View.{items_view}
use Rattle.lsp_messages.proofs.text_changes.changed_text.Given as goal

abbrev pub invariant-loop-change : goal.invariant-loop-change
invariant-loop-change l = changed_text (text_view l.made) (items_view (drop l.change-index l.changes))
    ≡ changed_text (option_map (λ t. t.now) l.text) (items_view l.changes)
