use Rattle.std.proofs.Common.{◌≡◌, drop}
use Rattle.serde_json.specs.View.{view}
use Rattle.dap_messages.specs.Members.{first_wrong}
use Rattle.dap_messages.proofs.members.first_wrong.Given as goal

-- the members that are left give what all give
abbrev pub invariant-loop-member : goal.invariant-loop-member
invariant-loop-member l = record {
  rest : first_wrong (view l.message) l.all ≡ first_wrong (view l.message) (drop l.member-index l.all);
}
