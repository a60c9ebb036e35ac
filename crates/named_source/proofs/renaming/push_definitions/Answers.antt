use Rattle.std.proofs.Common.{◌≡◌, ◌∙◌, ◌++◌, Some, None, sym, ap, arith, rules, append-nil, option_copied}
use Rattle.named_source.specs.Renaming.{definitions, name_outside}
use Rattle.named_source.proofs.Lines.{definitions_more}
use Rattle.named_source.proofs.renaming.push_definitions.Goals.{in-Some+in_ok-push_name, in_default}
use Rattle.named_source.proofs.renaming.push_definitions.Goals as goal

pub loop-address-preserved : goal.loop-address-preserved
loop-address-preserved c =
    let names = c.args.naming.names.now.names in
    let image = c.args.naming.image.now in
    let out = c.loop-address.out.items in
    let i = c.loop-address.address in
    let whole = c.args.out.now.items ++ definitions names image in
    elim c.match-outside.branch [
      | in-Some+in_ok-push_name w ↦
          let name : name_outside names image i ≡ Some w.in-Some.name.now = sym c.outside.ensures ∙ ap option_copied w.in-Some.is in
          definitions_more names image 65536 i out _ whole (omega arith) (rw name (search rules)) c.loop-address.invariant
      | in_default w ↦
          let name : name_outside names image i ≡ None = sym c.outside.ensures ∙ ap option_copied w.in_default.is in
          definitions_more names image 65536 i out _ whole (omega arith) (rw (name, append-nil) (ap (λ v. v.items) w.out-is)) c.loop-address.invariant
    ]
