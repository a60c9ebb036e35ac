use Rattle.std.proofs.Common.{◌≡◌, ◌<◌, ◌≤◌, length, slice_index, nat_lt, true, false, arith, rules, refl}
use Rattle.std.proofs.lemmas.Bool.{lt-ltb, le-ltb}
use Rattle.named_source.proofs.Flags.{flag_more, nothing_more, past_end}
use Rattle.named_source.proofs.names.flag_named.Goals.{then-index-gt0+then-address-len, else-index-gt0, else-index-gt0-via-then-index-gt0+else-address-len, else-index-gt0-via-else-index-gt0}
use Rattle.named_source.proofs.names.flag_named.Goals as goal

pub loop-address-preserved : goal.loop-address-preserved
loop-address-preserved c =
    let table = c.args.table.now in
    let flags = c.loop-address.flags.items in
    let initial = c.args.flags.now.items in
    let i = c.loop-address.address in
    let inside : i < length table = omega arith in
    elim c.if-index-gt0.branch [
      | then-index-gt0+then-address-len w ↦
          let some : 0 < slice_index table i = omega arith in
          let is : nat_lt 0 (slice_index table i) ≡ true = lt-ltb 0 (slice_index table i) some in
          flag_more table flags initial _ i true inside is (search rules) c.loop-address.invariant
      | else-index-gt0 w ↦ elim w.else-index-gt0.branch [
        | else-index-gt0-via-then-index-gt0+else-address-len v ↦
            let some : 0 < slice_index table i = omega arith in
            let is : nat_lt 0 (slice_index table i) ≡ true = lt-ltb 0 (slice_index table i) some in
            rw w.flags-is (flag_more table flags initial flags i true inside is (past_end flags i (omega arith)) c.loop-address.invariant)
        | else-index-gt0-via-else-index-gt0 v ↦
            let none : slice_index table i ≤ 0 = omega arith in
            let is : nat_lt 0 (slice_index table i) ≡ false = le-ltb 0 (slice_index table i) none in
            rw w.flags-is (flag_more table flags initial flags i false inside is refl c.loop-address.invariant)
      ]
    ]

pub returns : goal.returns
returns c = nothing_more c.args.table.now c.loop-address.flags.items c.args.flags.now.items c.loop-address.address (omega arith) c.loop-address.invariant
