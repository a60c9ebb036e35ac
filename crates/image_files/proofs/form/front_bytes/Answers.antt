use Rattle.std.proofs.Common.{sym, arith, refl, length-take}
use Rattle.std.proofs.lemmas.List.{take_all}
use Rattle.image_files.specs.Forms.{front_bytes}
use Rattle.image_files.proofs.form.front_bytes.Goals as goal

pub returns-then-bytes-le64 : goal.returns-then-bytes-le64
unfolding front_bytes
returns-then-bytes-le64 c = sym (take_all 64 c.args.bytes.now c.if-bytes-le64.true)

pub slice_bounds-result-end : goal.slice_bounds-result-end
slice_bounds-result-end c = omega (arith, length-take 64 c.args.bytes.now)

pub returns : goal.returns
unfolding front_bytes
returns c = refl
