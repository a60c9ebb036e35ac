use Rattle.std.proofs.Common.{◌≡◌, length, ℕ, None, if◌then◌else◌}
use Rattle.model.specs.Image.{cell_at}
use Rattle.model.specs.State.{is_port}
use Rattle.image_files.proofs.Unions.{so_far}
use Rattle.image_files.proofs.fill.without_port.Given as goal

-- The addresses so far have what the image has there, but for the port's, and the others have nothing.
abbrev pub invariant-loop-address : goal.invariant-loop-address
invariant-loop-address l = record {
  size : length l.part ≡ 65536;
  each : (k : ℕ) → cell_at l.part k ≡ so_far (λ j. if is_port l.map j then None else cell_at l.image j) l.address k;
}
