-- What the status 2 says of `mend`.
use Rattle.std.proofs.Common.{◌≡◌, arith}
use Rattle.arguments.specs.Statuses.{status_of}
use Rattle.arguments.specs.declared.refusal.Refusal.{Refusal}
use Rattle.arguments.specs.declared.refusal.Refusal.TheVariants.{Words, Map, Source, Tape, Session, OutOfMemory, Read, Write, WriteFile}
use Rattle.word_mend.specs.Word.{EndsMend}

neither : (f : Refusal) → EndsMend f → status_of f ≡ 2 → ⊥
neither Words ends two = ends
neither (Map fault) ends two = ends
neither (Source fault) ends two = ends
neither (Tape fault) ends two = omega (arith, two)
neither (Session fault) ends two = ends
neither OutOfMemory ends two = omega (arith, two)
neither (Read why) ends two = omega (arith, two)
neither Write ends two = omega (arith, two)
neither (WriteFile why) ends two = omega (arith, two)

pub no_two : (f : Refusal) × EndsMend f × (status_of f ≡ 2) → ⊥
no_two p = neither p.0 p.1 p.2
