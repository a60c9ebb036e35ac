-- A file that was taken at its number.
use Rattle.std.proofs.Common.{◌≡◌, ◌∙◌, ◌<◌, ℕ, Bool, List, map, refl, sym, ap, cond, arith, false, Ok, Err, Some}
use Rattle.std.specs.Prelude.{nat_le}
use Rattle.std.proofs.lemmas.Bool.Decides.{nat_tests}
use Rattle.std.specs.Option.{option_map}
use Rattle.debug_listings.specs.Reading.{Reading, file_of, with_file}
use Rattle.debug_records.specs.Faults.{fault_at}
use Rattle.debug_records.specs.Info.{Table, put_at}
use Rattle.debug_records.specs.Records.{File}
use Rattle.debug_records.specs.Views.{file_view}
use Rattle.debug_records.specs.declared.fault.DebugFaultKind.TheVariants.{TooMany}
use Rattle.debug_records.specs.declared.record.File.{File as HeldFile}
use Rattle.debug_records.proofs.Tables.{put_seen}

abbrev taken : ℕ → Reading → Table File → Reading
taken number r files = record r { file = Some number; info = record r.info { files = files } }

few : (number : ℕ) → number < 4096 → nat_le 4096 number ≡ false
few number h = grind (arith, nat_tests)

pub file_taken : (line : List ℕ) (number : ℕ) (name : List ℕ) (r : Reading) (files new : Table HeldFile) (file : HeldFile) → number < 4096
    → map (option_map file_view) files ≡ r.info.files → file_view file ≡ file_of name → new ≡ put_at files number file
    → with_file line number name r ≡ Ok (taken number r (map (option_map file_view) new))
file_taken line number name r files new file h same view put =
    let seen : put_at r.info.files number (file_of name) ≡ map (option_map file_view) new =
    ap (λ t. put_at t number (file_of name)) (sym same)
    ∙ (ap (λ f. put_at (map (option_map file_view) files) number f) (sym view)
    ∙ (sym (put_seen file_view files number file) ∙ ap (λ t. map (option_map file_view) t) (sym put))) in
    ap (λ (b : Bool). cond b (Err (fault_at TooMany line)) (Ok (taken number r (put_at r.info.files number (file_of name))))) (few number h)
    ∙ ap (λ (t : Table File). Ok (taken number r t)) seen
