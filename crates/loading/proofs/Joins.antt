-- Why several files are not loaded as one machine, and what their image is.
use Rattle.std.proofs.Common.{◌≡◌, ◌+◌, ℕ, inl, inr, true, List, Option, Some, None, refl, sym, ap, subst, ◌∙◌}
use Rattle.std.specs.Borrow.{Bor}
use Rattle.std.specs.Prelude.{option_map}
use Rattle.arguments.specs.Asked.{FileAsked, map_of}
use Rattle.arguments.specs.OtherFiles.{Others}
use Rattle.arguments.specs.declared.load_fault.LoadFault.{LoadFault}
use Rattle.arguments.specs.declared.load_fault.LoadFault.TheVariants.{AtPort, Refused}
use Rattle.arguments.specs.declared.refusal.Refusal.{Refusal}
use Rattle.arguments.specs.declared.refusal.Refusal.TheVariants.{OutOfMemory}
use Rattle.image_files.specs.Files.{IsOfFile}
use Rattle.image_files.specs.Fill.{fill_at}
use Rattle.image_files.specs.FreeBase.{IsFreeBase}
use Rattle.image_files.specs.Union.{IsFirstClash, IsUnion}
use Rattle.image_files.specs.declared.refusal.ImageRefusal.TheVariants as why
use Rattle.image_reader.specs.declared.form.Form.{Form}
use Rattle.loading.specs.Loads.{EndsImageFile, IsBadMap}
use Rattle.loading.specs.Machine.{EndsJoining, EndsSeveral, IsClash, IsJoined, IsWith, form_of_other}
use Rattle.model.specs.State.{Map, has_port_byte}

abbrev Cells : Type 0
Cells = List (Option ℕ)

abbrev Text : Type 0
Text = List ℕ

-- ---- one file more

pub joined_is : (word : Text) (image other all : Cells) → IsOfFile (form_of_other word) other → IsFirstClash image other None
    → IsUnion image other all → IsWith (Some word) image all
joined_is word image other all of_file agrees union = (other, of_file, agrees, union)

pub none_with : (word : Option (Bor Text)) (image : Cells) → word ≡ None → IsWith (option_map (λ w. w.now) word) image image
none_with word image is = subst (λ (o : Option (Bor Text)). IsWith (option_map (λ w. w.now) o) image image) (sym is) refl

pub some_with : (word : Option (Bor Text)) (w : Bor Text) (image all : Cells) → word ≡ Some w → IsWith (Some w.now) image all
    → IsWith (option_map (λ w. w.now) word) image all
some_with word w image all is with = subst (λ (o : Option (Bor Text)). IsWith (option_map (λ w. w.now) o) image all) (sym is) with

-- ---- why images are not joined

pub clash_ends : (fault : LoadFault) → IsClash fault → EndsJoining fault
clash_ends fault clash = inr clash

pub other_ends : (fault : LoadFault) (said : Option Form) → EndsImageFile said fault → EndsJoining fault
other_ends fault said ends = inl (said, ends)

memory_of : EndsImageFile None (Refused OutOfMemory)
memory_of = (why.Refused OutOfMemory, tt, refl)

pub memory_ends : (fault : LoadFault) → fault ≡ Refused OutOfMemory → EndsJoining fault
memory_ends fault is = subst EndsJoining (sym is) (inl (None, memory_of))

-- ---- why nothing is loaded

pub joining_ends : (asked : FileAsked) (others : Others) (fault : LoadFault) → EndsJoining fault → EndsSeveral asked others fault
joining_ends asked others fault ends = inr (inl ends)

pub memory_runs_out : (asked : FileAsked) (others : Others) (refusal : Refusal) (fault : LoadFault) → refusal ≡ OutOfMemory → fault ≡ Refused refusal
    → EndsSeveral asked others fault
memory_runs_out asked others refusal fault memory is = inr (inl (memory_ends fault (is ∙ ap Refused memory)))

pub map_ends : (asked : FileAsked) (others : Others) (refusal : Refusal) (fault : LoadFault) → IsBadMap (map_of asked) refusal
    → fault ≡ Refused refusal → EndsSeveral asked others fault
map_ends asked others refusal fault bad is = subst (EndsSeveral asked others) (sym is) (inl bad)

pub port_ends : (asked : FileAsked) (others : Others) (bus_map : Map) (image : Cells) (first last : ℕ) (free : Option ℕ)
    → bus_map ≡ map_of asked → first ≡ bus_map.port → last ≡ bus_map.port + 3 → IsJoined asked others image → has_port_byte bus_map image ≡ true
    → fill_at asked.omits_fill bus_map image ≡ None
    → IsFreeBase asked.rom image free → EndsSeveral asked others (AtPort first last free)
port_ends asked others bus_map image first last free map low high joined met kept is_free =
    let at : AtPort first last free ≡ AtPort asked.port (asked.port + 3) free
    = ap (λ n. AtPort n last free) (low ∙ ap (λ (m : Map). m.port) map) ∙ ap (λ n. AtPort asked.port n free) (high ∙ ap (λ (m : Map). m.port + 3) map) in
    inr (inr (
      image,
      free,
      at,
      joined,
      subst (λ (m : Map). has_port_byte m image ≡ true) map met,
      subst
          (λ (m : Map). fill_at asked.omits_fill m image ≡ None) map kept,
      is_free,
    ))
