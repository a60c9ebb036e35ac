-- A source of a part is one of the image of a file.
use Rattle.std.proofs.Common.{◌≡◌, ℕ, List, Bool, true, Option, Some, None, refl, ap, subst}
use Rattle.std.specs.Prelude.{option_map}
use Rattle.std.specs.Io.KnownBytes.{Appends}
use Rattle.arguments.specs.Streams.{TellsFront}
use Rattle.image_files.specs.Files.{IsOfFile}
use Rattle.model.specs.Names.{Definitions}
use Rattle.model.specs.Writers.{AppendsFront}
use Rattle.word_dis.specs.Advice.{advice, is_at_port, remark}
use Rattle.word_dis.specs.Asked.{SourceAsked}
use Rattle.word_dis.specs.Fill.{bytes_left_out}
use Rattle.word_dis.specs.Word.{AreGiven, IsDone, IsSaid, IsSourceWith}
use Rattle.word_dis.specs.Written.{IsWritten}

pub with_image : (asked : SourceAsked) (image : List (Option ℕ)) (names : Option Definitions) (left_out text : List ℕ) (at_port : Bool) (bytes : ℕ)
    → IsOfFile asked.form image → AreGiven asked.symbols asked.profile asked.said.definitions names left_out
    → IsWritten asked image names text at_port bytes → IsSourceWith asked text at_port left_out bytes
with_image asked image names left_out text at_port bytes read given written = record {
  source = record { image = image; read = read; names = names; left_out = left_out; given = given; written = written.source };
  same = written.same;
  counted = refl;
  padded = written.counted;
}

-- the source and the advice were written
pub is_done : (asked : SourceAsked) (text : List ℕ) (at_port : Bool) (left_out : List ℕ) (bytes : ℕ) (held now errors told : Option (List ℕ))
    → IsSourceWith asked text at_port left_out bytes → Appends held now text
    → AppendsFront errors told (remark left_out bytes (advice at_port asked.profile)) → IsDone asked held now errors told
is_done asked text at_port left_out bytes held now errors told w written advised = record {
  text = text;
  source = w.source;
  written = written;
  advised = subst (λ (n : List ℕ). AppendsFront errors told (remark n (bytes_left_out w.source.written.whole w.source.written.part)
      (advice (is_at_port w.source.written.part) asked.profile))) w.counted
      (subst (λ (n : ℕ). AppendsFront errors told (remark left_out n (advice (is_at_port w.source.written.part) asked.profile))) w.padded
      (subst (λ (t : Bool). AppendsFront errors told (remark left_out bytes (advice t asked.profile))) w.same advised));
}

-- a beginning of the source was written
pub is_begun : (asked : SourceAsked) (text : List ℕ) (at_port : Bool) (left_out : List ℕ) (bytes : ℕ) (held now : Option (List ℕ))
    → IsSourceWith asked text at_port left_out bytes → AppendsFront held now text → TellsFront (IsSaid asked) held now
is_begun asked text at_port left_out bytes held now w written = record { is_right = true; said = text; about = w.source; written = written }

-- the names of what a reference leads to
pub with_names : {R A D : Type 0} (now : R → A) (f : A → D) (r : Option R) (names : Option A) → option_map now r ≡ names
    → option_map (λ x. f (now x)) r ≡ option_map f names
with_names now f None names is = ap (option_map f) is
with_names now f (Some x) names is = ap (option_map f) is
