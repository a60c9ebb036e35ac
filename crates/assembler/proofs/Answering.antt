-- What an answer says of a source.
use Rattle.std.proofs.Common.{◌≡◌, ℕ, List, Option, Result, Ok, Err, ◌⊎◌, inl, inr, refl, sym, ap, subst, ◌∙◌}
use Rattle.std.specs.Prelude.{IfOk, IfErr}
use Rattle.model.specs.Bytes.{Makes}
use Rattle.model.specs.Image.{empty_image}
use Rattle.model.specs.State.{Map}
use Rattle.model.specs.Layout.{Context, PlacedLine, IsLaidOut, extents_of}
use Rattle.model.specs.TextLines.{lines_of}
use Rattle.model.specs.Listing.{IsListing}
use Rattle.model.specs.Names.{number_in}
use Rattle.model.specs.Source.{Denotes, HasFault, OneAssignment, first_context, read_lines}
use Rattle.model.specs.declared.source_fault.AsmFault.{AsmFault}
use Rattle.law_sources.specs.Judging.{DenotedIsJudged, FaultIsJudged, Judgement, JudgedIsMeant, Says, judgement, judgement_as, ◌>>=◌}
use Rattle.assembler.specs.Assembly.{AnswersSource, AreRead, AssemblyView, IsAssembled, IsImageOrMemory, Verdict, listing_of, out_of_memory, source_lines, verdict_view, verdict, verdict_of}
use Rattle.assembler.specs.Lines.{labels_in, placed_lines}
use Rattle.assembler.proofs.LineTexts.{labels_are, lines_are}
use Rattle.assembler.proofs.RowsRead.{rows_of_read}

abbrev Cells : Type 0
Cells = List (Option ℕ)

abbrev Given : Type 0
Given = Result AssemblyView AsmFault

same_ok : (v w : Verdict) (a b : Result Verdict AsmFault) → a ≡ Ok v → b ≡ Ok w → a ≡ b → v ≡ w
same_ok v w a b p q r = cc

not_both : (v : Verdict) (f : AsmFault) (a b : Result Verdict AsmFault) → a ≡ Ok v → b ≡ Err f → a ≡ b → ⊥
not_both v f a b p q r = cc

err_same : (f g : AsmFault) (a b : Result Verdict AsmFault) → a ≡ Err f → b ≡ Err g → a ≡ b → f ≡ g
err_same f g a b p q r = cc

abbrev passed : Result Judgement AsmFault → Result Verdict AsmFault
passed r = r >>= λ j. Ok (verdict_of j)

-- what an assembly shows is what was judged
record Meant (m : Map) (source : List ℕ) (a : AssemblyView) : Type 0 where
  judgement : Judgement
  denotes : Denotes m source judgement.image
  laid : IsLaidOut (first_context m.profile) (read_lines m.profile source) judgement.placed judgement.all
  shown : verdict_of judgement ≡ verdict_view a

meant_by : (m : Map) (source : List ℕ) (a : AssemblyView) (r : Result Judgement AsmFault) → Says m source r → passed r ≡ Ok (verdict_view a) → Meant m source a
meant_by m source a (Ok j) says h = record {
  judgement = j;
  denotes = says.0;
  laid = says.1;
  shown = same_ok (verdict_of j) (verdict_view a) (Ok (verdict_of j)) (Ok (verdict_view a)) refl refl h;
}
meant_by m source a (Err f) says h = absurd (not_both (verdict_view a) f (Ok (verdict_view a)) (Err f) refl refl (sym h))

meant_as : JudgedIsMeant → (m : Map) (source : List ℕ) (a : AssemblyView) → verdict m source ≡ Ok (verdict_view a) → Meant m source a
meant_as meant m source a h = meant_by m source a (judgement m source) (meant m source) h

image_is : (m : Map) (source : List ℕ) (a : AssemblyView) (x : Meant m source a) → x.judgement.image ≡ a.image
image_is m source a x = ap (λ (v : Verdict). v.image) x.shown

pub denoted_from : JudgedIsMeant → (m : Map) (source : List ℕ) (r : Given) → AnswersSource verdict_view r (verdict m source)
    → IfOk r (λ a. Denotes m source a.image)
denoted_from meant m source (Ok a) h =
    let x = meant_as meant m source a h in
    subst (λ (i : Cells). Denotes m source i) (image_is m source a x) x.denotes
denoted_from meant m source (Err f) h = tt

pub places_from : JudgedIsMeant → OneAssignment → (m : Map) (source : List ℕ) (r : Given) → AnswersSource verdict_view r (verdict m source)
    → IfOk r (λ a. (placed : List PlacedLine) (all : Context) → IsLaidOut (first_context m.profile) (read_lines m.profile source) placed all
    → a.places ≡ extents_of placed)
places_from meant one m source (Ok a) h = λ placed all laid.
    let x = meant_as meant m source a h in
    let same : x.judgement.placed ≡ placed = (one (read_lines m.profile source) (first_context m.profile) x.judgement.placed placed x.judgement.all
    all x.laid laid).0 in
    sym (ap (λ (v : Verdict). v.places) x.shown) ∙ ap extents_of same
places_from meant one m source (Err f) h = tt

pub names_from : JudgedIsMeant → OneAssignment → (m : Map) (source : List ℕ) (r : Given) → AnswersSource verdict_view r (verdict m source)
    → IfOk r (λ a. (placed : List PlacedLine) (all : Context) → IsLaidOut (first_context m.profile) (read_lines m.profile source) placed all
    → a.names ≡ all.names)
names_from meant one m source (Ok a) h = λ placed all laid.
    let x = meant_as meant m source a h in
    let same : x.judgement.all ≡ all = (one (read_lines m.profile source) (first_context m.profile) x.judgement.placed placed x.judgement.all all
    x.laid laid).1 in
    sym (ap (λ (v : Verdict). v.names) x.shown) ∙ ap (λ (f : Context). f.names) same
names_from meant one m source (Err f) h = tt

pub lines_from : JudgedIsMeant → OneAssignment → (m : Map) (source : List ℕ) (r : Given) → AnswersSource verdict_view r (verdict m source)
    → IfOk r (λ a. a.source ≡ source) → IfOk r (AreRead m.profile)
    → IfOk r (λ a. (placed : List PlacedLine) (all : Context) → IsLaidOut (first_context m.profile) (read_lines m.profile source) placed all
    → source_lines a ≡ placed_lines m.profile source placed)
lines_from meant one m source (Ok a) h kept are = λ placed all laid.
    lines_are m.profile source a placed all kept are (places_from meant one m source (Ok a) h placed all laid) laid
lines_from meant one m source (Err f) h kept are = tt

pub labels_from : JudgedIsMeant → OneAssignment → (m : Map) (source : List ℕ) (r : Given) → AnswersSource verdict_view r (verdict m source)
    → IfOk r (λ a. a.source ≡ source) → IfOk r (AreRead m.profile)
    → IfOk r (λ a. a.labels ≡ labels_in m.profile (read_lines m.profile source))
labels_from meant one m source (Ok a) h kept are =
    let d = denoted_from meant m source (Ok a) h in
    labels_are m.profile source a d.placed d.all kept are (places_from meant one m source (Ok a) h d.placed d.all d.laid) d.laid
labels_from meant one m source (Err f) h kept are = tt

assembled_by : (m : Map) (source : List ℕ) (a : AssemblyView) → a.source ≡ source → (d : Denotes m source a.image) → a.names ≡ d.all.names
    → a.places ≡ extents_of d.placed
    → source_lines a ≡ placed_lines m.profile source d.placed → a.labels ≡ labels_in m.profile (read_lines m.profile source) → IsAssembled m a
assembled_by m source a kept d names places lines labels =
    let of_its_source = subst (λ text. (e : Denotes m text a.image) × (a.names ≡ e.all.names) × (a.places ≡ extents_of e.placed)
    × (source_lines a ≡ placed_lines m.profile text e.placed) × (a.labels ≡ labels_in m.profile (read_lines m.profile text))) (sym kept)
    (d, names, places, lines, labels) in
    record { denotes = of_its_source.0; names = of_its_source.1; places = of_its_source.2; lines = of_its_source.3; labels = of_its_source.4 }

pub assembled_from : JudgedIsMeant → OneAssignment → (m : Map) (source : List ℕ) (r : Given) → AnswersSource verdict_view r (verdict m source)
    → IfOk r (λ a. a.source ≡ source) → IfOk r (AreRead m.profile) → IfOk r (IsAssembled m)
assembled_from meant one m source (Ok a) h kept are =
    let d = denoted_from meant m source (Ok a) h in
    let names = names_from meant one m source (Ok a) h d.placed d.all d.laid in
    let places = places_from meant one m source (Ok a) h d.placed d.all d.laid in
    assembled_by m source a kept d names places (lines_from meant one m source (Ok a) h kept are d.placed d.all d.laid)
    (labels_from meant one m source (Ok a) h kept are)
assembled_from meant one m source (Err f) h kept are = tt

pub only_from : DenotedIsJudged → (m : Map) (source : List ℕ) (r : Given) → AnswersSource verdict_view r (verdict m source) → (image : Cells)
    → Denotes m source image → IsImageOrMemory r image
only_from denoted m source (Ok a) h image d =
    let v = verdict_of (judgement_as d.placed d.all image) in
    let there : verdict m source ≡ Ok v = ap passed (denoted m source image d) in
    ap (λ (w : Verdict). w.image) (same_ok (verdict_view a) v (verdict m source) (verdict m source) h there refl)
only_from denoted m source (Err f) (inl memory) image d = memory
only_from denoted m source (Err f) (inr h) image d =
    let v = verdict_of (judgement_as d.placed d.all image) in
    let there : verdict m source ≡ Ok v = ap passed (denoted m source image d) in
    absurd (not_both v f (verdict m source) (verdict m source) there h refl)

refused_by : (m : Map) (source : List ℕ) (f : AsmFault) (r : Result Judgement AsmFault) → Says m source r → passed r ≡ Err f → HasFault m source f
refused_by m source f (Ok j) says h = absurd (not_both (verdict_of j) f (Ok (verdict_of j)) (Err f) refl refl h)
refused_by m source f (Err g) says h = subst (λ (x : AsmFault). HasFault m source x) (err_same g f (Err g) (Err f) refl refl h) says

pub refused_from : JudgedIsMeant → (m : Map) (source : List ℕ) (r : Given) → AnswersSource verdict_view r (verdict m source)
    → IfErr r (λ f. (f ≡ out_of_memory) ⊎ HasFault m source f)
refused_from meant m source (Ok a) h = tt
refused_from meant m source (Err f) (inl memory) = inl memory
refused_from meant m source (Err f) (inr h) = inr (refused_by m source f (judgement m source) (meant m source) h)

pub faulty_from : FaultIsJudged → (m : Map) (source : List ℕ) (r : Given) → AnswersSource verdict_view r (verdict m source)
    → (f : AsmFault) → HasFault m source f → (r ≡ Err f) ⊎ (r ≡ Err out_of_memory)
faulty_from fault m source (Ok a) h f bad =
    let there : verdict m source ≡ Err f = ap passed (fault m source f bad) in
    absurd (not_both (verdict_view a) f (verdict m source) (verdict m source) h there refl)
faulty_from fault m source (Err e) (inl memory) f bad = inr (ap (λ (x : AsmFault). Err x) memory)
faulty_from fault m source (Err e) (inr h) f bad =
    let there : verdict m source ≡ Err f = ap passed (fault m source f bad) in
    inl (ap (λ (x : AsmFault). Err x) (err_same e f (verdict m source) (verdict m source) h there refl))

listing_by : (m : Map) (source : List ℕ) (a : AssemblyView) (x : Meant m source a) → OneAssignment
    → IsListing m source (listing_of (record {
      image = a.image;
      source = source;
      places = a.places;
      instructions = a.instructions;
      names =
          a.names;
      labels = a.labels;
    }))
unfolding read_lines
listing_by m source a x one =
    let d = x.denotes in
    let both = one (read_lines m.profile source) (first_context m.profile) x.judgement.placed d.placed x.judgement.all d.all x.laid d.laid in
    let places : a.places ≡ extents_of d.placed = sym (ap (λ (v : Verdict). v.places) x.shown) ∙ ap extents_of both.0 in
    let names : a.names ≡ d.all.names = sym (ap (λ (v : Verdict). v.names) x.shown) ∙ ap (λ (f : Context). f.names) both.1 in
    record {
      size = d.size;
      placed = d.placed;
      all = d.all;
      laid = d.laid;
      image = a.image;
      made = subst (λ (i : Cells). Makes m (number_in d.all.names) empty_image d.placed i) (image_is m source a x) d.made;
      rows = rw (places, names, rows_of_read m.profile a.image (lines_of source) (first_context m.profile) d.placed d.all d.laid) refl;
    }

pub listed_from : JudgedIsMeant → OneAssignment → (m : Map) (source : List ℕ) (r : Given) → AnswersSource verdict_view r (verdict m source)
    → IfOk r (λ a. a.source ≡ source) → IfOk r (λ a. IsListing m source (listing_of a))
listed_from meant one m source (Ok a) h kept =
    let x = meant_as meant m source a h in
    rw kept (listing_by m source a x one)
listed_from meant one m source (Err f) h kept = tt
