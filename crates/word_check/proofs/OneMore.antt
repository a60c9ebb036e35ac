-- What is said of files, one file more.
use Rattle.std.proofs.Common.{◌≡◌, ◌∙◌, ◌≤◌, ◌+◌, ◌<◌, ℕ, max, Bool, true, false, if◌then◌else◌, List, [], ◌∷◌, ◌++◌, length, take, drop, get_or, map, Option, refl, sym, ap, subst, arith, append_assoc, append-nil, take-append-drop, inl, inr}
use Rattle.std.proofs.lemmas.List.{map-append, map_more, take_all}
use Rattle.std.specs.Borrow.{Bor}
use Rattle.std.specs.Io.KnownBytes.{Appends}
use Rattle.std.proofs.KnownBytes.{Appends-nil, Appends-trans}
use Rattle.arguments.specs.Statuses.{status_of_load}
use Rattle.arguments.specs.Words.{texts}
use Rattle.arguments.specs.declared.load_fault.LoadFault.{LoadFault}
use Rattle.arguments.specs.declared.load_fault.LoadFault.TheVariants.{AtPort, Faults, LooksLikeCapture, LooksLikeHex, LooksLikeRaw, LooksLikeSRecords, LooksLikeTape, NoImage, Refused}
use Rattle.arguments.specs.declared.refusal.Refusal.TheVariants.{Words, Map as NoMap, Source, Tape, Session as NoSession, OutOfMemory, Read, Write, WriteFile}
use Rattle.word_check.specs.CommandLine.{CheckAsked}
use Rattle.word_check.specs.Files.{AreBegun, AreKeptBack, AreOutcomes, AreTried, IsBegun, IsOutcome, IsTried, Outcome, said_of, worst_of}
use Rattle.word_check.specs.Found.{EndsFile, IsFound, has_slips}
use Rattle.word_check.specs.declared.text.CheckedText.{CheckedText}
use Rattle.clap.specs.Words.{Text}
use Rattle.image_files.specs.Looks.{EndsLooks}
use Rattle.model.specs.Writers.{AppendsFront}

-- ---- one file

no_other : (b : Bool) (n : ℕ) → n ≡ (if b then 1 else 0) → 2 ≤ n → ⊥
no_other true n is two = omega (arith, is, two)
no_other false n is two = omega (arith, is, two)

small : (b : Bool) (n : ℕ) → n ≡ (if b then 1 else 0) → n ≤ 1
small true n is = omega (arith, is)
small false n is = omega (arith, is)

-- some source was checked, and its text was written
pub told : (asked : CheckAsked) (file : Text) (found : CheckedText) (held now : Option (List ℕ)) (U : Type 0) (status : ℕ) → IsFound asked file found
    → status ≡ (if has_slips asked.strict found then 1 else 0)
    → Appends held now found.text.items → IsTried asked file held now U status
told asked file found held now U status is counts written = record {
  said = found.text.items;
  is = inl (record { found = found; is = is; text = refl; status_is = counts });
  written = written;
  unwritten = λ two. absurd (no_other (has_slips asked.strict found) status counts two);
}

pub told_small : (asked : CheckAsked) (found : CheckedText) (status : ℕ) → status ≡ (if has_slips asked.strict found then 1 else 0) → status ≤ 1
told_small asked found status counts = small (has_slips asked.strict found) status counts

-- some source was checked, and a beginning of its text was written
pub told_front : (asked : CheckAsked) (file : Text) (found : CheckedText) (held now : Option (List ℕ)) → IsFound asked file found
    → AppendsFront held now found.text.items → IsBegun asked file held now
told_front asked file found held now is written = record {
  outcome = record { said = found.text.items; status = if has_slips asked.strict found then 1 else 0 };
  is = inl (record { found = found; is = is; text = refl; status_is = refl });
  written = written;
}

-- the source was not checked
pub kept_back : (asked : CheckAsked) (file : Text) (why : LoadFault) (held now : Option (List ℕ)) (U : Type 0) (status : ℕ) → EndsFile why
    → status ≡ status_of_load why → held ≡ now → U → IsTried asked file held now U status
kept_back asked file why held now U status ends is same unwritten = record {
  said = [];
  is = inr (record { why = why; ends = ends; text = refl; status_is = is });
  written = subst (λ (o : Option (List ℕ)). Appends held o []) same (Appends-nil held);
  unwritten = λ _. unwritten;
}

-- which status it then has
pub kept_status : (why : LoadFault) → EndsFile why → (2 ≤ status_of_load why) × (status_of_load why ≤ 4)
kept_status LooksLikeTape ends = (omega arith, omega arith)
kept_status LooksLikeHex ends = (omega arith, omega arith)
kept_status LooksLikeSRecords ends = (omega arith, omega arith)
kept_status LooksLikeRaw ends = (omega arith, omega arith)
kept_status LooksLikeCapture ends = (omega arith, omega arith)
kept_status (NoImage place what number note) ends = absurd ends
kept_status (Faults fault text) ends = absurd ends
kept_status (AtPort first last free) ends = absurd ends
kept_status (Refused Words) ends = absurd ends
kept_status (Refused (NoMap fault)) ends = absurd ends
kept_status (Refused (Source fault)) ends = absurd ends
kept_status (Refused (Tape fault)) ends = absurd ends
kept_status (Refused (NoSession fault)) ends = absurd ends
kept_status (Refused OutOfMemory) ends = (omega arith, omega arith)
kept_status (Refused (Read why)) ends = (omega arith, omega arith)
kept_status (Refused Write) ends = absurd ends
kept_status (Refused (WriteFile why)) ends = absurd ends

-- why a text is no source
pub looks_end : (text : List ℕ) (why : LoadFault) → EndsLooks text why → EndsFile why
looks_end text LooksLikeTape ends = (text, ends)
looks_end text LooksLikeHex ends = (text, ends)
looks_end text LooksLikeSRecords ends = (text, ends)
looks_end text LooksLikeRaw ends = absurd ends
looks_end text LooksLikeCapture ends = absurd ends
looks_end text (NoImage place what number note) ends = absurd ends
looks_end text (Faults fault told) ends = absurd ends
looks_end text (AtPort first last free) ends = absurd ends
looks_end text (Refused OutOfMemory) ends = tt
looks_end text (Refused Words) ends = absurd ends
looks_end text (Refused (NoMap fault)) ends = absurd ends
looks_end text (Refused (Source fault)) ends = absurd ends
looks_end text (Refused (Tape fault)) ends = absurd ends
looks_end text (Refused (NoSession fault)) ends = absurd ends
looks_end text (Refused (Read why)) ends = absurd ends
looks_end text (Refused Write) ends = absurd ends
looks_end text (Refused (WriteFile why)) ends = absurd ends

-- ---- lists of outcomes

outcomes_more : (asked : CheckAsked) (files : List Text) (outcomes : List Outcome) (file : Text) (outcome : Outcome)
    → AreOutcomes asked files outcomes → IsOutcome asked file outcome
    → AreOutcomes asked (files ++ file ∷ []) (outcomes ++ outcome ∷ [])
outcomes_more asked [] [] file outcome are is = (is, tt)
outcomes_more asked (f ∷ fs) (o ∷ os) file outcome are is = (are.0, outcomes_more asked fs os file outcome are.1 is)
outcomes_more asked [] (o ∷ os) file outcome are is = absurd are
outcomes_more asked (f ∷ fs) [] file outcome are is = absurd are

said_more : (outcomes : List Outcome) (outcome : Outcome) → said_of (outcomes ++ outcome ∷ []) ≡ said_of outcomes ++ outcome.said
said_more [] outcome = append-nil outcome.said
said_more (o ∷ os) outcome = ap (λ (x : List ℕ). o.said ++ x) (said_more os outcome) ∙ sym (append_assoc o.said (said_of os) outcome.said)

max_assoc : (a b c : ℕ) → max a (max b c) ≡ max (max a b) c
max_assoc a b c = omega arith

worst_more : (outcomes : List Outcome) (outcome : Outcome) → worst_of (outcomes ++ outcome ∷ []) ≡ max (worst_of outcomes) outcome.status
worst_more [] outcome = omega arith
worst_more (o ∷ os) outcome = ap (max o.status) (worst_more os outcome) ∙ max_assoc o.status (worst_of os) outcome.status

kept_before : (outcomes : List Outcome) (outcome : Outcome) → AreKeptBack (outcomes ++ outcome ∷ []) → AreKeptBack outcomes × (2 ≤ outcome.status)
kept_before [] outcome all = (tt, all.0)
kept_before (o ∷ os) outcome all = let rest = kept_before os outcome all.1 in ((all.0, rest.0), rest.1)

-- what the higher of two numbers is at most, and what both are then
pub higher_kept : (a b n k : ℕ) → n ≡ max a b → a ≤ k → b ≤ k → n ≤ k
higher_kept a b n k is first second = omega (arith, is, first, second)

pub lower_than : (a b n k : ℕ) → n ≡ max a b → n ≤ k → (a ≤ k) × (b ≤ k)
lower_than a b n k is least = (omega (arith, is, least), omega (arith, is, least))

-- ---- files

-- no file yet
pub none_tried : (asked : CheckAsked) (files : List (Bor Text)) (held now : Option (List ℕ)) (U : Type 0) → held ≡ now → U
    → AreTried asked (texts (take 0 files)) held now U 0
none_tried asked files held now U same unwritten = record {
  outcomes = [];
  are = tt;
  worst = refl;
  written = subst (λ (o : Option (List ℕ)). Appends held o []) same (Appends-nil held);
  unwritten = λ _. unwritten;
}

-- the files so far, and one more
pub tried_more : (asked : CheckAsked) (files : List (Bor Text)) (i : ℕ) (d : Bor Text) (file : Text) (held between now : Option (List ℕ))
    (U V W : Type 0) (worst status next : ℕ)
    → i < length files → file ≡ (get_or files i d).now → next ≡ max worst status → (U → V → W)
    → AreTried asked (texts (take i files)) held between U worst → IsTried asked file between now V status
    → AreTried asked (texts (take (i + 1) files)) held now W next
tried_more asked files i d file held between now U V W worst status next within is higher both before one =
    let outcome : Outcome = record { said = one.said; status = status } in
    let longer : texts (take (i + 1) files) ≡ texts (take i files) ++ file ∷ [] =
    map_more (λ (f : Bor Text). f.now) files i d within ∙ ap (λ (t : Text). texts (take i files) ++ t ∷ []) (sym is) in
    record {
      outcomes = before.outcomes ++ outcome ∷ [];
      are = subst (λ (fs : List Text). AreOutcomes asked fs (before.outcomes ++ outcome ∷ [])) (sym longer)
          (outcomes_more asked (texts (take i files)) before.outcomes file outcome before.are one.is);
      worst = higher ∙ ap (λ (n : ℕ). max n status) before.worst ∙ sym (worst_more before.outcomes outcome);
      written = subst (Appends held now) (sym (said_more before.outcomes outcome))
          (Appends-trans held between now (said_of before.outcomes) one.said before.written one.written);
      unwritten = λ all. let kept = kept_before before.outcomes outcome all in both (before.unwritten kept.0) (one.unwritten kept.1);
    }

-- all files
pub all_tried : (asked : CheckAsked) (files : List (Bor Text)) (n : ℕ) (held now : Option (List ℕ)) (U : Type 0) (worst : ℕ) → length files ≤ n
    → AreTried asked (texts (take n files)) held now U worst → AreTried asked (texts files) held now U worst
all_tried asked files n held now U worst past before =
    subst (λ (fs : List (Bor Text)). AreTried asked (texts fs) held now U worst) (take_all n files past) before

front_behind : (held between now : Option (List ℕ)) (first next : List ℕ) → Appends held between first → AppendsFront between now next
    → AppendsFront held now (first ++ next)
front_behind held between now first next before front = (
  first ++ front.0,
  front.1,
  ap (λ (x : List ℕ). first ++ x) front.2
      ∙ sym (append_assoc first front.0 front.1),
  Appends-trans held between now first front.0 before front.3,
)

-- the output failed at one more file
pub begun_at : (asked : CheckAsked) (files : List (Bor Text)) (i : ℕ) (d : Bor Text) (file : Text) (held between now : Option (List ℕ)) (U : Type 0) (worst : ℕ)
    → i < length files → file ≡ (get_or files i d).now
    → AreTried asked (texts (take i files)) held between U worst → IsBegun asked file between now → AreBegun asked (texts files) held now
begun_at asked files i d file held between now U worst within is before one =
    let longer : texts (take (i + 1) files) ≡ texts (take i files) ++ file ∷ [] =
    map_more (λ (f : Bor Text). f.now) files i d within ∙ ap (λ (t : Text). texts (take i files) ++ t ∷ []) (sym is) in
    record {
      tried = texts (take (i + 1) files);
      left = texts (drop (i + 1) files);
      all = sym (sym (map-append (λ (f : Bor Text). f.now) (take (i + 1) files) (drop (i + 1) files)) ∙ ap texts (take-append-drop (i + 1) files));
      outcomes = before.outcomes ++ one.outcome ∷ [];
      are = subst (λ (fs : List Text). AreOutcomes asked fs (before.outcomes ++ one.outcome ∷ [])) (sym longer)
          (outcomes_more asked (texts (take i files)) before.outcomes file one.outcome before.are one.is);
      written = subst (AppendsFront held now) (sym (said_more before.outcomes one.outcome))
          (front_behind held between now (said_of before.outcomes) one.outcome.said before.written one.written);
    }
