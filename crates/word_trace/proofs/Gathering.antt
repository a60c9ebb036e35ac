-- Text that is gathered, one after another.
use Rattle.std.proofs.Common.{◌≡◌, ◌∙◌, ◌++◌, ℕ, List, [], Option, Result, Ok, Err, OnOk, OnErr, refl, sym, ap, subst, append_assoc, append-nil}
use Rattle.std.proofs.KnownBytes.{Appends-nil, Appends-trans}
use Rattle.std.specs.Io.KnownBytes.{Appends}
use Rattle.model.proofs.Written.{front_after, front_more, front_none}
use Rattle.model.specs.Writers.{AppendsFront, Writes}
use Rattle.arguments.specs.declared.refusal.Refusal.{Refusal}
use Rattle.arguments.specs.declared.refusal.Refusal.TheVariants.{OutOfMemory}
use Rattle.word_trace.specs.Gathered.{Gathers}
use Rattle.word_trace.specs.Traces.{GathersFront}

pub gathers_none : (held now : Option (List ℕ)) (before after : List ℕ) → now ≡ held → after ≡ before → Gathers held now before after []
gathers_none held now before after same still = record {
  written = [];
  appends = subst (λ n. Appends held n []) (sym same) (Appends-nil held);
  whole = still ∙ sym (append-nil before);
}

pub gathers_all : (held now : Option (List ℕ)) (before after : List ℕ) → Appends held now before → after ≡ [] → Gathers held now before after []
gathers_all held now before after appends emptied = record {
  written = before;
  appends = appends;
  whole = ap (λ xs. before ++ xs) emptied;
}

-- Two texts, one after the other.
pub gathers_both : (held mid now : Option (List ℕ)) (before between after one two : List ℕ)
    → Gathers held mid before between one → Gathers mid now between after two → Gathers held now before after (one ++ two)
gathers_both held mid now before between after one two first second = record {
  written = first.written ++ second.written;
  appends = Appends-trans held mid now first.written second.written first.appends second.appends;
  whole = append_assoc first.written second.written after
      ∙ ap (λ xs. first.written ++ xs) second.whole
      ∙ sym (append_assoc first.written between two)
      ∙ ap (λ xs. xs ++ two) first.whole
      ∙ append_assoc before one two;
}

-- A row that was put on the sheet, and ended.
pub row_gathered : {X E A : Type 0} (row : Result X E) (r : Result A Refusal) (held now : Option (List ℕ)) (before mid after text : List ℕ)
    → OnOk row (mid ≡ before ++ text) → OnErr row (r ≡ Err OutOfMemory) → OnOk r (Gathers held now mid after []) → OnOk r (Gathers held now before after text)
row_gathered (Ok x) (Ok a) held now before mid after text grown memory ended = record {
  written = ended.written;
  appends = ended.appends;
  whole = ended.whole ∙ append-nil mid ∙ grown;
}
row_gathered (Err e) (Ok a) held now before mid after text grown memory ended = absurd cc
row_gathered row (Err e) held now before mid after text grown memory ended = tt

pub ok_always : {A E : Type 0} (r : Result A E) (P : Type 0) → P → OnOk r P
ok_always (Ok a) P p = p
ok_always (Err e) P p = tt

pub ok_then : {A E : Type 0} (r : Result A E) (P Q : Type 0) → (P → Q) → OnOk r P → OnOk r Q
ok_then (Ok a) P Q f p = f p
ok_then (Err e) P Q f p = tt

-- ---- where a write failed, or memory ran out

-- What was written whole, or to a part.
pub writes_front : {X E : Type 0} (r : Result X E) (held now : Option (List ℕ)) (text : List ℕ) → Writes held now text r → AppendsFront held now text
writes_front (Ok x) held now text written = (text, [], sym (append-nil text), written)
writes_front (Err e) held now text written = written

pub cut_of : {X E : Type 0} (r : Result X E) (held now : Option (List ℕ)) (text : List ℕ) → Writes held now text r → OnErr r (AppendsFront held now text)
cut_of (Ok x) held now text written = tt
cut_of (Err e) held now text written = written

-- Rows that were to be put on the sheet.
pub row_cut : {X E A O : Type 0} (contents : O → Option (List ℕ)) (row : Result X E) (r : Result A Refusal) (old new : O) (before mid text : List ℕ)
    → OnOk row (mid ≡ before ++ text) → OnErr row (new ≡ old) → OnOk row (OnErr r (AppendsFront (contents old) (contents new) mid))
    → OnErr r (AppendsFront (contents old) (contents new) (before ++ text))
row_cut contents row (Ok a) old new before mid text grown same cut = tt
row_cut contents (Ok x) (Err e) old new before mid text grown same cut = subst (λ xs. AppendsFront (contents old) (contents new) xs) grown cut
row_cut contents (Err x) (Err e) old new before mid text grown same cut =
    subst (λ o. AppendsFront (contents old) (contents o) (before ++ text)) (sym same) (front_none (contents old) (before ++ text))

pub row_noted : {X E A : Type 0} (row : Result X E) (r : Result A Refusal) (P : Type 0) → OnOk row P → OnErr row (r ≡ Err OutOfMemory) → OnOk r P
row_noted (Ok x) (Ok a) P noted memory = noted
row_noted (Err e) (Ok a) P noted memory = absurd cc
row_noted row (Err e) P noted memory = tt

-- A front of nothing, and of a text of which the rest is lost.
pub front_of_none : (held : Option (List ℕ)) (sheet : List ℕ) → GathersFront held held sheet sheet []
front_of_none held sheet = record { written = []; lost = []; appends = Appends-nil held; whole = refl }

pub front_of_lost : (held now : Option (List ℕ)) (before after text : List ℕ) → AppendsFront held now (before ++ text) → after ≡ []
    → GathersFront held now before after text
front_of_lost held now before after text front none = record {
  written = front.0;
  lost = front.1;
  appends = front.3;
  whole = ap (λ (xs : List ℕ). front.0 ++ (xs ++ front.1)) none ∙ sym front.2;
}

-- A text, and then a front of another.
pub front_then : (held mid now : Option (List ℕ)) (before between after one two : List ℕ)
    → Gathers held mid before between one → GathersFront mid now between after two → GathersFront held now before after (one ++ two)
front_then held mid now before between after one two first second = record {
  written = first.written ++ second.written;
  lost = second.lost;
  appends = Appends-trans held mid now first.written second.written first.appends second.appends;
  whole = append_assoc first.written second.written (after ++ second.lost)
      ∙ ap (λ xs. first.written ++ xs) second.whole
      ∙ sym (append_assoc first.written between two)
      ∙ ap (λ xs. xs ++ two) first.whole
      ∙ append_assoc before one two;
}

-- What is on the sheet is written, or a front of it.
pub front_written : (held mid now : Option (List ℕ)) (before sheet text : List ℕ) → before ≡ [] → GathersFront held mid before sheet text
    → AppendsFront mid now sheet → AppendsFront held now text
front_written held mid now before sheet text none gathers front =
    subst (λ xs. AppendsFront held now xs) (append_assoc gathers.written sheet gathers.lost ∙ gathers.whole ∙ ap (λ xs. xs ++ text) none)
    (front_more held now (gathers.written ++ sheet) gathers.lost (front_after held mid now gathers.written sheet gathers.appends front))
