-- What is computed of a source is what it denotes, or its fault.
use Rattle.std.proofs.Common.{◌≡◌, ℕ, ◌+◌, ◌≤◌, ◌<◌, ◌⊎◌, inl, inr, Bool, true, false, List, [], ◌∷◌, ◌++◌, length, Option, Some, None, Result, Ok, Err, refl, sym, ◌∙◌, ap, arith}
use Rattle.std.specs.Prelude.{nat_lt}
use Rattle.std.proofs.lemmas.Bool.{ltb-true, ltb-false, lt-ltb, le-ltb}
use Rattle.model.specs.State.{Map}
use Rattle.model.specs.Image.{with_bytes, empty_image}
use Rattle.model.specs.Value.{Numbers}
use Rattle.model.specs.declared.source_fault.AsmFault.{AsmFault}
use Rattle.model.specs.declared.source_fault.AsmFaultKind.{AsmFaultKind}
use Rattle.model.specs.declared.source_fault.AsmFaultKind.TheVariants.{TooLarge}
use Rattle.model.specs.Names.{number_in}
use Rattle.model.specs.Layout.{Context, PlacedLine, IsLaidOut, layout_of, unless}
use Rattle.model.specs.Bytes.{Makes, line_bytes, value_fault}
use Rattle.model.specs.Source.{first_context, read_lines, most_bytes, Denotes, HasFault}
use Rattle.law_sources.specs.Judging.{Judgement, judgement, judgement_of_lines, layout_from, image_from, on_line, image_with_line, too_large, Says, judgement_as, ◌>>=◌}

abbrev Cells : Type 0
Cells = List (Option ℕ)

abbrev Laid : Type 0
Laid = List PlacedLine × Context

-- ---- results

abbrev done : (A : Type 0) → A → Result A AsmFault
done A a = Ok a

abbrev failed : (A : Type 0) → AsmFault → Result A AsmFault
failed A f = Err f

abbrev right : (A : Type 0) → A → Result A AsmFaultKind
right A a = Ok a

abbrev wrong : (A : Type 0) → AsmFaultKind → Result A AsmFaultKind
wrong A k = Err k

no_ok : {A : Type 0} (f : AsmFault) (a : A) → failed A f ≡ Ok a → ⊥
no_ok f a e = cc

bind_ok : {A B : Type 0} (r : Result A AsmFault) (f : A → Result B AsmFault) (b : B)
    → r >>= f ≡ Ok b → (a : A) × (r ≡ Ok a) × (f a ≡ Ok b)
bind_ok (Ok a) f b h = (a, refl, h)
bind_ok (Err e) f b h = absurd (no_ok e b h)

bind_err : {A B : Type 0} (r : Result A AsmFault) (f : A → Result B AsmFault) (e : AsmFault)
    → r >>= f ≡ Err e → (r ≡ Err e) ⊎ ((a : A) × (r ≡ Ok a) × (f a ≡ Err e))
bind_err (Ok a) f e h = inr (a, refl, h)
bind_err {A = A} (Err g) f e h = let same : g ≡ e = cc in inl (ap (failed A) same)

numbered_ok : {A : Type 0} (n : ℕ) (r : Result A AsmFaultKind) (a : A) → on_line n r ≡ Ok a
    → r ≡ Ok a
numbered_ok {A = A} n (Ok x) a h = let same : x ≡ a = cc in ap (right A) same
numbered_ok n (Err k) a h = absurd (no_ok (record { line = n; kind = k }) a h)

abbrev fault : ℕ → AsmFaultKind → AsmFault
fault n k = record { line = n; kind = k }

err_fault : {A : Type 0} (f g : AsmFault) → failed A f ≡ Err g → f ≡ g
err_fault f g h = cc

ok_not_err : {A : Type 0} (a : A) (f : AsmFault) → done A a ≡ Err f → ⊥
ok_not_err a f h = cc

ok_same : {A : Type 0} (x y : A) → done A x ≡ Ok y → x ≡ y
ok_same x y h = cc

numbered_err : {A : Type 0} (n : ℕ) (r : Result A AsmFaultKind) (e : AsmFault) → on_line n r ≡ Err e
    → (e.line ≡ n) × (r ≡ Err e.kind)
numbered_err n (Ok x) e h = absurd (ok_not_err x e h)
numbered_err {A = A} n (Err k) e h =
    let same : fault n k ≡ e = err_fault {A = A} (fault n k) e h in
    (sym (ap (λ (x : AsmFault). x.line) same), ap (λ (x : AsmFault). wrong A x.kind) same)

unless_ok : (k : Option AsmFaultKind) (a b : Cells) → unless k (Ok a) ≡ Ok b → (k ≡ None) × (b ≡ a)
unless_ok None a b h = let same : a ≡ b = cc in (refl, sym same)
unless_ok (Some k) a b h = cc

unless_err : (k : Option AsmFaultKind) (a : Cells) (e : AsmFaultKind) → unless k (Ok a) ≡ Err e
    → k ≡ Some e
unless_err None a e h = cc
unless_err (Some k) a e h = let same : k ≡ e = cc in ap (λ (x : AsmFaultKind). Some x) same

-- ---- all lines laid out

laid_sound : (lines : List (List ℕ)) (n : ℕ) (before : Context) (l : Laid)
    → layout_from n before lines ≡ Ok l → IsLaidOut before lines l.0 l.1
laid_sound [] n before l h =
    let same : ([], before) ≡ l = ok_same ([], before) l h in
    (sym (ap (λ (x : Laid). x.0) same), sym (ap (λ (x : Laid). x.1) same))
laid_sound (line ∷ lines) n before l h =
    let first = bind_ok (on_line n (layout_of before line)) _ l h in
    let rest = bind_ok (layout_from (n + 1) first.0.1 lines) _ l first.2 in
    let later = laid_sound lines (n + 1) first.0.1 rest.0 rest.1 in
    let same : (first.0.0 ∷ rest.0.0, rest.0.1) ≡ l = ok_same (first.0.0 ∷ rest.0.0, rest.0.1) l rest.2 in
    along l same (first.0.1, numbered_ok n (layout_of before line) first.0 first.1, later)
  where
    along : (l : Laid) {m : Laid} → m ≡ l → IsLaidOut before (line ∷ lines) m.0 m.1 → IsLaidOut before (line ∷ lines) l.0 l.1
    along l same h = rw same at h

laid_again : (lines : List (List ℕ)) (placed : List PlacedLine) (n : ℕ) (before after : Context)
    → IsLaidOut before lines placed after → layout_from n before lines ≡ Ok (placed, after)
laid_again [] placed n before after l = rw (l.0, l.1) refl
laid_again (line ∷ lines) [] n before after l = absurd l
laid_again (line ∷ lines) (p ∷ ps) n before after l = rw (l.1, laid_again lines ps (n + 1) l.0 after l.2) refl

record FirstLayout (n : ℕ) (start : Context) (lines : List (List ℕ)) (f : AsmFault) : Type 0 where
  front : List (List ℕ)
  line : List ℕ
  back : List (List ℕ)
  cut : lines ≡ front ++ line ∷ back
  placed : List PlacedLine
  before : Context
  laid : IsLaidOut start front placed before
  number : f.line ≡ length front + n
  kind : layout_of before line ≡ Err f.kind

layout_fault : (lines : List (List ℕ)) (n : ℕ) (start : Context) (f : AsmFault)
    → layout_from n start lines ≡ Err f → FirstLayout n start lines f
layout_fault [] n start f h = absurd (ok_not_err ([], start) f h)
layout_fault (line ∷ lines) n start f h = elim (bind_err (on_line n (layout_of start line)) _ f h) [
  | inl here ↦
      let e = numbered_err n (layout_of start line) f here in
      record {
        front = [];
        line = line;
        back = lines;
        cut = refl;
        placed = [];
        before = start;
        laid = (refl, refl);
        number = omega (arith, e.0);
        kind = e.1;
      }
  | inr first ↦ elim (bind_err (layout_from (n + 1) first.0.1 lines) _ f first.2) [
    | inl there ↦
        let later = layout_fault lines (n + 1) first.0.1 f there in
        record {
          front = line ∷ later.front;
          line = later.line;
          back = later.back;
          cut = ap (λ (x : List (List ℕ)). line ∷ x) later.cut;
          placed = first.0.0 ∷ later.placed;
          before = later.before;
          laid = (first.0.1, numbered_ok n (layout_of start line) first.0 first.1, later.laid);
          number = omega (arith, later.number);
          kind = later.kind;
        }
    | inr rest ↦ absurd (ok_not_err (first.0.0 ∷ rest.0.0, rest.0.1) f rest.2)
  ]
]

layout_fault_again : (front : List (List ℕ)) (line : List ℕ) (back : List (List ℕ))
    (placed : List PlacedLine) (n : ℕ) (start before : Context) (number : ℕ) (k : AsmFaultKind)
    → IsLaidOut start front placed before → number ≡ length front + n
    → layout_of before line ≡ Err k
    → layout_from n start (front ++ line ∷ back) ≡ Err (fault number k)
layout_fault_again [] line back placed n start before number k l is bad =
    let same : n ≡ number = omega (arith, is) in
    let there : layout_of start line ≡ Err k = rw l.1 at bad in
    rw there (ap (λ (x : ℕ). Err (fault x k)) same)
layout_fault_again (x ∷ front) line back [] n start before number k l is bad = absurd l
layout_fault_again (x ∷ front) line back (p ∷ ps) n start before number k l is bad =
    rw (l.1, layout_fault_again front line back ps (n + 1) l.0 before number k l.2 (omega (arith, is)) bad) refl

-- ---- all bytes put

made_sound : (m : Map) (numbers : Numbers) (ps : List PlacedLine) (n : ℕ) (image final : Cells)
    → image_from m numbers n image ps ≡ Ok final → Makes m numbers image ps final
unfolding image_with_line
made_sound m numbers [] n image final h = sym (ok_same image final h)
made_sound m numbers (p ∷ ps) n image final h =
    let first = bind_ok (on_line n (image_with_line m numbers image p)) _ final h in
    let u = unless_ok (value_fault m numbers image p) (with_bytes image p.address (line_bytes numbers p)) first.0 (numbered_ok n _ first.0 first.1) in
    (u.0, made_sound m numbers ps (n + 1) (with_bytes image p.address (line_bytes numbers p)) final (rw u.1 at first.2))

made_again : (m : Map) (numbers : Numbers) (ps : List PlacedLine) (n : ℕ) (image final : Cells)
    → Makes m numbers image ps final → image_from m numbers n image ps ≡ Ok final
unfolding image_with_line
made_again m numbers [] n image final h = ap (λ (x : Cells). Ok x) (sym h)
made_again m numbers (p ∷ ps) n image final h = rw h.0 (made_again m numbers ps (n + 1) (with_bytes image p.address (line_bytes numbers p)) final h.1)

record FirstValue (m : Map) (numbers : Numbers) (n : ℕ) (start : Cells) (placed : List PlacedLine) (f : AsmFault) : Type 0 where
  front : List PlacedLine
  line : PlacedLine
  back : List PlacedLine
  cut : placed ≡ front ++ line ∷ back
  image : Cells
  made : Makes m numbers start front image
  number : f.line ≡ length front + n
  kind : value_fault m numbers image line ≡ Some f.kind

value_fault_of : (m : Map) (numbers : Numbers) (ps : List PlacedLine) (n : ℕ) (image : Cells)
    (f : AsmFault) → image_from m numbers n image ps ≡ Err f → FirstValue m numbers n image ps f
unfolding image_with_line
value_fault_of m numbers [] n image f h = absurd (ok_not_err image f h)
value_fault_of m numbers (p ∷ ps) n image f h = elim (bind_err (on_line n (image_with_line m numbers image p)) _ f h) [
  | inl here ↦
      let e = numbered_err n (image_with_line m numbers image p) f here in
      record {
        front = [];
        line = p;
        back = ps;
        cut = refl;
        image = image;
        made = refl;
        number = omega (arith, e.0);
        kind = unless_err (value_fault m numbers image p) (with_bytes image p.address (line_bytes numbers p)) f.kind e.1;
      }
  | inr first ↦
      let u = unless_ok (value_fault m numbers image p) (with_bytes image p.address (line_bytes numbers p)) first.0 (numbered_ok n _ first.0 first.1) in
      let later = value_fault_of m numbers ps (n + 1) (with_bytes image p.address (line_bytes numbers p)) f (rw u.1 at first.2) in
      record {
        front = p ∷ later.front;
        line = later.line;
        back = later.back;
        cut = ap (λ (x : List PlacedLine). p ∷ x) later.cut;
        image = later.image;
        made = (u.0, later.made);
        number = omega (arith, later.number);
        kind = later.kind;
      }
]

value_fault_again : (m : Map) (numbers : Numbers) (front : List PlacedLine) (line : PlacedLine)
    (back : List PlacedLine) (n number : ℕ) (start image : Cells) (k : AsmFaultKind)
    → Makes m numbers start front image → number ≡ length front + n
    → value_fault m numbers image line ≡ Some k
    → image_from m numbers n start (front ++ line ∷ back) ≡ Err (fault number k)
unfolding image_with_line
value_fault_again m numbers [] line back n number start image k made is bad =
    let same : n ≡ number = omega (arith, is) in
    let there : value_fault m numbers start line ≡ Some k = rw made at bad in
    rw there (ap (λ (x : ℕ). Err (fault x k)) same)
value_fault_again m numbers (p ∷ front) line back n number start image k made is bad =
    rw made.0 (value_fault_again m numbers front line back (n + 1) number (with_bytes start p.address (line_bytes numbers p)) image k made.1
    (omega (arith, is)) bad)

-- ---- the source

small_source : (m : Map) (source : List ℕ) → length source ≤ most_bytes
    → judgement m source ≡ judgement_of_lines m (read_lines m.profile source)
unfolding judgement
small_source m source small = rw (le-ltb most_bytes (length source) small) refl

large_source : (m : Map) (source : List ℕ) → most_bytes < length source
    → judgement m source ≡ Err too_large
unfolding judgement
large_source m source large = rw (lt-ltb most_bytes (length source) large) refl

says_along : (m : Map) (source : List ℕ) (a b : Judgement) → a ≡ b → Says m source (Ok a)
    → Says m source (Ok b)
says_along m source a b same h = rw same at h

says_ok : (m : Map) (source : List ℕ) (j : Judgement) → length source ≤ most_bytes
    → judgement_of_lines m (read_lines m.profile source) ≡ Ok j → Says m source (Ok j)
unfolding judgement_of_lines
says_ok m source j small h =
    let lines = read_lines m.profile source in
    let first = bind_ok (layout_from 1 (first_context m.profile) lines) _ j h in
    let stands = laid_sound lines 1 (first_context m.profile) first.0 first.1 in
    let second = bind_ok (image_from m (number_in first.0.1.names) 1 empty_image first.0.0) _ j first.2 in
    let all : Judgement = record { placed = first.0.0; all = first.0.1; image = second.0 } in
    let made = made_sound m (number_in first.0.1.names) first.0.0 1 empty_image second.0 second.1 in
    says_along m source all j (ok_same all j second.2) (record { size = small; placed = first.0.0; all = first.0.1; laid = stands; made = made }, stands)

says_err : (m : Map) (source : List ℕ) (f : AsmFault) → length source ≤ most_bytes
    → judgement_of_lines m (read_lines m.profile source) ≡ Err f → HasFault m source f
unfolding judgement_of_lines
says_err m source f small h =
    let lines = read_lines m.profile source in
    elim (bind_err (layout_from 1 (first_context m.profile) lines) _ f h) [
      | inl bad ↦
          let l = layout_fault lines 1 (first_context m.profile) f bad in
          inr (inl (record {
            size = small;
            front = l.front;
            line = l.line;
            back = l.back;
            cut = l.cut;
            placed = l.placed;
            before = l.before;
            laid =
                l.laid;
            number = l.number;
            kind = l.kind;
          }))
      | inr first ↦ elim (bind_err (image_from m (number_in first.0.1.names) 1 empty_image first.0.0) _ f first.2) [
        | inl bad ↦
            let v = value_fault_of m (number_in first.0.1.names) first.0.0 1 empty_image f bad in
            inr (inr (record {
              size = small;
              placed = first.0.0;
              all = first.0.1;
              laid =
                  laid_sound lines 1 (first_context m.profile) first.0 first.1;
              front = v.front;
              line = v.line;
              back = v.back;
              cut = v.cut;
              image =
                  v.image;
              made = v.made;
              number = v.number;
              kind = v.kind;
            }))
        | inr done ↦ absurd (ok_not_err _ f done.2)
      ]
    ]

pub judged_says : (m : Map) (source : List ℕ) → Says m source (judgement m source)
judged_says m source = by (nat_lt most_bytes (length source)) refl
  where
    on : (r : Result Judgement AsmFault) → length source ≤ most_bytes → judgement_of_lines m (read_lines m.profile source) ≡ r → Says m source r
    on (Ok j) small h = says_ok m source j small h
    on (Err f) small h = says_err m source f small h

    by : (t : Bool) → nat_lt most_bytes (length source) ≡ t → Says m source (judgement m source)
    by true e =
        let large : most_bytes < length source = ltb-true most_bytes (length source) e in
        rw (large_source m source large) (inl (record { size = large; line = refl; kind = refl }))
    by false e =
        let small : length source ≤ most_bytes = ltb-false most_bytes (length source) e in
        rw (small_source m source small) (on (judgement_of_lines m (read_lines m.profile source)) small refl)

pub denotes_again : (m : Map) (source : List ℕ) (image : Cells) (d : Denotes m source image)
    → judgement m source ≡ Ok (judgement_as d.placed d.all image)
unfolding judgement_of_lines
denotes_again m source image d =
    small_source m source d.size
    ∙ rw (
      laid_again (read_lines m.profile source) d.placed 1 (first_context m.profile) d.all d.laid,
      made_again m (number_in d.all.names) d.placed 1
          empty_image image d.made,
    ) refl

same_fault : (f : AsmFault) (n : ℕ) (k : AsmFaultKind) → f.line ≡ n → f.kind ≡ k → fault n k ≡ f
same_fault f n k line kind = rw (← line, ← kind) refl

pub fault_again : (m : Map) (source : List ℕ) (f : AsmFault) → HasFault m source f
    → judgement m source ≡ Err f
unfolding judgement_of_lines
fault_again m source f (inl large) = large_source m source large.size ∙ ap (λ (x : AsmFault). Err x) (same_fault f 0 TooLarge large.line large.kind)
fault_again m source f (inr (inl l)) =
    let bad : layout_from 1 (first_context m.profile) (read_lines m.profile source) ≡ Err f =
    rw l.cut (layout_fault_again l.front l.line l.back l.placed 1 (first_context m.profile) l.before f.line f.kind l.laid l.number l.kind) in
    small_source m source l.size ∙ rw bad refl
fault_again m source f (inr (inr v)) =
    let bad : image_from m (number_in v.all.names) 1 empty_image v.placed ≡ Err f =
    rw v.cut (value_fault_again m (number_in v.all.names) v.front v.line v.back 1 f.line empty_image v.image f.kind v.made v.number v.kind) in
    small_source m source v.size
    ∙ rw (laid_again (read_lines m.profile source) v.placed 1 (first_context m.profile) v.all v.laid, bad) refl

-- ---- the laws

pub one_assignment : (lines : List (List ℕ)) (before : Context) (p q : List PlacedLine)
    (a b : Context) → IsLaidOut before lines p a → IsLaidOut before lines q b → (p ≡ q) × (a ≡ b)
one_assignment lines before p q a b h k =
    let same : (p, a) ≡ (q, b) = ok_same (p, a) (q, b) (sym (laid_again lines p 1 before a h) ∙ laid_again lines q 1 before b k) in
    (ap (λ (x : Laid). x.0) same, ap (λ (x : Laid). x.1) same)
