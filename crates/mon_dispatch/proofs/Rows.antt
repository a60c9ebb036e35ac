-- Rows of instructions and data, one by one.
use Rattle.std.proofs.Common.{◌≡◌, ◌∙◌, ℕ, suc, ◌+◌, ◌-◌, ◌<◌, ◌≤◌, cond, List, [], ◌++◌, append_assoc, append-nil, nat_le, refl, sym, ap, arith}
use Rattle.std.proofs.lemmas.Bool.{le-leb, lt-leb}
use Rattle.model.specs.State.{State}
use Rattle.mon_instructions.specs.Listed.{listed_len, listed_line}
use Rattle.source_map.specs.Lines.{PlacesView}
use Rattle.mon_dispatch.specs.LookTexts.{rows_text}

module _ (state others : State) (places known : PlacesView) (same : others ≡ state)
    (alike : known ≡ places) where
  abbrev next_of : ℕ → ℕ
  next_of at = at + listed_len state places.lines at

  abbrev row : ℕ → List ℕ
  row at = listed_line state places at

  first : (n at : ℕ) → rows_text (suc n) state places at
      ≡ row at ++ cond (nat_le (next_of at) 65535) (rows_text n state places (next_of at)) []
  unfolding rows_text
  first n at = refl

  -- the rows go on behind this one
  pub row_more : (left n at next : ℕ) (whole now new : List ℕ)
      → whole ≡ now ++ rows_text left state places at → left ≡ suc n
      → new ≡ now ++ listed_line others known at
      → next ≡ at + listed_len others known.lines at → next ≤ 65535
      → whole ≡ new ++ rows_text n state places next
  row_more left n at next whole now new so_far more said to within =
      let on : next ≡ next_of at = to ∙ (λ i. at + listed_len (same i) (alike i).lines at) in
      let fits : next_of at ≤ 65535 = omega (arith, on, within) in
      so_far ∙ ap (λ j. now ++ rows_text j state places at) more
      ∙ ap (λ l. now ++ l) (first n at
      ∙ ap (λ b. row at ++ cond b (rows_text n state places (next_of at)) []) (le-leb (next_of at) 65535 fits))
      ∙ sym (append_assoc now (row at) (rows_text n state places (next_of at)))
      ∙ (λ i. (sym (said ∙ (λ j. now ++ listed_line (same j) (alike j) at))) i ++ rows_text n state places (sym on i))

  -- this is the last one: the next would begin past FFFF
  pub row_last : (left n at : ℕ) (whole now new : List ℕ)
      → whole ≡ now ++ rows_text left state places at → left ≡ suc n
      → new ≡ now ++ listed_line others known at
      → 65535 < at + listed_len others known.lines at → new ≡ whole
  row_last left n at whole now new so_far more said past =
      let to : at + listed_len others known.lines at ≡ next_of at = λ i. at + listed_len (same i) (alike i).lines at in
      let beyond : 65535 < next_of at = omega (arith, to, past) in
      said ∙ (λ j. now ++ listed_line (same j) (alike j) at)
      ∙ sym (so_far ∙ ap (λ j. now ++ rows_text j state places at) more
      ∙ ap (λ l. now ++ l) (first n at
      ∙ ap (λ b. row at ++ cond b (rows_text n state places (next_of at)) []) (lt-leb (next_of at) 65535 beyond)
      ∙ append-nil (row at)))

-- all are shown
none : (state : State) (places : PlacesView) (at : ℕ) → rows_text 0 state places at ≡ []
unfolding rows_text
none state places at = refl

pub rows_over : (left at : ℕ) (state : State) (places : PlacesView) (whole now : List ℕ)
    → whole ≡ now ++ rows_text left state places at → left ≡ 0 → now ≡ whole
rows_over left at state places whole now so_far over =
    sym (so_far ∙ ap (λ j. now ++ rows_text j state places at) over
    ∙ ap (λ l. now ++ l) (none state places at) ∙ append-nil now)

pub rows_begin : (count at : ℕ) (state : State) (places : PlacesView) (now : List ℕ)
    → now ++ rows_text count state places at ≡ now ++ rows_text (count - 0) state places at
rows_begin count at state places now =
    let all : count - 0 ≡ count = omega arith in
    ap (λ j. now ++ rows_text j state places at) (sym all)
