-- The way over the items that are given before a call, and over rows.
use Rattle.std.proofs.Common.{◌≡◌, ◌∙◌, ◌++◌, ℕ, ◌+◌, ◌<◌, ◌≤◌, List, [], length, drop, get_or, Some, None, refl, sym, ap}
use Rattle.std.specs.Borrow.{Bor}
use Rattle.std.specs.List.{list_all}
use Rattle.std.specs.Prelude.{◌==◌, ◌&&◌, if◌then◌else◌, Bool, true, false, Option, Result, Ok}
use Rattle.std.proofs.lemmas.Bool.{false≢true}
use Rattle.std.proofs.lemmas.List.{drop_more}
use Rattle.model.specs.Session.{Session}
use Rattle.model.specs.declared.session_fault.SessionFault.{SessionFault}
use Rattle.source_map.specs.Lines.{PlacesView}
use Rattle.t65_reader.specs.RowText.{row_seen}
use Rattle.t65_reader.specs.declared.row.Row.{Row}
use Rattle.t65_reader.specs.declared.row.Item.{Item}
use Rattle.t65_reader.specs.declared.row.Ranges.{Ranges}
use Rattle.t65_runner.specs.Passes.{given_all, given_one, if_given, is_return, item_holds, number_of, passed, passed_after, rows_seen}
use Rattle.t65_runner.proofs.Firsts.{given_end, given_more, seen_end, seen_next}
use Rattle.t65_runner.specs.declared.range_values.Values.{Values}
use Rattle.t65_runner.specs.declared.requests.CallEnd.{CallEnd}
use Rattle.t65_failures.specs.Failures.{about_text, if_done, is_back, refusal_text, told_in, told_text, untaken_text}

module _ (about : List ℕ) (values : Values) (items : List Item) (i : ℕ) (s : Session) where
  told-next : (item : Item) → i < length items → refusal_text about values (drop i items) s
      ≡ if_done (untaken_text (get_or items i item) (number_of values s.current.bus.memory (get_or items i item).value) ++ about)
      (refusal_text about values (drop (i + 1) items)) (given_one values (get_or items i item) s)
  unfolding refusal_text
  told-next item h = rw (drop_more items i item h) refl

  -- The next item was given.
  pub one_taken : (item : Item) (next : Session) (whole : List ℕ) → i < length items
      → given_one values (get_or items i item) s ≡ Some next → refusal_text about values (drop i items) s ≡ whole
      → refusal_text about values (drop (i + 1) items) next ≡ whole
  one_taken item next whole h taken left =
      sym (told-next item h ∙ ap (if_done (untaken_text (get_or items i item) (number_of values s.current.bus.memory (get_or items i item).value)
      ++ about) (refusal_text about values (drop (i + 1) items))) taken) ∙ left

  -- The next item cannot be given.
  pub one_refused : (item : Item) (number : ℕ) (whole : List ℕ) → i < length items
      → number ≡ number_of values s.current.bus.memory (get_or items i item).value
      → given_one values (get_or items i item) s ≡ None → refusal_text about values (drop i items) s ≡ whole
      → untaken_text (get_or items i item) number ++ about ≡ whole
  one_refused item number whole h number_is refused left =
      ap (λ (n : ℕ). untaken_text (get_or items i item) n ++ about) number_is
      ∙ (sym (told-next item h ∙ ap (if_done (untaken_text (get_or items i item) (number_of values s.current.bus.memory (get_or items i item).value)
      ++ about) (refusal_text about values (drop (i + 1) items))) refused) ∙ left)

module _ (values : Values) (items : List Item) (i : ℕ) (s : Session) where
  -- The next item was given, of all.
  pub given_on : (item : Item) (next : Session) (whole : Option Session) → i < length items → given_one values (get_or items i item) s ≡ Some next
      → given_all values (drop i items) s ≡ whole → given_all values (drop (i + 1) items) next ≡ whole
  given_on item next whole h taken left = sym (given_more values items i s item h
      ∙ ap (λ (g : Option Session). if_given g (given_all values (drop (i + 1) items))) taken) ∙ left

  -- The next item cannot be given, so not all can.
  pub given_off : (item : Item) (whole : Option Session) → i < length items → given_one values (get_or items i item) s ≡ None
      → given_all values (drop i items) s ≡ whole → whole ≡ None
  given_off item whole h refused left = sym left ∙ (given_more values items i s item h
      ∙ ap (λ (g : Option Session). if_given g (given_all values (drop (i + 1) items))) refused)

  pub all_given : (whole : Option Session) → length items ≤ i → given_all values (drop i items) s ≡ whole → whole ≡ Some s
  all_given whole h left = sym left ∙ given_end values items i s h

-- ---- a call

picked : {X : Type 0} (r e l : Bool) (x y : X) → ((r && e) && l) ≡ true → (if r && e && l then x else y) ≡ x
picked true true true x y h = refl
picked true true false x y h = absurd (false≢true h)
picked true false l x y h = absurd (false≢true h)
picked false e l x y h = absurd (false≢true h)

unpicked : {X : Type 0} (r e l : Bool) (x y : X) → ((r && e) && l) ≡ false → (if r && e && l then x else y) ≡ y
unpicked true true true x y h = absurd (false≢true (sym h))
unpicked true true false x y h = refl
unpicked true false true x y h = refl
unpicked true false false x y h = refl
unpicked false e l x y h = refl

module _ (values : Values) (wanted : List Item) (s t : Session) (end : CallEnd) (ran : Result (CallEnd × Session) SessionFault) (b : Bool) where
  -- A call passes.
  pub call_passes : ran ≡ Ok (end, t) → b ≡ (is_back s.current.regs.s end.end.why t.current.regs
      && list_all (item_holds values s.current t.current) wanted) → b ≡ true
      → passed_after values wanted s ran ≡ Some t
  call_passes is told passed_all = ap (passed_after values wanted s) is
      ∙ picked (is_return end.end.why) (t.current.regs.s == s.current.regs.s) (list_all (item_holds values s.current t.current) wanted) (Some t) None
      (sym told ∙ passed_all)

  -- A call fails.
  pub call_fails : ran ≡ Ok (end, t) → b ≡ (is_back s.current.regs.s end.end.why t.current.regs
      && list_all (item_holds values s.current t.current) wanted) → b ≡ false
      → passed_after values wanted s ran ≡ None
  call_fails is told failed_one = ap (passed_after values wanted s) is
      ∙ unpicked (is_return end.end.why) (t.current.regs.s == s.current.regs.s) (list_all (item_holds values s.current t.current) wanted) (Some t)
      None (sym told ∙ failed_one)

-- ---- rows

module _ (places : PlacesView) (ranges : Ranges) (values : Values) (rows : List (Bor (ℕ × Row))) (i : ℕ) (s : Session) where
  abbrev told_here : Bor (ℕ × Row) → List ℕ
  told_here row = told_text places (about_text ranges values (row_seen row)) values (row_seen row).1.call s

  call-next : (row : Bor (ℕ × Row)) → i < length rows → row ≡ get_or rows i row → told_in places ranges values (drop i (rows_seen rows)) s
      ≡ if_done (told_here row) (told_in places ranges values (drop (i + 1) (rows_seen rows))) (passed values (row_seen row).1.call s)
  unfolding told_in
  call-next row h is = rw (seen_next rows i row h is) refl

  -- The next row passes.
  pub one_passed : (row : Bor (ℕ × Row)) (next : Session) (whole : List ℕ) → i < length rows → row ≡ get_or rows i row
      → passed values (row_seen row).1.call s ≡ Some next → told_in places ranges values (drop i (rows_seen rows)) s ≡ whole
      → told_in places ranges values (drop (i + 1) (rows_seen rows)) next ≡ whole
  one_passed row next whole h is passes left =
      sym (call-next row h is ∙ ap (if_done (told_here row) (told_in places ranges values (drop (i + 1) (rows_seen rows)))) passes) ∙ left

  -- The next row fails.
  pub one_failed : (row : Bor (ℕ × Row)) (whole : List ℕ) → i < length rows → row ≡ get_or rows i row
      → passed values (row_seen row).1.call s ≡ None → told_in places ranges values (drop i (rows_seen rows)) s ≡ whole
      → told_here row ≡ whole
  one_failed row whole h is fails left =
      sym (call-next row h is ∙ ap (if_done (told_here row) (told_in places ranges values (drop (i + 1) (rows_seen rows)))) fails) ∙ left

  pub no_row_left : (whole : List ℕ) → length rows ≤ i → told_in places ranges values (drop i (rows_seen rows)) s ≡ whole → [] ≡ whole
  unfolding told_in
  no_row_left whole h left = rw (seen_end rows i h) at left

-- What stands behind a text that has stayed.
pub appended : (t0 t1 t2 a b : List ℕ) → t1 ≡ t0 → t2 ≡ t1 ++ a → a ≡ b → t2 ≡ t0 ++ b
appended t0 t1 t2 a b same grown e = grown ∙ (ap (λ t. t ++ a) same ∙ ap (λ t. t0 ++ t) e)
