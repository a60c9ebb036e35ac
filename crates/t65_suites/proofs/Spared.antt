-- The way over suites, of which none is read from a report's file.
use Rattle.std.proofs.Common.{◌≡◌, ◌∙◌, ℕ, ◌+◌, ◌<◌, ◌≤◌, List, [], length, drop, get_or, map, refl, sym, ap, subst, false, Some, Option}
use Rattle.std.specs.Prelude.{Contains, option_map}
use Rattle.std.specs.Borrow.{Bor}
use Rattle.std.specs.List.{list_any}
use Rattle.std.proofs.lemmas.List.{drop_all, drop_more, get_or-map, length-map}
use Rattle.std.proofs.lemmas.List.Elements.{Contains-get_or}
use Rattle.t65_suites.specs.Prepared.{path_by}
use Rattle.t65_suites.specs.Replaced.{IsReadFor, IsReadForOne, IsSourceOf, is_read}
use Rattle.t65_suites.specs.Suites.{suite_view}
use Rattle.t65_suites.specs.declared.suites.Suite.{Suite}

module _ (report : List ℕ) (suites : List Suite) (i : ℕ) where
  -- The next suite is spared.
  pub one_spared : (d : Suite) → i < length suites → is_read report (suite_view (get_or suites i d)) ≡ false
      → list_any (is_read report) (map suite_view (drop i suites)) ≡ list_any (is_read report) (map suite_view (drop (i + 1) suites))
  one_spared d h none = rw (drop_more suites i d h, none) refl

  pub all_spared : length suites ≤ i → list_any (is_read report) (map suite_view (drop i suites)) ≡ false
  all_spared h = rw (drop_all i suites h) refl

  -- A file is read for the next suite.
  pub read_here : (d : Suite) (path : List ℕ) → i < length suites → IsReadForOne (suite_view (get_or suites i d)) path → IsReadFor (map suite_view suites) path
  read_here d path h read =
      let there = subst (λ n. i < n) (sym (length-map suites suite_view)) h in (
        suite_view (get_or suites i d),
        subst (Contains (map suite_view suites)) (get_or-map suite_view suites i d (suite_view d) h)
            (Contains-get_or (map suite_view suites) i (suite_view d) there),
        read,
      )

-- The source that the words name.
pub named_source : (suite : Suite) (source : Bor (List ℕ)) (path : List ℕ) → suite.source ≡ Some source → path ≡ source.now → IsSourceOf (suite_view suite) path
named_source suite source path is same =
    ([], same ∙ sym (ap (λ (s : Option (Bor (List ℕ))). path_by suite.rows.now (option_map (λ x. x.now) s) []) is))
