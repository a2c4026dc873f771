-- What occurs in the reduced forms of the targets, in proper subsectors, and in order.
use Rattle.std.proofs.Common.{◌≡◌, ◌≢◌, ◌⊎◌, inl, inr, ℕ, zero, suc, ◌+◌, ◌<◌, ◌≤◌, Bool, true, false, not, ◌&&◌, cond, List, [], ◌∷◌, ◌++◌, map, length, get_or, take, append-nil, append_assoc, refl, sym, ◌∙◌, ap, subst, arith}
use Rattle.std.specs.Prelude.{Contains, ◌==◌, filter}
use Rattle.std.specs.List.{dedup, flat_map}
use Rattle.std.specs.List.Sorted.{IsPermutation, IsSorted}
use Rattle.std.specs.Ordering.{eq_by_cmp}
use Rattle.std.proofs.lemmas.Bool.Decides.{Decides-eqb, not_from_Decides}
use Rattle.std.proofs.lemmas.Cmp.{eq_by_cmp_equiv}
use Rattle.std.proofs.lemmas.List.{take_more, take_all, map-append}
use Rattle.std.proofs.lemmas.List.Elements.{Contains-append_left, Contains-append_right, Contains-append_cases, filter-append}
use Rattle.std.proofs.lemmas.List.Kept.{Contains-dedup, Contains-from_dedup, IsStrictlySortedBy-dedup}
use Rattle.std.proofs.lemmas.List.Sorted.{Contains-permutation, IsPermutation-sym}
use Rattle.ibp_algebra.specs.FormalSum.{AllKeys, IsCanonical}
use Rattle.ibp_algebra.specs.Spans.{row_at}
use Rattle.ibp_algebra.proofs.Canonical.{same_canonical}
use Rattle.ibp_algebra.proofs.Combinations.{AllKeys-weaker}
use Rattle.ibp_algebra.proofs.Members.{AllKeys-counting}
use Rattle.ibp_algebra.proofs.ReducedForms.{IsReducedForm-unique}
use Rattle.ibp_algebra.proofs.Terms.{AllKeys-canonical}
use Rattle.sector_lattice.specs.Sectors.{sector_of, integral_cmp, IsProperSubsector}
use Rattle.sector_lattice.specs.Orders.{integral_cmp_total, same_integrals, integrals_decide}
use Rattle.sector_lattice.specs.Subsectors.{is_subsector}
use Rattle.sector_lattice.proofs.Listed.{subsector_decides}
use Rattle.sparse_rows.specs.Rows.{IntegralSum, SameRow, coefficient_of}
use Rattle.relation_pick.specs.Picking.{AllForms}
use Rattle.ibp_base.proofs.Members.{in_cases, in_head, in_tail, in_none, in_filter, from_filter}
use Rattle.sector_job.specs.Candidates.{Integral, target_row, OccursFor, OccursInForm, AreTails}
use Rattle.sector_job.specs.Handing.{is_proper, integrals_below}

-- ---- proper subsectors

both_true : (a b : Bool) → a && b ≡ true → (a ≡ true) × (b ≡ true)
both_true true b h = (refl, h)
both_true false b h = absurd (cc)

not_true : (b : Bool) → not b ≡ true → b ≡ false
not_true true h = absurd (cc)
not_true false h = refl

proper_yes : (inner outer : ℕ) → is_proper inner outer ≡ true → IsProperSubsector inner outer
proper_yes inner outer h =
    let both = both_true (not (inner == outer)) (is_subsector inner outer) h in
    record { within = (subsector_decides inner outer).0 both.1; other = not_from_Decides _ (Decides-eqb inner outer) (not_true _ both.0) }

yes_proper : (inner outer : ℕ) → IsProperSubsector inner outer → is_proper inner outer ≡ true
yes_proper inner outer h =
    let apart : (inner == outer) ≡ false = differ (inner == outer) (λ e. h.other ((Decides-eqb inner outer).0 e)) in
    ap (λ b. not b && is_subsector inner outer) apart ∙ (subsector_decides inner outer).1 h.within
  where
    differ : (b : Bool) → ¬ (b ≡ true) → b ≡ false
    differ true h = absurd (h refl)
    differ false h = refl

-- ---- one form

key_has : (P : Integral → Type 0) (f : IntegralSum) → AllKeys P f → (integral : Integral) → Contains (map (λ term. term.0) f) integral → P integral
key_has P [] h integral inside = absurd (in_none integral inside)
key_has P (t ∷ f) h integral inside =
    elim (in_cases t.0 (map (λ term. term.0) f) integral inside) [
      | inl same ↦ subst P same h.0
      | inr rest ↦ key_has P f h.1 integral rest
    ]

key_counts : (f : IntegralSum) → IsCanonical integral_cmp f → (integral : Integral) → Contains (map (λ term. term.0) f) integral → coefficient_of f integral ≢ 0
key_counts f canonical integral inside =
    key_has (λ k. coefficient_of f k ≢ 0) f
    (AllKeys-canonical (eq_by_cmp integral_cmp) integrals_decide integral_cmp integral_cmp_total (λ k. coefficient_of f k ≢ 0) f canonical (λ k counts. counts)) integral inside

all_keys : (f : IntegralSum) → AllKeys (Contains (map (λ term. term.0) f)) f
all_keys [] = tt
all_keys (t ∷ f) =
    let keys : List Integral = map (λ (term : Integral × ℕ). term.0) f in
    (in_head t.0 keys t.0 refl, AllKeys-weaker (Contains keys) (Contains (t.0 ∷ keys)) (λ k. in_tail t.0 keys k) f (all_keys f))

counts_key : (f : IntegralSum) (integral : Integral) → coefficient_of f integral ≢ 0 → Contains (map (λ term. term.0) f) integral
counts_key f integral counts = AllKeys-counting integral_cmp integral_cmp_total same_integrals (Contains (map (λ term. term.0) f)) f (all_keys f) integral counts

-- ---- all forms

module _ (sector : ℕ) (candidates : List IntegralSum) where
  first_occurs : (target : Integral) (targets : List Integral) (integral : Integral) → OccursFor candidates target integral → OccursInForm candidates (target ∷ targets) integral
  first_occurs target targets integral h = (0, target, omega arith, refl, h)

  later_occurs : (target : Integral) (targets : List Integral) (integral : Integral) → OccursInForm candidates targets integral → OccursInForm candidates (target ∷ targets) integral
  later_occurs target targets integral (k, found, within, is, h) = (suc k, found, omega (arith, within), is, h)

  occurs_cases : (target : Integral) (targets : List Integral) (integral : Integral) → OccursInForm candidates (target ∷ targets) integral
      → OccursFor candidates target integral ⊎ OccursInForm candidates targets integral
  occurs_cases target targets integral (zero, found, within, is, h) = inl (subst (λ (t : Integral). OccursFor candidates t integral) (sym is) h)
  occurs_cases target targets integral (suc k, found, within, is, h) = inr (k, found, omega (arith, within), is, h)

  none_occurs : (integral : Integral) → OccursInForm candidates [] integral → ⊥
  none_occurs integral (k, found, within, is, h) = omega (arith, within)

  pub handed : (targets : List Integral) (forms : List IntegralSum) → AllForms integral_cmp candidates (map target_row targets) forms
      → (integral : Integral) → Contains (flat_map (integrals_below sector) forms) integral → IsProperSubsector (sector_of integral) sector × OccursInForm candidates targets integral
  handed [] [] h integral inside = absurd (in_none integral inside)
  handed [] (f ∷ forms) h integral inside = absurd h
  handed (t ∷ targets) [] h integral inside = absurd h
  handed (t ∷ targets) (f ∷ forms) h integral inside =
      elim (Contains-append_cases (integrals_below sector f) (flat_map (integrals_below sector) forms) integral inside) [
        | inl here ↦
            let kept = from_filter (λ (i : Integral). is_proper (sector_of i) sector) (map (λ (term : Integral × ℕ). term.0) f) integral here in (
              proper_yes (sector_of integral) sector kept.1,
              first_occurs t targets integral (record { form = f; reduced = h.0.reduced; occurs = key_counts f h.0.canonical integral kept.0 }),
            )
        | inr rest ↦ let found = handed targets forms h.1 integral rest in (found.0, later_occurs t targets integral found.1)
      ]

  pub back : (targets : List Integral) (forms : List IntegralSum) → AllForms integral_cmp candidates (map target_row targets) forms
      → (integral : Integral) → IsProperSubsector (sector_of integral) sector → OccursInForm candidates targets integral → Contains (flat_map (integrals_below sector) forms) integral
  back [] [] h integral proper occurs = absurd (none_occurs integral occurs)
  back [] (f ∷ forms) h integral proper occurs = absurd h
  back (t ∷ targets) [] h integral proper occurs = absurd h
  back (t ∷ targets) (f ∷ forms) h integral proper occurs =
      elim (occurs_cases t targets integral occurs) [
        | inl here ↦
            let same : SameRow here.form f =
            IsReducedForm-unique integral_cmp integral_cmp_total same_integrals (row_at candidates) (λ k. k < length candidates) (target_row t) here.form f here.reduced h.0.reduced
            in
            let counts : coefficient_of f integral ≢ 0 = λ zero. here.occurs (same.same_at integral ∙ zero) in
            Contains-append_left (integrals_below sector f) (flat_map (integrals_below sector) forms) integral
            (in_filter (λ (i : Integral). is_proper (sector_of i) sector) (map (λ (term : Integral × ℕ). term.0) f) integral (yes_proper (sector_of integral) sector proper) (counts_key f integral counts))
        | inr rest ↦
            Contains-append_right (integrals_below sector f) (flat_map (integrals_below sector) forms) integral (back targets forms h.1 integral proper rest)
      ]

  -- what is found in the forms, sorted and without repeats, is the tails
  pub are_tails : (targets : List Integral) (forms : List IntegralSum) (found sorted tails : List Integral)
      → AllForms integral_cmp candidates (map target_row targets) forms → found ≡ flat_map (integrals_below sector) forms
      → IsPermutation found sorted → IsSorted integral_cmp sorted → tails ≡ dedup (eq_by_cmp integral_cmp) sorted → AreTails sector targets candidates tails
  are_tails targets forms found sorted tails answers is moved up kept =
      record {
        ascend = rw kept (IsStrictlySortedBy-dedup integral_cmp_total (λ x y. refl) sorted up);
        members = λ integral. (
          (λ inside.
              let in_sorted : Contains sorted integral = Contains-from_dedup (eq_by_cmp integral_cmp) sorted integral (subst (λ (xs : List Integral). Contains xs integral) kept inside) in
              let in_found : Contains found integral = Contains-permutation sorted found integral (IsPermutation-sym found sorted moved) in_sorted in
              handed targets forms answers integral (subst (λ (xs : List Integral). Contains xs integral) is in_found)),
          (λ (proper, occurs).
              let in_found : Contains found integral = subst (λ (xs : List Integral). Contains xs integral) (sym is) (back targets forms answers integral proper occurs) in
              let in_sorted : Contains sorted integral = Contains-permutation found sorted integral moved in_found in
              subst (λ (xs : List Integral). Contains xs integral) (sym kept)
              (Contains-dedup (eq_by_cmp_equiv integral_cmp_total) (λ x y e. (integrals_decide x y).0 e) sorted integral in_sorted)),
        );
      }

-- the row of a target
pub one_row : (row : IntegralSum) (target : Integral) (one : ℕ) → one ≡ 1 → IsCanonical integral_cmp row → SameRow row ((target, one) ∷ []) → row ≡ target_row target
one_row row target one is canonical same =
    same_canonical integral_cmp integral_cmp_total (eq_by_cmp integral_cmp) integrals_decide same_integrals row (target_row target) canonical (omega arith, omega arith, tt, tt)
    (subst (λ (c : ℕ). SameRow row ((target, c) ∷ [])) is same)

-- ---- one term more

module _ (sector : ℕ) where
  below_more : (f : IntegralSum) (i : ℕ) (t : Integral × ℕ) → i < length f → t ≡ get_or f i t
      → integrals_below sector (take (i + 1) f) ≡ integrals_below sector (take i f) ++ cond (is_proper (sector_of t.0) sector) (t.0 ∷ []) []
  below_more f i t within is =
      let test : Integral → Bool = λ integral. is_proper (sector_of integral) sector in
      let key : Integral × ℕ → Integral = λ term. term.0 in
      ap (integrals_below sector) (take_more f i t within ∙ ap (λ (u : Integral × ℕ). take i f ++ u ∷ []) (sym is))
      ∙ ap (filter test) (map-append key (take i f) (t ∷ [])) ∙ filter-append test (map key (take i f)) (t.0 ∷ [])

  pub below_found : (f : IntegralSum) (i : ℕ) (t : Integral × ℕ) (old items new : List Integral) → i < length f → t ≡ get_or f i t → is_proper (sector_of t.0) sector ≡ true
      → new ≡ items ++ t.0 ∷ [] → items ≡ old ++ integrals_below sector (take i f) → new ≡ old ++ integrals_below sector (take (i + 1) f)
  below_found f i t old items new within is proper pushed h =
      pushed ∙ ap (λ (xs : List Integral). xs ++ t.0 ∷ []) h ∙ append_assoc old (integrals_below sector (take i f)) (t.0 ∷ [])
      ∙ ap (λ (xs : List Integral). old ++ xs) (sym (below_more f i t within is ∙ ap (λ b. integrals_below sector (take i f) ++ cond b (t.0 ∷ []) []) proper))

  pub below_passed : (f : IntegralSum) (i : ℕ) (t : Integral × ℕ) (old items new : List Integral) → i < length f → t ≡ get_or f i t → is_proper (sector_of t.0) sector ≡ false
      → new ≡ items → items ≡ old ++ integrals_below sector (take i f) → new ≡ old ++ integrals_below sector (take (i + 1) f)
  below_passed f i t old items new within is other same h =
      same ∙ h
      ∙ ap (λ (xs : List Integral). old ++ xs)
      (sym (below_more f i t within is ∙ ap (λ b. integrals_below sector (take i f) ++ cond b (t.0 ∷ []) []) other ∙ append-nil (integrals_below sector (take i f))))

  pub below_whole : (f g : IntegralSum) (i : ℕ) (old items : List Integral) → length f ≤ i → f ≡ g → items ≡ old ++ integrals_below sector (take i f) → items ≡ old ++ integrals_below sector g
  below_whole f g i old items long same h = h ∙ ap (λ (h : IntegralSum). old ++ integrals_below sector h) (take_all i f long ∙ same)
