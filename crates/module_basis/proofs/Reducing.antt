-- From a basis to the reduced one: vectors are put in descending order, one whose lead is divisible by the lead of
-- another that stays is dropped, and with reduced tails the rest is the reduced basis.
use Rattle.std.proofs.Common.{◌≡◌, ◌≢◌, ℕ, suc, ◌+◌, ◌<◌, ◌≤◌, Bool, true, false, if◌then◌else◌, Some, None, ◌⊎◌, inl, inr, ⊎_elim, length, get_or, List, [], ◌∷◌, ◌++◌, sym, refl, ap, ◌∙◌, arith, length-append}
use Rattle.std.specs.List.{All, AllByRecursion, AllZip, Contains}
use Rattle.std.specs.Ordering.{is_lt}
use Rattle.std.specs.declared.cmp.Ordering.{Ordering}
use Rattle.std.specs.declared.cmp.Ordering.TheVariants.{Less, Equal, Greater}
use Rattle.std.proofs.Math.Seq.{get_or-append_seam}
use Rattle.std.proofs.lemmas.Bool.{cases_lt}
use Rattle.std.proofs.lemmas.List.{get_or_append_left}
use Rattle.std.proofs.lemmas.List.Elements.{All-contains, All-weaker, All-contains_itself, All-from_recursion, Contains-get_or, Contains-append_left, Contains-append_cases, Contains-push}
use Rattle.ibp_base.proofs.Tests.{is_false}
use Rattle.ibp_base.proofs.Members.{in_cases, in_tail}
use Rattle.ibp_algebra.proofs.Canonical.{Less-reverse, Greater-reverse}
use Rattle.ibp_algebra.proofs.StandardRepresentations.{not_less-trans}
use Rattle.mono_order.specs.Term.{Term, divides}
use Rattle.mono_order.specs.TermOrder.{IsTermOrder}
use Rattle.mono_order.proofs.Terms.{divides-refl, divides-order}
use Rattle.module_vec.specs.ModuleVector.{ModuleVector, lead, IsMonicVector, IsMember, HasDivisor}
use Rattle.module_vec.specs.Division.{first_divisor}
use Rattle.module_vec.proofs.Multiples.{IsTerm-lead}
use Rattle.module_vec.proofs.Submodules.{IsSubmodule-IsMember}
use Rattle.module_vec.proofs.DivisionLaws.{first_divisor-some, first_divisor-none}
use Rattle.module_basis.specs.GroebnerBasis.{IsGroebnerBasis, IsReducedBasis, IsLowMember, low_elements, IsTailReduced}
use Rattle.module_basis.specs.Reducing.{Descends, IsSortedLow, IsKept}
use Rattle.module_basis.proofs.ReducedBases.{IsSubmodule-IsLowMember, from_low_elements, elimination, IsGroebnerBasis-leads, reduced_from_minimal}

-- a vector put at its place in a list that descends by lead
unfoldable pub insert_descending : (Term → Term → Ordering) → ModuleVector → List ModuleVector → List ModuleVector
insert_descending order g [] = g ∷ []
insert_descending order g (h ∷ list) = if is_lt (order (lead g) (lead h)) then (h ∷ insert_descending order g list) else (g ∷ h ∷ list)

-- ---- descending order

Every-insert_if : (P : ModuleVector → Type 0) (b : Bool) (g h : ModuleVector) (list after : List ModuleVector) → P g → AllByRecursion P (h ∷ list) → AllByRecursion P after
    → AllByRecursion P (if b then (h ∷ after) else (g ∷ h ∷ list))
Every-insert_if P true g h list after p k l = (k.0, l)
Every-insert_if P false g h list after p k l = (p, k)

pub Every-insert : (P : ModuleVector → Type 0) (order : Term → Term → Ordering) (g : ModuleVector) (list : List ModuleVector) → P g → AllByRecursion P list → AllByRecursion P (insert_descending order g list)
unfolding insert_descending
Every-insert P order g [] p h = (p, tt)
Every-insert P order g (x ∷ list) p h = Every-insert_if P _ g x list (insert_descending order g list) p h (Every-insert P order g list p h.1)

-- nothing is lost
Contains-insert_if : (b : Bool) (g h : ModuleVector) (list after : List ModuleVector) (x : ModuleVector) → ((g ≡ x) ⊎ Contains list x → Contains after x) → (g ≡ x) ⊎ Contains (h ∷ list) x
    → Contains (if b then (h ∷ after) else (g ∷ h ∷ list)) x
Contains-insert_if true g h list after x later (inl e) = in_tail h after x (later (inl e))
Contains-insert_if true g h list after x later (inr c) =
    elim (in_cases h list x c) as (λ k. Contains (h ∷ after) x) [ inl e ↦ (0, omega arith, e) | inr k ↦ in_tail h after x (later (inr k)) ]
Contains-insert_if false g h list after x later (inl e) = (0, omega arith, e)
Contains-insert_if false g h list after x later (inr c) = in_tail g (h ∷ list) x c

pub Contains-insert : (order : Term → Term → Ordering) (g : ModuleVector) (list : List ModuleVector) (x : ModuleVector) → (g ≡ x) ⊎ Contains list x → Contains (insert_descending order g list) x
unfolding insert_descending
Contains-insert order g [] x (inl e) = (0, omega arith, e)
Contains-insert order g [] x (inr c) = in_tail g [] x c
Contains-insert order g (h ∷ list) x c = Contains-insert_if _ g h list (insert_descending order g list) x (Contains-insert order g list x) c

-- ---- dropping

at_old : (list : List ModuleVector) (g : ModuleVector) (i : ℕ) → i < length list → get_or (list ++ g ∷ []) i [] ≡ get_or list i []
at_old list g i below = get_or_append_left list (g ∷ []) [] i below

at_new : (list : List ModuleVector) (g : ModuleVector) (i : ℕ) → i ≡ length list → get_or (list ++ g ∷ []) i [] ≡ g
at_new list g i e = ap (λ k. get_or (list ++ g ∷ []) k []) e ∙ get_or-append_seam list g [] []

module _ {variables : ℕ} {order : Term → Term → Ordering} {high : ℕ → Bool} {height : Term → ℕ} {bound : ℕ}
    (laws : IsTermOrder variables order high height bound) where
  pub Descends-insert : (g : ModuleVector) (list : List ModuleVector) → Descends order list → Descends order (insert_descending order g list)
  unfolding insert_descending
  Descends-insert g [] h = (tt, tt)
  Descends-insert g (x ∷ list) h =
      elim (order (lead g) (lead x)) as (λ r. order (lead g) (lead x) ≡ r → Descends order (if is_lt r then (x ∷ insert_descending order g list) else (g ∷ x ∷ list))) [
        | Less ↦ λ e.
            let above = Greater-reverse order laws.total (lead g) (lead x) e in
            (Every-insert (λ y. order (lead x) (lead y) ≢ Less) order g list (λ k. let clash : Less ≡ Greater = sym k ∙ above in cc) h.0, Descends-insert g list h.1)
        | Equal ↦ λ e. (
          (
            λ k. let clash : Less ≡ Equal = sym k ∙ e in cc,
            later g x list (λ k. let clash : Less ≡ Equal = sym k ∙ e in cc) h.0,
          ),
          h,
        )
        | Greater ↦ λ e. (
          (
            λ k. let clash : Less ≡ Greater = sym k ∙ e in cc,
            later g x list (λ k. let clash : Less ≡ Greater = sym k ∙ e in cc) h.0,
          ),
          h,
        )
      ] refl
    where
      later : (g x : ModuleVector) (list : List ModuleVector) → order (lead g) (lead x) ≢ Less → AllByRecursion (λ y. order (lead x) (lead y) ≢ Less) list
          → AllByRecursion (λ y. order (lead g) (lead y) ≢ Less) list
      later g x [] p h = tt
      later g x (y ∷ list) p h = (not_less-trans order laws.total laws.unique (lead g) (lead x) (lead y) p h.0, later g x list p h.1)

  -- a vector that is dropped
  pub kept_dropped : (g : ModuleVector) (list kept : List ModuleVector) → IsKept order list kept → (h : ModuleVector) → first_divisor kept (lead g) ≡ Some h → IsKept order (g ∷ list) kept
  kept_dropped g list kept k h e =
      record {
        within = λ x c. in_tail g list x (k.within x c);
        divided = λ x c.
            elim (in_cases g list x c) as (λ o. HasDivisor kept (lead x)) [
              | inl is ↦
                  let found = first_divisor-some kept (lead g) h e in
                  (h, found.0, ap (λ (y : ModuleVector). divides (lead h) (lead y)) (sym is) ∙ found.1)
              | inr d ↦ k.divided x d
            ];
        ascends = k.ascends;
        is_minimal = k.is_minimal;
        short = omega (arith, k.short);
      }

  -- an earlier vector is below one that is put at the end
  below_new : (g : ModuleVector) (list kept : List ModuleVector) → IsKept order list kept → AllByRecursion (λ h. order (lead g) (lead h) ≢ Less) list → first_divisor kept (lead g) ≡ None
      → (x : ModuleVector) → Contains kept x → order (lead x) (lead g) ≡ Less
  below_new g list kept k down none x c =
      let not_less = All-contains (λ (h : ModuleVector). order (lead g) (lead h) ≢ Less) list x (All-from_recursion (λ (h : ModuleVector). order (lead g) (lead h) ≢ Less) list down) (k.within x c) in
      let apart = first_divisor-none kept (lead g) none x c in
      elim (order (lead g) (lead x)) as (λ r. order (lead g) (lead x) ≡ r → order (lead x) (lead g) ≡ Less) [
        | Less ↦ λ e. absurd (not_less e)
        | Equal ↦ λ e.
            let same : lead g ≡ lead x = laws.unique (lead g) (lead x) e in
            let divided : divides (lead x) (lead g) ≡ true = ap (divides (lead x)) same ∙ divides-refl (lead x) in
            let clash : true ≡ false = sym divided ∙ apart in
            cc
        | Greater ↦ λ e. Less-reverse order laws.total (lead g) (lead x) e
      ] refl

  pub kept_added : (g : ModuleVector) (list kept : List ModuleVector) → IsKept order list kept → ((x : ModuleVector) → Contains (g ∷ list) x → IsMonicVector order variables x)
      → AllByRecursion (λ h. order (lead g) (lead h) ≢ Less) list → first_divisor kept (lead g) ≡ None → IsKept order (g ∷ list) (kept ++ g ∷ [])
  kept_added g list kept k monic down none =
      let more = kept ++ g ∷ [] in
      let long : length more ≡ length kept + 1 = length-append kept (g ∷ []) in
      let lead_valid = λ (x : ModuleVector) (c : Contains (g ∷ list) x). IsTerm-lead laws x (monic x c).monic (monic x c).terms in
      let in_list = λ (x : ModuleVector) (c : Contains kept x). in_tail g list x (k.within x c) in
      let first : Contains (g ∷ list) g = (0, omega arith, refl) in
      record {
        within = λ x c.
            elim (Contains-append_cases kept (g ∷ []) x c) as (λ o. Contains (g ∷ list) x) [
              | inl d ↦ in_list x d
              | inr d ↦ elim (in_cases g [] x d) as (λ o. Contains (g ∷ list) x) [ inl is ↦ (0, omega arith, is) | inr none ↦ absurd (omega (arith, none.1)) ]
            ];
        divided = λ x c.
            elim (in_cases g list x c) as (λ o. HasDivisor more (lead x)) [
              | inl is ↦ (g, Contains-push kept g, ap (λ (y : ModuleVector). divides (lead g) (lead y)) (sym is) ∙ divides-refl (lead g))
              | inr d ↦ let old = k.divided x d in (old.0, Contains-append_left kept (g ∷ []) old.0 old.1, old.2)
            ];
        ascends = λ i below j less.
            ⊎_elim
            (λ (old : i < length kept). rw (at_old kept g i old, at_old kept g j (omega arith)) (k.ascends i old j less))
            (λ (last : length kept ≤ i).
            let is : i ≡ length kept = omega (arith, long, below) in
            rw (at_new kept g i is, at_old kept g j (omega arith)) (below_new g list kept k down none (get_or kept j []) (Contains-get_or kept j [] (omega arith))))
            (cases_lt i (length kept));
        is_minimal = λ i j first_below second_below apart.
            ⊎_elim
            (λ (old : i < length kept).
            ⊎_elim
            (λ (second_old : j < length kept). rw (at_old kept g i old, at_old kept g j second_old) (k.is_minimal i j old second_old apart))
            (λ (last : length kept ≤ j).
            let is : j ≡ length kept = omega (arith, long, second_below) in
            rw (at_old kept g i old, at_new kept g j is) (first_divisor-none kept (lead g) none (get_or kept i []) (Contains-get_or kept i [] old)))
            (cases_lt j (length kept)))
            (λ (last : length kept ≤ i).
            let is : i ≡ length kept = omega (arith, long, first_below) in
            let second_old : j < length kept = omega (arith, long, second_below, apart) in
            let x = get_or kept j [] in
            let in_kept : Contains kept x = Contains-get_or kept j [] second_old in
            rw (at_new kept g i is, at_old kept g j second_old)
            (is_false (divides (lead g) (lead x)) (λ d.
            divides-order laws (lead g) (lead x) (lead_valid g first).exponents (lead_valid x (in_list x in_kept)).exponents d (below_new g list kept k down none x in_kept))))
            (cases_lt i (length kept));
        short = omega (arith, k.short, long);
      }

  -- ---- tails

  length-insert_if : (b : Bool) (g h : ModuleVector) (list after : List ModuleVector) → length after ≡ suc (length list) → length (if b then (h ∷ after) else (g ∷ h ∷ list)) ≡ suc (suc (length list))
  length-insert_if true g h list after e = omega (arith, e)
  length-insert_if false g h list after e = refl

  pub length-insert : (g : ModuleVector) (list : List ModuleVector) → length (insert_descending order g list) ≡ suc (length list)
  unfolding insert_descending
  length-insert g [] = refl
  length-insert g (h ∷ list) = length-insert_if _ g h list (insert_descending order g list) (length-insert g list)

  -- what stays of the vectors with low leads, with reduced tails, is the reduced basis of the low members
  pub reduced_low : (elements sorted kept reduced : List ModuleVector) → All (IsMonicVector order variables) elements → IsSortedLow order high elements sorted → IsKept order sorted kept
      → AllZip (IsTailReduced order variables kept) kept reduced → (generators : List ModuleVector) → IsGroebnerBasis order (IsMember variables generators) elements
      → IsReducedBasis order variables (IsLowMember high (IsMember variables generators)) reduced
  reduced_low elements sorted kept reduced monic s k tails generators basis =
      let low = low_elements high elements in
      let low_basis = elimination laws (IsMember variables generators) elements monic basis in
      let kept_in = λ (x : ModuleVector) (c : Contains kept x). s.within x (k.within x c) in
      let kept_monic : All (IsMonicVector order variables) kept =
      All-weaker (Contains kept) (IsMonicVector order variables) (λ x c. All-contains (IsMonicVector order variables) elements x monic (from_low_elements high elements x (kept_in x c)).0) kept (All-contains_itself kept)
      in
      let members : All (IsLowMember high (IsMember variables generators)) kept =
      All-weaker (Contains kept) (IsLowMember high (IsMember variables generators)) (λ x c. All-contains (IsLowMember high (IsMember variables generators)) low x low_basis.members (kept_in x c)) kept (All-contains_itself kept)
      in
      reduced_from_minimal laws (IsLowMember high (IsMember variables generators)) (IsSubmodule-IsLowMember variables high (IsMember variables generators) (IsSubmodule-IsMember variables generators)) kept reduced kept_monic
      (IsGroebnerBasis-leads laws (IsLowMember high (IsMember variables generators)) low kept low_basis members (λ g c. k.divided g (s.all g c)))
      k.ascends k.is_minimal tails
